use Rattle.std.proofs.Common.{rules, List, sym, subst}
use Rattle.std.specs.List.Sorted.{IsPartitionedBy}
use Rattle.std.proofs.lemmas.List.Sorted.{IsPartitionPoint-from_clause}
use Rattle.nc_partial.specs.declared.entry.Entry.{Entry}
use Rattle.nc_partial.specs.inner.Entries.{is_at, is_before}
use Rattle.nc_partial.proofs.OrderLemmas.{front, parts}
use Rattle.nc_partial.proofs.SearchLemmas.{joined}
use Rattle.nc_partial.proofs.lowest.lowest_at.Goals as goal

pub lowest_in_front-requires : goal.lowest_in_front-requires
lowest_in_front-requires c =
    let parted = IsPartitionPoint-from_clause (is_before c.args.steps.now) c.args.index.now c.partition_point-start.result
    c.partition_point-start.ensures.partitioned (parts c.args.index.now c.requires c.args.steps.now) (λ a r f' k. (search rules, search rules)) in
    subst (λ (xs : List Entry). IsPartitionedBy (is_at c.args.below c.args.steps.now) xs) (sym c.tail.ensures)
    (front c.args.index.now c.requires c.args.steps.now c.args.below c.partition_point-start.result parted)

pub returns : goal.returns
returns c =
    let parted = IsPartitionPoint-from_clause (is_before c.args.steps.now) c.args.index.now c.partition_point-start.result
    c.partition_point-start.ensures.partitioned (parts c.args.index.now c.requires c.args.steps.now) (λ a r f' k. (search rules, search rules)) in
    joined c.args.below c.args.steps.now c.args.other_than c.args.index.now c.tail.result.now c.partition_point-start.result c.lowest_in_front.result
    c.requires parted c.tail.ensures c.lowest_in_front.ensures
