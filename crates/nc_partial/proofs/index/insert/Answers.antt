use Rattle.std.proofs.Common.{rules, true, false, sym, subst, ◌≡◌, List, [], ◌∷◌}
use Rattle.std.specs.List.{insert}
use Rattle.std.specs.List.Sorted.{IsPartitionPoint}
use Rattle.std.proofs.lemmas.List.Sorted.{IsPartitionPoint-from_clause}
use Rattle.nc_partial.specs.declared.entry.Entry.{Entry}
use Rattle.nc_partial.specs.inner.Entries.{Adds, IsAscending, is_before}
use Rattle.nc_partial.proofs.IndexLemmas.{adds_one, inserted_ascending}
use Rattle.nc_partial.proofs.OrderLemmas.{parts}
use Rattle.nc_partial.proofs.index.insert.Goals as goal

placed : (c : goal.Else-is_err) → c.insert.new.self.items ≡ insert c.args.index.now.items c.partition_point-at.result c.args.entry
placed c = search rules

seen : (c : goal.Else-is_err) → c.deref.result.now ≡ c.args.index.now.items
seen c = search rules

pub returns-clause-order : goal.returns-clause-order
returns-clause-order c =
    let ascending = subst (λ (xs : List Entry). IsAscending xs) (sym (seen c)) c.requires.order in
    let parted = IsPartitionPoint-from_clause (is_before c.args.entry.steps) c.deref.result.now c.partition_point-at.result
    c.partition_point-at.ensures.partitioned (parts c.deref.result.now ascending c.args.entry.steps) (λ a r f' k. (search rules, search rules)) in
    subst (λ (xs : List Entry). IsAscending xs) (sym (placed c))
    (inserted_ascending c.args.index.now.items c.requires.order c.args.entry c.partition_point-at.result (search rules)
    (subst (λ (xs : List Entry). IsPartitionPoint (λ e. is_before c.args.entry.steps e ≡ true) (λ e. is_before c.args.entry.steps e ≡ false) xs c.partition_point-at.result) (seen c) parted))

pub returns-clause-added : goal.returns-clause-added
returns-clause-added c =
    subst (λ (xs : List Entry). Adds (c.args.entry ∷ []) c.args.index.now.items xs) (sym (placed c)) (adds_one c.args.index.now.items c.partition_point-at.result c.args.entry)
