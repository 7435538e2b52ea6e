use Rattle.std.proofs.Common.{List, subst}
use Rattle.std.specs.List.Sorted.{IsPermutation}
use Rattle.nc_partial.specs.declared.entry.Entry.{Entry}
use Rattle.nc_partial.proofs.IndexLemmas.{adds_from_sort}
use Rattle.nc_partial.proofs.index.sort_in.Goals as goal

pub returns-clause-added : goal.returns-clause-added
returns-clause-added c =
    adds_from_sort c.args.index.now.items c.args.more.items c.sort.new.self.items
    (subst (λ (xs : List Entry). IsPermutation xs c.sort.new.self.items) c.in_ok-append.ensures.items c.sort.ensures.permutation)
