use Rattle.std.proofs.Common.{List, subst}
use Rattle.nc_names.specs.declared.path.Step.{Step}
use Rattle.nc_partial.specs.declared.entry.Entry.{Entry}
use Rattle.nc_partial.specs.inner.Entries.{is_above, of_others}
use Rattle.nc_partial.specs.inner.Lowest.{IsLowest}
use Rattle.nc_partial.proofs.FoundLemmas.{found_in_states}
use Rattle.nc_partial.proofs.locks.PartialLocks.covering.Goals as goal

pub returns : goal.returns
returns c =
    found_in_states c.self.inside.locks.items c.self.inside.last c.self.inside.index.items c.self.invariant c.args.other_than (is_above c.args.path.now.steps)
    c.args.self.now c.self.view_is c.lowest_above.result
    (subst (λ (xs : List Entry). IsLowest (of_others c.args.other_than (is_above c.args.path.now.steps)) xs c.lowest_above.result) c.as_slice.ensures.value
    (subst (λ (steps : List Step). IsLowest (of_others c.args.other_than (is_above steps)) c.as_slice.result.now c.lowest_above.result) c.as_slice-2.ensures
    c.lowest_above.ensures))
