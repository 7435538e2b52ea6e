use Rattle.std.proofs.Common.{◌≡◌, ◌∙◌, ◌==◌, List, ℕ, subst}
use Rattle.std.specs.List.{list_any}
use Rattle.nc_filter.specs.inner.Runs.{at_number}
use Rattle.nc_filter.specs.inner.Sets.{has}
use Rattle.nc_filter.proofs.BelowLemmas.{at_list}
use Rattle.nc_filter.proofs.reach.reached.Goals as goal

pub returns-then-is_empty : goal.returns-then-is_empty
returns-then-is_empty c = λ is.
    c.in_ok-short.ensures c.args.runs.now (λ run. has c.args.members.now run.parent)
    (λ n. subst (λ (few : List ℕ). has c.in_ok-found.found n ≡ at_number c.args.runs.now (λ run. list_any (λ one. one == run.parent) few) n) c.as_slice.ensures
    (c.in_ok-found.ensures c.args.runs.now is n)
    ∙ at_list c.args.runs.now c.args.members.now n (c.is_empty.ensures.0 c.if-is_empty.true))
