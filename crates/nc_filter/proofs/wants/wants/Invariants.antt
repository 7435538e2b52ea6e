use Rattle.std.proofs.Common.{◌≡◌, ◌||◌, ℕ, Bool, List, length}
use Rattle.std.specs.List.{list_any}
use Rattle.nc_message.specs.declared.tree.Elem.{Elem}
use Rattle.nc_filter.specs.inner.Labels.{group_wants, want_wants}
use Rattle.nc_filter.proofs.wants.wants.Given as goal

abbrev pub invariant-groups : goal.invariant-groups
invariant-groups l = (f : (ℕ → Bool) → List ℕ → Bool) (g : (ℕ → Bool) → List Elem → Bool) →
    (list_any (want_wants f g) l.out || list_any (group_wants f g) l.rest) ≡ list_any (group_wants f g) l.fn.groups

abbrev pub decreases-groups : goal.decreases-groups
decreases-groups l = length l.rest
