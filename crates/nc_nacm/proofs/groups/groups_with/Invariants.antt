use Rattle.std.proofs.Common.{◌≡◌, ◌&&◌, ℕ, List, take}
use Rattle.std.specs.List.{list_any}
use Rattle.nc_names.specs.Same.{is_same_text}
use Rattle.nc_model.specs.Decision.{has_text}
use Rattle.nc_model.specs.declared.policy.Group.{Group}
use Rattle.nc_nacm.specs.inner.Own.{has}
use Rattle.nc_nacm.proofs.groups.groups_with.Given as goal

abbrev pub invariant-loop-group : goal.invariant-loop-group
invariant-loop-group l =
    (other : List ℕ) → has l.names other ≡ list_any (λ (group : Group). is_same_text group.name other && has_text group.users l.user) (take l.group-index l.groups)
