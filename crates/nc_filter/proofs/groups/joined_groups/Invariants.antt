use Rattle.std.proofs.Common.{◌≡◌, ◌||◌, Bool, List, length}
use Rattle.std.specs.List.{list_any}
use Rattle.nc_message.specs.declared.tree.Elem.{Elem}
use Rattle.nc_filter.specs.declared.runs.Run.{Run}
use Rattle.nc_filter.specs.inner.Runs.{group_tells}
use Rattle.nc_filter.proofs.groups.joined_groups.Given as goal

abbrev pub invariant-groups : goal.invariant-groups
invariant-groups l =
    (whole : List Run) (test : Run → Elem → Bool) →
    (list_any (group_tells whole test) l.out || list_any (group_tells whole test) l.rest) ≡ list_any (group_tells whole test) l.fn.groups

abbrev pub decreases-groups : goal.decreases-groups
decreases-groups l = length l.rest
