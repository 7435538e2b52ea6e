use Rattle.std.proofs.Common.{◌≡◌, ◌||◌, Bool, length}
use Rattle.std.specs.List.{list_any}
use Rattle.nc_message.specs.declared.tree.Elem.{Elem}
use Rattle.nc_filter.specs.declared.runs.Run.{Run}
use Rattle.nc_filter.specs.inner.Runs.{AreReached, IsKeyed, class_tells, group_tells}
use Rattle.nc_filter.proofs.groups.group_each.Given as goal

abbrev pub invariant-classes : goal.invariant-classes
invariant-classes l =
    (here : Run → Bool) → AreReached l.runs here l.from → IsKeyed l.table.items l.runs → (test : Run → Elem → Bool) →
    (list_any (group_tells l.runs test) l.out || list_any (class_tells l.runs here test) l.rest)
    ≡ (list_any (group_tells l.runs test) l.fn.out || list_any (class_tells l.runs here test) l.fn.classes)

abbrev pub decreases-classes : goal.decreases-classes
decreases-classes l = length l.rest
