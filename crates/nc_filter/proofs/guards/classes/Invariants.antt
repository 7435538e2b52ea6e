use Rattle.std.proofs.Common.{◌≡◌, ◌||◌, ℕ, Bool, List, length}
use Rattle.std.specs.Prelude.{map}
use Rattle.std.specs.List.{list_any}
use Rattle.nc_message.specs.declared.tree.Elem.{Elem}
use Rattle.nc_filter.specs.inner.Runs.{class_says, elem_says}
use Rattle.nc_filter.proofs.guards.classes.Given as goal

abbrev pub invariant-classes : goal.invariant-classes
invariant-classes l =
    (has : List ℕ → Bool) (test : Elem → Bool) →
    (list_any (class_says has test) l.out || list_any (class_says has test) l.rest) ≡ list_any (elem_says l.fn.upper has test) (map (λ elem. elem.now) l.elems)

abbrev pub decreases-classes : goal.decreases-classes
decreases-classes l = length l.rest
