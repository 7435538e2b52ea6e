use Rattle.std.proofs.Common.{◌≡◌, ◌||◌, ℕ, Bool, List, length}
use Rattle.std.specs.List.{list_any}
use Rattle.nc_filter.proofs.guards.unique.Given as goal

abbrev pub invariant-keys : goal.invariant-keys
invariant-keys l = (test : List ℕ → Bool) → (list_any test l.out || list_any test l.rest) ≡ list_any test l.fn.keys

abbrev pub decreases-keys : goal.decreases-keys
decreases-keys l = length l.rest
