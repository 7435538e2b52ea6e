use Rattle.std.proofs.Common.{◌≡◌, ◌==◌, ◌||◌, ℕ, take}
use Rattle.std.specs.List.{list_any}
use Rattle.nc_filter.specs.inner.Sets.{has}
use Rattle.nc_filter.proofs.reach.with_inside.Given as goal

abbrev pub invariant-loop-number : goal.invariant-loop-number
invariant-loop-number l = (n : ℕ) → has l.out n ≡ (has l.fn.members n || list_any (λ one. one == n) (take l.number-index l.inside))
