use Rattle.std.proofs.Common.{◌≡◌, ◌==◌, ℕ, take}
use Rattle.std.specs.List.{list_any}
use Rattle.nc_filter.specs.inner.Below.{in_number}
use Rattle.nc_filter.specs.inner.Sets.{has}
use Rattle.nc_filter.proofs.reach.inside_all.Given as goal

abbrev pub invariant-loop-parent : goal.invariant-loop-parent
invariant-loop-parent l = (n : ℕ) →
    has l.out n ≡ list_any (λ parent. list_any (λ one. one == n) (in_number l.below.items parent)) (take l.parent-index l.parents)
