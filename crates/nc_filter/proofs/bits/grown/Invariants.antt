use Rattle.std.proofs.Common.{◌≡◌, ◌-◌, ℕ, length}
use Rattle.nc_filter.specs.inner.Sets.{bit_of}
use Rattle.nc_filter.proofs.bits.grown.Given as goal

abbrev pub invariant-zeros : goal.invariant-zeros
invariant-zeros l = (n : ℕ) → bit_of l.out n ≡ bit_of l.fn.words n

abbrev pub decreases-zeros : goal.decreases-zeros
decreases-zeros l = l.count - length l.out
