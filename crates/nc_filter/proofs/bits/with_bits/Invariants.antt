use Rattle.std.proofs.Common.{◌≡◌, ◌==◌, ◌||◌, ℕ, take}
use Rattle.std.specs.List.{list_any}
use Rattle.nc_filter.specs.inner.Sets.{bit_of}
use Rattle.nc_filter.proofs.bits.with_bits.Given as goal

abbrev pub invariant-loop-number : goal.invariant-loop-number
invariant-loop-number l = (n : ℕ) → bit_of l.out n ≡ (bit_of l.fn.words n || list_any (λ one. one == n) (take l.number-index l.numbers))
