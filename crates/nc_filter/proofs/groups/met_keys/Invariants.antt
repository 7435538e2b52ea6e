use Rattle.std.proofs.Common.{◌≡◌, ◌&&◌, ℕ, take}
use Rattle.nc_filter.specs.inner.Runs.{has_keys}
use Rattle.nc_filter.specs.inner.Sets.{bit_of}
use Rattle.nc_filter.proofs.groups.met_keys.Given as goal

abbrev pub invariant-loop-key : goal.invariant-loop-key
invariant-loop-key l = (n : ℕ) → bit_of l.out n ≡ (bit_of l.from n && has_keys l.table.items (take l.key-index l.keys) n)
