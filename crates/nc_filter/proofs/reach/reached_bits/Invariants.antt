use Rattle.std.proofs.Common.{◌≡◌, take}
use Rattle.nc_filter.specs.inner.Runs.{IsFrom}
use Rattle.nc_filter.specs.inner.Sets.{has}
use Rattle.nc_filter.proofs.reach.reached_bits.Given as goal

abbrev pub invariant-loop-run : goal.invariant-loop-run
invariant-loop-run l = (l.number ≡ l.run-index) × IsFrom (take l.run-index l.runs) (λ run. has l.members run.parent) l.out
