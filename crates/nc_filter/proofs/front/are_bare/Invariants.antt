use Rattle.std.proofs.Common.{◌<◌, ℕ, take}
use Rattle.nc_filter.specs.inner.Front.{IsBare}
use Rattle.nc_filter.proofs.front.are_bare.Given as goal

abbrev pub invariant-loop-at : goal.invariant-loop-at
invariant-loop-at l = (depth : ℕ) → depth < l.at → IsBare l.schema l.config (take depth l.steps)
