use Rattle.std.proofs.Common.{◌≡◌, ◌<◌, ℕ, Some}
use Rattle.nc_defaults.specs.inner.Runs.{next_at}
use Rattle.nc_nacm.specs.inner.Front.{nacm_step}
use Rattle.nc_nacm.proofs.reading.stand_first.Given as goal

abbrev pub invariant-loop-at : goal.invariant-loop-at
invariant-loop-at l = (at : ℕ) → at < l.at → next_at 0 l.config at ≡ Some nacm_step
