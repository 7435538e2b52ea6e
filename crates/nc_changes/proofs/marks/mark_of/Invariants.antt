use Rattle.std.proofs.Common.{◌≡◌, drop}
use Rattle.std.specs.Prelude.{fold}
use Rattle.nc_changes.specs.inner.Marks.{with_step}
use Rattle.nc_changes.proofs.marks.mark_of.Given as goal

abbrev pub invariant-loop-step : goal.invariant-loop-step
invariant-loop-step l = fold with_step l.mark (drop l.step-index l.steps) ≡ fold with_step 0 l.steps
