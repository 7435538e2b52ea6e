use Rattle.std.proofs.Common.{◌≡◌, take}
use Rattle.std.specs.List.{flat_map}
use Rattle.nc_nacm.specs.inner.Marks.{pattern_step_marks}
use Rattle.nc_nacm.proofs.marks.pattern_marks.Given as goal

abbrev pub invariant-loop-step : goal.invariant-loop-step
invariant-loop-step l = l.marks ≡ flat_map pattern_step_marks (take l.step-index l.pattern)
