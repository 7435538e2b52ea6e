use Rattle.std.proofs.Common.{◌≡◌, ◌++◌, drop, []}
use Rattle.std.specs.Prelude.{None}
use Rattle.nc_payload.specs.inner.Marks.{marks_from, turn_of}
use Rattle.nc_payload.proofs.marks.marks_of.Given as goal

abbrev pub invariant-loop-step : goal.invariant-loop-step
invariant-loop-step l =
    l.marks.items ++ marks_from l.plan.schema.now (turn_of l.plan.turns) l.at l.above (drop l.step-index l.step-items) ≡ marks_from l.plan.schema.now (turn_of l.plan.turns) None [] l.steps
