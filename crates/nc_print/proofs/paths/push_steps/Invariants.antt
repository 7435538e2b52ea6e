use Rattle.std.proofs.Common.{◌≡◌, take}
use Rattle.std.specs.Prelude.{fold}
use Rattle.nc_protocol.specs.ModuleNames as names
use Rattle.nc_print.proofs.paths.push_steps.Given as goal

-- the names of the steps so far are bound
abbrev pub invariant-loop-step : goal.invariant-loop-step
invariant-loop-step l = l.bounds ≡ fold (names.with_step_names l.schema) l.initial.bounds (take l.step-index l.steps)
