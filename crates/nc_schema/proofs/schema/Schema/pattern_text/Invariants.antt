-- The texts of the steps so far stand there.
use Rattle.std.proofs.Common.{◌≡◌, ◌++◌, take}
use Rattle.std.specs.List.{flat_map}
use Rattle.nc_schema.specs.Values.{pattern_step_text}
use Rattle.nc_schema.proofs.schema.Schema.pattern_text.Given as goal

abbrev pub invariant-loop-step : goal.invariant-loop-step
invariant-loop-step l = l.out ≡ l.fn.out ++ flat_map (pattern_step_text l.self) (take l.step-index l.step-items)
