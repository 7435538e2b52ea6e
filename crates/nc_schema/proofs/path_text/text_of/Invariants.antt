use Rattle.std.proofs.Common.{◌≡◌, ◌++◌, take}
use Rattle.std.specs.List.{flat_map}
use Rattle.nc_schema.specs.PathTexts.{step_text}
use Rattle.nc_schema.proofs.path_text.text_of.Given as goal

-- the texts of the steps so far stand there
abbrev pub invariant-loop-step : goal.invariant-loop-step
invariant-loop-step l = l.text ≡ l.fn.before ++ flat_map (step_text l.schema) (take l.step-index l.step-items)
