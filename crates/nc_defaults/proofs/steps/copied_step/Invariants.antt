use Rattle.std.proofs.Common.{◌≡◌, take}
use Rattle.nc_defaults.proofs.steps.copied_step.Given as goal

abbrev pub invariant-loop-key : goal.invariant-loop-key
invariant-loop-key l = l.keys.items ≡ take l.key-index l.step.keys
