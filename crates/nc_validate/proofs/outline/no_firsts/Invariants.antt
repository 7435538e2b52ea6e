use Rattle.std.proofs.Common.{◌≡◌}
use Rattle.std.specs.Prelude.{None, replicate}
use Rattle.nc_validate.proofs.outline.no_firsts.Given as goal

abbrev pub invariant-loop-choice : goal.invariant-loop-choice
invariant-loop-choice l = l.firsts ≡ replicate l.choice None
