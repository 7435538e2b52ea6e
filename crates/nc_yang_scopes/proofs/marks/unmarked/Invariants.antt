use Rattle.std.proofs.Common.{◌≡◌}
use Rattle.std.specs.Prelude.{false, replicate}
use Rattle.nc_yang_scopes.proofs.marks.unmarked.Given as goal

abbrev pub invariant-loop-i : goal.invariant-loop-i
invariant-loop-i l = l.marks ≡ replicate l.i false
