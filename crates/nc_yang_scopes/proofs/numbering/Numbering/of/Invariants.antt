use Rattle.nc_yang_scopes.specs.inner.Frames.{IsPart}
use Rattle.nc_yang_scopes.proofs.numbering.Numbering.of.Given as goal

abbrev pub invariant-loop-number : goal.invariant-loop-number
invariant-loop-number l = IsPart l.texts l.numbering.frames l.numbering.firsts l.number
