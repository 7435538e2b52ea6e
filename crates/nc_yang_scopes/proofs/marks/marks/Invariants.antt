use Rattle.nc_yang_scopes.specs.inner.Links.{AreMarked}
use Rattle.nc_yang_scopes.proofs.marks.marks.Given as goal

abbrev pub invariant-loop-text : goal.invariant-loop-text
invariant-loop-text l = AreMarked l.scopes l.fn.sort l.text l.marks
