use Rattle.std.proofs.Common.{take}
use Rattle.nc_yang_scopes.specs.inner.Links.{Marks}
use Rattle.nc_yang_scopes.proofs.marks.mark_all.Given as goal

abbrev pub invariant-loop-number : goal.invariant-loop-number
invariant-loop-number l = Marks l.scopes l.fn.keyword (take l.number-index l.numbers) l.fn.marks l.marks
