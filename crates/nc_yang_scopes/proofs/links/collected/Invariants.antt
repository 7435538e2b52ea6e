use Rattle.std.proofs.Common.{take}
use Rattle.nc_yang_scopes.specs.inner.Links.{Collects}
use Rattle.nc_yang_scopes.proofs.links.collected.Given as goal

abbrev pub invariant-loop-number : goal.invariant-loop-number
invariant-loop-number l = Collects l.scopes l.fn.sort l.marks (take l.number-index l.numbers) l.links
