use Rattle.nc_yang_scopes.specs.References.{AreLinksOf}
use Rattle.nc_yang_scopes.specs.inner.Links.{AreLinks}
use Rattle.nc_yang_scopes.proofs.links.all_links.Given as goal

abbrev pub invariant-loop-number : goal.invariant-loop-number
invariant-loop-number l = AreLinksOf (AreLinks l.scopes l.fn.sort l.marks) l.number l.links
