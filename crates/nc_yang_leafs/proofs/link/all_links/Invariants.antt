use Rattle.nc_yang_scopes.specs.References.{AreLinksOf}
use Rattle.nc_yang_leafs.specs.inner.Links.{AreLinks, OnMeanings}
use Rattle.nc_yang_leafs.proofs.link.all_links.Given as goal

abbrev pub invariant-loop-leaf : goal.invariant-loop-leaf
invariant-loop-leaf l = OnMeanings l.site (λ b. AreLinksOf (AreLinks b) l.leaf l.links)
