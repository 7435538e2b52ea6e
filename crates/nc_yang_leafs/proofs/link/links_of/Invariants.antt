use Rattle.std.proofs.Common.{◌≡◌, take}
use Rattle.nc_yang_leafs.specs.inner.Links.{links_of}
use Rattle.nc_yang_leafs.proofs.link.links_of.Given as goal

abbrev pub invariant-loop-path : goal.invariant-loop-path
invariant-loop-path l = l.links ≡ links_of l.site.scopes.now l.site.schema.now l.leaf (take l.path-index l.paths)
