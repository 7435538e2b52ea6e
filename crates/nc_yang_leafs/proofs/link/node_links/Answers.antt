use Rattle.std.proofs.Common.{◌∙◌, sym, ap, subst}
use Rattle.std.proofs.lemmas.Result.{IfOk-weaker}
use Rattle.nc_yang_leafs.specs.inner.Links.{AreLinks, basis_of, links_of}
use Rattle.nc_yang_leafs.proofs.LinkLemmas.{links_are}
use Rattle.nc_yang_leafs.proofs.link.node_links.Goals as goal

pub returns : goal.returns
returns c =
    IfOk-weaker c.links_of.result _ _
    (λ links is. λ on are.
    subst (AreLinks (basis_of on c.args.site.now) c.args.leaf)
    (sym (is ∙ ap (links_of c.args.site.now.scopes.now c.args.site.now.schema.now c.args.leaf) c.as_slice.ensures))
    (links_are (basis_of on c.args.site.now) c.args.leaf c.in_ok-paths.paths (c.in_ok-paths.ensures on are))) c.links_of.ensures
