use Rattle.std.proofs.Common.{◌≡◌, length, sym, subst, arith}
use Rattle.nc_yang_scopes.specs.References.{AreLinksOf}
use Rattle.nc_yang_scopes.proofs.Graphs.{links_begin, links_more}
use Rattle.nc_yang_leafs.specs.inner.Links.{AreLinks, basis_of}
use Rattle.nc_yang_leafs.proofs.link.all_links.Goals as goal

pub loop-leaf-init : goal.loop-leaf-init
loop-leaf-init c = λ on are.
    subst (AreLinksOf (AreLinks (basis_of on c.args.site.now)) 0) (sym c.new-links.ensures) (links_begin (AreLinks (basis_of on c.args.site.now)))

pub loop-leaf-preserved : goal.loop-leaf-preserved
loop-leaf-preserved c = λ on are.
    links_more (AreLinks (basis_of on c.args.site.now)) c.loop-leaf.leaf c.loop-leaf.links c.in_ok-node_links.field-0 c.push.new.self c.in_ok-push.ensures.ok
    (c.in_ok-node_links.ensures on are) (c.loop-leaf.invariant on are)

pub returns : goal.returns
returns c = λ on are.
    let all : c.loop-leaf.leaf ≡ length c.args.site.now.schema.now.nodes = omega arith in
    subst (λ n. AreLinksOf (AreLinks (basis_of on c.args.site.now)) n c.loop-leaf.links) all (c.loop-leaf.invariant on are)
