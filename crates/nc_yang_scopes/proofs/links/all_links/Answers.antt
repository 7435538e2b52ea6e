use Rattle.std.proofs.Common.{◌≡◌, arith, length, subst, sym}
use Rattle.nc_yang_scopes.specs.References.{AreLinksOf}
use Rattle.nc_yang_scopes.specs.inner.Links.{AreLinks}
use Rattle.nc_yang_scopes.proofs.Graphs.{links_begin, links_more}
use Rattle.nc_yang_scopes.proofs.links.all_links.Goals as goal

pub loop-number-init : goal.loop-number-init
loop-number-init c =
    subst (AreLinksOf (AreLinks c.args.scopes.now c.args.sort c.args.marks.now) 0) (sym c.new-links.ensures)
    (links_begin (AreLinks c.args.scopes.now c.args.sort c.args.marks.now))

pub loop-number-preserved : goal.loop-number-preserved
loop-number-preserved c =
    links_more (AreLinks c.args.scopes.now c.args.sort c.args.marks.now) c.loop-number.number c.loop-number.links c.in_ok-own.own c.push.new.self
    c.in_ok-push.ensures.ok c.in_ok-own.ensures c.loop-number.invariant

pub returns : goal.returns
returns c =
    let all : c.loop-number.number ≡ length c.args.scopes.now.located = omega arith in
    subst (λ n. AreLinksOf (AreLinks c.args.scopes.now c.args.sort c.args.marks.now) n c.loop-number.links) all c.loop-number.invariant
