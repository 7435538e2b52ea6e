use Rattle.std.proofs.Common.{◌≡◌, sym, subst}
use Rattle.std.specs.Prelude.{true}
use Rattle.std.proofs.lemmas.Result.{IfOk-weaker}
use Rattle.nc_yang_scopes.specs.inner.Links.{AreLinks, Collects, is_marked}
use Rattle.nc_yang_scopes.proofs.Linking.{links_are, no_links}
use Rattle.nc_yang_scopes.proofs.Marking.{marked_is}
use Rattle.nc_yang_scopes.proofs.links.links_in.Goals as goal

pub returns : goal.returns
returns c =
    let is : is_marked c.args.marks.now c.args.number ≡ true = sym c.if-not-is_marked.ensures in
    IfOk-weaker c.collected.result _ _
    (λ links h. links_are c.args.scopes.now c.args.sort c.args.marks.now c.requires.marks c.args.number c.in_ok-numbers.numbers links is
    (marked_is c.args.marks.now c.args.number is) c.in_ok-numbers.ensures
    (subst (λ numbers. Collects c.args.scopes.now c.args.sort c.args.marks.now numbers links) c.as_slice.ensures h)) c.collected.ensures

pub returns-then-not-is_marked : goal.returns-then-not-is_marked
returns-then-not-is_marked c =
    subst (AreLinks c.args.scopes.now c.args.sort c.args.marks.now c.args.number) (sym c.new.ensures)
    (no_links c.args.scopes.now c.args.sort c.args.marks.now c.args.number (sym c.if-not-is_marked.ensures))
