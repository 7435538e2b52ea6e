use Rattle.std.proofs.Common.{◌≡◌, ◌∙◌, ap, sym}
use Rattle.std.specs.Prelude.{true}
use Rattle.nc_yang_scopes.specs.Loops.{naming}
use Rattle.nc_yang_scopes.specs.inner.Links.{is_of}
use Rattle.nc_yang_scopes.proofs.DefinedNames.{no_definition, one_definition}
use Rattle.nc_yang_scopes.proofs.links.link_of.Goals as goal

pub returns-in-Some-marked : goal.returns-in-Some-marked
returns-in-Some-marked c =
    let keyword : is_of c.args.scopes.now (naming c.args.sort) c.args.number ≡ true =
    ap (λ k. is_of c.args.scopes.now k c.args.number) (sym c.naming.ensures) ∙ sym c.if-not-is_of.ensures in
    one_definition c.args.scopes.now c.args.sort c.args.marks.now c.args.number c.in-Some-named.found c.in-Some-marked.target c.in-Some.statement.now
    (sym c.in-Some.ensures) keyword c.in-Some-named.ensures c.in-Some-marked.ensures
    (c.requires.marks.only c.in-Some-named.found c.in-Some-marked.ensures.1)

pub returns-then-is_out : goal.returns-then-is_out
returns-then-is_out c =
    no_definition c.args.scopes.now c.args.sort c.args.number c.in-Some-named.found c.in-Some-named.ensures (c.is_out.ensures c.if-is_out.true)
