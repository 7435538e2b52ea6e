use Rattle.std.proofs.Common.{◌≡◌, [], ◌∙◌, sym, subst}
use Rattle.std.specs.Prelude.{true, false}
use Rattle.nc_yang_scopes.specs.Numbers.{AreNumbers}
use Rattle.nc_yang_leafs.specs.Sources.{own_of}
use Rattle.nc_yang_leafs.proofs.default_node.of_node.Goals as goal

pub returns : goal.returns
returns c = λ are l here means.
    c.by_own.ensures are l here (λ e. let none : c.in_ok-own.own ≡ [] = sym c.as_slice.ensures ∙ e in let clash : false ≡ true = c.if-is_empty.ensures.1 none in cc)
    (subst (λ z. AreNumbers c.args.scopes.now.located z (own_of c.args.node.now.kind l)) (sym c.as_slice.ensures) (c.in_ok-own.ensures l here))
