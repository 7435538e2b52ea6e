use Rattle.std.proofs.Common.{sym, subst}
use Rattle.std.proofs.lemmas.Result.{IfOk-weaker}
use Rattle.nc_yang_leafs.specs.Bases.{basis_on}
use Rattle.nc_yang_leafs.specs.inner.Links.{AreAllLinks}
use Rattle.nc_yang_leafs.proofs.circle.first_circle.Goals as goal

pub returns : goal.returns
returns c =
    IfOk-weaker c.found.result _ _
    (λ it judges. λ on are.
    judges on are (subst (AreAllLinks (basis_on on c.args.scopes.now c.args.plan.now c.args.schema.now)) (sym c.as_slice-2.ensures) (c.in_ok-links.ensures on are))) c.found.ensures
