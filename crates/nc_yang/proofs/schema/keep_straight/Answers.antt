use Rattle.std.proofs.Common.{subst}
use Rattle.nc_yang_nodes.specs.FeaturesOn.{is_on}
use Rattle.nc_yang_leafs.specs.Circles.{JudgesCircles}
use Rattle.nc_yang_leafs.specs.Conditions.{holds}
use Rattle.nc_yang.specs.Schemas.{basis_of}
use Rattle.nc_yang.proofs.schema.keep_straight.Goals as goal

pub returns-in-Some : goal.returns-in-Some
returns-in-Some c =
    subst (JudgesCircles (basis_of c.args.scopes.now (is_on c.args.features.now) c.args.plan.now c.args.untyped.now)) c.in-Some.is
    (c.in_ok-found.ensures (holds c.args.scopes.now.texts (is_on c.args.features.now)) c.requires.meanings)

pub returns-in-None : goal.returns-in-None
returns-in-None c =
    subst (JudgesCircles (basis_of c.args.scopes.now (is_on c.args.features.now) c.args.plan.now c.args.untyped.now)) c.in-None.is
    (c.in_ok-found.ensures (holds c.args.scopes.now.texts (is_on c.args.features.now)) c.requires.meanings)
