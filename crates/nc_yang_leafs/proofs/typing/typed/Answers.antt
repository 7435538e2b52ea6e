use Rattle.std.proofs.Common.{subst}
use Rattle.nc_yang_nodes.specs.FeaturesOn.{is_on}
use Rattle.nc_yang_leafs.specs.Bases.{basis}
use Rattle.nc_yang_leafs.specs.Conditions.{holds}
use Rattle.nc_yang_leafs.specs.inner.Assembly.{HasKinds}
use Rattle.nc_yang_leafs.proofs.AddingLemmas.{all_typings}
use Rattle.nc_yang_leafs.proofs.typing.typed.Goals as goal

pub returns : goal.returns
returns g c =
    all_typings (g.D.Derives.derived c.args.identities.now) (basis c.args.features.now c.args.scopes.now c.args.plan.now c.args.schema)
    c.in_ok-schema.field-0 c.in_ok-schema-2.schema c.in_ok-types.field-0.types c.in_ok-types.field-0.kinds c.requires.blank c.in_ok-schema.ensures
    (c.in_ok-types.ensures.ok (holds c.args.scopes.now.texts (is_on c.args.features.now)) c.requires.meanings c.requires.whole)
    (subst (λ z. HasKinds c.in_ok-schema.field-0.schema z c.in_ok-schema-2.schema) c.as_slice.ensures c.in_ok-schema-2.ensures)
