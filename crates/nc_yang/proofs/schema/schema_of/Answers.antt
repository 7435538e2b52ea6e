use Rattle.std.proofs.lemmas.Result.{err_from_is_err_and}
use Rattle.nc_yang_leafs.specs.Patterns.{refusing}
use Rattle.nc_yang_nodes.specs.FeaturesOn.{is_on}
use Rattle.nc_yang_leafs.specs.Conditions.{holds}
use Rattle.nc_yang.proofs.DataTypes.{data_types_mean}
use Rattle.nc_yang.proofs.Outcomes.{data_stops}
use Rattle.nc_yang.proofs.schema.schema_of.Goals as goal

pub returns-in_err-untyped-clause-schema : goal.returns-in_err-untyped-clause-schema
returns-in_err-untyped-clause-schema g c =
    let p = err_from_is_err_and c.from_residual.result c.from_residual.ensures.1 in
    rw (p.1, p.2) (data_stops c.args.scopes.now (is_on c.args.features.now) c.args.plan.now
    (refusing (g.M.Maker.refusals c.args.maker.now) (g.M.Maker.refusals c.args.maker.now) (g.M.Maker.last_refused c.args.maker.now)) c.in_err-untyped.field-0.0 c.in_err-untyped.ensures.fault)

pub filled-requires-clause-whole : goal.filled-requires-clause-whole
filled-requires-clause-whole g c =
    data_types_mean (holds c.args.scopes.now.texts (is_on c.args.features.now)) c.args.scopes.now (is_on c.args.features.now) c.args.plan.now c.requires.texts c.requires.types c.requires.plan
