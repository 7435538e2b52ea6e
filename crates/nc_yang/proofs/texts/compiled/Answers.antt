use Rattle.std.proofs.Common.{subst}
use Rattle.std.proofs.lemmas.Result.{err_from_is_err_and}
use Rattle.nc_yang_statements.specs.Stops.{OnBroken}
use Rattle.nc_yang_leafs.specs.Patterns.{refusing}
use Rattle.nc_yang_nodes.specs.FeaturesOn.{is_on}
use Rattle.nc_yang.specs.inner.Judged.{BreaksPatterned}
use Rattle.nc_yang.proofs.Outcomes.{gives, meaning_stops, patterned_stops, plan_stops, schema_stops, typedef_stops}
use Rattle.nc_yang.proofs.texts.compiled.Goals as goal

pub returns-in_err-meanings : goal.returns-in_err-meanings
returns-in_err-meanings g c =
    let p = err_from_is_err_and c.from_residual.result c.from_residual.ensures.1 in
    rw (p.1, p.2) (meaning_stops c.args.scopes.now (is_on c.args.features.now)
    (refusing (g.M.Maker.refusals c.args.maker.now) (g.M.Maker.refusals c.args.maker.now) (g.M.Maker.last_refused c.args.maker.now)) c.in_err-meanings.field-0.0 c.in_err-meanings.ensures.fault)

pub returns-in_err-suited : goal.returns-in_err-suited
returns-in_err-suited g c =
    let p = err_from_is_err_and c.from_residual-in_err-suited.result c.from_residual-in_err-suited.ensures.1 in
    rw (p.1, p.2) (typedef_stops c.args.scopes.now (is_on c.args.features.now)
    (refusing (g.M.Maker.refusals c.args.maker.now) (g.M.Maker.refusals c.args.maker.now) (g.M.Maker.last_refused c.args.maker.now)) c.in_ok-meanings.ensures.kept
    c.in_err-suited.field-0.0 c.in_err-suited.ensures)

pub returns-in_err-plan : goal.returns-in_err-plan
returns-in_err-plan g c =
    let p = err_from_is_err_and c.from_residual-in_err-plan.result c.from_residual-in_err-plan.ensures.1 in
    rw (p.1, p.2) (plan_stops c.args.scopes.now (is_on c.args.features.now)
    (refusing (g.M.Maker.refusals c.args.maker.now) (g.M.Maker.refusals c.args.maker.now) (g.M.Maker.last_refused c.args.maker.now)) c.in_err-plan.field-0.0 c.in_err-plan.ensures)

pub returns-in_err-schema : goal.returns-in_err-schema
returns-in_err-schema g c =
    let p = err_from_is_err_and c.from_residual-in_err-schema.result c.from_residual-in_err-schema.ensures.1 in
    rw (p.1, p.2)
    (schema_stops c.args.scopes.now (is_on c.args.features.now) c.in_ok-plan.plan c.in_ok-meanings.ensures.kept c.in_ok-suited.suited c.in_ok-suited.ensures c.in_ok-plan.ensures
    (refusing (g.M.Maker.refusals c.args.maker.now) (g.M.Maker.refusals c.schema_of.new.maker) (g.M.Maker.last_refused c.schema_of.new.maker))
    c.in_err-schema.field-0.0 c.in_err-schema.ensures.schema)

pub keep_patterns-requires-clause-readable : goal.keep_patterns-requires-clause-readable
keep_patterns-requires-clause-readable g c = c.in_ok-suited.ensures.bare.typings.readable

pub keep_patterns-requires-clause-ready : goal.keep_patterns-requires-clause-ready
keep_patterns-requires-clause-ready g c = c.in_ok-suited.ensures.ready

pub returns-in_err-keep_patterns : goal.returns-in_err-keep_patterns
returns-in_err-keep_patterns g c =
    let p = err_from_is_err_and c.from_residual-in_err-keep_patterns.result c.from_residual-in_err-keep_patterns.ensures.1 in
    rw (p.1, p.2)
    (patterned_stops c.args.scopes.now (is_on c.args.features.now) c.in_ok-plan.plan c.in_ok-meanings.ensures.kept c.in_ok-suited.suited c.in_ok-suited.ensures c.in_ok-plan.ensures
    c.in_ok-schema.schema c.in_ok-schema.ensures.schema
    (refusing (g.M.Maker.refusals c.args.maker.now) (g.M.Maker.refusals c.keep_patterns.new.maker) (g.M.Maker.last_refused c.keep_patterns.new.maker))
    c.in_err-keep_patterns.field-0.0
    (subst (λ n. OnBroken (BreaksPatterned c.args.scopes.now c.in_ok-suited.suited (refusing n (g.M.Maker.refusals c.keep_patterns.new.maker) (g.M.Maker.last_refused c.keep_patterns.new.maker))) c.in_err-keep_patterns.field-0.0)
    c.in_ok-schema.ensures.same c.in_err-keep_patterns.ensures))

pub returns : goal.returns
returns g c =
    gives c.args.scopes.now (is_on c.args.features.now) c.in_ok-plan.plan c.in_ok-meanings.ensures.kept c.in_ok-suited.suited c.in_ok-suited.ensures c.in_ok-plan.ensures
    c.in_ok-schema.schema c.in_ok-schema.ensures.schema c.in_ok-keep_patterns.ensures
