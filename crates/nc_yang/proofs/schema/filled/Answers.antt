use Rattle.std.proofs.Common.{subst}
use Rattle.std.proofs.lemmas.Result.{err_from_is_err_and}
use Rattle.nc_schema.specs.Tables.{Tables}
use Rattle.nc_yang_statements.specs.Stops.{OnBroken}
use Rattle.nc_yang_leafs.specs.Circles.{BreaksCircle, HasNoCircle}
use Rattle.nc_yang_leafs.specs.Faults.{BreaksLeafref}
use Rattle.nc_yang_leafs.specs.Patterns.{AreTypings, refusing}
use Rattle.nc_yang_nodes.specs.FeaturesOn.{is_on}
use Rattle.nc_yang.specs.Schemas.{AreNames, basis_of}
use Rattle.nc_yang.proofs.Outcomes.{all_mean, circle_stops, finishes, leafref_stops, no_types}
use Rattle.nc_yang.proofs.ReadyLemmas.{bare_ready}
use Rattle.nc_yang.proofs.schema.filled.Goals as goal

pub with_types-requires-clause-whole : goal.with_types-requires-clause-whole
with_types-requires-clause-whole g c =
    all_mean c.args.scopes.now (is_on c.args.features.now) c.args.plan.now c.args.untyped c.requires.untyped c.requires.whole

pub with_types-requires-clause-blank : goal.with_types-requires-clause-blank
with_types-requires-clause-blank g c =
    no_types c.args.scopes.now (is_on c.args.features.now) c.args.plan.now c.args.untyped c.requires.untyped

pub returns-in_err-keep_straight-clause-schema : goal.returns-in_err-keep_straight-clause-schema
returns-in_err-keep_straight-clause-schema g c =
    let p = err_from_is_err_and c.from_residual.result c.from_residual.ensures.1 in
    rw (p.1, p.2)
    (circle_stops c.args.scopes.now (is_on c.args.features.now) c.args.plan.now
    (refusing (g.M.Maker.refusals c.args.maker.now) (g.M.Maker.refusals c.args.maker.now) (g.M.Maker.last_refused c.args.maker.now)) c.requires.kept
    c.in_err-keep_straight.field-0.0
    (subst (λ (t : Tables). OnBroken (BreaksCircle (basis_of c.args.scopes.now (is_on c.args.features.now) c.args.plan.now t)) c.in_err-keep_straight.field-0.0)
    c.requires.untyped c.in_err-keep_straight.ensures))

pub returns-in_err-typed-clause-schema : goal.returns-in_err-typed-clause-schema
returns-in_err-typed-clause-schema g c =
    let p = err_from_is_err_and c.from_residual-in_err-typed.result c.from_residual-in_err-typed.ensures.1 in
    rw (p.1, p.2)
    (leafref_stops c.args.scopes.now (is_on c.args.features.now) c.args.plan.now
    (refusing (g.M.Maker.refusals c.args.maker.now) (g.M.Maker.refusals c.args.maker.now) (g.M.Maker.last_refused c.args.maker.now)) c.requires.kept
    c.in_err-typed.field-0.0
    (subst (λ (t : Tables). OnBroken (BreaksLeafref (basis_of c.args.scopes.now (is_on c.args.features.now) c.args.plan.now t)) c.in_err-typed.field-0.0)
    c.requires.untyped c.in_err-typed.ensures))

pub finished-requires-clause-ready : goal.finished-requires-clause-ready
finished-requires-clause-ready g c =
    bare_ready c.args.scopes.now (is_on c.args.features.now) c.args.plan.now c.requires.plan (AreNames c.args.scopes.now (is_on c.args.features.now)) c.in_ok-typed.typed
    (subst (λ (t : Tables). AreTypings (AreNames c.args.scopes.now (is_on c.args.features.now)) (basis_of c.args.scopes.now (is_on c.args.features.now) c.args.plan.now t) c.in_ok-typed.typed)
    c.requires.untyped c.in_ok-typed.ensures) c.requires.whole

pub finished-requires-clause-readable : goal.finished-requires-clause-readable
finished-requires-clause-readable g c = c.in_ok-typed.ensures.readable

pub returns-clause-schema : goal.returns-clause-schema
returns-clause-schema g c =
    finishes c.args.scopes.now (is_on c.args.features.now) c.args.plan.now c.in_ok-typed.typed
    (refusing (g.M.Maker.refusals c.args.maker.now) (g.M.Maker.refusals c.finished.new.maker) (g.M.Maker.last_refused c.finished.new.maker)) c.requires.kept
    (subst (λ (t : Tables). HasNoCircle (basis_of c.args.scopes.now (is_on c.args.features.now) c.args.plan.now t)) c.requires.untyped c.in_ok-keep_straight.ensures)
    (subst (λ (t : Tables). AreTypings (AreNames c.args.scopes.now (is_on c.args.features.now)) (basis_of c.args.scopes.now (is_on c.args.features.now) c.args.plan.now t) c.in_ok-typed.typed)
    c.requires.untyped c.in_ok-typed.ensures)
    c.finished.result c.finished.ensures.schema
