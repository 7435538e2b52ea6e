use Rattle.std.proofs.Common.{◌≡◌}
use Rattle.std.proofs.lemmas.Result.{err_from_is_err_and}
use Rattle.nc_yang_leafs.specs.Patterns.{refusing}
use Rattle.nc_yang.proofs.Outcomes.{broken_first, deep_first, defaults_last, ready_again, refused_then, whatever}
use Rattle.nc_yang.proofs.schema.finished.Goals as goal

pub returns-in_err-keep_depth-clause-schema : goal.returns-in_err-keep_depth-clause-schema
returns-in_err-keep_depth-clause-schema g c =
    let p = err_from_is_err_and c.from_residual.result c.from_residual.ensures.1 in
    rw (p.1, p.2)
    (deep_first c.args.scopes.now c.args.plan.now c.args.typed
    (refusing (g.M.Maker.refusals c.args.maker.now) (g.M.Maker.refusals c.args.maker.now) (g.M.Maker.last_refused c.args.maker.now))
    c.in_err-keep_depth.field-0.0 c.in_err-keep_depth.ensures)

pub returns-in_err-keep_defaults-clause-schema : goal.returns-in_err-keep_defaults-clause-schema
returns-in_err-keep_defaults-clause-schema g c =
    let p = err_from_is_err_and c.from_residual-in_err-keep_defaults.result c.from_residual-in_err-keep_defaults.ensures.1 in
    rw (p.1, p.2)
    (broken_first c.args.scopes.now c.args.plan.now c.args.typed
    (refusing (g.M.Maker.refusals c.args.maker.now) (g.M.Maker.refusals c.args.maker.now) (g.M.Maker.last_refused c.args.maker.now))
    c.in_err-keep_defaults.field-0.0 (c.in_err-keep_defaults.ensures c.requires.prefixes c.requires.ready))

pub returns-in_err-schema-clause-schema : goal.returns-in_err-schema-clause-schema
returns-in_err-schema-clause-schema g c =
    let p = err_from_is_err_and c.from_residual-in_err-schema.result c.from_residual-in_err-schema.ensures.1 in
    rw (p.1, p.2)
    (refused_then c.args.scopes.now c.args.plan.now c.args.typed
    (refusing (g.M.Maker.refusals c.args.maker.now) (g.M.Maker.refusals c.with_patterns.new.maker) (g.M.Maker.last_refused c.with_patterns.new.maker))
    c.in_ok-keep_depth.ensures (c.in_ok-keep_defaults.ensures c.requires.prefixes c.requires.ready) c.in_err-schema.field-0.0 c.in_err-schema.ensures.fault)

pub returns-clause-schema : goal.returns-clause-schema
returns-clause-schema g c =
    defaults_last c.args.scopes.now c.args.plan.now c.args.typed
    (refusing (g.M.Maker.refusals c.args.maker.now) (g.M.Maker.refusals c.with_patterns.new.maker) (g.M.Maker.last_refused c.with_patterns.new.maker))
    c.in_ok-schema.schema c.in_ok-keep_depth.ensures (c.in_ok-keep_defaults.ensures c.requires.prefixes c.requires.ready) c.in_ok-schema.ensures.ok
    c.with_defaults.result
    (c.with_defaults.ensures c.requires.prefixes
    (ready_again c.args.scopes.now c.args.plan.now c.args.typed c.in_ok-schema.schema c.requires.ready c.in_ok-schema.ensures.ok))

pub returns-clause-same : goal.returns-clause-same
returns-clause-same g c = whatever (g.M.Maker.refusals c.with_patterns.new.maker ≡ g.M.Maker.refusals c.args.maker.now) c.with_defaults.result c.in_ok-schema.ensures.same
