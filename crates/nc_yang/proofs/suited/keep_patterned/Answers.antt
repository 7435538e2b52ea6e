use Rattle.std.proofs.lemmas.Result.{err_from_is_err_and}
use Rattle.nc_yang_leafs.specs.Patterns.{refusing}
use Rattle.nc_yang.proofs.Outcomes.{ready_again}
use Rattle.nc_yang.proofs.SuitedLemmas.{patterned_last, patterned_refused}
use Rattle.nc_yang.proofs.suited.keep_patterned.Goals as goal

pub returns-in_err-schema : goal.returns-in_err-schema
returns-in_err-schema g c =
    let p = err_from_is_err_and c.from_residual-in_err-schema.result c.from_residual-in_err-schema.ensures.1 in
    rw (p.1, p.2)
    (patterned_refused c.args.scopes.now c.args.suited
    (refusing (g.M.Maker.refusals c.args.maker.now) (g.M.Maker.refusals c.with_patterns.new.maker) (g.M.Maker.last_refused c.with_patterns.new.maker))
    c.in_err-schema.field-0.0 c.in_err-schema.ensures.fault)

pub returns : goal.returns
returns g c =
    patterned_last c.args.scopes.now c.args.suited
    (refusing (g.M.Maker.refusals c.args.maker.now) (g.M.Maker.refusals c.with_patterns.new.maker) (g.M.Maker.last_refused c.with_patterns.new.maker))
    c.in_ok-schema.schema c.in_ok-schema.ensures.ok c.keep_defaults.result
    (c.keep_defaults.ensures c.requires.prefixes
    (ready_again c.args.scopes.now c.args.suited.plan c.args.suited.typed c.in_ok-schema.schema c.requires.ready c.in_ok-schema.ensures.ok))
