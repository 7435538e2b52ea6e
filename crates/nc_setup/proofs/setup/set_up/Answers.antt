use Rattle.std.proofs.lemmas.Result.{err_from_is_err_and}
use Rattle.nc_yang_leafs.specs.Patterns.{refusing}
use Rattle.nc_setup.proofs.setup.set_up.Goals as goal

pub returns-in_err-running-clause-set_up : goal.returns-in_err-running-clause-set_up
returns-in_err-running-clause-set_up g c =
    let p = err_from_is_err_and c.from_residual-in_err-running.result c.from_residual-in_err-running.ensures.1 in
    rw (p.1, p.2)
    (c.in_err-running.ensures.read
    (refusing (g.M.Maker.refusals c.args.maker.now) (g.M.Maker.refusals c.schema_of.new.maker) (g.M.Maker.last_refused c.schema_of.new.maker))
    c.in_ok-schema.ensures.defines)
