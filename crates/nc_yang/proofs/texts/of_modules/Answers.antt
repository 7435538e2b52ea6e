use Rattle.std.proofs.Common.{sym, subst}
use Rattle.std.proofs.lemmas.Result.{err_from_is_err_and}
use Rattle.nc_yang_leafs.specs.Patterns.{refusing}
use Rattle.nc_yang.specs.Access.{HaveStatements}
use Rattle.nc_yang.specs.Schemas.{GivesNone}
use Rattle.nc_yang.proofs.Outcomes.{file_stops, unread_stops}
use Rattle.nc_yang.proofs.texts.of_modules.Goals as goal

pub returns-in_err-roots : goal.returns-in_err-roots
returns-in_err-roots g c =
    let p = err_from_is_err_and c.from_residual.result c.from_residual.ensures.1 in
    rw (p.1, p.2) (unread_stops c.args.modules.now c.args.lines.now
    (refusing (g.M.Maker.refusals c.args.maker.now) (g.M.Maker.refusals c.args.maker.now) (g.M.Maker.last_refused c.args.maker.now)) c.in_err-roots.field-0.0 c.in_err-roots.ensures)

pub returns-in-Ok : goal.returns-in-Ok
returns-in-Ok g c = c.in-Ok.ensures c.args.modules.now (subst (HaveStatements c.args.modules.now) (sym c.as_slice.ensures) c.in_ok-roots.ensures)

pub returns : goal.returns
returns g c =
    file_stops
    (GivesNone c.args.modules.now c.args.lines.now (refusing (g.M.Maker.refusals c.args.maker.now) (g.M.Maker.refusals c.of_roots.new.maker) (g.M.Maker.last_refused c.of_roots.new.maker)))
    c.in-Err.stop c.in_file.result c.in_file.ensures
    (c.in-Err.ensures c.args.modules.now (subst (HaveStatements c.args.modules.now) (sym c.as_slice.ensures) c.in_ok-roots.ensures))
