use Rattle.std.proofs.Common.{true, Some, None, List, ap, subst}
use Rattle.nc_names.specs.declared.path.Row.{Row}
use Rattle.nc_machine.specs.Lasting.{Lasting, Withstands, lasting}
use Rattle.nc_model.specs.State.{candidate_in_force}
use Rattle.nc_model.specs.Step.{has_failed}
use Rattle.nc_machine.specs.declared.commit.Prepared.{Prepared}
use Rattle.nc_machine.proofs.Withstanding.{failed_withstands, idle, idle_wanted, kept_withstands}
use Rattle.nc_machine.proofs.commit.commit.Goals as goal

pub returns-in-Kept-clause-withstands : goal.returns-in-Kept-clause-withstands
returns-in-Kept-clause-withstands g c =
    let words : Lasting g.row.K.Denot =
    lasting g.K.Keeper.doubt g.K.Keeper.moment g.K.Keeper.leaves g.K.Keeper.continues in
    let rows = c.in_force.result.now in
    let ready = c.in-Ok.ensures in
    subst (λ (kept : List Row). Withstands g.K.Keeper.base words true kept c.args.keeper.now c.keep.new.self
    (Some (has_failed c.in_ok-prepared.prepared.done))) c.in_force.ensures
    (kept_withstands g.K.Keeper.base g.K.Keeper.failures words rows c.args.keeper.now c.keep.new.self
    (c.keep.ensures.moments rows ready) c.keep.ensures.continues c.args.server.now c.args.session c.args.request.now
    c.in_ok-prepared.prepared.done (ap (λ (it : Prepared). it.done) c.in_ok-prepared.ensures)
    (c.in-Kept.ensures.keeps rows ready))

pub returns-in-Failed-clause-withstands : goal.returns-in-Failed-clause-withstands
returns-in-Failed-clause-withstands g c =
    let words : Lasting g.row.K.Denot =
    lasting g.K.Keeper.doubt g.K.Keeper.moment g.K.Keeper.leaves g.K.Keeper.continues in
    let rows = c.in_force.result.now in
    let ready = c.in-Ok.ensures in
    subst (λ (kept : List Row). Withstands g.K.Keeper.base words true kept c.args.keeper.now c.keep.new.self
    (Some (has_failed c.in_ok-prepared.prepared.failed))) c.in_force.ensures
    (failed_withstands g.K.Keeper.base g.K.Keeper.failures words rows c.args.keeper.now c.keep.new.self
    (c.keep.ensures.moments rows ready) c.keep.ensures.continues c.args.server.now c.args.session c.args.request.now
    c.in_ok-prepared.prepared.failed _ (ap (λ (it : Prepared). it.failed) c.in_ok-prepared.ensures)
    (c.in-Failed.ensures.keeps rows ready))

pub returns-in_err-prepared-clause-withstands : goal.returns-in_err-prepared-clause-withstands
returns-in_err-prepared-clause-withstands g c =
    let words : Lasting g.row.K.Denot =
    lasting g.K.Keeper.doubt g.K.Keeper.moment g.K.Keeper.leaves g.K.Keeper.continues in
    idle_wanted g.K.Keeper.base words
    (record { fewer = g.met.K.Keeper.fewer; on = g.met.K.Keeper.goes_on; further = g.met.K.Keeper.goes_further })
    true (candidate_in_force c.args.server.now) c.args.keeper.now c.from_residual.result c.from_residual.ensures.0

pub returns-in-Err-clause-withstands : goal.returns-in-Err-clause-withstands
returns-in-Err-clause-withstands g c =
    let words : Lasting g.row.K.Denot =
    lasting g.K.Keeper.doubt g.K.Keeper.moment g.K.Keeper.leaves g.K.Keeper.continues in
    idle g.K.Keeper.base words
    (record { fewer = g.met.K.Keeper.fewer; on = g.met.K.Keeper.goes_on; further = g.met.K.Keeper.goes_further })
    true (candidate_in_force c.args.server.now) c.args.keeper.now None tt
