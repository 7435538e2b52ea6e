use Rattle.std.proofs.Common.{ap, sym, subst}
use Rattle.nc_model.specs.declared.event.Event.{Event}
use Rattle.nc_model.specs.State.{expired}
use Rattle.nc_model.specs.Step.{reaches_disk}
use Rattle.nc_machine.specs.Lasting.{Lasting, WithstandsEvent, lasting}
use Rattle.nc_machine.specs.Serving.{failed_of}
use Rattle.nc_machine.proofs.Withstanding.{idle_for}
use Rattle.nc_machine.proofs.event.entered.Goals as goal

pub returns-in-Start-clause-withstands : goal.returns-in-Start-clause-withstands
returns-in-Start-clause-withstands g c =
    let words : Lasting g.row.K.Denot =
    lasting g.K.Keeper.doubt g.K.Keeper.moment g.K.Keeper.leaves g.K.Keeper.continues in
    idle_for g.K.Keeper.base words
    (record { fewer = g.met.K.Keeper.fewer; on = g.met.K.Keeper.goes_on; further = g.met.K.Keeper.goes_further })
    _ _ c.args.keeper.now _ (ap (reaches_disk (expired c.args.server.now c.args.at)) c.in-Start.is)

pub returns-in-End-clause-withstands : goal.returns-in-End-clause-withstands
returns-in-End-clause-withstands g c =
    let words : Lasting g.row.K.Denot =
    lasting g.K.Keeper.doubt g.K.Keeper.moment g.K.Keeper.leaves g.K.Keeper.continues in
    idle_for g.K.Keeper.base words
    (record { fewer = g.met.K.Keeper.fewer; on = g.met.K.Keeper.goes_on; further = g.met.K.Keeper.goes_further })
    _ _ c.args.keeper.now _ (ap (reaches_disk (expired c.args.server.now c.args.at)) c.in-End.is)

pub returns-in-Reading-clause-withstands : goal.returns-in-Reading-clause-withstands
returns-in-Reading-clause-withstands g c =
    let words : Lasting g.row.K.Denot =
    lasting g.K.Keeper.doubt g.K.Keeper.moment g.K.Keeper.leaves g.K.Keeper.continues in
    idle_for g.K.Keeper.base words
    (record { fewer = g.met.K.Keeper.fewer; on = g.met.K.Keeper.goes_on; further = g.met.K.Keeper.goes_further })
    _ _ c.args.keeper.now _ (ap (reaches_disk (expired c.args.server.now c.args.at)) c.in-Reading.is)

pub returns-in-Request-clause-withstands : goal.returns-in-Request-clause-withstands
returns-in-Request-clause-withstands g c =
    let words : Lasting g.row.K.Denot =
    lasting g.K.Keeper.doubt g.K.Keeper.moment g.K.Keeper.leaves g.K.Keeper.continues in
    subst (λ (v : Event). WithstandsEvent g.K.Keeper.base words (expired c.args.server.now c.args.at) v c.args.keeper.now
    c.requested.new.keeper (failed_of c.requested.result)) (sym c.in-Request.is) c.requested.ensures.withstands
