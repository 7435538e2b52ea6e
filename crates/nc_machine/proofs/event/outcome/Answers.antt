use Rattle.std.proofs.Common.{◌≡◌, ◌&&◌, Bool, false, Some, refl, subst}
use Rattle.nc_model.specs.Step.{appends_record, is_done}
use Rattle.nc_model.specs.Verdict.{verdict}
use Rattle.nc_machine.specs.Lasting.{Lasting, lasting}
use Rattle.nc_machine.proofs.Withstanding.{idle}
use Rattle.nc_machine.proofs.event.outcome.Goals as goal

pub returns-clause-withstands : goal.returns-clause-withstands
returns-clause-withstands g c =
    let words : Lasting g.row.K.Denot =
    lasting g.K.Keeper.doubt g.K.Keeper.moment g.K.Keeper.leaves g.K.Keeper.continues in
    idle g.K.Keeper.base words
    (record { fewer = g.met.K.Keeper.fewer; on = g.met.K.Keeper.goes_on; further = g.met.K.Keeper.goes_further })
    _ _ c.args.keeper.now (Some false)
    (subst (λ (b : Bool). ((b && appends_record c.args.request.now.asked)
    && is_done (verdict c.args.server.now c.args.session c.args.request.now false)) ≡ false) c.if-is_live.ensures refl)
