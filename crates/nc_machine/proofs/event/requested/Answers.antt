use Rattle.nc_model.specs.declared.event.Event.TheVariants.{Request as Requested}
use Rattle.nc_machine.proofs.Answering.{request_told}
use Rattle.nc_machine.proofs.Withstanding.{over_read}
use Rattle.nc_machine.proofs.event.requested.Goals as goal

pub returns-clause-entered : goal.returns-clause-entered
returns-clause-entered g c =
    request_told c.args.server.now _ c.outcome.new.server c.args.number c.args.session c.args.request c.args.at
    c.in-Ok.outcome _ _ c.requires.proper c.read_clock.ensures c.faults-faults_before.ensures
    c.faults-faults_after.ensures c.in-Ok.ensures.answers

pub returns-clause-withstands : goal.returns-clause-withstands
returns-clause-withstands g c =
    over_read _ _ _ _ (Requested c.args.session c.args.request) _ _ _ c.read_clock.ensures c.in-Ok.ensures.withstands

pub returns-in-Err-clause-withstands : goal.returns-in-Err-clause-withstands
returns-in-Err-clause-withstands g c =
    over_read _ _ _ _ (Requested c.args.session c.args.request) _ _ _ c.read_clock.ensures c.in-Err.ensures.withstands
