use Rattle.std.proofs.Common.{◌<◌, refl, arith}
use Rattle.nc_names.specs.Limits.{most_requests}
use Rattle.nc_model.specs.declared.event.Event.TheVariants.{Reading}
use Rattle.nc_machine.specs.Serving.{read_entry}
use Rattle.nc_machine.proofs.Standing.{made_may_come, solo_entered}
use Rattle.nc_machine.proofs.solo.SoloDesk.submit.Goals as goal

pub returns-in-Ok-clause-entered : goal.returns-in-Ok-clause-entered
returns-in-Ok-clause-entered g c =
    let room : c.args.self.now.machine.count < most_requests = omega arith in
    λ home seen mine stood.
    solo_entered _ _ c.args.self.now.machine c.handle.new.self _ _ _ _ _ home seen mine c.args.event _ c.in-Ok.entry
    c.now-at.ensures.count c.now-at.ensures.told room c.in-Ok.ensures.entered.event_is c.in-Ok.ensures.entered.at_is
    c.in-Ok.ensures.goes_on stood

pub returns-in-Ok-clause-comes : goal.returns-in-Ok-clause-comes
returns-in-Ok-clause-comes g c = made_may_come _ _ c.args.event _ c.in-Ok.entry c.in-Ok.ensures.entered

pub returns-in-Err-clause-entered : goal.returns-in-Err-clause-entered
returns-in-Err-clause-entered g c =
    let room : c.args.self.now.machine.count < most_requests = omega arith in
    λ home seen mine stood.
    let made = read_entry c.args.self.now.machine c.now-at.result in (
      made,
      solo_entered _ _ c.args.self.now.machine c.handle.new.self _ _ _ _ _ home seen mine Reading _ made
          c.now-at.ensures.count c.now-at.ensures.told room refl refl c.in-Err.ensures.goes_on stood,
    )
