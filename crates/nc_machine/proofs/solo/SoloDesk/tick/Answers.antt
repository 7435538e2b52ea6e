use Rattle.std.proofs.Common.{◌<◌, arith}
use Rattle.nc_names.specs.Limits.{most_requests}
use Rattle.nc_model.specs.declared.event.Event.TheVariants.{Reading}
use Rattle.nc_machine.proofs.Standing.{solo_entered}
use Rattle.nc_machine.proofs.solo.SoloDesk.tick.Goals as goal

pub returns-clause-entered : goal.returns-clause-entered
returns-clause-entered g c =
    let room : c.args.self.now.machine.count < most_requests = omega arith in
    λ home seen mine stood.
    solo_entered _ _ c.args.self.now.machine c.tick.new.self _ _ _ _ _ home seen mine Reading _ c.tick.result c.now-at.ensures.count
    c.now-at.ensures.told room c.tick.ensures.entered.event_is c.tick.ensures.entered.at_is c.tick.ensures.goes_on stood
