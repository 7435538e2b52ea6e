use Rattle.std.proofs.Common.{◌<◌, arith}
use Rattle.nc_names.specs.Limits.{most_requests}
use Rattle.nc_model.specs.declared.event.Event.TheVariants.{End}
use Rattle.nc_machine.proofs.Standing.{solo_entered}
use Rattle.nc_machine.proofs.solo.SoloDesk.end.Goals as goal

pub returns-clause-entered : goal.returns-clause-entered
returns-clause-entered g c =
    let room : c.args.self.now.machine.count < most_requests = omega arith in
    λ home seen mine stood.
    solo_entered _ _ c.args.self.now.machine c.end.new.self _ _ _ _ _ home seen mine (End c.args.session) _ c.end.result
    c.now-at.ensures.count c.now-at.ensures.told room c.end.ensures.entered.event_is c.end.ensures.entered.at_is
    c.end.ensures.goes_on stood
