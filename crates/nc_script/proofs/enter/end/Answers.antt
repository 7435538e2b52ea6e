use Rattle.nc_model.specs.declared.event.Event.TheVariants.{End}
use Rattle.nc_script.proofs.Made.{entered_one}
use Rattle.nc_script.proofs.enter.end.Goals as goal

pub returns : goal.returns
returns g c =
    entered_one c.args.machine.now c.end.new.self (End c.args.session) c.args.at c.end.result c.end.ensures.entered
    c.end.ensures.goes_on
    c.end.ensures.sound.few
