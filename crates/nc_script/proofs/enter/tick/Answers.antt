use Rattle.nc_model.specs.declared.event.Event.TheVariants.{Reading}
use Rattle.nc_script.proofs.Made.{entered_one}
use Rattle.nc_script.proofs.enter.tick.Goals as goal

pub returns : goal.returns
returns g c =
    entered_one c.args.machine.now c.tick.new.self Reading c.args.at c.tick.result c.tick.ensures.entered
    c.tick.ensures.goes_on c.tick.ensures.sound.few
