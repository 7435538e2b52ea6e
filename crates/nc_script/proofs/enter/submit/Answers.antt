use Rattle.nc_script.proofs.Made.{entered_one, read_entered}
use Rattle.nc_script.proofs.enter.submit.Goals as goal

pub returns-in-Ok : goal.returns-in-Ok
returns-in-Ok g c =
    entered_one c.args.machine.now c.handle.new.self c.args.event c.args.at c.in-Ok.entry c.in-Ok.ensures.entered
    c.in-Ok.ensures.goes_on
    c.in-Ok.ensures.sound.few

pub returns-in-Err : goal.returns-in-Err
returns-in-Err g c =
    read_entered c.args.machine.now c.handle.new.self c.args.at c.in-Err.ensures.memory c.in-Err.ensures.goes_on
    c.in-Err.ensures.sound.few
