use Rattle.nc_script.proofs.Made.{words_by}
use Rattle.nc_script.proofs.Talkings.{unended}
use Rattle.nc_script.proofs.talk.leave_in.Goals as goal

pub returns-in-Err : goal.returns-in-Err
returns-in-Err g c =
    unended (words_by g.K.Keeper) c.in-Live.session c.args.at _ c.args.machine.now c.end.new.machine c.in-Err.fault
    c.args.state.now c.in-Live.is
    c.in-Err.ensures
