use Rattle.std.proofs.Common.{Err, Ok}
use Rattle.nc_machine.specs.Lasting.{lasting}
use Rattle.nc_machine.specs.Serving.{GoesOn}
use Rattle.nc_reports.proofs.Scripting.{ran, ran_to}
use Rattle.nc_reports.proofs.script_file.do_steps.Goals as goal

pub returns-in-Ok : goal.returns-in-Ok
returns-in-Ok g c =
    ran (lasting g.Q.Keeper.doubt g.Q.Keeper.moment g.Q.Keeper.leaves g.Q.Keeper.continues) c.args.steps.now c.args.machine.now
    c.run_script.new.machine (Ok c.in-Ok.run') c.requires.count c.in-Ok.ensures

pub returns-in-Err : goal.returns-in-Err
returns-in-Err g c =
    ran_to c.args.machine.now.state c.run_script.new.machine.state.faults
    (GoesOn (lasting g.Q.Keeper.doubt g.Q.Keeper.moment g.Q.Keeper.leaves g.Q.Keeper.continues) c.args.machine.now c.run_script.new.machine)
    c.args.steps.now c.in-Err.fault c.end_of.result
    (ran (lasting g.Q.Keeper.doubt g.Q.Keeper.moment g.Q.Keeper.leaves g.Q.Keeper.continues) c.args.steps.now c.args.machine.now
    c.run_script.new.machine (Err c.in-Err.fault) c.requires.count c.in-Err.ensures) c.end_of.ensures
