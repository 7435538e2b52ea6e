use Rattle.std.proofs.Common.{subst}
use Rattle.nc_machine.specs.Lasting.{lasting}
use Rattle.nc_machine.specs.Serving.{GoesOn}
use Rattle.nc_words.specs.Notes.{told}
use Rattle.nc_reports.specs.Scripts.{Comes, all_outputs}
use Rattle.nc_reports.proofs.Scripting.{not_read, was_read}
use Rattle.nc_reports.proofs.script_file.script.Goals as goal

pub returns-in-Ok : goal.returns-in-Ok
returns-in-Ok g c =
    was_read c.args.machine.now.state c.do_and_write.new.machine.state.faults (GoesOn (lasting g.Q.Keeper.doubt g.Q.Keeper.moment g.Q.Keeper.leaves g.Q.Keeper.continues) c.args.machine.now c.do_and_write.new.machine)
    c.args.found c.in-Ok.steps (told (g.K.Sink.taken c.args.sink.now) (g.K.Sink.faults c.args.sink.now)) (told (g.K.Sink.taken c.do_and_write.new.sink) (g.K.Sink.faults c.do_and_write.new.sink)) c.do_and_write.result c.in-Ok.ensures
    (subst (λ steps. Comes all_outputs c.args.machine.now.state c.do_and_write.new.machine.state.faults (GoesOn (lasting g.Q.Keeper.doubt g.Q.Keeper.moment g.Q.Keeper.leaves g.Q.Keeper.continues) c.args.machine.now c.do_and_write.new.machine)
    steps (told (g.K.Sink.taken c.args.sink.now) (g.K.Sink.faults c.args.sink.now)) (told (g.K.Sink.taken c.do_and_write.new.sink) (g.K.Sink.faults c.do_and_write.new.sink)) c.do_and_write.result)
    c.as_slice.ensures c.do_and_write.ensures)

pub returns-in-Err : goal.returns-in-Err
returns-in-Err g c =
    not_read (lasting g.Q.Keeper.doubt g.Q.Keeper.moment g.Q.Keeper.leaves g.Q.Keeper.continues) c.args.machine.now c.args.found (told (g.K.Sink.taken c.args.sink.now) (g.K.Sink.faults c.args.sink.now)) c.in-Err.end c.in-Err.ensures
