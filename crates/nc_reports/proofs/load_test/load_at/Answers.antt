use Rattle.std.proofs.Common.{◌∙◌}
use Rattle.nc_reports.specs.Counts.{load_line}
use Rattle.nc_words.specs.Notes.{told}
use Rattle.nc_reports.proofs.Loading.{loaded, not_loaded}
use Rattle.nc_reports.proofs.load_test.load_at.Goals as goal

pub returns-in-Ok-do_steps : goal.returns-in-Ok-do_steps
returns-in-Ok-do_steps g c = λ m n.
    loaded c.args.edits c.args.setup c.in-Ok-machine_of.machine.state c.do_steps.new.machine.state.faults
    _ c.as_slice.result.now
    c.in-Ok-do_steps.run' m n (told (g.K.Sink.taken c.args.sink.now) (g.K.Sink.faults c.args.sink.now)) (told (g.K.Sink.taken c.write_load.new.sink) (g.K.Sink.faults c.write_load.new.sink)) c.printed_by.result c.requires.setup
    c.in-Ok-machine_of.ensures.opening c.end_machine.ensures (c.as_slice.ensures ∙ c.in-Ok.ensures.steps) c.in-Ok-do_steps.ensures
    (c.printed_by.ensures (load_line c.args.edits c.in-Ok-do_steps.run') (told (g.K.Sink.taken c.args.sink.now) (g.K.Sink.faults c.args.sink.now)) (told (g.K.Sink.taken c.write_load.new.sink) (g.K.Sink.faults c.write_load.new.sink)) c.write_load.ensures)

pub returns : goal.returns
returns g c = λ m n.
    not_loaded c.args.edits c.args.setup c.in-Ok-machine_of.machine.state c.do_steps.new.machine.state.faults
    _ c.as_slice.result.now m n
    (told (g.K.Sink.taken c.args.sink.now) (g.K.Sink.faults c.args.sink.now)) c.in-Err.end c.requires.setup c.in-Ok-machine_of.ensures.opening c.end_machine-in-Err.ensures
    (c.as_slice.ensures ∙ c.in-Ok.ensures.steps) c.in-Err.ensures
