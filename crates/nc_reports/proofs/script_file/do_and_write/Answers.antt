use Rattle.std.proofs.Common.{subst}
use Rattle.nc_words.specs.Notes.{told}
use Rattle.nc_words.specs.Writings.{Wrote}
use Rattle.nc_reports.specs.Outputs.{outputs_text}
use Rattle.nc_reports.proofs.script_file.do_and_write.Goals as goal

pub returns-in-Ok : goal.returns-in-Ok
returns-in-Ok g c = (
  c.in-Ok.run',
  c.in-Ok.ensures,
  c.printed_by.ensures (outputs_text c.in-Ok.run'.outputs) (told (g.K.Sink.taken c.args.sink.now) (g.K.Sink.faults c.args.sink.now)) (told (g.K.Sink.taken c.write_outputs.new.sink) (g.K.Sink.faults c.write_outputs.new.sink))
      (subst (λ outputs. Wrote (outputs_text outputs) (told (g.K.Sink.taken c.args.sink.now) (g.K.Sink.faults c.args.sink.now)) (told (g.K.Sink.taken c.write_outputs.new.sink) (g.K.Sink.faults c.write_outputs.new.sink)) c.write_outputs.result)
      c.as_slice.ensures c.write_outputs.ensures),
)
