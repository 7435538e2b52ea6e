-- The outputs so far were written.
use Rattle.std.proofs.Common.{take, Ok}
use Rattle.nc_words.specs.Notes.{told}
use Rattle.nc_reports.specs.Outputs.{outputs_text}
use Rattle.nc_words.specs.Writings.{Wrote}
use Rattle.nc_reports.proofs.output.write_outputs.Given as goal

abbrev pub invariant-loop-output : goal.invariant-loop-output
invariant-loop-output g l = Wrote (outputs_text (take l.output-index l.outputs))
    (told (g.K.Sink.taken l.fn.sink) (g.K.Sink.faults l.fn.sink)) (told (g.K.Sink.taken l.sink) (g.K.Sink.faults l.sink)) (Ok tt)
