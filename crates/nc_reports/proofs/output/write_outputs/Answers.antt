use Rattle.std.proofs.Common.{◌<◌, length, arith}
use Rattle.nc_words.proofs.Noting.{wrote_nothing}
use Rattle.nc_reports.proofs.Outputting.{written_more, written_part}
use Rattle.nc_words.specs.Notes.{told}
use Rattle.nc_reports.proofs.output.write_outputs.Goals as goal

pub loop-output-init : goal.loop-output-init
loop-output-init g c = wrote_nothing (told (g.K.Sink.taken c.args.sink.now) (g.K.Sink.faults c.args.sink.now)) tt

pub returns-in_err-write_output : goal.returns-in_err-write_output
returns-in_err-write_output g c =
    let there : c.loop-output.output-index < length c.args.outputs.now = omega arith in
    written_part c.args.outputs.now c.loop-output.output-index c.output-item.result c.output-item.result (told (g.K.Sink.taken c.args.sink.now) (g.K.Sink.faults c.args.sink.now))
    (told (g.K.Sink.taken c.loop-output.sink) (g.K.Sink.faults c.loop-output.sink)) (told (g.K.Sink.taken c.write_output.new.sink) (g.K.Sink.faults c.write_output.new.sink)) _ _ c.from_residual.result there c.output-item.is
    c.loop-output.invariant c.in_err-write_output.ensures c.from_residual.ensures.1

pub loop-output-preserved : goal.loop-output-preserved
loop-output-preserved g c =
    let there : c.loop-output.output-index < length c.args.outputs.now = omega arith in
    written_more c.args.outputs.now c.loop-output.output-index c.output-item.result c.output-item.result (told (g.K.Sink.taken c.args.sink.now) (g.K.Sink.faults c.args.sink.now))
    (told (g.K.Sink.taken c.loop-output.sink) (g.K.Sink.faults c.loop-output.sink)) (told (g.K.Sink.taken c.write_output.new.sink) (g.K.Sink.faults c.write_output.new.sink)) c.in_ok-write_output.field-0 there c.output-item.is
    c.loop-output.invariant c.in_ok-write_output.ensures
