use Rattle.std.proofs.Common.{refl, ap, ◌++◌}
use Rattle.nc_words.proofs.Noting.{wrote_front, wrote_more, wrote_same}
use Rattle.nc_words.specs.Notes.{told}
use Rattle.nc_reports.specs.Outputs.{end_part, number_part, told_part}
use Rattle.std.proofs.Common.{length}
use Rattle.nc_reports.proofs.output.write_output.Goals as goal

pub returns-in_err-write_number : goal.returns-in_err-write_number
returns-in_err-write_number g c =
    wrote_front (number_part c.args.output.now.connection) (number_part c.args.output.now.connection) (end_part c.args.output.now.end (length c.args.output.now.bytes) ++ told_part c.args.output.now.bytes) (told (g.K.Sink.taken c.args.sink.now) (g.K.Sink.faults c.args.sink.now)) (told (g.K.Sink.taken c.write_number.new.sink) (g.K.Sink.faults c.write_number.new.sink)) _ _ c.from_residual.result refl
    c.in_err-write_number.ensures c.from_residual.ensures.1

pub returns-in_err-write_end : goal.returns-in_err-write_end
returns-in_err-write_end g c =
    wrote_more (number_part c.args.output.now.connection) (number_part c.args.output.now.connection) (end_part c.args.output.now.end (length c.args.output.now.bytes) ++ told_part c.args.output.now.bytes) (told (g.K.Sink.taken c.args.sink.now) (g.K.Sink.faults c.args.sink.now)) (told (g.K.Sink.taken c.write_number.new.sink) (g.K.Sink.faults c.write_number.new.sink)) (told (g.K.Sink.taken c.write_end.new.sink) (g.K.Sink.faults c.write_end.new.sink)) c.in_ok-write_number.field-0
    c.from_residual-in_err-write_end.result refl c.in_ok-write_number.ensures
    (wrote_front (end_part c.args.output.now.end (length c.args.output.now.bytes)) (end_part c.args.output.now.end c.len.result) (told_part c.args.output.now.bytes) (told (g.K.Sink.taken c.write_number.new.sink) (g.K.Sink.faults c.write_number.new.sink)) (told (g.K.Sink.taken c.write_end.new.sink) (g.K.Sink.faults c.write_end.new.sink)) _ _ c.from_residual-in_err-write_end.result (ap (λ n. end_part c.args.output.now.end n) c.len.ensures)
    c.in_err-write_end.ensures c.from_residual-in_err-write_end.ensures.1)

pub returns : goal.returns
returns g c =
    wrote_more (number_part c.args.output.now.connection) (number_part c.args.output.now.connection) (end_part c.args.output.now.end (length c.args.output.now.bytes) ++ told_part c.args.output.now.bytes) (told (g.K.Sink.taken c.args.sink.now) (g.K.Sink.faults c.args.sink.now)) (told (g.K.Sink.taken c.write_number.new.sink) (g.K.Sink.faults c.write_number.new.sink)) (told (g.K.Sink.taken c.write_told.new.sink) (g.K.Sink.faults c.write_told.new.sink)) c.in_ok-write_number.field-0
    c.write_told.result refl c.in_ok-write_number.ensures
    (wrote_more (end_part c.args.output.now.end (length c.args.output.now.bytes)) (end_part c.args.output.now.end c.len.result) (told_part c.args.output.now.bytes) (told (g.K.Sink.taken c.write_number.new.sink) (g.K.Sink.faults c.write_number.new.sink)) (told (g.K.Sink.taken c.write_end.new.sink) (g.K.Sink.faults c.write_end.new.sink)) (told (g.K.Sink.taken c.write_told.new.sink) (g.K.Sink.faults c.write_told.new.sink)) c.in_ok-write_end.field-0 c.write_told.result (ap (λ n. end_part c.args.output.now.end n) c.len.ensures)
    c.in_ok-write_end.ensures
    (wrote_same (told_part c.args.output.now.bytes) (told_part c.as_slice.result.now) (told (g.K.Sink.taken c.write_end.new.sink) (g.K.Sink.faults c.write_end.new.sink)) (told (g.K.Sink.taken c.write_told.new.sink) (g.K.Sink.faults c.write_told.new.sink)) c.write_told.result (ap told_part c.as_slice.ensures) c.write_told.ensures))
