use Rattle.std.proofs.Common.{refl}
use Rattle.std.specs.Fmt.{decimal}
use Rattle.nc_words.proofs.Noting.{wrote_front, wrote_more, wrote_same}
use Rattle.nc_words.specs.Notes.{told}
use Rattle.nc_reports.proofs.count.write_count.Goals as goal

pub returns-in_err-write_text : goal.returns-in_err-write_text
returns-in_err-write_text g c =
    wrote_front c.args.word.now c.args.word.now (decimal c.args.number) (told (g.K.Sink.taken c.args.sink.now) (g.K.Sink.faults c.args.sink.now)) (told (g.K.Sink.taken c.write_text.new.sink) (g.K.Sink.faults c.write_text.new.sink)) _ _ c.from_residual.result refl c.in_err-write_text.ensures c.from_residual.ensures.1

pub returns : goal.returns
returns g c =
    wrote_more c.args.word.now c.args.word.now (decimal c.args.number) (told (g.K.Sink.taken c.args.sink.now) (g.K.Sink.faults c.args.sink.now)) (told (g.K.Sink.taken c.write_text.new.sink) (g.K.Sink.faults c.write_text.new.sink)) (told (g.K.Sink.taken c.write_text-2.new.sink) (g.K.Sink.faults c.write_text-2.new.sink)) c.in_ok-write_text.field-0 c.write_text-2.result refl c.in_ok-write_text.ensures
    (wrote_same (decimal c.args.number) c.format.result.now (told (g.K.Sink.taken c.write_text.new.sink) (g.K.Sink.faults c.write_text.new.sink)) (told (g.K.Sink.taken c.write_text-2.new.sink) (g.K.Sink.faults c.write_text-2.new.sink)) c.write_text-2.result c.format.ensures.text c.write_text-2.ensures)
