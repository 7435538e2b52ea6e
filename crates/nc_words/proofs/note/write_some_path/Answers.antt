use Rattle.std.proofs.Common.{refl, ◌++◌}
use Rattle.nc_words.proofs.Noting.{wrote_front, wrote_more, wrote_same}
use Rattle.nc_words.specs.Notes as meant
use Rattle.nc_words.specs.Notes.{told}
use Rattle.nc_words.proofs.note.write_some_path.Goals as goal

pub returns-in_err-write_text : goal.returns-in_err-write_text
returns-in_err-write_text g c =
    wrote_front meant.space_word c.space_word.result.now (c.args.path.now ++ meant.line_end) (told (g.N.Sink.taken c.args.notes.now) (g.N.Sink.faults c.args.notes.now)) (told (g.N.Sink.taken c.write_text.new.sink) (g.N.Sink.faults c.write_text.new.sink)) _ _ c.from_residual.result c.space_word.ensures c.in_err-write_text.ensures c.from_residual.ensures.1

pub returns-in_err-write_text-2 : goal.returns-in_err-write_text-2
returns-in_err-write_text-2 g c =
    wrote_more meant.space_word c.space_word.result.now (c.args.path.now ++ meant.line_end) (told (g.N.Sink.taken c.args.notes.now) (g.N.Sink.faults c.args.notes.now)) (told (g.N.Sink.taken c.write_text.new.sink) (g.N.Sink.faults c.write_text.new.sink)) (told (g.N.Sink.taken c.write_text-2.new.sink) (g.N.Sink.faults c.write_text-2.new.sink)) c.in_ok-write_text.field-0 c.from_residual-in_err-write_text-2.result c.space_word.ensures c.in_ok-write_text.ensures
    (wrote_front c.args.path.now c.args.path.now meant.line_end (told (g.N.Sink.taken c.write_text.new.sink) (g.N.Sink.faults c.write_text.new.sink)) (told (g.N.Sink.taken c.write_text-2.new.sink) (g.N.Sink.faults c.write_text-2.new.sink)) _ _ c.from_residual-in_err-write_text-2.result refl c.in_err-write_text-2.ensures c.from_residual-in_err-write_text-2.ensures.1)

pub returns : goal.returns
returns g c =
    wrote_more meant.space_word c.space_word.result.now (c.args.path.now ++ meant.line_end) (told (g.N.Sink.taken c.args.notes.now) (g.N.Sink.faults c.args.notes.now)) (told (g.N.Sink.taken c.write_text.new.sink) (g.N.Sink.faults c.write_text.new.sink)) (told (g.N.Sink.taken c.write_text-3.new.sink) (g.N.Sink.faults c.write_text-3.new.sink)) c.in_ok-write_text.field-0 c.write_text-3.result c.space_word.ensures c.in_ok-write_text.ensures
    (wrote_more c.args.path.now c.args.path.now meant.line_end (told (g.N.Sink.taken c.write_text.new.sink) (g.N.Sink.faults c.write_text.new.sink)) (told (g.N.Sink.taken c.write_text-2.new.sink) (g.N.Sink.faults c.write_text-2.new.sink)) (told (g.N.Sink.taken c.write_text-3.new.sink) (g.N.Sink.faults c.write_text-3.new.sink)) c.in_ok-write_text-2.field-0 c.write_text-3.result refl c.in_ok-write_text-2.ensures
    (wrote_same meant.line_end c.line_end.result.now (told (g.N.Sink.taken c.write_text-2.new.sink) (g.N.Sink.faults c.write_text-2.new.sink)) (told (g.N.Sink.taken c.write_text-3.new.sink) (g.N.Sink.faults c.write_text-3.new.sink)) c.write_text-3.result c.line_end.ensures c.write_text-3.ensures))
