use Rattle.std.proofs.Common.{◌++◌}
use Rattle.nc_protocol.specs.ErrorRows.{error_row}
use Rattle.nc_words.proofs.Noting.{wrote_front, wrote_more}
use Rattle.nc_words.specs.Notes as meant
use Rattle.nc_words.specs.Notes.{told}
use Rattle.nc_words.proofs.note.write_invalid.Goals as goal

pub returns-in_err-write_text : goal.returns-in_err-write_text
returns-in_err-write_text g c =
    wrote_front meant.initial_word c.initial_word.result.now ((error_row c.args.kind).tag ++ (meant.path_part c.args.path.now)) (told (g.N.Sink.taken c.args.notes.now) (g.N.Sink.faults c.args.notes.now)) (told (g.N.Sink.taken c.write_text.new.sink) (g.N.Sink.faults c.write_text.new.sink)) _ _ c.from_residual.result c.initial_word.ensures c.in_err-write_text.ensures c.from_residual.ensures.1

pub returns-in_err-write_text-2 : goal.returns-in_err-write_text-2
returns-in_err-write_text-2 g c =
    wrote_more meant.initial_word c.initial_word.result.now ((error_row c.args.kind).tag ++ (meant.path_part c.args.path.now)) (told (g.N.Sink.taken c.args.notes.now) (g.N.Sink.faults c.args.notes.now)) (told (g.N.Sink.taken c.write_text.new.sink) (g.N.Sink.faults c.write_text.new.sink)) (told (g.N.Sink.taken c.write_text-2.new.sink) (g.N.Sink.faults c.write_text-2.new.sink)) c.in_ok-write_text.field-0 c.from_residual-in_err-write_text-2.result c.initial_word.ensures c.in_ok-write_text.ensures
    (wrote_front (error_row c.args.kind).tag c.tag_of.result.now (meant.path_part c.args.path.now) (told (g.N.Sink.taken c.write_text.new.sink) (g.N.Sink.faults c.write_text.new.sink)) (told (g.N.Sink.taken c.write_text-2.new.sink) (g.N.Sink.faults c.write_text-2.new.sink)) _ _ c.from_residual-in_err-write_text-2.result c.tag_of.ensures c.in_err-write_text-2.ensures c.from_residual-in_err-write_text-2.ensures.1)

pub returns : goal.returns
returns g c =
    wrote_more meant.initial_word c.initial_word.result.now ((error_row c.args.kind).tag ++ (meant.path_part c.args.path.now)) (told (g.N.Sink.taken c.args.notes.now) (g.N.Sink.faults c.args.notes.now)) (told (g.N.Sink.taken c.write_text.new.sink) (g.N.Sink.faults c.write_text.new.sink)) (told (g.N.Sink.taken c.write_path.new.notes) (g.N.Sink.faults c.write_path.new.notes)) c.in_ok-write_text.field-0 c.write_path.result c.initial_word.ensures c.in_ok-write_text.ensures
    (wrote_more (error_row c.args.kind).tag c.tag_of.result.now (meant.path_part c.args.path.now) (told (g.N.Sink.taken c.write_text.new.sink) (g.N.Sink.faults c.write_text.new.sink)) (told (g.N.Sink.taken c.write_text-2.new.sink) (g.N.Sink.faults c.write_text-2.new.sink)) (told (g.N.Sink.taken c.write_path.new.notes) (g.N.Sink.faults c.write_path.new.notes)) c.in_ok-write_text-2.field-0 c.write_path.result c.tag_of.ensures c.in_ok-write_text-2.ensures
    c.write_path.ensures)
