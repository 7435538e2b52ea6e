use Rattle.std.proofs.Common.{◌++◌}
use Rattle.std.specs.Fmt.{decimal}
use Rattle.nc_words.proofs.Noting.{wrote_front, wrote_more}
use Rattle.nc_words.specs.Notes as meant
use Rattle.nc_words.specs.Notes.{told}
use Rattle.nc_words.proofs.note.write_module.Goals as goal

pub returns-in_err-write_text : goal.returns-in_err-write_text
returns-in_err-write_text g c =
    wrote_front meant.modules_word c.modules_word.result.now (c.args.file.now ++ (meant.line_word ++ ((decimal c.args.line) ++ (meant.why_part c.args.why)))) (told (g.N.Sink.taken c.args.notes.now) (g.N.Sink.faults c.args.notes.now)) (told (g.N.Sink.taken c.write_text.new.sink) (g.N.Sink.faults c.write_text.new.sink)) _ _ c.from_residual.result c.modules_word.ensures c.in_err-write_text.ensures c.from_residual.ensures.1

pub returns-in_err-write_text-2 : goal.returns-in_err-write_text-2
returns-in_err-write_text-2 g c =
    wrote_more meant.modules_word c.modules_word.result.now (c.args.file.now ++ (meant.line_word ++ ((decimal c.args.line) ++ (meant.why_part c.args.why)))) (told (g.N.Sink.taken c.args.notes.now) (g.N.Sink.faults c.args.notes.now)) (told (g.N.Sink.taken c.write_text.new.sink) (g.N.Sink.faults c.write_text.new.sink)) (told (g.N.Sink.taken c.write_text-2.new.sink) (g.N.Sink.faults c.write_text-2.new.sink)) c.in_ok-write_text.field-0 c.from_residual-in_err-write_text-2.result c.modules_word.ensures c.in_ok-write_text.ensures
    (wrote_front c.args.file.now c.as_str.result.now (meant.line_word ++ ((decimal c.args.line) ++ (meant.why_part c.args.why))) (told (g.N.Sink.taken c.write_text.new.sink) (g.N.Sink.faults c.write_text.new.sink)) (told (g.N.Sink.taken c.write_text-2.new.sink) (g.N.Sink.faults c.write_text-2.new.sink)) _ _ c.from_residual-in_err-write_text-2.result c.as_str.ensures c.in_err-write_text-2.ensures c.from_residual-in_err-write_text-2.ensures.1)

pub returns-in_err-write_text-3 : goal.returns-in_err-write_text-3
returns-in_err-write_text-3 g c =
    wrote_more meant.modules_word c.modules_word.result.now (c.args.file.now ++ (meant.line_word ++ ((decimal c.args.line) ++ (meant.why_part c.args.why)))) (told (g.N.Sink.taken c.args.notes.now) (g.N.Sink.faults c.args.notes.now)) (told (g.N.Sink.taken c.write_text.new.sink) (g.N.Sink.faults c.write_text.new.sink)) (told (g.N.Sink.taken c.write_text-3.new.sink) (g.N.Sink.faults c.write_text-3.new.sink)) c.in_ok-write_text.field-0 c.from_residual-in_err-write_text-3.result c.modules_word.ensures c.in_ok-write_text.ensures
    (wrote_more c.args.file.now c.as_str.result.now (meant.line_word ++ ((decimal c.args.line) ++ (meant.why_part c.args.why))) (told (g.N.Sink.taken c.write_text.new.sink) (g.N.Sink.faults c.write_text.new.sink)) (told (g.N.Sink.taken c.write_text-2.new.sink) (g.N.Sink.faults c.write_text-2.new.sink)) (told (g.N.Sink.taken c.write_text-3.new.sink) (g.N.Sink.faults c.write_text-3.new.sink)) c.in_ok-write_text-2.field-0 c.from_residual-in_err-write_text-3.result c.as_str.ensures c.in_ok-write_text-2.ensures
    (wrote_front meant.line_word c.line_word.result.now ((decimal c.args.line) ++ (meant.why_part c.args.why)) (told (g.N.Sink.taken c.write_text-2.new.sink) (g.N.Sink.faults c.write_text-2.new.sink)) (told (g.N.Sink.taken c.write_text-3.new.sink) (g.N.Sink.faults c.write_text-3.new.sink)) _ _ c.from_residual-in_err-write_text-3.result c.line_word.ensures c.in_err-write_text-3.ensures c.from_residual-in_err-write_text-3.ensures.1))

pub returns-in_err-write_text-4 : goal.returns-in_err-write_text-4
returns-in_err-write_text-4 g c =
    wrote_more meant.modules_word c.modules_word.result.now (c.args.file.now ++ (meant.line_word ++ ((decimal c.args.line) ++ (meant.why_part c.args.why)))) (told (g.N.Sink.taken c.args.notes.now) (g.N.Sink.faults c.args.notes.now)) (told (g.N.Sink.taken c.write_text.new.sink) (g.N.Sink.faults c.write_text.new.sink)) (told (g.N.Sink.taken c.write_text-4.new.sink) (g.N.Sink.faults c.write_text-4.new.sink)) c.in_ok-write_text.field-0 c.from_residual-in_err-write_text-4.result c.modules_word.ensures c.in_ok-write_text.ensures
    (wrote_more c.args.file.now c.as_str.result.now (meant.line_word ++ ((decimal c.args.line) ++ (meant.why_part c.args.why))) (told (g.N.Sink.taken c.write_text.new.sink) (g.N.Sink.faults c.write_text.new.sink)) (told (g.N.Sink.taken c.write_text-2.new.sink) (g.N.Sink.faults c.write_text-2.new.sink)) (told (g.N.Sink.taken c.write_text-4.new.sink) (g.N.Sink.faults c.write_text-4.new.sink)) c.in_ok-write_text-2.field-0 c.from_residual-in_err-write_text-4.result c.as_str.ensures c.in_ok-write_text-2.ensures
    (wrote_more meant.line_word c.line_word.result.now ((decimal c.args.line) ++ (meant.why_part c.args.why)) (told (g.N.Sink.taken c.write_text-2.new.sink) (g.N.Sink.faults c.write_text-2.new.sink)) (told (g.N.Sink.taken c.write_text-3.new.sink) (g.N.Sink.faults c.write_text-3.new.sink)) (told (g.N.Sink.taken c.write_text-4.new.sink) (g.N.Sink.faults c.write_text-4.new.sink)) c.in_ok-write_text-3.field-0 c.from_residual-in_err-write_text-4.result c.line_word.ensures c.in_ok-write_text-3.ensures
    (wrote_front (decimal c.args.line) c.format.result.now (meant.why_part c.args.why) (told (g.N.Sink.taken c.write_text-3.new.sink) (g.N.Sink.faults c.write_text-3.new.sink)) (told (g.N.Sink.taken c.write_text-4.new.sink) (g.N.Sink.faults c.write_text-4.new.sink)) _ _ c.from_residual-in_err-write_text-4.result c.format.ensures.text c.in_err-write_text-4.ensures c.from_residual-in_err-write_text-4.ensures.1)))

pub returns : goal.returns
returns g c =
    wrote_more meant.modules_word c.modules_word.result.now (c.args.file.now ++ (meant.line_word ++ ((decimal c.args.line) ++ (meant.why_part c.args.why)))) (told (g.N.Sink.taken c.args.notes.now) (g.N.Sink.faults c.args.notes.now)) (told (g.N.Sink.taken c.write_text.new.sink) (g.N.Sink.faults c.write_text.new.sink)) (told (g.N.Sink.taken c.write_why.new.notes) (g.N.Sink.faults c.write_why.new.notes)) c.in_ok-write_text.field-0 c.write_why.result c.modules_word.ensures c.in_ok-write_text.ensures
    (wrote_more c.args.file.now c.as_str.result.now (meant.line_word ++ ((decimal c.args.line) ++ (meant.why_part c.args.why))) (told (g.N.Sink.taken c.write_text.new.sink) (g.N.Sink.faults c.write_text.new.sink)) (told (g.N.Sink.taken c.write_text-2.new.sink) (g.N.Sink.faults c.write_text-2.new.sink)) (told (g.N.Sink.taken c.write_why.new.notes) (g.N.Sink.faults c.write_why.new.notes)) c.in_ok-write_text-2.field-0 c.write_why.result c.as_str.ensures c.in_ok-write_text-2.ensures
    (wrote_more meant.line_word c.line_word.result.now ((decimal c.args.line) ++ (meant.why_part c.args.why)) (told (g.N.Sink.taken c.write_text-2.new.sink) (g.N.Sink.faults c.write_text-2.new.sink)) (told (g.N.Sink.taken c.write_text-3.new.sink) (g.N.Sink.faults c.write_text-3.new.sink)) (told (g.N.Sink.taken c.write_why.new.notes) (g.N.Sink.faults c.write_why.new.notes)) c.in_ok-write_text-3.field-0 c.write_why.result c.line_word.ensures c.in_ok-write_text-3.ensures
    (wrote_more (decimal c.args.line) c.format.result.now (meant.why_part c.args.why) (told (g.N.Sink.taken c.write_text-3.new.sink) (g.N.Sink.faults c.write_text-3.new.sink)) (told (g.N.Sink.taken c.write_text-4.new.sink) (g.N.Sink.faults c.write_text-4.new.sink)) (told (g.N.Sink.taken c.write_why.new.notes) (g.N.Sink.faults c.write_why.new.notes)) c.in_ok-write_text-4.field-0 c.write_why.result c.format.ensures.text c.in_ok-write_text-4.ensures
    c.write_why.ensures)))
