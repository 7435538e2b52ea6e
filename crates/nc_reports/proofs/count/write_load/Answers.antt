use Rattle.std.proofs.Common.{ap, ◌++◌}
use Rattle.nc_words.proofs.Noting.{wrote_front, wrote_more, wrote_same}
use Rattle.nc_reports.specs.Counts as meant
use Rattle.nc_words.specs.Notes.{line_end, told}
use Rattle.nc_reports.proofs.count.write_load.Goals as goal

pub returns-in_err-write_count : goal.returns-in_err-write_count
returns-in_err-write_count g c =
    wrote_front (meant.count_part meant.load_word c.args.edits) (meant.count_part c.load_word.result.now c.args.edits) ((meant.count_part meant.entries_word c.args.run.now.entries) ++ ((meant.count_part meant.ok_word c.args.run.now.ok) ++ ((meant.count_part meant.errors_word c.args.run.now.errors) ++ ((meant.count_part meant.rows_word c.args.run.now.rows) ++ line_end)))) (told (g.K.Sink.taken c.args.sink.now) (g.K.Sink.faults c.args.sink.now)) (told (g.K.Sink.taken c.write_count.new.sink) (g.K.Sink.faults c.write_count.new.sink)) _ _ c.from_residual.result (ap (λ w. meant.count_part w c.args.edits) c.load_word.ensures) c.in_err-write_count.ensures c.from_residual.ensures.1

pub returns-in_err-write_count-2 : goal.returns-in_err-write_count-2
returns-in_err-write_count-2 g c =
    wrote_more (meant.count_part meant.load_word c.args.edits) (meant.count_part c.load_word.result.now c.args.edits) ((meant.count_part meant.entries_word c.args.run.now.entries) ++ ((meant.count_part meant.ok_word c.args.run.now.ok) ++ ((meant.count_part meant.errors_word c.args.run.now.errors) ++ ((meant.count_part meant.rows_word c.args.run.now.rows) ++ line_end)))) (told (g.K.Sink.taken c.args.sink.now) (g.K.Sink.faults c.args.sink.now)) (told (g.K.Sink.taken c.write_count.new.sink) (g.K.Sink.faults c.write_count.new.sink)) (told (g.K.Sink.taken c.write_count-2.new.sink) (g.K.Sink.faults c.write_count-2.new.sink)) c.in_ok-write_count.field-0 c.from_residual-in_err-write_count-2.result (ap (λ w. meant.count_part w c.args.edits) c.load_word.ensures) c.in_ok-write_count.ensures
    (wrote_front (meant.count_part meant.entries_word c.args.run.now.entries) (meant.count_part c.entries_word.result.now c.args.run.now.entries) ((meant.count_part meant.ok_word c.args.run.now.ok) ++ ((meant.count_part meant.errors_word c.args.run.now.errors) ++ ((meant.count_part meant.rows_word c.args.run.now.rows) ++ line_end))) (told (g.K.Sink.taken c.write_count.new.sink) (g.K.Sink.faults c.write_count.new.sink)) (told (g.K.Sink.taken c.write_count-2.new.sink) (g.K.Sink.faults c.write_count-2.new.sink)) _ _ c.from_residual-in_err-write_count-2.result (ap (λ w. meant.count_part w c.args.run.now.entries) c.entries_word.ensures) c.in_err-write_count-2.ensures c.from_residual-in_err-write_count-2.ensures.1)

pub returns-in_err-write_count-3 : goal.returns-in_err-write_count-3
returns-in_err-write_count-3 g c =
    wrote_more (meant.count_part meant.load_word c.args.edits) (meant.count_part c.load_word.result.now c.args.edits) ((meant.count_part meant.entries_word c.args.run.now.entries) ++ ((meant.count_part meant.ok_word c.args.run.now.ok) ++ ((meant.count_part meant.errors_word c.args.run.now.errors) ++ ((meant.count_part meant.rows_word c.args.run.now.rows) ++ line_end)))) (told (g.K.Sink.taken c.args.sink.now) (g.K.Sink.faults c.args.sink.now)) (told (g.K.Sink.taken c.write_count.new.sink) (g.K.Sink.faults c.write_count.new.sink)) (told (g.K.Sink.taken c.write_count-3.new.sink) (g.K.Sink.faults c.write_count-3.new.sink)) c.in_ok-write_count.field-0 c.from_residual-in_err-write_count-3.result (ap (λ w. meant.count_part w c.args.edits) c.load_word.ensures) c.in_ok-write_count.ensures
    (wrote_more (meant.count_part meant.entries_word c.args.run.now.entries) (meant.count_part c.entries_word.result.now c.args.run.now.entries) ((meant.count_part meant.ok_word c.args.run.now.ok) ++ ((meant.count_part meant.errors_word c.args.run.now.errors) ++ ((meant.count_part meant.rows_word c.args.run.now.rows) ++ line_end))) (told (g.K.Sink.taken c.write_count.new.sink) (g.K.Sink.faults c.write_count.new.sink)) (told (g.K.Sink.taken c.write_count-2.new.sink) (g.K.Sink.faults c.write_count-2.new.sink)) (told (g.K.Sink.taken c.write_count-3.new.sink) (g.K.Sink.faults c.write_count-3.new.sink)) c.in_ok-write_count-2.field-0 c.from_residual-in_err-write_count-3.result (ap (λ w. meant.count_part w c.args.run.now.entries) c.entries_word.ensures) c.in_ok-write_count-2.ensures
    (wrote_front (meant.count_part meant.ok_word c.args.run.now.ok) (meant.count_part c.ok_word.result.now c.args.run.now.ok) ((meant.count_part meant.errors_word c.args.run.now.errors) ++ ((meant.count_part meant.rows_word c.args.run.now.rows) ++ line_end)) (told (g.K.Sink.taken c.write_count-2.new.sink) (g.K.Sink.faults c.write_count-2.new.sink)) (told (g.K.Sink.taken c.write_count-3.new.sink) (g.K.Sink.faults c.write_count-3.new.sink)) _ _ c.from_residual-in_err-write_count-3.result (ap (λ w. meant.count_part w c.args.run.now.ok) c.ok_word.ensures) c.in_err-write_count-3.ensures c.from_residual-in_err-write_count-3.ensures.1))

pub returns-in_err-write_count-4 : goal.returns-in_err-write_count-4
returns-in_err-write_count-4 g c =
    wrote_more (meant.count_part meant.load_word c.args.edits) (meant.count_part c.load_word.result.now c.args.edits) ((meant.count_part meant.entries_word c.args.run.now.entries) ++ ((meant.count_part meant.ok_word c.args.run.now.ok) ++ ((meant.count_part meant.errors_word c.args.run.now.errors) ++ ((meant.count_part meant.rows_word c.args.run.now.rows) ++ line_end)))) (told (g.K.Sink.taken c.args.sink.now) (g.K.Sink.faults c.args.sink.now)) (told (g.K.Sink.taken c.write_count.new.sink) (g.K.Sink.faults c.write_count.new.sink)) (told (g.K.Sink.taken c.write_count-4.new.sink) (g.K.Sink.faults c.write_count-4.new.sink)) c.in_ok-write_count.field-0 c.from_residual-in_err-write_count-4.result (ap (λ w. meant.count_part w c.args.edits) c.load_word.ensures) c.in_ok-write_count.ensures
    (wrote_more (meant.count_part meant.entries_word c.args.run.now.entries) (meant.count_part c.entries_word.result.now c.args.run.now.entries) ((meant.count_part meant.ok_word c.args.run.now.ok) ++ ((meant.count_part meant.errors_word c.args.run.now.errors) ++ ((meant.count_part meant.rows_word c.args.run.now.rows) ++ line_end))) (told (g.K.Sink.taken c.write_count.new.sink) (g.K.Sink.faults c.write_count.new.sink)) (told (g.K.Sink.taken c.write_count-2.new.sink) (g.K.Sink.faults c.write_count-2.new.sink)) (told (g.K.Sink.taken c.write_count-4.new.sink) (g.K.Sink.faults c.write_count-4.new.sink)) c.in_ok-write_count-2.field-0 c.from_residual-in_err-write_count-4.result (ap (λ w. meant.count_part w c.args.run.now.entries) c.entries_word.ensures) c.in_ok-write_count-2.ensures
    (wrote_more (meant.count_part meant.ok_word c.args.run.now.ok) (meant.count_part c.ok_word.result.now c.args.run.now.ok) ((meant.count_part meant.errors_word c.args.run.now.errors) ++ ((meant.count_part meant.rows_word c.args.run.now.rows) ++ line_end)) (told (g.K.Sink.taken c.write_count-2.new.sink) (g.K.Sink.faults c.write_count-2.new.sink)) (told (g.K.Sink.taken c.write_count-3.new.sink) (g.K.Sink.faults c.write_count-3.new.sink)) (told (g.K.Sink.taken c.write_count-4.new.sink) (g.K.Sink.faults c.write_count-4.new.sink)) c.in_ok-write_count-3.field-0 c.from_residual-in_err-write_count-4.result (ap (λ w. meant.count_part w c.args.run.now.ok) c.ok_word.ensures) c.in_ok-write_count-3.ensures
    (wrote_front (meant.count_part meant.errors_word c.args.run.now.errors) (meant.count_part c.errors_word.result.now c.args.run.now.errors) ((meant.count_part meant.rows_word c.args.run.now.rows) ++ line_end) (told (g.K.Sink.taken c.write_count-3.new.sink) (g.K.Sink.faults c.write_count-3.new.sink)) (told (g.K.Sink.taken c.write_count-4.new.sink) (g.K.Sink.faults c.write_count-4.new.sink)) _ _ c.from_residual-in_err-write_count-4.result (ap (λ w. meant.count_part w c.args.run.now.errors) c.errors_word.ensures) c.in_err-write_count-4.ensures c.from_residual-in_err-write_count-4.ensures.1)))

pub returns-in_err-write_count-5 : goal.returns-in_err-write_count-5
returns-in_err-write_count-5 g c =
    wrote_more (meant.count_part meant.load_word c.args.edits) (meant.count_part c.load_word.result.now c.args.edits) ((meant.count_part meant.entries_word c.args.run.now.entries) ++ ((meant.count_part meant.ok_word c.args.run.now.ok) ++ ((meant.count_part meant.errors_word c.args.run.now.errors) ++ ((meant.count_part meant.rows_word c.args.run.now.rows) ++ line_end)))) (told (g.K.Sink.taken c.args.sink.now) (g.K.Sink.faults c.args.sink.now)) (told (g.K.Sink.taken c.write_count.new.sink) (g.K.Sink.faults c.write_count.new.sink)) (told (g.K.Sink.taken c.write_count-5.new.sink) (g.K.Sink.faults c.write_count-5.new.sink)) c.in_ok-write_count.field-0 c.from_residual-in_err-write_count-5.result (ap (λ w. meant.count_part w c.args.edits) c.load_word.ensures) c.in_ok-write_count.ensures
    (wrote_more (meant.count_part meant.entries_word c.args.run.now.entries) (meant.count_part c.entries_word.result.now c.args.run.now.entries) ((meant.count_part meant.ok_word c.args.run.now.ok) ++ ((meant.count_part meant.errors_word c.args.run.now.errors) ++ ((meant.count_part meant.rows_word c.args.run.now.rows) ++ line_end))) (told (g.K.Sink.taken c.write_count.new.sink) (g.K.Sink.faults c.write_count.new.sink)) (told (g.K.Sink.taken c.write_count-2.new.sink) (g.K.Sink.faults c.write_count-2.new.sink)) (told (g.K.Sink.taken c.write_count-5.new.sink) (g.K.Sink.faults c.write_count-5.new.sink)) c.in_ok-write_count-2.field-0 c.from_residual-in_err-write_count-5.result (ap (λ w. meant.count_part w c.args.run.now.entries) c.entries_word.ensures) c.in_ok-write_count-2.ensures
    (wrote_more (meant.count_part meant.ok_word c.args.run.now.ok) (meant.count_part c.ok_word.result.now c.args.run.now.ok) ((meant.count_part meant.errors_word c.args.run.now.errors) ++ ((meant.count_part meant.rows_word c.args.run.now.rows) ++ line_end)) (told (g.K.Sink.taken c.write_count-2.new.sink) (g.K.Sink.faults c.write_count-2.new.sink)) (told (g.K.Sink.taken c.write_count-3.new.sink) (g.K.Sink.faults c.write_count-3.new.sink)) (told (g.K.Sink.taken c.write_count-5.new.sink) (g.K.Sink.faults c.write_count-5.new.sink)) c.in_ok-write_count-3.field-0 c.from_residual-in_err-write_count-5.result (ap (λ w. meant.count_part w c.args.run.now.ok) c.ok_word.ensures) c.in_ok-write_count-3.ensures
    (wrote_more (meant.count_part meant.errors_word c.args.run.now.errors) (meant.count_part c.errors_word.result.now c.args.run.now.errors) ((meant.count_part meant.rows_word c.args.run.now.rows) ++ line_end) (told (g.K.Sink.taken c.write_count-3.new.sink) (g.K.Sink.faults c.write_count-3.new.sink)) (told (g.K.Sink.taken c.write_count-4.new.sink) (g.K.Sink.faults c.write_count-4.new.sink)) (told (g.K.Sink.taken c.write_count-5.new.sink) (g.K.Sink.faults c.write_count-5.new.sink)) c.in_ok-write_count-4.field-0 c.from_residual-in_err-write_count-5.result (ap (λ w. meant.count_part w c.args.run.now.errors) c.errors_word.ensures) c.in_ok-write_count-4.ensures
    (wrote_front (meant.count_part meant.rows_word c.args.run.now.rows) (meant.count_part c.rows_word.result.now c.args.run.now.rows) line_end (told (g.K.Sink.taken c.write_count-4.new.sink) (g.K.Sink.faults c.write_count-4.new.sink)) (told (g.K.Sink.taken c.write_count-5.new.sink) (g.K.Sink.faults c.write_count-5.new.sink)) _ _ c.from_residual-in_err-write_count-5.result (ap (λ w. meant.count_part w c.args.run.now.rows) c.rows_word.ensures) c.in_err-write_count-5.ensures c.from_residual-in_err-write_count-5.ensures.1))))

pub returns : goal.returns
returns g c =
    wrote_more (meant.count_part meant.load_word c.args.edits) (meant.count_part c.load_word.result.now c.args.edits) ((meant.count_part meant.entries_word c.args.run.now.entries) ++ ((meant.count_part meant.ok_word c.args.run.now.ok) ++ ((meant.count_part meant.errors_word c.args.run.now.errors) ++ ((meant.count_part meant.rows_word c.args.run.now.rows) ++ line_end)))) (told (g.K.Sink.taken c.args.sink.now) (g.K.Sink.faults c.args.sink.now)) (told (g.K.Sink.taken c.write_count.new.sink) (g.K.Sink.faults c.write_count.new.sink)) (told (g.K.Sink.taken c.write_text.new.sink) (g.K.Sink.faults c.write_text.new.sink)) c.in_ok-write_count.field-0 c.write_text.result (ap (λ w. meant.count_part w c.args.edits) c.load_word.ensures) c.in_ok-write_count.ensures
    (wrote_more (meant.count_part meant.entries_word c.args.run.now.entries) (meant.count_part c.entries_word.result.now c.args.run.now.entries) ((meant.count_part meant.ok_word c.args.run.now.ok) ++ ((meant.count_part meant.errors_word c.args.run.now.errors) ++ ((meant.count_part meant.rows_word c.args.run.now.rows) ++ line_end))) (told (g.K.Sink.taken c.write_count.new.sink) (g.K.Sink.faults c.write_count.new.sink)) (told (g.K.Sink.taken c.write_count-2.new.sink) (g.K.Sink.faults c.write_count-2.new.sink)) (told (g.K.Sink.taken c.write_text.new.sink) (g.K.Sink.faults c.write_text.new.sink)) c.in_ok-write_count-2.field-0 c.write_text.result (ap (λ w. meant.count_part w c.args.run.now.entries) c.entries_word.ensures) c.in_ok-write_count-2.ensures
    (wrote_more (meant.count_part meant.ok_word c.args.run.now.ok) (meant.count_part c.ok_word.result.now c.args.run.now.ok) ((meant.count_part meant.errors_word c.args.run.now.errors) ++ ((meant.count_part meant.rows_word c.args.run.now.rows) ++ line_end)) (told (g.K.Sink.taken c.write_count-2.new.sink) (g.K.Sink.faults c.write_count-2.new.sink)) (told (g.K.Sink.taken c.write_count-3.new.sink) (g.K.Sink.faults c.write_count-3.new.sink)) (told (g.K.Sink.taken c.write_text.new.sink) (g.K.Sink.faults c.write_text.new.sink)) c.in_ok-write_count-3.field-0 c.write_text.result (ap (λ w. meant.count_part w c.args.run.now.ok) c.ok_word.ensures) c.in_ok-write_count-3.ensures
    (wrote_more (meant.count_part meant.errors_word c.args.run.now.errors) (meant.count_part c.errors_word.result.now c.args.run.now.errors) ((meant.count_part meant.rows_word c.args.run.now.rows) ++ line_end) (told (g.K.Sink.taken c.write_count-3.new.sink) (g.K.Sink.faults c.write_count-3.new.sink)) (told (g.K.Sink.taken c.write_count-4.new.sink) (g.K.Sink.faults c.write_count-4.new.sink)) (told (g.K.Sink.taken c.write_text.new.sink) (g.K.Sink.faults c.write_text.new.sink)) c.in_ok-write_count-4.field-0 c.write_text.result (ap (λ w. meant.count_part w c.args.run.now.errors) c.errors_word.ensures) c.in_ok-write_count-4.ensures
    (wrote_more (meant.count_part meant.rows_word c.args.run.now.rows) (meant.count_part c.rows_word.result.now c.args.run.now.rows) line_end (told (g.K.Sink.taken c.write_count-4.new.sink) (g.K.Sink.faults c.write_count-4.new.sink)) (told (g.K.Sink.taken c.write_count-5.new.sink) (g.K.Sink.faults c.write_count-5.new.sink)) (told (g.K.Sink.taken c.write_text.new.sink) (g.K.Sink.faults c.write_text.new.sink)) c.in_ok-write_count-5.field-0 c.write_text.result (ap (λ w. meant.count_part w c.args.run.now.rows) c.rows_word.ensures) c.in_ok-write_count-5.ensures
    (wrote_same line_end c.line_end.result.now (told (g.K.Sink.taken c.write_count-5.new.sink) (g.K.Sink.faults c.write_count-5.new.sink)) (told (g.K.Sink.taken c.write_text.new.sink) (g.K.Sink.faults c.write_text.new.sink)) c.write_text.result c.line_end.ensures c.write_text.ensures)))))
