use Rattle.std.proofs.Common.{ap, ◌++◌}
use Rattle.nc_words.proofs.Noting.{wrote_front, wrote_more, wrote_same}
use Rattle.nc_reports.specs.Counts as meant
use Rattle.nc_words.specs.Notes.{line_end, told}
use Rattle.nc_reports.proofs.count.write_found.Goals as goal

pub returns-in_err-write_count : goal.returns-in_err-write_count
returns-in_err-write_count g c =
    wrote_front (meant.count_part meant.modules_word c.args.found.modules) (meant.count_part c.modules_word.result.now c.args.found.modules) ((meant.count_part meant.nodes_word c.args.found.nodes) ++ ((meant.count_part meant.rows_word c.args.found.rows) ++ ((meant.count_part meant.records_word c.args.found.records) ++ line_end))) (told (g.K.Sink.taken c.args.sink.now) (g.K.Sink.faults c.args.sink.now)) (told (g.K.Sink.taken c.write_count.new.sink) (g.K.Sink.faults c.write_count.new.sink)) _ _ c.from_residual.result (ap (λ w. meant.count_part w c.args.found.modules) c.modules_word.ensures) c.in_err-write_count.ensures c.from_residual.ensures.1

pub returns-in_err-write_count-2 : goal.returns-in_err-write_count-2
returns-in_err-write_count-2 g c =
    wrote_more (meant.count_part meant.modules_word c.args.found.modules) (meant.count_part c.modules_word.result.now c.args.found.modules) ((meant.count_part meant.nodes_word c.args.found.nodes) ++ ((meant.count_part meant.rows_word c.args.found.rows) ++ ((meant.count_part meant.records_word c.args.found.records) ++ line_end))) (told (g.K.Sink.taken c.args.sink.now) (g.K.Sink.faults c.args.sink.now)) (told (g.K.Sink.taken c.write_count.new.sink) (g.K.Sink.faults c.write_count.new.sink)) (told (g.K.Sink.taken c.write_count-2.new.sink) (g.K.Sink.faults c.write_count-2.new.sink)) c.in_ok-write_count.field-0 c.from_residual-in_err-write_count-2.result (ap (λ w. meant.count_part w c.args.found.modules) c.modules_word.ensures) c.in_ok-write_count.ensures
    (wrote_front (meant.count_part meant.nodes_word c.args.found.nodes) (meant.count_part c.nodes_word.result.now c.args.found.nodes) ((meant.count_part meant.rows_word c.args.found.rows) ++ ((meant.count_part meant.records_word c.args.found.records) ++ line_end)) (told (g.K.Sink.taken c.write_count.new.sink) (g.K.Sink.faults c.write_count.new.sink)) (told (g.K.Sink.taken c.write_count-2.new.sink) (g.K.Sink.faults c.write_count-2.new.sink)) _ _ c.from_residual-in_err-write_count-2.result (ap (λ w. meant.count_part w c.args.found.nodes) c.nodes_word.ensures) c.in_err-write_count-2.ensures c.from_residual-in_err-write_count-2.ensures.1)

pub returns-in_err-write_count-3 : goal.returns-in_err-write_count-3
returns-in_err-write_count-3 g c =
    wrote_more (meant.count_part meant.modules_word c.args.found.modules) (meant.count_part c.modules_word.result.now c.args.found.modules) ((meant.count_part meant.nodes_word c.args.found.nodes) ++ ((meant.count_part meant.rows_word c.args.found.rows) ++ ((meant.count_part meant.records_word c.args.found.records) ++ line_end))) (told (g.K.Sink.taken c.args.sink.now) (g.K.Sink.faults c.args.sink.now)) (told (g.K.Sink.taken c.write_count.new.sink) (g.K.Sink.faults c.write_count.new.sink)) (told (g.K.Sink.taken c.write_count-3.new.sink) (g.K.Sink.faults c.write_count-3.new.sink)) c.in_ok-write_count.field-0 c.from_residual-in_err-write_count-3.result (ap (λ w. meant.count_part w c.args.found.modules) c.modules_word.ensures) c.in_ok-write_count.ensures
    (wrote_more (meant.count_part meant.nodes_word c.args.found.nodes) (meant.count_part c.nodes_word.result.now c.args.found.nodes) ((meant.count_part meant.rows_word c.args.found.rows) ++ ((meant.count_part meant.records_word c.args.found.records) ++ line_end)) (told (g.K.Sink.taken c.write_count.new.sink) (g.K.Sink.faults c.write_count.new.sink)) (told (g.K.Sink.taken c.write_count-2.new.sink) (g.K.Sink.faults c.write_count-2.new.sink)) (told (g.K.Sink.taken c.write_count-3.new.sink) (g.K.Sink.faults c.write_count-3.new.sink)) c.in_ok-write_count-2.field-0 c.from_residual-in_err-write_count-3.result (ap (λ w. meant.count_part w c.args.found.nodes) c.nodes_word.ensures) c.in_ok-write_count-2.ensures
    (wrote_front (meant.count_part meant.rows_word c.args.found.rows) (meant.count_part c.rows_word.result.now c.args.found.rows) ((meant.count_part meant.records_word c.args.found.records) ++ line_end) (told (g.K.Sink.taken c.write_count-2.new.sink) (g.K.Sink.faults c.write_count-2.new.sink)) (told (g.K.Sink.taken c.write_count-3.new.sink) (g.K.Sink.faults c.write_count-3.new.sink)) _ _ c.from_residual-in_err-write_count-3.result (ap (λ w. meant.count_part w c.args.found.rows) c.rows_word.ensures) c.in_err-write_count-3.ensures c.from_residual-in_err-write_count-3.ensures.1))

pub returns-in_err-write_count-4 : goal.returns-in_err-write_count-4
returns-in_err-write_count-4 g c =
    wrote_more (meant.count_part meant.modules_word c.args.found.modules) (meant.count_part c.modules_word.result.now c.args.found.modules) ((meant.count_part meant.nodes_word c.args.found.nodes) ++ ((meant.count_part meant.rows_word c.args.found.rows) ++ ((meant.count_part meant.records_word c.args.found.records) ++ line_end))) (told (g.K.Sink.taken c.args.sink.now) (g.K.Sink.faults c.args.sink.now)) (told (g.K.Sink.taken c.write_count.new.sink) (g.K.Sink.faults c.write_count.new.sink)) (told (g.K.Sink.taken c.write_count-4.new.sink) (g.K.Sink.faults c.write_count-4.new.sink)) c.in_ok-write_count.field-0 c.from_residual-in_err-write_count-4.result (ap (λ w. meant.count_part w c.args.found.modules) c.modules_word.ensures) c.in_ok-write_count.ensures
    (wrote_more (meant.count_part meant.nodes_word c.args.found.nodes) (meant.count_part c.nodes_word.result.now c.args.found.nodes) ((meant.count_part meant.rows_word c.args.found.rows) ++ ((meant.count_part meant.records_word c.args.found.records) ++ line_end)) (told (g.K.Sink.taken c.write_count.new.sink) (g.K.Sink.faults c.write_count.new.sink)) (told (g.K.Sink.taken c.write_count-2.new.sink) (g.K.Sink.faults c.write_count-2.new.sink)) (told (g.K.Sink.taken c.write_count-4.new.sink) (g.K.Sink.faults c.write_count-4.new.sink)) c.in_ok-write_count-2.field-0 c.from_residual-in_err-write_count-4.result (ap (λ w. meant.count_part w c.args.found.nodes) c.nodes_word.ensures) c.in_ok-write_count-2.ensures
    (wrote_more (meant.count_part meant.rows_word c.args.found.rows) (meant.count_part c.rows_word.result.now c.args.found.rows) ((meant.count_part meant.records_word c.args.found.records) ++ line_end) (told (g.K.Sink.taken c.write_count-2.new.sink) (g.K.Sink.faults c.write_count-2.new.sink)) (told (g.K.Sink.taken c.write_count-3.new.sink) (g.K.Sink.faults c.write_count-3.new.sink)) (told (g.K.Sink.taken c.write_count-4.new.sink) (g.K.Sink.faults c.write_count-4.new.sink)) c.in_ok-write_count-3.field-0 c.from_residual-in_err-write_count-4.result (ap (λ w. meant.count_part w c.args.found.rows) c.rows_word.ensures) c.in_ok-write_count-3.ensures
    (wrote_front (meant.count_part meant.records_word c.args.found.records) (meant.count_part c.records_word.result.now c.args.found.records) line_end (told (g.K.Sink.taken c.write_count-3.new.sink) (g.K.Sink.faults c.write_count-3.new.sink)) (told (g.K.Sink.taken c.write_count-4.new.sink) (g.K.Sink.faults c.write_count-4.new.sink)) _ _ c.from_residual-in_err-write_count-4.result (ap (λ w. meant.count_part w c.args.found.records) c.records_word.ensures) c.in_err-write_count-4.ensures c.from_residual-in_err-write_count-4.ensures.1)))

pub returns : goal.returns
returns g c =
    wrote_more (meant.count_part meant.modules_word c.args.found.modules) (meant.count_part c.modules_word.result.now c.args.found.modules) ((meant.count_part meant.nodes_word c.args.found.nodes) ++ ((meant.count_part meant.rows_word c.args.found.rows) ++ ((meant.count_part meant.records_word c.args.found.records) ++ line_end))) (told (g.K.Sink.taken c.args.sink.now) (g.K.Sink.faults c.args.sink.now)) (told (g.K.Sink.taken c.write_count.new.sink) (g.K.Sink.faults c.write_count.new.sink)) (told (g.K.Sink.taken c.write_text.new.sink) (g.K.Sink.faults c.write_text.new.sink)) c.in_ok-write_count.field-0 c.write_text.result (ap (λ w. meant.count_part w c.args.found.modules) c.modules_word.ensures) c.in_ok-write_count.ensures
    (wrote_more (meant.count_part meant.nodes_word c.args.found.nodes) (meant.count_part c.nodes_word.result.now c.args.found.nodes) ((meant.count_part meant.rows_word c.args.found.rows) ++ ((meant.count_part meant.records_word c.args.found.records) ++ line_end)) (told (g.K.Sink.taken c.write_count.new.sink) (g.K.Sink.faults c.write_count.new.sink)) (told (g.K.Sink.taken c.write_count-2.new.sink) (g.K.Sink.faults c.write_count-2.new.sink)) (told (g.K.Sink.taken c.write_text.new.sink) (g.K.Sink.faults c.write_text.new.sink)) c.in_ok-write_count-2.field-0 c.write_text.result (ap (λ w. meant.count_part w c.args.found.nodes) c.nodes_word.ensures) c.in_ok-write_count-2.ensures
    (wrote_more (meant.count_part meant.rows_word c.args.found.rows) (meant.count_part c.rows_word.result.now c.args.found.rows) ((meant.count_part meant.records_word c.args.found.records) ++ line_end) (told (g.K.Sink.taken c.write_count-2.new.sink) (g.K.Sink.faults c.write_count-2.new.sink)) (told (g.K.Sink.taken c.write_count-3.new.sink) (g.K.Sink.faults c.write_count-3.new.sink)) (told (g.K.Sink.taken c.write_text.new.sink) (g.K.Sink.faults c.write_text.new.sink)) c.in_ok-write_count-3.field-0 c.write_text.result (ap (λ w. meant.count_part w c.args.found.rows) c.rows_word.ensures) c.in_ok-write_count-3.ensures
    (wrote_more (meant.count_part meant.records_word c.args.found.records) (meant.count_part c.records_word.result.now c.args.found.records) line_end (told (g.K.Sink.taken c.write_count-3.new.sink) (g.K.Sink.faults c.write_count-3.new.sink)) (told (g.K.Sink.taken c.write_count-4.new.sink) (g.K.Sink.faults c.write_count-4.new.sink)) (told (g.K.Sink.taken c.write_text.new.sink) (g.K.Sink.faults c.write_text.new.sink)) c.in_ok-write_count-4.field-0 c.write_text.result (ap (λ w. meant.count_part w c.args.found.records) c.records_word.ensures) c.in_ok-write_count-4.ensures
    (wrote_same line_end c.line_end.result.now (told (g.K.Sink.taken c.write_count-4.new.sink) (g.K.Sink.faults c.write_count-4.new.sink)) (told (g.K.Sink.taken c.write_text.new.sink) (g.K.Sink.faults c.write_text.new.sink)) c.write_text.result c.line_end.ensures c.write_text.ensures))))
