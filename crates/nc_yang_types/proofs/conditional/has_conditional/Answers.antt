use Rattle.std.proofs.Common.{sym, ◌∙◌, arith}
use Rattle.nc_yang_types.specs.Faults.{is_conditional}
use Rattle.nc_yang_types.proofs.ConditionalLemmas.{word_ends, word_found, word_passed}
use Rattle.nc_yang_types.proofs.conditional.has_conditional.Goals as goal

pub returns-then-at-len : goal.returns-then-at-len
returns-then-at-len c =
    c.is_conditional_word.ensures
    ∙ word_ends (is_conditional c.args.names.now) c.args.text.now c.loop-rest.rest.now c.count_black-at.result c.loop-rest.invariant c.count_black-at.ensures (omega arith)

pub returns-then-is_conditional_word : goal.returns-then-is_conditional_word
returns-then-is_conditional_word c =
    word_found (is_conditional c.args.names.now) c.args.text.now c.loop-rest.rest.now c.split_at.result.0.now c.split_at.result.1.now c.count_black-at.result c.loop-rest.invariant
    c.count_black-at.ensures (omega arith) c.split_at.ensures.front c.split_at.ensures.back (sym c.if-is_conditional_word.ensures)

pub loop-rest-preserved : goal.loop-rest-preserved
loop-rest-preserved c =
    word_passed (is_conditional c.args.names.now) c.args.text.now c.loop-rest.rest.now c.split_at.result.0.now c.split_at.result.1.now c.tail-rest.result.now c.count_black-at.result
    c.loop-rest.invariant c.count_black-at.ensures (omega arith) c.split_at.ensures.front c.split_at.ensures.back c.tail-rest.ensures (sym c.if-is_conditional_word.ensures)
