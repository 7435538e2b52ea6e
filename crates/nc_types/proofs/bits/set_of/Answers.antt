-- One word more is in the set.
use Rattle.std.proofs.Common.{◌≡◌, get_or, rules, arith}
use Rattle.nc_types.proofs.BitLemmas.{one_word_more}
use Rattle.nc_types.proofs.bits.set_of.Goals as goal

pub loop-word-preserved : goal.loop-word-preserved
loop-word-preserved c =
    let words = c.args.words.now in
    let word = c.in_ok-own_word.field-0 in
    let here : word ≡ get_or words c.loop-word.word-index word = search rules in
    one_word_more words c.loop-word.word-index word c.loop-word.set c.insert.new.self c.loop-word.invariant (omega arith) here c.in_ok-insert.ensures.updates.0
