-- The last word is read.
use Rattle.std.proofs.Common.{arith}
use Rattle.nc_types.proofs.BitLemmas.{last_word}
use Rattle.nc_types.proofs.bits.words_of.Goals as goal

pub returns-then-at-len : goal.returns-then-at-len
returns-then-at-len c =
    last_word c.args.text.now c.loop-found.rest.now c.count_black-at.result c.loop-found.found c.push_word.new.found c.loop-found.invariant c.count_black-at.ensures (omega arith) c.in_ok-push_word.ensures
