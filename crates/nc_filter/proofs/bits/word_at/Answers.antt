use Rattle.std.proofs.Common.{arith, sym}
use Rattle.std.proofs.lemmas.List.{get_or_past}
use Rattle.nc_filter.proofs.bits.word_at.Goals as goal

pub returns : goal.returns
returns c = sym (get_or_past c.args.words.now c.args.place 0 (omega arith))
