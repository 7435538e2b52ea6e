use Rattle.std.proofs.Common.{◌≡◌, drop}
use Rattle.nc_yang_words.specs.Pieces.{word}
use Rattle.nc_yang_words.proofs.piece.word.Given as goal

abbrev pub invariant-loop-count : goal.invariant-loop-count
invariant-loop-count l = word 0 l.signs ≡ word l.count (drop l.count l.signs)
