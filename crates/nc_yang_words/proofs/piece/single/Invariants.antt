use Rattle.std.proofs.Common.{◌≡◌, drop}
use Rattle.nc_yang_words.specs.Pieces.{single}
use Rattle.nc_yang_words.proofs.piece.single.Given as goal

abbrev pub invariant-loop-count : goal.invariant-loop-count
invariant-loop-count l = single 0 l.signs ≡ single l.count (drop l.count l.signs)
