use Rattle.std.proofs.Common.{◌≡◌, drop}
use Rattle.nc_yang_words.specs.Pieces.{block_comment}
use Rattle.nc_yang_words.proofs.piece.block_comment.Given as goal

abbrev pub invariant-loop-count : goal.invariant-loop-count
invariant-loop-count l = block_comment 0 l.signs ≡ block_comment l.count (drop l.count l.signs)
