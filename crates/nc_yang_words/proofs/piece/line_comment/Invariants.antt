use Rattle.std.proofs.Common.{◌≡◌, drop}
use Rattle.nc_yang_words.specs.Pieces.{line_comment}
use Rattle.nc_yang_words.proofs.piece.line_comment.Given as goal

abbrev pub invariant-loop-count : goal.invariant-loop-count
invariant-loop-count l = line_comment 0 l.signs ≡ line_comment l.count (drop l.count l.signs)
