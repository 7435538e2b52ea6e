-- So many so far.
use Rattle.std.proofs.Common.{◌≡◌, false, replicate}
use Rattle.nc_path_places.proofs.leafref_ways.no_marks.Given as goal

abbrev pub invariant-loop-turn : goal.invariant-loop-turn
invariant-loop-turn l = l.marks ≡ replicate l.turn false
