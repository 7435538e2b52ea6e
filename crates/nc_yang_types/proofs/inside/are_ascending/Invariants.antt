-- The parts that are left, with the one before them.
use Rattle.std.proofs.Common.{◌≡◌, ◌∷◌, drop}
use Rattle.nc_yang_types.specs.Ranges.{are_ascending}
use Rattle.nc_yang_types.proofs.inside.are_ascending.Given as goal

abbrev pub invariant-loop-part : goal.invariant-loop-part
invariant-loop-part l = are_ascending l.parts ≡ are_ascending (l.last ∷ drop l.part-index l.rest)
