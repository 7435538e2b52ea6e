-- The numbers so far.
use Rattle.std.proofs.Common.{◌≡◌, ◌∷◌, take}
use Rattle.nc_types.proofs.value.longer.Given as goal

abbrev pub invariant-loop-one : goal.invariant-loop-one
invariant-loop-one l = l.out ≡ l.number ∷ take l.one-index l.chain
