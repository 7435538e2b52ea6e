-- The leafs so far.
use Rattle.std.proofs.Common.{◌≡◌, map, take}
use Rattle.nc_yang.specs.Typedefs.{leaf_by}
use Rattle.nc_yang.proofs.suited.leafs_of.Given as goal

abbrev pub invariant-loop-number : goal.invariant-loop-number
invariant-loop-number l = l.leafs ≡ map leaf_by (take l.number-index l.numbers)
