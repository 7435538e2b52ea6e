use Rattle.std.proofs.Common.{◌≡◌, take}
use Rattle.nc_yang_types.proofs.nested.copied.Given as goal

abbrev pub invariant-loop-number : goal.invariant-loop-number
invariant-loop-number l = l.all ≡ take l.number-index l.numbers
