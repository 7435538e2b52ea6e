-- Those so far.
use Rattle.std.proofs.Common.{◌≡◌, take}
use Rattle.nc_yang_types.proofs.choice.copies_of.Given as goal

abbrev pub invariant-loop-named : goal.invariant-loop-named
invariant-loop-named l = l.all ≡ take l.named-index l.names
