-- The numbers of the names before.
use Rattle.std.proofs.Common.{take}
use Rattle.nc_yang_types.specs.inner.Known.{HasListing}
use Rattle.nc_yang_types.proofs.choice.numbers_of.Given as goal

abbrev pub invariant-loop-named : goal.invariant-loop-named
invariant-loop-named l = HasListing l.numbers (take l.named-index l.names)
