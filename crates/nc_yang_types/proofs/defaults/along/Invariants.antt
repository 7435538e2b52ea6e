use Rattle.std.proofs.Common.{take}
use Rattle.nc_yang_types.specs.inner.KnownTypes.{AreKnown}
use Rattle.nc_yang_types.proofs.defaults.along.Given as goal

abbrev pub invariant-loop-number : goal.invariant-loop-number
invariant-loop-number l = AreKnown l.scopes (take l.number-index l.order) l.defaults
