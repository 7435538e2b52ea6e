use Rattle.nc_yang_leafs.specs.inner.Assembly.{HasBareTypes, both}
use Rattle.nc_yang_leafs.proofs.typing.add_types.Given as goal

abbrev pub invariant-loop-one : goal.invariant-loop-one
invariant-loop-one l = HasBareTypes l.fn.schema l.yielded (both l.schema l.patterns)
