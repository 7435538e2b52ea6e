use Rattle.nc_yang_leafs.specs.inner.Assembly.{HasSome}
use Rattle.nc_yang_leafs.proofs.typing.with_kinds.Given as goal

abbrev pub invariant-loop-number : goal.invariant-loop-number
invariant-loop-number l = HasSome l.fn.schema l.kinds l.number l.schema
