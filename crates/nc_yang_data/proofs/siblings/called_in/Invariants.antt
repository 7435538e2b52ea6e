-- The choices before.
use Rattle.std.proofs.Common.{take}
use Rattle.nc_yang_data.specs.inner.Called.{CallsEach}
use Rattle.nc_yang_data.proofs.siblings.called_in.Given as goal

abbrev pub invariant-loop-number : goal.invariant-loop-number
invariant-loop-number l = CallsEach l.scopes (take l.number l.choices) l.called
