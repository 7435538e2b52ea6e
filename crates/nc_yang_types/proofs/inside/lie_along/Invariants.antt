-- What is left of both.
use Rattle.std.proofs.Common.{◌≡◌, ◌+◌, length}
use Rattle.nc_yang_types.specs.inner.Walks.{lie_along}
use Rattle.nc_yang_types.proofs.inside.lie_along.Given as goal

abbrev pub invariant-loop-part : goal.invariant-loop-part
invariant-loop-part l = lie_along l.base l.fn.parts ≡ lie_along l.left l.parts

abbrev pub decreases-loop-part : goal.decreases-loop-part
decreases-loop-part l = length l.left + length l.parts
