-- What is left has all that can be on together, and each round takes one off.
use Rattle.nc_yang_nodes.specs.FeaturesOn.{is_on, size}
use Rattle.nc_yang_nodes.specs.inner.Narrowing.{Narrows}
use Rattle.nc_yang_nodes.proofs.supported.together.Given as goal

abbrev pub invariant-loop-number : goal.invariant-loop-number
invariant-loop-number l = Narrows l.scopes (is_on l.fn.given) (is_on l.features)

abbrev pub decreases-loop-number : goal.decreases-loop-number
decreases-loop-number l = size l.features
