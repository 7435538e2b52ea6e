use Rattle.nc_yang_nodes.specs.FeaturesOn.{is_on}
use Rattle.nc_yang_nodes.specs.inner.Narrowing.{Narrows}
use Rattle.nc_yang_nodes.proofs.supported.narrowed_by.Given as goal

abbrev pub invariant-loop-number : goal.invariant-loop-number
invariant-loop-number l = Narrows l.scopes (is_on l.fn.given) (is_on l.features)
