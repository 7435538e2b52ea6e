use Rattle.nc_yang_nodes.specs.FeaturesOn.{is_on}
use Rattle.nc_yang_nodes.proofs.Supporting.{TogetherBelow}
use Rattle.nc_yang_nodes.proofs.supported.first_unsupported.Given as goal

abbrev pub invariant-loop-number : goal.invariant-loop-number
invariant-loop-number l = TogetherBelow l.scopes (is_on l.features) l.number
