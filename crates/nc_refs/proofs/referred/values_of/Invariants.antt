use Rattle.std.proofs.Common.{map, take}
use Rattle.nc_refs.specs.inner.Referred.{HasValues}
use Rattle.nc_refs.proofs.referred.values_of.Given as goal

abbrev pub invariant-loop-value : goal.invariant-loop-value
invariant-loop-value l = HasValues l.found (map (λ value. value.now) (take l.value-index l.values))
