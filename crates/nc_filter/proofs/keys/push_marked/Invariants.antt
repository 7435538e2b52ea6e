use Rattle.std.proofs.Common.{◌≡◌, ◌++◌, drop}
use Rattle.nc_filter.specs.inner.Keys.{marked}
use Rattle.nc_filter.proofs.keys.push_marked.Given as goal

abbrev pub invariant-loop-b : goal.invariant-loop-b
invariant-loop-b l = l.bytes ++ marked (drop l.b-index l.name) ≡ l.initial.bytes ++ marked l.name
