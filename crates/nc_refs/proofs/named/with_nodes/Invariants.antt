use Rattle.std.proofs.Common.{◌≡◌, List, true}
use Rattle.nc_names.specs.declared.path.Row.{Row}
use Rattle.nc_schema.specs.Standing.{exists}
use Rattle.nc_refs.specs.inner.Named.{AllExist}
use Rattle.nc_refs.proofs.named.with_nodes.Given as goal

abbrev pub invariant-loop-at : goal.invariant-loop-at
invariant-loop-at l = (rows : List Row) → AllExist rows l.fn.nodes → exists rows l.steps ≡ true → AllExist rows l.nodes
