use Rattle.std.proofs.Common.{◌≡◌}
use Rattle.std.specs.List.{list_any}
use Rattle.nc_schema.specs.Standing.{above_of}
use Rattle.nc_refs.specs.inner.Named.{left_above, names}
use Rattle.nc_refs.proofs.named.names_along.Given as goal

abbrev pub invariant-loop-at : goal.invariant-loop-at
invariant-loop-at l = list_any (names l.schema l.text) (above_of l.steps) ≡ left_above (names l.schema l.text) l.steps l.at
