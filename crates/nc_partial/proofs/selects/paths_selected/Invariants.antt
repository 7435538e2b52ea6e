-- What the selects name so far, and the rest.
use Rattle.std.proofs.Common.{◌≡◌, drop}
use Rattle.nc_paths.specs.inner.Prepend.{before}
use Rattle.nc_partial.specs.Selects.{paths_of}
use Rattle.nc_partial.proofs.selects.paths_selected.Given as goal

abbrev pub invariant-loop-select : goal.invariant-loop-select
invariant-loop-select l = paths_of l.schema l.selects ≡ before l.paths (paths_of l.schema (drop l.select-index l.selects))
