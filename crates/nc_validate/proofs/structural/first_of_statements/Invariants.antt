use Rattle.std.proofs.Common.{◌≡◌, drop}
use Rattle.std.specs.List.{flat_map}
use Rattle.nc_defaults.specs.Within.{places_in}
use Rattle.nc_schema.specs.Violations.{unique_violations}
use Rattle.nc_validate.specs.inner.First.{first}
use Rattle.nc_validate.proofs.structural.first_of_statements.Given as goal

abbrev pub invariant-loop-leafs : goal.invariant-loop-leafs
invariant-loop-leafs l =
    first (flat_map (unique_violations l.children (places_in l.config l.entries)) (drop l.leafs-index l.uniques))
    ≡ first (flat_map (unique_violations l.children (places_in l.config l.entries)) l.uniques)
