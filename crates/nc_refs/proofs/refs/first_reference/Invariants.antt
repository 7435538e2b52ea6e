use Rattle.std.proofs.Common.{◌≡◌, drop}
use Rattle.std.specs.Prelude.{slice_get}
use Rattle.nc_schema.specs.Violations.{reference_violations, row_violation}
use Rattle.std.specs.List.{flat_map}
use Rattle.nc_refs.specs.inner.Broken.{IsAbout}
use Rattle.nc_refs.proofs.refs.first_reference.Given as goal

abbrev pub invariant-loop-row : goal.invariant-loop-row
invariant-loop-row l = record {
  about : IsAbout l.schema l.config l.about;
  rest : slice_get (flat_map (row_violation l.schema l.config) (drop l.row-index l.row-items)) 0 ≡ slice_get (reference_violations l.schema l.config) 0;
}
