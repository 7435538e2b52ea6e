use Rattle.std.proofs.Common.{◌∙◌, ap}
use Rattle.std.specs.Prelude.{slice_get}
use Rattle.nc_schema.specs.Tables.{Tables}
use Rattle.nc_schema.specs.Violations.{structural_violations}
use Rattle.nc_validate.proofs.structural.first_structural.Goals as goal

pub returns : goal.returns
returns c = c.in_ok-found.ensures ∙ ap (λ (ts : Tables). slice_get (structural_violations ts c.args.config.now) 0) c.in_ok-outline.ensures.schema
