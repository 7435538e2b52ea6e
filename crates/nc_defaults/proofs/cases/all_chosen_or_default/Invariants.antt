use Rattle.std.proofs.Common.{◌≡◌, drop}
use Rattle.std.specs.List.{list_all}
use Rattle.nc_schema.specs.Places.{is_chosen_or_default}
use Rattle.nc_defaults.specs.Within.{place_here}
use Rattle.nc_defaults.proofs.cases.all_chosen_or_default.Given as goal

abbrev pub invariant-loop-case : goal.invariant-loop-case
invariant-loop-case l =
    list_all (is_chosen_or_default l.schema (place_here l.config l.steps l.here)) (drop l.case-index l.cases)
    ≡ list_all (is_chosen_or_default l.schema (place_here l.config l.steps l.here)) l.cases
