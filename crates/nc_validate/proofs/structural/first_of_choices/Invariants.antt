use Rattle.std.proofs.Common.{◌≡◌, drop}
use Rattle.std.specs.List.{flat_map}
use Rattle.nc_defaults.specs.Within.{place_here}
use Rattle.nc_validate.specs.inner.Children.{begun_violations}
use Rattle.nc_validate.specs.inner.First.{first}
use Rattle.nc_validate.proofs.structural.first_of_choices.Given as goal

abbrev pub invariant-loop-case : goal.invariant-loop-case
invariant-loop-case l =
    first (flat_map (λ one. begun_violations l.outline.schema.now (place_here l.config l.steps l.here) l.number one.choice) (drop l.case-index l.case-items))
    ≡ first (flat_map (λ one. begun_violations l.outline.schema.now (place_here l.config l.steps l.here) l.number one.choice) l.fn.child.1.now.cases)
