use Rattle.std.proofs.Common.{◌≡◌, drop}
use Rattle.std.specs.List.{flat_map}
use Rattle.nc_defaults.specs.Within.{place_here}
use Rattle.nc_validate.specs.inner.Choices.{bare_of}
use Rattle.nc_validate.specs.inner.First.{first}
use Rattle.nc_validate.proofs.structural.first_of_bares.Given as goal

abbrev pub invariant-loop-choice : goal.invariant-loop-choice
invariant-loop-choice l =
    first (flat_map (λ one. bare_of l.outline.schema.now (place_here l.config l.steps l.here) one.now) (drop l.choice-index l.choice-items))
    ≡ first (flat_map (λ one. bare_of l.outline.schema.now (place_here l.config l.steps l.here) one.now) l.choice-items)
