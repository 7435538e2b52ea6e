-- The values of a place, and those of all below it.
use Rattle.std.proofs.Common.{◌∙◌, List, ap}
use Rattle.nc_names.specs.declared.path.Step.{Step}
use Rattle.nc_schema.specs.Places.{Place}
use Rattle.nc_defaults.specs.Within.{place_here, places_in}
use Rattle.nc_defaults.specs.declared.spots.Spot.{Spot}
use Rattle.nc_defaults.specs.inner.Below.{values_among}
use Rattle.nc_defaults.specs.inner.Walks.{places_under}
use Rattle.nc_defaults.proofs.BelowLemmas.{with_below}
use Rattle.nc_defaults.proofs.below.values_below.Goals as goal

pub returns : goal.returns
returns c =
    let tables = c.args.children.now in
    let config = c.args.config.now in
    let spot = c.args.spot.now in
    let place : Place = place_here config spot.steps spot.here in
    with_below tables c.args.number place (places_in config c.in_ok-below.below) (places_under tables place 0)
    c.in_ok-out.out c.in_ok-values.values c.append.new.self c.in_ok-append.ensures.ok c.in_ok-out.ensures
    (c.in_ok-values.ensures ∙ ap (λ (spots : List Spot). values_among tables c.args.number (places_in config spots)) c.as_slice-spots.ensures)
    (c.in_ok-below.ensures.places ∙ ap (λ (steps : List Step). places_under tables (place_here config steps spot.here) 0) c.as_slice-steps.ensures)
