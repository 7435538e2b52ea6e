use Rattle.std.proofs.Common.{◌∙◌, List, ap}
use Rattle.std.specs.List.{flat_map}
use Rattle.nc_names.specs.declared.path.Step.{Step}
use Rattle.nc_defaults.specs.Within.{place_here}
use Rattle.nc_defaults.specs.declared.spots.Spot.{Spot}
use Rattle.nc_schema.specs.Tables.{Tables}
use Rattle.nc_schema.specs.Violations.{violations_at}
use Rattle.nc_validate.specs.inner.First.{first}
use Rattle.nc_validate.proofs.ChildrenLemmas.{walk_is}
use Rattle.nc_validate.proofs.FirstLemmas.{goes_on_at, walk_ends, walk_stops}
use Rattle.nc_validate.proofs.structural.first_of_places.Goals as goal

pub returns-then-is_found : goal.returns-then-is_found
returns-then-is_found c =
    let args = c.args in
    let rows = args.config.now in
    let tables : Tables = args.outline.now.schema.now in
    let spot = c.spot-item.result in
    walk_stops (λ (one : Spot). violations_at tables (place_here rows one.steps one.here)) c.as_slice-spot-items.result.now c.loop-spot.spot-index spot
    c.in_ok-found.found _ c.loop-spot-test.true c.spot-item.is
    (c.in_ok-found.ensures ∙ ap (λ (steps : List Step). first (violations_at tables (place_here rows steps spot.here))) c.as_slice.ensures)
    c.if-is_found.ensures
    (c.loop-spot.invariant ∙ ap (λ (spots : List Spot). first (flat_map (λ (one : Spot). violations_at tables (place_here rows one.steps one.here)) spots)) c.as_slice-spot-items.ensures
    ∙ walk_is tables rows c.in_ok-spots.spots c.in_ok-spots.ensures.broken)

pub loop-spot-preserved : goal.loop-spot-preserved
loop-spot-preserved c =
    let args = c.args in
    let rows = args.config.now in
    let tables : Tables = args.outline.now.schema.now in
    let spot = c.spot-item.result in
    goes_on_at (λ (one : Spot). violations_at tables (place_here rows one.steps one.here)) c.as_slice-spot-items.result.now c.loop-spot.spot-index spot
    c.in_ok-found.found _ c.loop-spot-test.true
    (c.in_ok-found.ensures ∙ ap (λ (steps : List Step). first (violations_at tables (place_here rows steps spot.here))) c.as_slice.ensures
    ∙ ap (λ (one : Spot). first (violations_at tables (place_here rows one.steps one.here))) c.spot-item.is)
    c.if-is_found.ensures c.loop-spot.invariant

pub returns : goal.returns
returns c =
    let args = c.args in
    let rows = args.config.now in
    let tables : Tables = args.outline.now.schema.now in
    walk_ends (λ (one : Spot). violations_at tables (place_here rows one.steps one.here)) c.as_slice-spot-items.result.now c.loop-spot.spot-index
    _ c.loop-spot-test.false
    (c.loop-spot.invariant ∙ ap (λ (spots : List Spot). first (flat_map (λ (one : Spot). violations_at tables (place_here rows one.steps one.here)) spots)) c.as_slice-spot-items.ensures
    ∙ walk_is tables rows c.in_ok-spots.spots c.in_ok-spots.ensures.broken)
