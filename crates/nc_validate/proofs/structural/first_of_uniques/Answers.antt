use Rattle.std.proofs.Common.{◌≡◌, ◌∙◌, [], ℕ, List, ap, false, rules, true}
use Rattle.std.specs.List.{flat_map}
use Rattle.nc_defaults.specs.Within.{place_here, places_in}
use Rattle.nc_defaults.specs.declared.spots.Spot.{Spot}
use Rattle.nc_schema.specs.Kinds.{holds_nodes}
use Rattle.nc_schema.specs.Places.{Place}
use Rattle.nc_schema.specs.Tables.{Tables}
use Rattle.nc_schema.specs.Violations.{unique_violations}
use Rattle.nc_validate.specs.inner.First.{first}
use Rattle.nc_validate.proofs.ChildrenLemmas.{no_places, no_uniques, uniques_listed}
use Rattle.nc_validate.proofs.structural.first_of_uniques.Goals as goal

pub returns-then-is_empty : goal.returns-then-is_empty
returns-then-is_empty c =
    let none : c.args.child.1.now.uniques ≡ [] = search rules in
    no_uniques c.args.outline.now.schema.now (place_here c.args.config.now c.args.steps.now c.args.here) c.args.child.0 c.args.child.1.now none

pub returns-then-not-has_places : goal.returns-then-not-has_places
returns-then-not-has_places c =
    let none : holds_nodes c.args.child.1.now.kind ≡ false = cc in
    no_places c.args.outline.now.schema.now (place_here c.args.config.now c.args.steps.now c.args.here) c.args.child.0 c.args.child.1.now none

pub returns : goal.returns
returns c =
    let args = c.args in
    let tables : Tables = args.outline.now.schema.now in
    let place : Place = place_here args.config.now args.steps.now args.here in
    let node = args.child.1.now in
    let holds : holds_nodes node.kind ≡ true = cc in
    c.in_ok-found.ensures
    ∙ ap (λ (ts : Tables). first (flat_map (unique_violations ts (places_in args.config.now c.as_slice.result.now)) c.as_slice-uniques.result.now)) c.requires.outline.children
    ∙ ap (λ (uniques : List (List ℕ)). first (flat_map (unique_violations tables (places_in args.config.now c.as_slice.result.now)) uniques)) c.as_slice-uniques.ensures
    ∙ ap (λ (spots : List Spot). first (flat_map (unique_violations tables (places_in args.config.now spots)) node.uniques)) c.as_slice.ensures
    ∙ ap (λ (places : List Place). first (flat_map (unique_violations tables places) node.uniques)) c.in_ok-entries.ensures.places
    ∙ ap first (uniques_listed tables place args.child.0 node holds)
