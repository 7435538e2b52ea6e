use Rattle.std.proofs.Common.{◌≡◌, ◌++◌, ◌∙◌, [], List, ap, sym, subst}
use Rattle.std.proofs.lemmas.List.Elements.{All-nil}
use Rattle.nc_schema.specs.Places.{Place}
use Rattle.nc_defaults.specs.declared.spots.Spot.{Spot}
use Rattle.nc_defaults.specs.Within.{AreWithin, IsWithin, place_here, places_in}
use Rattle.nc_defaults.specs.inner.Walks.{places_under}
use Rattle.nc_defaults.proofs.SoughtLemmas.{same_without, upward_all}
use Rattle.nc_defaults.proofs.SpanLemmas.{none_there}
use Rattle.nc_defaults.proofs.spots.places_below.Goals as goal

pub returns-then-not-have_places_in-clause-places : goal.returns-then-not-have_places_in-clause-places
returns-then-not-have_places_in-clause-places c =
    let args = c.args in
    let config = args.config.now in
    let place : Place = place_here config args.steps.now args.here in
    ap (places_in config) c.new-out.ensures
    ∙ sym (none_there args.children.now place c.node_there.result 0 (sym c.node_there.ensures) (sym c.have_places_in.ensures ∙ c.if-not-have_places_in.true))

pub returns-then-not-have_places_in-clause-within : goal.returns-then-not-have_places_in-clause-within
returns-then-not-have_places_in-clause-within c =
    let config = c.args.config.now in
    subst (AreWithin config) (sym c.new-out.ensures) (All-nil (λ (one : Spot). IsWithin config one.here))

pub add_below-requires-clause-marks : goal.add_below-requires-clause-marks
add_below-requires-clause-marks c = upward_all c.args.children.now.nodes

pub returns-clause-places : goal.returns-clause-places
returns-clause-places c =
    let args = c.args in
    let config = args.config.now in
    let under : List Place = places_under args.children.now (place_here config args.steps.now args.here) 0 in
    let none : places_in config c.new-out.result ≡ [] = ap (places_in config) c.new-out.ensures in
    same_without (places_in config c.add_below.new.out) (places_in config c.new-out.result ++ under) c.in_ok-add_below.ensures.places
    ∙ ap (λ (ps : List Place). ps ++ under) none
