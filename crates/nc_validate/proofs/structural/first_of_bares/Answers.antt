use Rattle.std.proofs.Common.{◌≡◌, ◌∙◌, Bor, List, ap, map}
use Rattle.std.specs.List.{flat_map}
use Rattle.nc_defaults.specs.Within.{place_here}
use Rattle.nc_schema.specs.Places.{Place}
use Rattle.nc_schema.specs.Tables.{Tables}
use Rattle.nc_schema.specs.declared.node.Choice.{Choice}
use Rattle.nc_validate.specs.inner.Children.{bare_from}
use Rattle.nc_validate.specs.inner.Choices.{bare_of}
use Rattle.nc_validate.specs.inner.First.{first}
use Rattle.nc_validate.proofs.ChoiceLemmas.{bares_listed}
use Rattle.nc_validate.proofs.FirstLemmas.{walk_ends, walk_stops}
use Rattle.nc_validate.proofs.structural.first_of_bares.Goals as goal

pub returns-then-is_found : goal.returns-then-is_found
returns-then-is_found c =
    let args = c.args in
    let outline = args.outline.now in
    let tables : Tables = outline.schema.now in
    let place : Place = place_here args.config.now args.steps.now args.here in
    let items : List (Bor Choice) = c.as_slice-choice-items.result.now in
    let all : flat_map (λ (one : Bor Choice). bare_of tables place one.now) items ≡ bare_from tables place 0 =
    bares_listed tables place outline.firsts items c.requires.outline.firsts (ap (map (λ (one : Bor Choice). one.now)) c.as_slice-choice-items.ensures ∙ c.requires.outline.bares) in
    walk_stops (λ (one : Bor Choice). bare_of tables place one.now) items c.loop-choice.choice-index c.choice-item.result c.in_ok-found.found _
    c.loop-choice-test.true c.choice-item.is c.in_ok-found.ensures c.if-is_found.ensures (c.loop-choice.invariant ∙ ap first all)

pub returns : goal.returns
returns c =
    let args = c.args in
    let outline = args.outline.now in
    let tables : Tables = outline.schema.now in
    let place : Place = place_here args.config.now args.steps.now args.here in
    let items : List (Bor Choice) = c.as_slice-choice-items.result.now in
    let all : flat_map (λ (one : Bor Choice). bare_of tables place one.now) items ≡ bare_from tables place 0 =
    bares_listed tables place outline.firsts items c.requires.outline.firsts (ap (map (λ (one : Bor Choice). one.now)) c.as_slice-choice-items.ensures ∙ c.requires.outline.bares) in
    walk_ends (λ (one : Bor Choice). bare_of tables place one.now) items c.loop-choice.choice-index _ c.loop-choice-test.false (c.loop-choice.invariant ∙ ap first all)
