use Rattle.std.proofs.Common.{◌≡◌, ◌∙◌, ℕ, List, ap}
use Rattle.std.specs.List.{flat_map}
use Rattle.nc_defaults.specs.Children.{children_of}
use Rattle.nc_defaults.specs.Within.{place_here}
use Rattle.nc_schema.specs.Places.{Place, node_there}
use Rattle.nc_schema.specs.Tables.{Tables}
use Rattle.nc_validate.specs.inner.Children.{child_at}
use Rattle.nc_validate.specs.inner.First.{first}
use Rattle.nc_validate.proofs.ChoiceLemmas.{children_listed}
use Rattle.nc_validate.proofs.FirstLemmas.{goes_on_at, stops_at, walk_ends}
use Rattle.nc_validate.proofs.structural.first_of_nodes.Goals as goal

pub returns-then-is_found : goal.returns-then-is_found
returns-then-is_found c =
    let args = c.args in
    let tables : Tables = args.outline.now.schema.now in
    let place : Place = place_here args.config.now args.steps.now args.here in
    let items : List ℕ = c.in_parent-number-items.result.now in
    let are : items ≡ children_of tables.nodes (node_there place) =
    c.in_parent-number-items.ensures
    ∙ ap (λ (ts : Tables). children_of ts.nodes c.node_there.result) c.requires.outline.children ∙ ap (children_of tables.nodes) c.node_there.ensures in
    stops_at (child_at tables place) items c.loop-number.number-index 0 c.in_ok-found.found _ c.loop-number-test.true c.in_ok-found.ensures c.if-is_found.ensures
    (c.loop-number.invariant ∙ ap (λ (ns : List ℕ). first (flat_map (child_at tables place) ns)) are ∙ ap first (children_listed tables place))

pub loop-number-preserved : goal.loop-number-preserved
loop-number-preserved c =
    let args = c.args in
    let place : Place = place_here args.config.now args.steps.now args.here in
    goes_on_at (child_at args.outline.now.schema.now place) c.in_parent-number-items.result.now c.loop-number.number-index 0 c.in_ok-found.found _
    c.loop-number-test.true c.in_ok-found.ensures c.if-is_found.ensures c.loop-number.invariant

pub returns : goal.returns
returns c =
    let args = c.args in
    let tables : Tables = args.outline.now.schema.now in
    let place : Place = place_here args.config.now args.steps.now args.here in
    let items : List ℕ = c.in_parent-number-items.result.now in
    let are : items ≡ children_of tables.nodes (node_there place) =
    c.in_parent-number-items.ensures
    ∙ ap (λ (ts : Tables). children_of ts.nodes c.node_there.result) c.requires.outline.children ∙ ap (children_of tables.nodes) c.node_there.ensures in
    walk_ends (child_at tables place) items c.loop-number.number-index _ c.loop-number-test.false
    (c.loop-number.invariant ∙ ap (λ (ns : List ℕ). first (flat_map (child_at tables place) ns)) are ∙ ap first (children_listed tables place))
