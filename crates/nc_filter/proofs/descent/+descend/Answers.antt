use Rattle.std.proofs.Common.{◌∙◌, ◌||◌, ◌+◌, List, Some, false, ap, refl, subst, sym}
use Rattle.std.specs.Prelude.{map}
use Rattle.std.specs.List.{list_any}
use Rattle.nc_filter.specs.declared.groups.Group.{Group}
use Rattle.nc_filter.specs.declared.runs.Run.{Run}
use Rattle.nc_filter.specs.declared.rows.Spot.{Spot}
use Rattle.nc_filter.specs.declared.wants.Want.{Want}
use Rattle.nc_filter.specs.inner.Instances.{elems_pick, wants_pick}
use Rattle.nc_filter.specs.inner.Labels.{AreSpots, AreWants, want_picks}
use Rattle.nc_filter.specs.inner.Runs.{AreKnown, AreRuns}
use Rattle.nc_filter.proofs.FlatLemmas.{all_told}
use Rattle.nc_filter.proofs.InstanceLemmas.{wants_told}
use Rattle.nc_filter.proofs.MemberLemmas.{keyed}
use Rattle.nc_filter.proofs.Unions.{or_false}
use Rattle.nc_filter.proofs.WalkLemmas.{none_there}
use Rattle.nc_filter.proofs.descent.+descend.Goals as goal

pub pick_groups-returns-then-is_empty : goal.pick_groups-returns-then-is_empty
pick_groups-returns-then-is_empty t c = λ all index test.
    let wants : List Want = c.as_slice-some.result.now in
    let spots : List Spot = c.as_slice-places.result.now in
    c.in_ok-found.ensures test
    ∙ sym (or_false (list_any test (map (λ row. row.now) c.args.out) || list_any (want_picks c.args.basis.now.schema.now c.args.depth spots test) wants))
    ∙ all_told c.args.basis.now.schema.now all c.args.depth spots test c.args.groups c.args.whole.now wants c.in_ok-asked.asked (list_any test (map (λ row. row.now) c.args.out)) false
    (subst (λ (spots : List Spot). AreSpots c.args.groups c.args.whole.now spots) (sym c.as_slice-places.ensures)
    (subst (λ (groups : List Group). AreSpots groups c.args.whole.now c.in_ok-spots.spots) c.as_slice.ensures c.in_ok-spots.ensures))
    (subst (λ (wants : List Want). AreWants c.args.groups wants) (sym c.as_slice-some.ensures) c.in_ok-wants.ensures)
    c.in_ok-asked.ensures.spots
    (sym (ap (list_any (wants_pick (elems_pick c.args.basis.now.schema.now all (c.args.depth + 1) (Some c.args.depth)) wants test))
    (sym c.as_slice-here.ensures ∙ none_there c.as_slice-here.result.now c.is_empty.result c.is_empty.ensures c.if-is_empty.true)))

pub pick_groups-returns : goal.pick_groups-returns
pick_groups-returns t c = λ all index test.
    let wants : List Want = c.as_slice-some.result.now in
    let spots : List Spot = c.as_slice-places.result.now in
    c.in_ok-more.ensures all index refl test
    ∙ ap (λ b. b || list_any (wants_pick (elems_pick c.args.basis.now.schema.now all (c.args.depth + 1) (Some c.args.depth)) wants test) c.as_slice-here.result.now) (c.in_ok-found.ensures test)
    ∙ all_told c.args.basis.now.schema.now all c.args.depth spots test c.args.groups c.args.whole.now wants c.in_ok-asked.asked (list_any test (map (λ row. row.now) c.args.out))
    (list_any (wants_pick (elems_pick c.args.basis.now.schema.now all (c.args.depth + 1) (Some c.args.depth)) wants test) c.as_slice-here.result.now)
    (subst (λ (spots : List Spot). AreSpots c.args.groups c.args.whole.now spots) (sym c.as_slice-places.ensures)
    (subst (λ (groups : List Group). AreSpots groups c.args.whole.now c.in_ok-spots.spots) c.as_slice.ensures c.in_ok-spots.ensures))
    (subst (λ (wants : List Want). AreWants c.args.groups wants) (sym c.as_slice-some.ensures) c.in_ok-wants.ensures)
    c.in_ok-asked.ensures.spots
    (ap (list_any (wants_pick (elems_pick c.args.basis.now.schema.now all (c.args.depth + 1) (Some c.args.depth)) wants test)) c.as_slice-here.ensures)

pub pick_wants-returns : goal.pick_wants-returns
pick_wants-returns t c = λ all index under test.
    let known = subst (λ (runs : List Run). AreKnown c.args.basis.now.schema.now all c.args.upper runs) (sym c.as_slice-whole.ensures) (c.in_ok-runs.ensures.known all index) in
    c.in_ok-found.ensures all index test
    ∙ ap (λ b. list_any test (map (λ row. row.now) c.args.out) || b)
    (wants_told c.args.basis.now.schema.now all c.args.depth c.args.upper under test c.args.wants.now c.args.spots.now c.as_slice-whole.result.now c.in_ok-groups.groups
    (subst (λ (runs : List Run). AreRuns c.args.depth c.args.spots.now runs) (sym c.as_slice-whole.ensures) c.in_ok-runs.ensures.runs)
    known
    (c.in_ok-groups.ensures (keyed c.args.basis.now.schema.now all c.args.upper c.in_ok-table.table.items c.as_slice-whole.result.now known (c.in_ok-table.ensures all index))))
