use Rattle.std.proofs.Common.{◌∙◌, ◌||◌, List, ℕ, ap, subst, sym}
use Rattle.std.specs.Prelude.{map}
use Rattle.std.specs.List.{flat_map, list_any}
use Rattle.nc_filter.specs.inner.Labels.{label_picks}
use Rattle.nc_filter.specs.inner.Lists.{IsSame}
use Rattle.nc_filter.proofs.FlatLemmas.{labels_told, no_labels}
use Rattle.nc_filter.proofs.SpotLemmas.{any_done, any_next}
use Rattle.nc_filter.proofs.Unions.{or_false}
use Rattle.nc_filter.proofs.WalkLemmas.{none_there}
use Rattle.nc_filter.proofs.flat.pick_labels.Goals as goal

pub returns-then-is_empty : goal.returns-then-is_empty
returns-then-is_empty c = λ test.
    no_labels c.args.schema.now c.args.depth c.args.spots.now c.args.wants.now c.as_slice-some.result.now test (list_any test (map (λ row. row.now) c.args.out))
    (subst (λ (labels : List (List ℕ)). IsSame (flat_map (λ want. want.labels) c.args.wants.now) labels) (sym c.as_slice-some.ensures) c.in_ok-all.ensures)
    (none_there c.as_slice-some.result.now c.is_empty.result c.is_empty.ensures c.if-is_empty.true)

pub loop-label-init : goal.loop-label-init
loop-label-init c = λ test. sym (or_false (list_any test (map (λ row. row.now) c.args.out)))

pub loop-label-preserved : goal.loop-label-preserved
loop-label-preserved c = λ test.
    any_next (label_picks c.args.schema.now c.args.depth c.args.spots.now c.args.wants.now test) c.as_slice-some.result.now c.loop-label.label-index
    c.label-item.result c.label-item.result (list_any test (map (λ row. row.now) c.args.out)) (list_any test (map (λ row. row.now) c.loop-label.out))
    (list_any test (map (λ row. row.now) c.in_ok-out.out)) c.loop-label-test.true c.label-item.is
    (c.in_ok-out.ensures c.args.schema.now c.args.depth c.in_ok-rows.ensures c.in_ok-table.ensures test) (c.loop-label.invariant test)

pub returns : goal.returns
returns c = λ test.
    any_done (label_picks c.args.schema.now c.args.depth c.args.spots.now c.args.wants.now test) c.as_slice-some.result.now c.loop-label.label-index
    (list_any test (map (λ row. row.now) c.args.out)) (list_any test (map (λ row. row.now) c.loop-label.out)) c.loop-label-test.false (c.loop-label.invariant test)
    ∙ ap (λ b. list_any test (map (λ row. row.now) c.args.out) || b)
    (labels_told c.args.schema.now c.args.depth c.args.spots.now c.args.wants.now c.as_slice-some.result.now test
    (subst (λ (labels : List (List ℕ)). IsSame (flat_map (λ want. want.labels) c.args.wants.now) labels) (sym c.as_slice-some.ensures) c.in_ok-all.ensures))
