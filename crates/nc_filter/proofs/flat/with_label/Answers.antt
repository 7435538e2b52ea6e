use Rattle.std.proofs.Common.{◌∙◌, ◌&&◌, ◌||◌, List, ℕ, ap, subst, sym}
use Rattle.std.specs.Prelude.{map}
use Rattle.std.specs.List.{list_any}
use Rattle.nc_filter.specs.inner.Labels.{IsUnion, at}
use Rattle.nc_filter.specs.inner.Runs.{in_slot}
use Rattle.nc_filter.specs.inner.Sets.{bit_of}
use Rattle.nc_filter.proofs.SpotLemmas.{label_done, label_no_rows}
use Rattle.nc_filter.proofs.WalkLemmas.{none_there}
use Rattle.nc_filter.proofs.flat.with_label.Goals as goal

pub returns-then-is_empty : goal.returns-then-is_empty
returns-then-is_empty c = λ tables depth spotted wanted.
    label_no_rows tables depth c.args.labelled.now.spots.now c.args.labelled.now.wants.now c.args.labelled.now.rows c.args.label.now (map (λ row. row.now) c.args.out) spotted
    (sym c.slot-places.ensures ∙ none_there c.slot-places.result.now c.is_empty.result c.is_empty.ensures c.if-is_empty.true)

pub returns : goal.returns
returns c = λ tables depth spotted wanted.
    label_done tables depth c.args.labelled.now.spots.now c.args.labelled.now.wants.now c.args.labelled.now.rows c.args.labelled.now.groups c.as_slice-numbers.result.now c.args.label.now (map (λ row. row.now) c.args.out)
    (map (λ row. row.now) c.in_ok-found.found) spotted wanted
    (subst (λ (words : List ℕ). IsUnion words c.args.labelled.now.wants.now (in_slot c.args.labelled.now.groups c.args.label.now)) (sym c.as_slice-numbers.ensures)
    (subst (λ (some : List ℕ). IsUnion c.in_ok-set.set c.args.labelled.now.wants.now some) c.slot-some.ensures c.in_ok-set.ensures))
    (λ test. c.in_ok-found.ensures test
    ∙ ap (λ some. list_any test (map (λ row. row.now) c.args.out) || list_any (at c.args.labelled.now.spots.now (λ spot. bit_of c.as_slice-numbers.result.now spot.number && test spot.row.now)) some) c.slot-places.ensures)
