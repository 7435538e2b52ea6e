-- The rows of a data tree stand in document order.
use Rattle.std.proofs.Common.{◌≡◌, ◌≢◌, ◌⊎◌, Bool, true, false, cond, List, [], ◌∷◌, ◌++◌, None, refl, sym, ap, subst, ◌∙◌, inl, inr}
use Rattle.std.proofs.lemmas.List.{append-nil}
use Rattle.std.specs.List.{last_or}
use Rattle.std.specs.Prelude.{option_map}
use Rattle.nc_names.specs.declared.path.Place.{Place}
use Rattle.nc_names.specs.declared.path.Place.TheVariants.{Kept}
use Rattle.nc_names.specs.declared.path.Row.{Row}
use Rattle.nc_names.specs.declared.path.Step.{Step}
use Rattle.nc_schema.specs.Order.{keys_above, StepsBefore, IsBefore}
use Rattle.nc_schema.specs.Tables.{Tables}
use Rattle.nc_protocol.specs.Laws.{RowsStandInOrder}
use Rattle.nc_names.specs.Same.{is_same_step}
use Rattle.nc_schema.specs.Standing.{sibling_before, placed, place_at, entries, steps_before}
use Rattle.nc_protocol.proofs.BoolLemmas.{is_false}
use Rattle.nc_protocol.proofs.Parts.{IsPartOf, pair_at, pairs_from}
use Rattle.nc_protocol.proofs.PathViews.{IsParting, IsHigher, IsLower, view, node_after, higher_order, higher_test, parting_test}
use Rattle.nc_protocol.proofs.RiseLemmas.{goes_first, not_behind}
use Rattle.nc_names.proofs.SameLemmas.{step_itself}
use Rattle.nc_protocol.proofs.SiblingLemmas.{siblings}
use Rattle.nc_schema.proofs.ProperLemmas.{proper_nodes}

-- what is at or below a path is not before it
lower_test : (tables : Tables) (rows : List Row) (place : Place) (above steps rest : List Step) → steps_before tables rows place above (steps ++ rest) steps ≡ false
lower_test tables rows place above [] [] = refl
lower_test tables rows place above [] (step ∷ rest) = refl
lower_test tables rows place above (step ∷ steps) rest =
    by (is_same_step step step) (step_itself step) (lower_test tables rows place (above ++ step ∷ []) steps rest)
  where
    by : (b : Bool) → b ≡ true → steps_before tables rows place (above ++ step ∷ []) (steps ++ rest) steps ≡ false →
        cond b (steps_before tables rows place (above ++ step ∷ []) (steps ++ rest) steps)
        (sibling_before tables (keys_above tables (option_map (λ over. over.node) (last_or None above)))
        (placed (place_at place steps) step.keys (entries rows above step.node)) step step) ≡ false
    by true e rest_is = rest_is
    by false e rest_is = cc

kept_at : (steps : List Step) → place_at Kept steps ≡ Kept
kept_at [] = refl
kept_at (step ∷ steps) = refl

pub rows_stand_in_order : RowsStandInOrder
rows_stand_in_order tables rows proper tree =
    pairs_from (λ (row later : Row). (steps_before tables rows Kept [] row.path.steps later.path.steps ≡ true) × (steps_before tables rows Kept [] later.path.steps row.path.steps ≡ false)) rows
    (λ row later part. by row later part (view row.path.steps later.path.steps))
  where
    by : (row later : Row) → IsPartOf (row ∷ later ∷ []) rows → IsParting row.path.steps later.path.steps ⊎ IsHigher row.path.steps later.path.steps ⊎ IsLower row.path.steps later.path.steps →
        (steps_before tables rows Kept [] row.path.steps later.path.steps ≡ true) × (steps_before tables rows Kept [] later.path.steps row.path.steps ≡ false)
    by row later part (inl p) =
        let goes = siblings tables rows row later p.common p.x p.y p.more p.others (proper_nodes tables proper) tree part p.one p.other p.differ in (
          ap (λ ss. steps_before tables rows Kept [] ss later.path.steps) p.one
              ∙ ap (λ ss. steps_before tables rows Kept [] (p.common ++ p.x ∷ p.more) ss) p.other
              ∙ parting_test tables rows Kept [] p.common p.x p.y p.more p.others p.differ
              ∙ ap (λ place. sibling_before tables (keys_above tables (node_after None p.common)) (placed place p.y.keys (entries rows p.common p.y.node)) p.x p.y) (kept_at p.others)
              ∙ goes_first tables rows p.common p.x p.y goes,
          is_false _ (λ e. not_behind tables rows p.common p.x p.y goes
              (ap (λ place. sibling_before tables (keys_above tables (node_after None p.common)) (placed place p.x.keys (entries rows p.common p.x.node)) p.y p.x) (sym (kept_at p.more))
              ∙ sym (parting_test tables rows Kept [] p.common p.y p.x p.others p.more (λ same. p.differ (sym same)))
              ∙ ap (λ ss. steps_before tables rows Kept [] (p.common ++ p.y ∷ p.others) ss) (sym p.one)
              ∙ ap (λ ss. steps_before tables rows Kept [] ss row.path.steps) (sym p.other) ∙ e)),
        )
    by row later part (inr (inl h)) = (
      ap (λ ss. steps_before tables rows Kept [] row.path.steps ss) h.longer ∙ higher_test tables rows Kept [] row.path.steps h.step h.rest,
      ap (λ ss. steps_before tables rows Kept [] ss row.path.steps) h.longer ∙ lower_test tables rows Kept [] row.path.steps (h.step ∷ h.rest),
    )
    by row later part (inr (inr ([], is))) =
        absurd (pair_at (λ (one other : Row). one.path ≢ other.path) rows row later tree.distinct part (λ i. record { steps = (is ∙ append-nil later.path.steps) i }))
    by row later part (inr (inr (next ∷ rest, is))) =
        absurd (pair_at (λ (one other : Row). ¬ IsBefore tables other.path one.path) rows row later tree.ordered part
        (subst (λ (ss : List Step). StepsBefore tables None later.path.steps ss) (sym is) (higher_order tables None later.path.steps next rest)))
