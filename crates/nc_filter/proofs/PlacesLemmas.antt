-- Sets of the nodes at or below which rows stand.
use Rattle.std.proofs.Common.{◌≡◌, ◌||◌, ◌+◌, ◌<◌, ℕ, Bool, true, false, cond, List, [], ◌∷◌, ◌++◌, length, take, get_or, refl, sym, ap, ◌∙◌, Bor}
use Rattle.std.specs.Prelude.{map}
use Rattle.std.specs.BTreeSet.{BTreeSet, contains}
use Rattle.std.specs.Ordering.{is_eq}
use Rattle.std.proofs.lemmas.List.{take_more}
use Rattle.nc_names.proofs.StepOrder.{order_ties}
use Rattle.nc_names.specs.Same.{is_at_or_below, is_same_path}
use Rattle.nc_names.specs.declared.path.Row.{Row}
use Rattle.nc_names.specs.declared.path.Step.{Step}
use Rattle.nc_filter.specs.inner.Tables.{AddsPlace, AddsPlaces, order}
use Rattle.nc_filter.proofs.StepLemmas.{below_push}

pub place_added : (before now : BTreeSet (Bor (List Step))) (steps : Bor (List Step)) →
    ((key : Bor (List Step)) → contains order now key ≡ cond (is_eq (order steps key)) true (contains order before key)) → AddsPlace before now steps.now
place_added before now steps put key = put key ∙ ap (λ b. cond b true (contains order before key)) (order_ties steps.now key.now) ∙ by (is_same_path steps.now key.now) (contains order before key)
  where
    by : (b c : Bool) → cond b true c ≡ (b || c)
    by true c = refl
    by false c = refl

turned : (s o b : Bool) → (s || (o || b)) ≡ (o || (b || s))
turned true true b = refl
turned true false true = refl
turned true false false = refl
turned false true b = refl
turned false false true = refl
turned false false false = refl

pub step_added : (first before now : BTreeSet (Bor (List Step))) (steps : List Step) (at : ℕ) (step : Step) → at < length steps → AddsPlaces first before (take at steps) →
    AddsPlace before now (take (at + 1) steps) → AddsPlaces first now (take (at + 1) steps)
step_added first before now steps at step within so_far added key =
    added key
    ∙ (λ i. is_same_path (more i) key.now || so_far key i)
    ∙ turned (is_same_path (take at steps ++ get_or steps at step ∷ []) key.now) (contains order first key) (is_at_or_below key.now (record { steps = take at steps }))
    ∙ ap (λ b. contains order first key || b) (sym (below_push key.now (take at steps) (get_or steps at step)))
    ∙ ap (λ (path : List Step). contains order first key || is_at_or_below key.now (record { steps = path })) (sym more)
  where
    more : take (at + 1) steps ≡ take at steps ++ get_or steps at step ∷ []
    more = take_more steps at step within

pub map_push : (rows : List (Bor Row)) (row : Bor Row) → map (λ row. row.now) (rows ++ row ∷ []) ≡ map (λ row. row.now) rows ++ row.now ∷ []
map_push [] row = refl
map_push (one ∷ rows) row = ap (λ more. one.now ∷ more) (map_push rows row)

or_false : (b : Bool) → (b || false) ≡ b
or_false true = refl
or_false false = refl
