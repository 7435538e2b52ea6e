-- Places that were reached.
use Rattle.std.proofs.Common.{◌≡◌, ◌+◌, ◌++◌, ◌<◌, ℕ, zero, suc, Bool, true, false, cond, List, [], ◌∷◌, Option, Some, None, length, take, get_or, refl, sym, ap, subst, ◌∙◌, Bor}
use Rattle.std.specs.Prelude.{IfSome, option_map, option_and_then}
use Rattle.std.specs.BTreeMap.{BTreeMap, get}
use Rattle.std.specs.Cmp.Lexicographic.{pointwise_decides}
use Rattle.std.specs.Ordering.{is_eq}
use Rattle.std.proofs.lemmas.List.{take_more}
use Rattle.nc_names.proofs.StepOrder.{order_ties}
use Rattle.nc_names.proofs.SameLemmas.{step_decide}
use Rattle.nc_names.specs.Same.{is_same_path}
use Rattle.nc_names.specs.declared.path.Row.{Row}
use Rattle.nc_names.specs.declared.path.Step.{Step}
use Rattle.nc_schema.specs.Places.{Place, place_at, place_below, top_place}
use Rattle.nc_schema.specs.Tables.{Tables}
use Rattle.nc_defaults.specs.declared.here.Here.{Here}
use Rattle.nc_defaults.specs.Within.{IsWithin, place_here}
use Rattle.nc_refs.specs.inner.Trails.{IsReached, order}

-- what holds at each key still does with one entry more for which it does
pub with_entry : {X : Type 0} (P : List Step → X → Type 0) (before now : BTreeMap (Bor (List Step)) X) (key : Bor (List Step)) (it : X) → P key.now it →
    ((other : Bor (List Step)) → get order now other ≡ cond (is_eq (order key other)) (Some it) (get order before other)) →
    ((other : Bor (List Step)) → IfSome (get order before other) (P other.now)) → (other : Bor (List Step)) → IfSome (get order now other) (P other.now)
with_entry P before now key it is put each other = by (is_same_path key.now other.now) refl
  where
    by : (same : Bool) → is_same_path key.now other.now ≡ same → IfSome (get order now other) (P other.now)
    by true e =
        let found = put other ∙ ap (λ b. cond b (Some it) (get order before other)) (order_ties key.now other.now ∙ e) in
        subst (λ o. IfSome o (P other.now)) (sym found) (subst (λ (steps : List Step). P steps it) ((pointwise_decides step_decide key.now other.now).0 e) is)
    by false e =
        let found = put other ∙ ap (λ b. cond b (Some it) (get order before other)) (order_ties key.now other.now ∙ e) in
        subst (λ o. IfSome o (P other.now)) (sym found) (each other)

and_some : {X : Type 0} (o : Option X) → option_and_then Some o ≡ o
and_some None = refl
and_some (Some x) = refl

-- the place to which one step more leads
pub place_after : (tables : Tables) (place : Place) (steps : List Step) (step : Step) →
    place_at tables place (steps ++ step ∷ []) ≡ option_and_then (λ below. place_below tables below step) (place_at tables place steps)
place_after tables place [] step = and_some (place_below tables place step)
place_after tables place (first ∷ steps) step = by (λ below. place_after tables below steps step) (place_below tables place first)
  where
    by : ((below : Place) → place_at tables below (steps ++ step ∷ []) ≡ option_and_then (λ over. place_below tables over step) (place_at tables below steps)) → (o : Option Place) → option_and_then (λ below. place_at tables below (steps ++ step ∷ [])) o
        ≡ option_and_then (λ below. place_below tables below step) (option_and_then (λ below. place_at tables below steps) o)
    by after None = refl
    by after (Some below) = after below

pub reached_more : (tables : Tables) (rows : List Row) (steps : List Step) (at : ℕ) (step : Step) (here : Here) (found : Option Here) →
    take (at + 1) steps ≡ take at steps ++ step ∷ [] → IsReached tables rows (take at steps) (Some here) →
    option_map (place_here rows (take at steps ++ step ∷ [])) found ≡ place_below tables (place_here rows (take at steps) here) step → IfSome found (IsWithin rows) →
    IsReached tables rows (take (at + 1) steps) found
reached_more tables rows steps at step here found more reached is within = record {
  place =
      ap (λ (ss : List Step). option_map (place_here rows ss) found) more ∙ is
      ∙ ap (λ o. option_and_then (λ below. place_below tables below step) o) reached.place
      ∙ sym (place_after tables (top_place rows) (take at steps) step)
      ∙ ap (λ (ss : List Step). place_at tables (top_place rows) ss) (sym more);
  within = within;
}

-- where the first steps lead to no place, all of them lead to none
none_stays : (tables : Tables) (n : ℕ) (steps : List Step) (place : Place) → place_at tables place (take n steps) ≡ None → place_at tables place steps ≡ None
none_stays tables zero steps place none = cc
none_stays tables (suc n) [] place none = cc
none_stays tables (suc n) (step ∷ steps) place none = by (none_stays tables n steps) (place_below tables place step) none
  where
    by : ((below : Place) → place_at tables below (take n steps) ≡ None → place_at tables below steps ≡ None) → (o : Option Place) →
        option_and_then (λ below. place_at tables below (take n steps)) o ≡ None → option_and_then (λ below. place_at tables below steps) o ≡ None
    by stays None none = refl
    by stays (Some below) none = stays below none

pub not_reached : (tables : Tables) (rows : List Row) (steps : List Step) (at : ℕ) → IsReached tables rows (take at steps) None → IsReached tables rows steps None
not_reached tables rows steps at reached = record {
  place = sym (none_stays tables at steps (top_place rows) (sym reached.place));
  within = tt;
}

pub one_further : (steps : List Step) (at : ℕ) (step : Step) → at < length steps → step ≡ get_or steps at step → take (at + 1) steps ≡ take at steps ++ step ∷ []
one_further steps at step within is = take_more steps at step within ∙ ap (λ s. take at steps ++ s ∷ []) (sym is)
