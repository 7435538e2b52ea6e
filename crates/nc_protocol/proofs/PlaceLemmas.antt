-- The tests by which rows are placed are what the schema's definitions say.
use Rattle.std.proofs.Common.{◌≡◌, ◌⊎◌, ◌↔◌, ◌==◌, ◌&&◌, ◌||◌, ℕ, Bool, true, false, cond, ltb, List, [], ◌∷◌, ◌++◌, length, Option, Some, None, refl, sym, ap, subst, ◌∙◌, inl, inr, arith, suc}
use Rattle.std.proofs.lemmas.Bool.{ltb-true, lt-ltb}
use Rattle.std.proofs.lemmas.Bool.Decides.{Decides-eqb}
use Rattle.std.proofs.lemmas.Cmp.{lists_total, nat_list_cmp_total, tied_itself}
use Rattle.std.proofs.lemmas.Slice.Eq.{starts_is}
use Rattle.std.specs.Cmp.Lexicographic.{slice_cmp}
use Rattle.std.specs.List.{All, last_or}
use Rattle.std.specs.Prelude.{option_map, drop}
use Rattle.std.specs.Ordering.{nat_cmp}
use Rattle.std.specs.declared.cmp.Ordering.{Ordering}
use Rattle.std.specs.declared.cmp.Ordering.TheVariants.{Less, Equal, Greater}
use Rattle.nc_names.specs.declared.path.Place.{Place}
use Rattle.nc_names.specs.declared.path.Row.{Row}
use Rattle.nc_names.specs.declared.path.Step.{Step}
use Rattle.nc_schema.specs.Order.{sibling_place, keys_above, IsSystemOrdered, StepBefore, StepsBefore}
use Rattle.nc_schema.specs.Tables.{Tables}
use Rattle.nc_protocol.specs.Laws.{BelowIsBelow, PlacesAreInOrder}
use Rattle.nc_names.specs.Same.{is_same_step}
use Rattle.nc_schema.specs.Standing.{is_less, is_by_user, stands_before, entry_before, sibling_before, placed, place_at, entries, steps_before}
use Rattle.nc_names.proofs.SameLemmas.{step_decide, first_true, second_true, both_true}

pub below_is_below : BelowIsBelow
below_is_below steps path =
    let starts = starts_is step_decide path.steps steps _ refl in
    ((λ e. (drop (length steps) path.steps, starts.0 e)), (λ below. starts.1 below.0 below.1))

pub last_of : {X : Type 0} (o : Option X) (xs : List X) (x : X) → last_or o (xs ++ x ∷ []) ≡ Some x
last_of o [] x = refl
last_of o (y ∷ ys) x = last_of (Some y) ys x

-- no step is before itself
pub step_irreflexive : (tables : Tables) (at : Option ℕ) (step : Step) → ¬ StepBefore tables at step step
step_irreflexive tables at step (inl less) = omega (arith, less)
step_irreflexive tables at step (inr (same, system, less)) =
    let tied = tied_itself (lists_total nat_list_cmp_total) step.keys in
    let clash : Less ≡ Equal = sym less ∙ tied in
    cc

pub less_is : (o : Ordering) → is_less o ≡ true → o ≡ Less
less_is Less e = refl
less_is Equal e = cc
less_is Greater e = cc

pub or_cases : (a b : Bool) → (a || b) ≡ true → (a ≡ true) ⊎ (b ≡ true)
or_cases true b e = inl refl
or_cases false b e = inr e

-- entries that the system orders are in the order of their keys
by_keys : (tables : Tables) (order : List (List (List ℕ))) (step other : Step) → IsSystemOrdered tables step.node →
    entry_before tables order step other ≡ is_less (slice_cmp (slice_cmp nat_cmp) step.keys other.keys)
by_keys tables order step other system = go (is_by_user tables step.node) system
  where
    go : (b : Bool) → b ≡ false → cond b (stands_before order step.keys other.keys) (is_less (slice_cmp (slice_cmp nat_cmp) step.keys other.keys)) ≡ is_less (slice_cmp (slice_cmp nat_cmp) step.keys other.keys)
    go true e = cc
    go false e = refl

sibling_to : (tables : Tables) (at : Option ℕ) (order : List (List (List ℕ))) (step other : Step) → IsSystemOrdered tables step.node →
    sibling_before tables (keys_above tables at) order step other ≡ true → StepBefore tables at step other
sibling_to tables at order step other system e = go (or_cases _ _ e)
  where
    go : ((ltb (sibling_place (keys_above tables at) step.node) (sibling_place (keys_above tables at) other.node) ≡ true)
        ⊎ ((step.node == other.node && entry_before tables order step other) ≡ true)) → StepBefore tables at step other
    go (inl less) = inl (ltb-true _ _ less)
    go (inr both) =
        let number = first_true (step.node == other.node) (entry_before tables order step other) both in
        let entry = second_true (step.node == other.node) (entry_before tables order step other) both in
        inr ((Decides-eqb step.node other.node).0 number, system, less_is _ (sym (by_keys tables order step other system) ∙ entry))

pub sibling_from : (tables : Tables) (at : Option ℕ) (order : List (List (List ℕ))) (step other : Step) →
    StepBefore tables at step other → sibling_before tables (keys_above tables at) order step other ≡ true
sibling_from tables at order step other (inl less) = or_first _ _ (lt-ltb _ _ less)
  where
    or_first : (a b : Bool) → a ≡ true → (a || b) ≡ true
    or_first true b e = refl
    or_first false b e = cc
sibling_from tables at order step other (inr (same, system, less)) =
    or_second _ _ (both_true _ _ ((Decides-eqb step.node other.node).1 same) (by_keys tables order step other system ∙ ap is_less less))
  where
    or_second : (a b : Bool) → b ≡ true → (a || b) ≡ true
    or_second true b e = refl
    or_second false b e = e

steps_are : (tables : Tables) (rows : List Row) (place : Place) (above : List Step) (at : Option ℕ) (steps others : List Step) →
    option_map (λ over. over.node) (last_or None above) ≡ at → All (λ step. IsSystemOrdered tables step.node) steps →
    (steps_before tables rows place above steps others ≡ true) ↔ StepsBefore tables at steps others
steps_are tables rows place above at [] [] last system = ((λ e. cc), (λ before. absurd before))
steps_are tables rows place above at [] (other ∷ others) last system = ((λ e. tt), (λ before. refl))
steps_are tables rows place above at (step ∷ steps) [] last system = ((λ e. cc), (λ before. absurd before))
steps_are tables rows place above at (step ∷ steps) (other ∷ others) last system =
    go (is_same_step step other) refl (steps_are tables rows place (above ++ other ∷ []) (Some other.node) steps others
    (ap (option_map (λ over. over.node)) (last_of None above other)) (λ k d within. system (suc k) d (omega (arith, within))))
  where
    order : List (List (List ℕ))
    order = placed (place_at place others) other.keys (entries rows above other.node)

    here : IsSystemOrdered tables step.node
    here = system 0 step (omega arith)

    go : (b : Bool) → is_same_step step other ≡ b →
        (steps_before tables rows place (above ++ other ∷ []) steps others ≡ true) ↔ StepsBefore tables (Some other.node) steps others →
        (cond b (steps_before tables rows place (above ++ other ∷ []) steps others)
        (sibling_before tables (keys_above tables (option_map (λ over. over.node) (last_or None above))) order step other) ≡ true)
        ↔ (StepBefore tables at step other ⊎ ((step ≡ other) × StepsBefore tables (Some step.node) steps others))
    go true e rest =
        let same = (step_decide step other).0 e in
        ((λ f. inr (same, subst (λ (s : Step). StepsBefore tables (Some s.node) steps others) (sym same) (rest.0 f))), back same)
      where
        back : step ≡ other → StepBefore tables at step other ⊎ ((step ≡ other) × StepsBefore tables (Some step.node) steps others)
            → steps_before tables rows place (above ++ other ∷ []) steps others ≡ true
        back same (inl before) = absurd (step_irreflexive tables at step (subst (λ (s : Step). StepBefore tables at step s) (sym same) before))
        back same (inr (is, before)) = rest.1 (subst (λ (s : Step). StepsBefore tables (Some s.node) steps others) is before)
    go false e rest = (
      (λ f. inl (sibling_to tables at order step other here (subst (λ (a : Option ℕ). sibling_before tables (keys_above tables a) order step other ≡ true) last f))),
      back,
    )
      where
        back : StepBefore tables at step other ⊎ ((step ≡ other) × StepsBefore tables (Some step.node) steps others)
            → sibling_before tables (keys_above tables (option_map (λ over. over.node) (last_or None above))) order step other ≡ true
        back (inl before) =
            subst (λ (a : Option ℕ). sibling_before tables (keys_above tables a) order step other ≡ true) (sym last) (sibling_from tables at order step other before)
        back (inr (is, before)) = let f = (step_decide step other).1 is in let clash : true ≡ false = sym f ∙ e in cc

pub places_are_in_order : PlacesAreInOrder
places_are_in_order tables rows place path other system = steps_are tables rows place [] None path.steps other.steps refl system
