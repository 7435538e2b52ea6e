-- Document order is strict, and total on what the system orders.
use Rattle.std.proofs.Common.{◌≡◌, ◌⊎◌, ◌+◌, ◌<◌, ℕ, Bool, true, false, cond, eqb, List, [], ◌∷◌, Option, Some, None, refl, sym, ap, subst, ◌∙◌, inl, inr, arith, suc}
use Rattle.std.proofs.lemmas.Bool.{eqb-true}
use Rattle.std.proofs.lemmas.Cmp.{lists_total, nat_list_cmp_total, tied_itself, ranked}
use Rattle.std.specs.Cmp.{IsTotalOrder}
use Rattle.std.specs.Cmp.Lexicographic.{slice_cmp}
use Rattle.std.specs.FinMap.{slice_cmp-IsAntisymmetric, nat_cmp-IsAntisymmetric}
use Rattle.std.specs.List.{All}
use Rattle.std.specs.Ordering.{nat_cmp, ordering_reverse, MatchOrdering}
use Rattle.std.specs.declared.cmp.Ordering.{Ordering}
use Rattle.std.specs.declared.cmp.Ordering.TheVariants.{Less, Equal, Greater}
use Rattle.nc_names.specs.declared.path.Step.{Step}
use Rattle.nc_schema.specs.Tables.{Tables}
use Rattle.nc_schema.specs.Order.{sibling_place, keys_above, IsSystemOrdered, StepBefore, StepsBefore, IsBefore}
use Rattle.nc_schema.specs.Laws.{OrderIsStrict, OrderIsTotal}

-- keys are ordered totally
abbrev order : IsTotalOrder (slice_cmp (slice_cmp nat_cmp))
order = lists_total nat_list_cmp_total

-- nodes in one place are one
pub same_node : (keys : List ℕ) (a b : ℕ) → sibling_place keys a ≡ sibling_place keys b → a ≡ b
same_node [] a b e = e
same_node (key ∷ keys) a b e = by (eqb a key) (eqb b key) refl refl e (same_node keys a b)
  where
    by : (x y : Bool) → eqb a key ≡ x → eqb b key ≡ y → cond x 0 (sibling_place keys a + 1) ≡ cond y 0 (sibling_place keys b + 1) → (sibling_place keys a ≡ sibling_place keys b → a ≡ b) → a ≡ b
    by true true p q e same = eqb-true a key p ∙ sym (eqb-true b key q)
    by true false p q e same = absurd (omega (arith, e))
    by false true p q e same = absurd (omega (arith, e))
    by false false p q e same = same (omega (arith, e))

-- no step is before itself
pub step_irreflexive : (tables : Tables) (above : Option ℕ) (step : Step) → ¬ StepBefore tables above step step
step_irreflexive tables above step (inl less) = omega (arith, less)
step_irreflexive tables above step (inr (same, system, less)) =
    let tied = tied_itself order step.keys in
    let clash : Less ≡ Equal = sym less ∙ tied in
    cc

steps_irreflexive : (tables : Tables) (above : Option ℕ) (steps : List Step) → ¬ StepsBefore tables above steps steps
steps_irreflexive tables above [] before = before
steps_irreflexive tables above (step ∷ steps) (inl before) = step_irreflexive tables above step before
steps_irreflexive tables above (step ∷ steps) (inr (same, before)) = steps_irreflexive tables (Some step.node) steps before

-- steps before steps that are before others
pub step_transitive : (tables : Tables) (above : Option ℕ) (a b c : Step) → StepBefore tables above a b → StepBefore tables above b c → StepBefore tables above a c
step_transitive tables above a b c (inl p) (inl q) = inl (omega (arith, p, q))
step_transitive tables above a b c (inl p) (inr (same, system, less)) =
    inl (subst (λ (n : ℕ). sibling_place (keys_above tables above) a.node < sibling_place (keys_above tables above) n) same p)
step_transitive tables above a b c (inr (same, system, less)) (inl q) =
    inl (subst (λ (n : ℕ). sibling_place (keys_above tables above) n < sibling_place (keys_above tables above) c.node) (sym same) q)
step_transitive tables above a b c (inr (same, system, less)) (inr (same', system', less')) =
    inr (same ∙ same', system, order.trans a.keys b.keys c.keys less less')

steps_transitive : (tables : Tables) (above : Option ℕ) (xs ys zs : List Step) → StepsBefore tables above xs ys → StepsBefore tables above ys zs → StepsBefore tables above xs zs
steps_transitive tables above [] [] zs p q = absurd p
steps_transitive tables above [] (y ∷ ys) [] p q = absurd q
steps_transitive tables above [] (y ∷ ys) (z ∷ zs) p q = tt
steps_transitive tables above (x ∷ xs) [] zs p q = absurd p
steps_transitive tables above (x ∷ xs) (y ∷ ys) [] p q = absurd q
steps_transitive tables above (x ∷ xs) (y ∷ ys) (z ∷ zs) (inl p) (inl q) = inl (step_transitive tables above x y z p q)
steps_transitive tables above (x ∷ xs) (y ∷ ys) (z ∷ zs) (inl p) (inr (same, q)) = inl (subst (λ (s : Step). StepBefore tables above x s) same p)
steps_transitive tables above (x ∷ xs) (y ∷ ys) (z ∷ zs) (inr (same, p)) (inl q) = inl (subst (λ (s : Step). StepBefore tables above s z) (sym same) q)
steps_transitive tables above (x ∷ xs) (y ∷ ys) (z ∷ zs) (inr (same, p)) (inr (same', q)) =
    inr (same ∙ same', steps_transitive tables (Some x.node) xs ys zs p (subst (λ (s : Step). StepsBefore tables (Some s.node) ys zs) (sym same) q))

pub order_is_strict : OrderIsStrict
order_is_strict = record {
  irreflexive = λ tables path. steps_irreflexive tables None path.steps;
  transitive = λ tables path middle other. steps_transitive tables None path.steps middle.steps other.steps;
}

-- of two siblings that the system orders one is before the other, or they are one
pub step_total : (tables : Tables) (above : Option ℕ) (a b : Step) → IsSystemOrdered tables a.node → StepBefore tables above a b ⊎ (a ≡ b) ⊎ StepBefore tables above b a
step_total tables above a b system = by_place (nat_cmp (place a) (place b)) (ranked (place a) (place b) _ refl)
  where
    place : Step → ℕ
    place step = sibling_place (keys_above tables above) step.node

    by_keys : (o : Ordering) → slice_cmp (slice_cmp nat_cmp) a.keys b.keys ≡ o → a.node ≡ b.node → StepBefore tables above a b ⊎ (a ≡ b) ⊎ StepBefore tables above b a
    by_keys Less e same = inl (inr (same, system, e))
    by_keys Equal e same =
        let keys : a.keys ≡ b.keys = slice_cmp-IsAntisymmetric (slice_cmp-IsAntisymmetric nat_cmp-IsAntisymmetric) a.keys b.keys e in
        inr (inl (λ i. record { node = same i; keys = keys i }))
    by_keys Greater e same =
        inr (inr (inr (sym same, subst (λ (n : ℕ). IsSystemOrdered tables n) same system, order.antisymm b.keys a.keys ∙ ap ordering_reverse e)))

    by_place : (o : Ordering) → MatchOrdering o (place a < place b) (place a ≡ place b) (place b < place a) → StepBefore tables above a b ⊎ (a ≡ b) ⊎ StepBefore tables above b a
    by_place Less less = inl (inl less)
    by_place Equal same = by_keys _ refl (same_node (keys_above tables above) a.node b.node same)
    by_place Greater more = inr (inr (inl more))

steps_total : (tables : Tables) (above : Option ℕ) (xs ys : List Step) → All (λ step. IsSystemOrdered tables step.node) xs → StepsBefore tables above xs ys ⊎ (xs ≡ ys) ⊎ StepsBefore tables above ys xs
steps_total tables above [] [] system = inr (inl refl)
steps_total tables above [] (y ∷ ys) system = inl tt
steps_total tables above (x ∷ xs) [] system = inr (inr tt)
steps_total tables above (x ∷ xs) (y ∷ ys) system =
    by (step_total tables above x y (system 0 x (omega arith))) (steps_total tables (Some x.node) xs ys (λ k d within. system (suc k) d (omega (arith, within))))
  where
    by : StepBefore tables above x y ⊎ (x ≡ y) ⊎ StepBefore tables above y x → StepsBefore tables (Some x.node) xs ys ⊎ (xs ≡ ys) ⊎ StepsBefore tables (Some x.node) ys xs → StepsBefore tables above (x ∷ xs) (y ∷ ys) ⊎ (x ∷ xs ≡ y ∷ ys) ⊎ StepsBefore tables above (y ∷ ys) (x ∷ xs)
    by (inl before) rest = inl (inl before)
    by (inr (inr after)) rest = inr (inr (inl after))
    by (inr (inl same)) (inl before) = inl (inr (same, before))
    by (inr (inl same)) (inr (inl rest)) = inr (inl (λ i. same i ∷ rest i))
    by (inr (inl same)) (inr (inr after)) = inr (inr (inr (sym same, subst (λ (s : Step). StepsBefore tables (Some s.node) ys xs) same after)))

pub order_is_total : OrderIsTotal
order_is_total tables path other system = by (steps_total tables None path.steps other.steps system)
  where
    by : StepsBefore tables None path.steps other.steps ⊎ (path.steps ≡ other.steps) ⊎ StepsBefore tables None other.steps path.steps → IsBefore tables path other ⊎ (path ≡ other) ⊎ IsBefore tables other path
    by (inl before) = inl before
    by (inr (inl same)) = inr (inl (λ i. record { steps = same i }))
    by (inr (inr after)) = inr (inr after)
