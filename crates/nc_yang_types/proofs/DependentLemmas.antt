-- The types that rest on others.
use Rattle.std.proofs.Common.{inl, inr, ◌≡◌, ◌<◌, ◌≤◌, ◌+◌, ℕ, true, false, cond, List, [], ◌∷◌, ◌++◌, length, refl, sym, ◌∙◌, subst, arith}
use Rattle.std.specs.Prelude.{Bool, nat_lt, Some, slice_get, set, Contains}
use Rattle.std.proofs.lemmas.Bool.{cases_lt, ltb-true, ltb-false}
use Rattle.std.proofs.lemmas.List.{length-set}
use Rattle.std.proofs.lemmas.List.Elements.{Contains-append_left, Contains-push}
use Rattle.nc_yang_statements.specs.declared.built_in.BuiltIn.{BuiltIn}
use Rattle.nc_yang_order.specs.Orders.{targets}
use Rattle.nc_yang_order.proofs.EdgeLemmas.{edge_cases, edge_kept, edge_new}
use Rattle.nc_yang_order.proofs.Lists.{either}
use Rattle.nc_yang_types.specs.inner.Footings.{AreDependents, AreStarts, dependent, started}
use Rattle.nc_yang_types.specs.declared.footing.Footing.{Footing}
use Rattle.nc_yang_types.specs.declared.footing.Footing.TheVariants.{OnBuiltIn, OnNothing, OnType}

pub starts_more : (fs : List Footing) (n : ℕ) (ss : List ℕ) (f : Footing) → AreStarts fs n ss → slice_get fs n ≡ Some f → AreStarts fs (n + 1) (started ss n f)
starts_more fs n ss f so_far at = by f at
  where
    same : (f : Footing) → slice_get fs n ≡ Some f → ((one : BuiltIn) → f ≡ OnBuiltIn one → ⊥) → AreStarts fs (n + 1) ss
    same f at none = record {
      rests = so_far.rests;
      has = λ m one less e. elim (cases_lt m n) [
        | inl earlier ↦ so_far.has m one earlier e
        | inr now ↦ absurd (let eq : m ≡ n = omega arith in none one (let there : slice_get fs n ≡ Some (OnBuiltIn one) = subst (λ z. slice_get fs z ≡ Some (OnBuiltIn one)) eq e in cc))
      ];
    }

    by : (f : Footing) → slice_get fs n ≡ Some f → AreStarts fs (n + 1) (started ss n f)
    by (OnBuiltIn one) at = record {
      rests = λ m h. elim (either ss n m h) [ inl old ↦ so_far.rests m old | inr new ↦ (one, subst (λ z. slice_get fs z ≡ Some (OnBuiltIn one)) new at) ];
      has = λ m other less e. elim (cases_lt m n) [
        | inl earlier ↦ Contains-append_left ss (n ∷ []) m (so_far.has m other earlier e)
        | inr now ↦ (let eq : n ≡ m = omega arith in subst (λ z. Contains (ss ++ n ∷ []) z) eq (Contains-push ss n))
      ];
    }
    by (OnType base) at = same (OnType base) at (λ one e. cc)
    by OnNothing at = same OnNothing at (λ one e. cc)

pub dependents_more : (fs : List Footing) (n : ℕ) (graph : List (List ℕ)) (f : Footing) → AreDependents fs n graph → slice_get fs n ≡ Some f → AreDependents fs (n + 1) (dependent graph n f)
dependents_more fs n graph f so_far at = by f at
  where
    same : ((base : ℕ) → base < length fs → slice_get fs n ≡ Some (OnType base) → ⊥) → AreDependents fs (n + 1) graph
    same none = record {
      counted = so_far.counted;
      rests = so_far.rests;
      has = λ base m less within e. elim (cases_lt m n) [
        | inl earlier ↦ so_far.has base m earlier within e
        | inr now ↦ absurd (let eq : m ≡ n = omega arith in none base within (subst (λ z. slice_get fs z ≡ Some (OnType base)) eq e))
      ];
    }

    more : (base : ℕ) → base < length graph → slice_get fs n ≡ Some (OnType base) → AreDependents fs (n + 1) (set graph base (targets graph base ++ n ∷ []))
    more base within at = record {
      counted = length-set graph base (targets graph base ++ n ∷ []) ∙ so_far.counted;
      rests = λ other m h. elim (edge_cases graph base n within other m h) [
        | inl old ↦ so_far.rests other m old
        | inr new ↦ subst (λ z. slice_get fs z ≡ Some (OnType other)) new.1 (subst (λ z. slice_get fs n ≡ Some (OnType z)) (sym new.0) at)
      ];
      has = λ other m less inside e. elim (cases_lt m n) [
        | inl earlier ↦ edge_kept graph base n within other m (so_far.has other m earlier inside e)
        | inr now ↦
            let eq : n ≡ m = omega arith in
            let e' : slice_get fs n ≡ Some (OnType other) = subst (λ z. slice_get fs z ≡ Some (OnType other)) (sym eq) e in
            let same_base : base ≡ other = cc in
            subst (λ z. Contains (targets (set graph base (targets graph base ++ n ∷ [])) other) z) eq
            (subst (λ z. Contains (targets (set graph base (targets graph base ++ n ∷ [])) z) n) same_base (edge_new graph base n within))
      ];
    }

    on_type : (base : ℕ) → slice_get fs n ≡ Some (OnType base) → (b : Bool) → nat_lt base (length graph) ≡ b → AreDependents fs (n + 1) (cond b (set graph base (targets graph base ++ n ∷ [])) graph)
    on_type base at true e = more base (ltb-true base (length graph) e) at
    on_type base at false e = same (λ other within at'. let eq : base ≡ other = cc in let past : length graph ≤ base = ltb-false base (length graph) e in let c = so_far.counted in omega arith)

    by : (f : Footing) → slice_get fs n ≡ Some f → AreDependents fs (n + 1) (dependent graph n f)
    by (OnBuiltIn one) at = same (λ base within e. cc)
    by (OnType base) at = on_type base at (nat_lt base (length graph)) refl
    by OnNothing at = same (λ base within e. cc)
