-- On what `type` statements rest.
use Rattle.std.proofs.Common.{inl, inr, ◌≡◌, ◌<◌, ◌≤◌, ◌+◌, ℕ, true, cond, List, [], ◌∷◌, ◌++◌, length, length-append, refl, sym, ap, ◌∙◌, subst, arith}
use Rattle.std.specs.Prelude.{Option, Some, None, is_some, IsSomeAnd, slice_get, option_map, ◌⊎◌}
use Rattle.std.proofs.lemmas.Bool.{cases_lt}
use Rattle.nc_yang_words.specs.declared.statement.Statement.{Statement}
use Rattle.nc_yang_statements.specs.declared.keyword.Keyword.TheVariants.{TypeName}
use Rattle.nc_yang_statements.specs.BuiltIns.{built_in_of}
use Rattle.nc_yang_statements.specs.Keywords.{is_same_keyword}
use Rattle.nc_yang_statements.specs.Statements.{kind, name}
use Rattle.nc_yang_scopes.specs.Scopes.{Located, Scoping}
use Rattle.nc_yang_scopes.specs.inner.Naming.{HasNumber}
use Rattle.nc_yang_scopes.proofs.Lists.{get_left, get_right, get_within, past_end}
use Rattle.nc_yang_types.specs.Places.{base_of, built_in, of_typedef}
use Rattle.nc_yang_types.specs.inner.Footings.{AreFootings, IsFooting}
use Rattle.nc_yang_types.specs.Numbers.{IsNumber, OnNumber}
use Rattle.nc_yang_types.specs.declared.footing.Footing.{Footing}
use Rattle.nc_yang_types.specs.declared.footing.Footing.TheVariants.{OnType}
use Rattle.nc_yang_scopes.proofs.PartLemmas.{statement_is}

module _ (scoping : Scoping) (n : ℕ) (s : Statement) (number : HasNumber scoping n s) (is_type : is_same_keyword TypeName (kind s) ≡ true) (no_built_in : built_in_of (name s) ≡ None) where
  over : (l : Located) → slice_get scoping.located n ≡ Some l → (built_in l ≡ None) × (base_of scoping.texts l ≡ of_typedef TypeName scoping.texts l)
  over l here =
      let same = statement_is scoping n s l number here in
      let a : is_same_keyword TypeName (kind l.statement) ≡ true = ap (λ z. is_same_keyword TypeName (kind z)) same ∙ is_type in
      let b : built_in_of (name l.statement) ≡ None = ap (λ z. built_in_of (name z)) same ∙ no_built_in in (
        ap (λ z. cond z (built_in_of (name l.statement)) None) a ∙ b,
        ap (λ z. cond z (cond (is_some (built_in_of (name l.statement))) None (of_typedef TypeName scoping.texts l)) None) a ∙ ap (λ z. cond (is_some z) None (of_typedef TypeName scoping.texts l)) b,
      )

  pub on_type : (base : ℕ) → OnNumber scoping n (λ l. IsNumber scoping.located (Some base) (of_typedef TypeName scoping.texts l)) → OnNumber scoping n (λ l. IsFooting scoping l (OnType base))
  on_type base found = λ l here. by l here (of_typedef TypeName scoping.texts l) refl (found l here)
    where
      by : (l : Located) → slice_get scoping.located n ≡ Some l → (o : Option Located) → of_typedef TypeName scoping.texts l ≡ o → Some (slice_get scoping.located base) ≡ option_map Some o → IsFooting scoping l (OnType base)
      by l here None is e = absurd (cc)
      by l here (Some x) is e = let o = over l here in let at : slice_get scoping.located base ≡ Some x = cc in (o.0, (x, at, o.1 ∙ is))

pub footings_more : (scoping : Scoping) (n : ℕ) (fs : List Footing) (f : Footing) → AreFootings scoping n fs → n < length scoping.located → OnNumber scoping n (λ l. IsFooting scoping l f) →
    AreFootings scoping (n + 1) (fs ++ f ∷ [])
footings_more scoping n fs f so_far less is = record {
  within = omega arith;
  counted = length-append fs (f ∷ []) ∙ ap (λ z. z + 1) so_far.counted;
  each = each;
}
  where
    each : (m : ℕ) (l : Located) → m < n + 1 → slice_get scoping.located m ≡ Some l → IsSomeAnd (slice_get (fs ++ f ∷ []) m) (IsFooting scoping l)
    each m l lt here = by (cases_lt m n)
      where
        by : (m < n) ⊎ (n ≤ m) → IsSomeAnd (slice_get (fs ++ f ∷ []) m) (IsFooting scoping l)
        by (inl earlier) = subst (λ o. IsSomeAnd o (IsFooting scoping l)) (sym (get_left fs (f ∷ []) m (omega (arith, so_far.counted)))) (so_far.each m l earlier here)
        by (inr now) =
            let same : m ≡ n + 0 = omega arith in
            let e : slice_get (fs ++ f ∷ []) m ≡ Some f = ap (slice_get (fs ++ f ∷ [])) same ∙ get_right fs (f ∷ []) n 0 so_far.counted in
            let eq : m ≡ n = omega arith in
            subst (λ o. IsSomeAnd o (IsFooting scoping l)) (sym e) (is l (subst (λ z. slice_get scoping.located z ≡ Some l) eq here))

pub footings_all : (scoping : Scoping) (n : ℕ) (fs : List Footing) → AreFootings scoping n fs → length scoping.located ≤ n → AreFootings scoping (length scoping.located) fs
footings_all scoping n fs so_far past = let e : n ≡ length scoping.located = (let w = so_far.within in omega arith) in subst (λ z. AreFootings scoping z fs) e so_far

-- whether the number is one
pub is_past : (scoping : Scoping) (n : ℕ) → None ≡ option_map (λ (l : Located). l.statement) (slice_get scoping.located n) → length scoping.located ≤ n
is_past scoping n none = by (slice_get scoping.located n) refl none
  where
    by : (o : Option Located) → slice_get scoping.located n ≡ o → None ≡ option_map (λ (l : Located). l.statement) o → length scoping.located ≤ n
    by None e none = past_end scoping.located n e
    by (Some l) e none = absurd (cc)

pub is_within : (scoping : Scoping) (n : ℕ) (s : Statement) → HasNumber scoping n s → n < length scoping.located
is_within scoping n s number = by (slice_get scoping.located n) refl number
  where
    by : (o : Option Located) → slice_get scoping.located n ≡ o → option_map (λ (l : Located). l.statement) o ≡ Some s → n < length scoping.located
    by None e is = absurd (cc)
    by (Some l) e is = get_within scoping.located n l e
