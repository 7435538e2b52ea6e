-- Plans that have the entries of others.
use Rattle.std.proofs.Common.{inl, inr, ◌≡◌, ◌<◌, ◌+◌, ℕ, Bool, false, List, [], ◌∷◌, ◌++◌, length, refl, sym, ap, ◌∙◌, subst, arith}
use Rattle.std.specs.Prelude.{Option, Some, None, slice_get, unwrap_or, option_map, ◌⊎◌}
use Rattle.std.proofs.lemmas.Bool.{cases_eq}
use Rattle.std.proofs.lemmas.List.{length-append}
use Rattle.std.proofs.lemmas.Option.{slice_get_within}
use Rattle.nc_names.specs.declared.name.QName.{QName}
use Rattle.nc_schema.specs.declared.value_type.ValueType.{ValueType}
use Rattle.nc_yang_scopes.proofs.Lists.{get_left, get_right}
use Rattle.nc_yang_scopes.specs.Scopes.{Located}
use Rattle.nc_yang_types.specs.declared.planned.Finding.{Finding}
use Rattle.nc_yang_types.specs.declared.planned.Planned.{Planned}
use Rattle.nc_yang_types.specs.declared.planned.Planned.TheVariants.{Bases}
use Rattle.nc_yang_leafs.specs.declared.table.Slot.{Slot}
use Rattle.nc_yang_leafs.specs.Marks.{is_marked, plan_at}
use Rattle.nc_yang_leafs.specs.inner.Firsts.{AreFirsts, IsFirst, first_in, plan_for}
use Rattle.nc_yang_leafs.specs.inner.Tables.{Fits, Work}

-- what a `type` statement has is for its own plan
pub own_of : (findings : List Finding) (firsts : List ℕ) (statement plan : ℕ) → plan_for findings firsts statement ≡ Some plan →
    (own : ℕ) × (plan_at findings statement ≡ Some own) × (first_in firsts own ≡ plan)
own_of findings firsts statement plan e = by (plan_at findings statement) refl e
  where
    by : (o : Option ℕ) → plan_at findings statement ≡ o → option_map (first_in firsts) o ≡ Some plan →
        (own : ℕ) × (plan_at findings statement ≡ Some own) × (first_in firsts own ≡ plan)
    by None e f = absurd (cc)
    by (Some own) e f = let same : first_in firsts own ≡ plan = cc in (own, e, same)

module _ (derived : List Located → List QName → Type 0) (located : List Located) (plans : List Planned) (marks : List Bool) where
  -- each has its own entry at first
  pub firsts_none : AreFirsts derived located plans marks []
  firsts_none own = inl refl

  -- with that of one more
  pub firsts_more : (firsts : List ℕ) (first : ℕ) → AreFirsts derived located plans marks firsts → IsFirst derived located plans marks first (length firsts) →
      AreFirsts derived located plans marks (firsts ++ first ∷ [])
  firsts_more firsts first are one own = by (slice_get (firsts ++ first ∷ []) own) refl
    where
      by : (o : Option ℕ) → slice_get (firsts ++ first ∷ []) own ≡ o → IsFirst derived located plans marks (unwrap_or o own) own
      by None e = inl refl
      by (Some n) e = elim (cases_eq own (length firsts)) [
        | inl now ↦
            let here : slice_get (firsts ++ first ∷ []) own ≡ Some first =
            (let z : own ≡ length firsts + 0 = omega (arith, now) in ap (slice_get (firsts ++ first ∷ [])) z ∙ get_right firsts (first ∷ []) (length firsts) 0 refl) in
            let same : first ≡ n = cc in
            subst (λ z. IsFirst derived located plans marks z own) same (subst (λ z. IsFirst derived located plans marks first z) (sym now) one)
        | inr apart ↦
            let less : own < length firsts =
            (let l = slice_get_within (firsts ++ first ∷ []) own n e in let c = length-append firsts (first ∷ []) in omega (arith, l, c, apart)) in
            let there : slice_get firsts own ≡ Some n = sym (get_left firsts (first ∷ []) own less) ∙ e in
            subst (λ o. IsFirst derived located plans marks (unwrap_or o own) own) there (are own)
      ]

  module _ (firsts : List ℕ) (are : AreFirsts derived located plans marks firsts) where
    -- a plan without a leafref has the entry of one without
    pub first_off : (own : ℕ) → is_marked marks own ≡ false → is_marked marks (first_in firsts own) ≡ false
    first_off own off = elim (are own) [ inl same ↦ subst (λ z. is_marked marks z ≡ false) (sym same) off | inr shares ↦ shares.unmarked ]

    -- a plan has the entry of a type identityref, or its own
    pub own_or_bases : (own plan : ℕ) (planned : Planned) → first_in firsts own ≡ plan → slice_get plans plan ≡ Some planned →
        (slice_get plans own ≡ Some planned) ⊎ ((bases : List ℕ) × (planned ≡ Bases bases))
    own_or_bases own plan planned first there = elim (are own) [
      | inl same ↦ inl (subst (λ z. slice_get plans z ≡ Some planned) (sym first ∙ same) there)
      | inr shares ↦ inr (
        shares.bases,
        (let here : slice_get plans plan ≡ Some (Bases shares.bases) = subst (λ z. slice_get plans z ≡ Some (Bases shares.bases)) first shares.first_is in
            let same : planned ≡ Bases shares.bases = cc in same),
      )
    ]

-- an entry that is right for the plan that has it is right for the own one
pub own_fits : (derived : List Located → List QName → Type 0) (w : Work) (known : List (Option Slot)) → AreFirsts derived w.scoping.located w.meanings.plans w.marks w.firsts →
    (own plan : ℕ) (planned : Planned) (entry : ValueType) → first_in w.firsts own ≡ plan → slice_get w.meanings.plans own ≡ Some planned →
    ((other : Planned) → slice_get w.meanings.plans plan ≡ Some other → Fits derived w known other entry) → Fits derived w known planned entry
own_fits derived w known are own plan planned entry first there fits = elim (are own) [
  | inl same ↦ fits planned (subst (λ z. slice_get w.meanings.plans z ≡ Some planned) (sym (sym first ∙ same)) there)
  | inr shares ↦
      let here : slice_get w.meanings.plans plan ≡ Some (Bases shares.bases) = subst (λ z. slice_get w.meanings.plans z ≡ Some (Bases shares.bases)) first shares.first_is in
      let h = fits (Bases shares.bases) here in
      let same : Bases shares.others ≡ planned = (let e = shares.own_is in cc) in
      subst (λ z. Fits derived w known z entry) same (h.0, h.1, shares.alike h.0 h.2)
]

-- the same over what is handed on
pub are_firsts : (derived : List Located → List QName → Type 0) (located scoped : List Located) (plans : List Planned) (marks : List Bool) (firsts shared : List ℕ) → located ≡ scoped → shared ≡ firsts →
    AreFirsts derived located plans marks firsts → AreFirsts derived scoped plans marks shared
are_firsts derived located scoped plans marks firsts shared same same_firsts are =
    subst (λ z. AreFirsts derived z plans marks shared) same (subst (AreFirsts derived located plans marks) (sym same_firsts) are)
