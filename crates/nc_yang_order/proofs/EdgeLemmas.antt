-- The edges of a graph with one more.
use Rattle.std.proofs.Common.{inl, inr, ◌≡◌, ◌≢◌, ◌<◌, ◌+◌, ℕ, List, [], ◌∷◌, ◌++◌, length, refl, sym, ap, subst, arith}
use Rattle.std.specs.Prelude.{Option, Some, None, slice_get, set, unwrap_or, Contains, ◌⊎◌}
use Rattle.std.proofs.lemmas.Bool.{cases_eq}
use Rattle.std.proofs.lemmas.List.Elements.{Contains-append_left, Contains-push}
use Rattle.nc_yang_order.specs.Orders.{targets}
use Rattle.nc_yang_order.proofs.Lists.{either, get_none, get_set_other, get_set_same}

module _ (graph : List (List ℕ)) (base n : ℕ) (within : base < length graph) where
  abbrev new : List (List ℕ)
  new = set graph base (targets graph base ++ n ∷ [])

  there : (row : List ℕ) × (slice_get graph base ≡ Some row)
  there = by (slice_get graph base) refl
    where
      by : (o : Option (List ℕ)) → slice_get graph base ≡ o → (row : List ℕ) × (slice_get graph base ≡ Some row)
      by None e = absurd (let past = get_none graph base e in omega arith)
      by (Some row) e = (row, e)

  at_base : targets (set graph base (targets graph base ++ n ∷ [])) base ≡ targets graph base ++ n ∷ []
  at_base = ap (λ o. unwrap_or o []) (get_set_same graph base there.0 (targets graph base ++ n ∷ []) there.1)

  elsewhere : (other : ℕ) → other ≢ base → targets (set graph base (targets graph base ++ n ∷ [])) other ≡ targets graph other
  elsewhere other apart = ap (λ o. unwrap_or o []) (get_set_other graph base other (targets graph base ++ n ∷ []) apart)

  pub edge_cases : (other m : ℕ) → Contains (targets (set graph base (targets graph base ++ n ∷ [])) other) m → Contains (targets graph other) m ⊎ ((other ≡ base) × (n ≡ m))
  edge_cases other m h = elim (cases_eq other base) [
    | inl same ↦
        let h' : Contains (targets (set graph base (targets graph base ++ n ∷ [])) base) m = subst (λ z. Contains (targets (set graph base (targets graph base ++ n ∷ [])) z) m) same h in
        elim (either (targets graph base) n m (subst (λ z. Contains z m) at_base h')) [
          | inl old ↦ inl (subst (λ z. Contains (targets graph z) m) (sym same) old)
          | inr eq ↦ inr (same, eq)
        ]
    | inr apart ↦ inl (subst (λ z. Contains z m) (elsewhere other apart) h)
  ]

  pub edge_kept : (other m : ℕ) → Contains (targets graph other) m → Contains (targets (set graph base (targets graph base ++ n ∷ [])) other) m
  edge_kept other m h = elim (cases_eq other base) [
    | inl same ↦
        subst (λ z. Contains (targets (set graph base (targets graph base ++ n ∷ [])) z) m) (sym same)
        (subst (λ z. Contains z m) (sym at_base) (Contains-append_left (targets graph base) (n ∷ []) m (subst (λ z. Contains (targets graph z) m) same h)))
    | inr apart ↦ subst (λ z. Contains z m) (sym (elsewhere other apart)) h
  ]

  pub edge_new : Contains (targets (set graph base (targets graph base ++ n ∷ [])) base) n
  edge_new = subst (λ z. Contains z n) (sym at_base) (Contains-push (targets graph base) n)
