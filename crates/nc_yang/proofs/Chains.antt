-- Types of a schema that ask one another: where this ends, no type is asked again.
use Rattle.std.proofs.Common.{inl, inr, ◌≡◌, ◌⊎◌, ◌<◌, ◌≤◌, ◌==◌, ◌||◌, ℕ, zero, suc, Bool, true, false, cond, List, [], ◌∷◌, length, refl, sym, ap, subst, arith}
use Rattle.std.specs.Prelude.{Option, Some, None, option_and_then, slice_get, Contains}
use Rattle.std.specs.List.{list_any}
use Rattle.std.proofs.lemmas.Bool.{cases_eq, cases_lt, eqb-true}
use Rattle.nc_schema.specs.Tables.{Tables}
use Rattle.nc_names.specs.declared.name.Bound.{Bound}
use Rattle.nc_schema.specs.Values.{Givers, Gives, text_in_type, type_of, type_text}
use Rattle.nc_schema.specs.declared.value_type.ValueType.{ValueType}
use Rattle.nc_schema.specs.declared.value_type.ValueType.TheVariants.{Union, Leafref}
use Rattle.nc_yang_order.proofs.Lists.{contains_none}
use Rattle.nc_yang_scopes.proofs.LinkLists.{contains_cases, contains_first, contains_later}
use Rattle.nc_yang.proofs.Lists.{without}

-- the type of a number asks that of another
pub data Asks (tables : Tables) : ℕ → ℕ → Type 0 where
  member : (k j : ℕ) (members : List ℕ) → slice_get tables.types k ≡ Some (Union members) → Contains members j → Asks tables k j
  target : (k j node : ℕ) (above : Option ℕ) (required : Bool) → slice_get tables.types k ≡ Some (Leafref node above required) →
      type_of tables node ≡ Some j → Asks tables k j

-- wherever it leads this ends
pub data Ends (tables : Tables) : ℕ → Type 0 where
  ends : (k : ℕ) → ((j : ℕ) → Asks tables k j → Ends tables j) → Ends tables k

-- in one step or more
pub data Leads (tables : Tables) : ℕ → ℕ → Type 0 where
  last : (k j : ℕ) → Asks tables k j → Leads tables k j
  first : (k mid j : ℕ) → Asks tables k mid → Leads tables mid j → Leads tables k j

abbrev Places : ℕ → Type 0
Places count = (ks : List ℕ) × (length ks ≡ count) × ((k : ℕ) → k < count → Contains ks k)

-- the numbers below one
pub places : (count : ℕ) → Places count
places zero = ([], refl, (λ k less. absurd (omega (arith, less))))
places (suc count) =
    let p = places count in (
      count ∷ p.0,
      ap suc p.1,
      (λ k less. elim (cases_lt k count) [
        | inl below ↦ contains_later count p.0 k (p.2 k below)
        | inr past ↦ let same : count ≡ k = omega (arith, less, past) in subst (λ z. Contains (count ∷ p.0) z) same (contains_first count p.0)
      ]),
    )

any_there : (k : ℕ) (ks : List ℕ) → list_any (λ asked. asked == k) ks ≡ true → Contains ks k
any_there k [] e = absurd (cc)
any_there k (j ∷ js) e = by (j == k) refl e (any_there k js)
  where
    by : (b : Bool) → (j == k) ≡ b → (b || list_any (λ asked. asked == k) js) ≡ true → (list_any (λ asked. asked == k) js ≡ true → Contains js k) → Contains (j ∷ js) k
    by true is f further = let same = eqb-true j k is in subst (λ z. Contains (j ∷ js) z) same (contains_first j js)
    by false is f further = contains_later j js k (further f)

module _ (tables : Tables) where
  then_asks : (k mid j : ℕ) → Leads tables k mid → Asks tables mid j → Leads tables k j
  then_asks _ _ j (last k mid one) asks = first k mid j one (last mid j asks)
  then_asks _ _ j (first k next mid one more) asks = first k next j one (then_asks next mid j more asks)

  -- what ends does not lead back
  no_return : (k : ℕ) → Ends tables k → Leads tables k k → ⊥
  no_return _ (ends k each) back = by k k back refl (λ j asks again. no_return j (each j asks) again)
    where
      by : (x y : ℕ) → Leads tables x y → x ≡ y → ((j : ℕ) → Asks tables x j → Leads tables j j → ⊥) → ⊥
      by _ _ (last x y asks) same below = below y asks (last y y (subst (λ z. Asks tables z y) same asks))
      by _ _ (first x mid y asks more) same below = below mid asks (then_asks mid y mid more (subst (λ z. Asks tables z mid) same asks))

  pub further : (k j : ℕ) → Ends tables k → Asks tables k j → Ends tables j
  further k j (ends _ each) asks = each j asks

  -- those that are being asked lead here, and as many may still be asked as are left
  pub record Clear (chain : List ℕ) (most number : ℕ) : Type 0 where
    pub above : (a : ℕ) → Contains chain a → Leads tables a number
    pub left : List ℕ
    pub all : (k : ℕ) → k < length tables.types → Contains chain k ⊎ Contains left k
    pub few : length left ≤ most

  pub clear_at_start : (number : ℕ) → Clear [] (length tables.types) number
  clear_at_start number =
      let p = places (length tables.types) in
      let many = p.1 in
      record { above = λ a h. absurd (contains_none a h); left = p.0; all = λ k less. inr (p.2 k less); few = omega (arith, many) }

  module _ (chain : List ℕ) (number : ℕ) (ending : Ends tables number) where
    not_asked : (most : ℕ) → Clear chain most number → list_any (λ asked. asked == number) chain ≡ false
    not_asked most clear = by (list_any (λ asked. asked == number) chain) refl
      where
        by : (b : Bool) → list_any (λ asked. asked == number) chain ≡ b → list_any (λ asked. asked == number) chain ≡ false
        by true e = absurd (no_return number ending (clear.above number (any_there number chain e)))
        by false e = e

    is_left : (most : ℕ) (clear : Clear chain most number) → number < length tables.types → Contains clear.left number
    is_left most clear less = elim (clear.all number less) [
      | inl asked ↦ absurd (no_return number ending (clear.above number asked))
      | inr there ↦ there
    ]

    pub one_is_left : Clear chain 0 number → number < length tables.types → ⊥
    one_is_left clear less = let h = is_left 0 clear less in let few = clear.few in omega (arith, h.1, few)

    pub next_clear : (most : ℕ) → Clear chain (suc most) number → number < length tables.types → (j : ℕ) → Asks tables number j → Clear (number ∷ chain) most j
    next_clear most clear less j asks =
        let r = without clear.left number (is_left (suc most) clear less) in
        let few = clear.few in
        let fewer = r.1 in
        record {
          above = λ a h. elim (contains_cases number chain a h) [
            | inl same ↦ subst (λ z. Leads tables z j) same (last number j asks)
            | inr more ↦ then_asks a number j (clear.above a more) asks
          ];
          left = r.0;
          all = λ k within. elim (cases_eq k number) [
            | inl same ↦ inl (subst (λ z. Contains (number ∷ chain) z) (sym same) (contains_first number chain))
            | inr apart ↦ elim (clear.all k within) [
              | inl asked ↦ inl (contains_later number chain k asked)
              | inr there ↦ inr (r.2 k there apart)
            ]
          ];
          few = omega (arith, few, fewer);
        }

    -- what such a number takes
    pub asked_is : (keys : List Bound → Gives) (most : ℕ) (bounds : List Bound) (text : List ℕ) → Clear chain (suc most) number →
        type_text tables keys (suc most) chain bounds number text
        ≡ (let givers : Givers = record { keys = keys; types = type_text tables keys most (number ∷ chain) } in
        option_and_then (λ (type : ValueType). text_in_type tables givers type bounds text) (slice_get tables.types number))
    asked_is keys most bounds text clear =
        let givers : Givers = record { keys = keys; types = type_text tables keys most (number ∷ chain) } in
        ap (λ b. cond b None (option_and_then (λ (type : ValueType). text_in_type tables givers type bounds text) (slice_get tables.types number))) (not_asked (suc most) clear)
