-- The defaults of types, one after another.
use Rattle.std.proofs.Common.{inl, inr, ◌≡◌, ◌<◌, ◌+◌, ℕ, List, [], ◌∷◌, ◌++◌, length, take, get_or, refl, sym, ap, ◌∙◌, subst, arith}
use Rattle.nc_names.specs.declared.memory.Memory.{Memory}
use Rattle.std.specs.Prelude.{Bool, Option, Some, None, Result, Ok, Err, IfOk, option_map, slice_get, set, unwrap_or, replicate, Contains, ◌⊎◌}
use Rattle.std.proofs.lemmas.Bool.{cases_eq}
use Rattle.std.proofs.lemmas.List.{length-replicate, length-set}
use Rattle.std.proofs.lemmas.Option.{slice_get-get_or}
use Rattle.nc_yang_words.specs.declared.statement.Statement.{Statement}
use Rattle.nc_yang_statements.specs.declared.keyword.Keyword.TheVariants.{Default, TypeName}
use Rattle.nc_yang_order.specs.Orders.{EachAfter}
use Rattle.nc_yang_order.proofs.Lists.{contains_none, either, get_none, get_set_other, get_set_same, take_next}
use Rattle.nc_yang_scopes.specs.Scopes.{Located, Scoping}
use Rattle.nc_yang_types.specs.Defaults.{AreDefaults, Brings, IsDefault, IsLeafDefault, default_at, further, nearest}
use Rattle.nc_yang_types.specs.Meanings.{Meaning, Means}
use Rattle.nc_yang_types.specs.Numbers.{IsNumber, OnNumber}
use Rattle.nc_yang_types.specs.Places.{base_of, of_typedef, part_of}
use Rattle.nc_yang_types.specs.inner.Footings.{AreFootings, IsFooting}
use Rattle.nc_yang_types.specs.inner.KnownTypes.{AreKnown, KnowsBase}
use Rattle.nc_yang_types.specs.inner.Planning.{IsOrdered, IsReady, footing_at}
use Rattle.nc_yang_types.specs.declared.footing.Footing.{Footing}
use Rattle.nc_yang_types.specs.declared.footing.Footing.TheVariants.{OnBuiltIn, OnNothing, OnType}
use Rattle.nc_yang_order.specs.declared.reach.Reach.{Reach}
use Rattle.nc_yang_types.proofs.MeaningLemmas.{built_or_base}
use Rattle.nc_yang_types.proofs.FoundLemmas.{each_at}
use Rattle.nc_yang_types.proofs.TableLemmas.{footing_is, means_reached, ready_within}

-- how a default is brought
pub record Brought (texts : List Statement) (l default : Located) : Type 0 where
  pub base : Located
  pub base_is : base_of texts l ≡ Some base
  pub by : (of_typedef Default texts l ≡ Some default) ⊎ ((of_typedef Default texts l ≡ None) × Brings texts base default)

pub how_brought : (texts : List Statement) (l default : Located) → Brings texts l default → Brought texts l default
how_brought texts _ _ (nearest l base default base_is own) = record { base = base; base_is = base_is; by = inl own }
how_brought texts _ _ (further l base default base_is none more) = record { base = base; base_is = base_is; by = inr (none, more) }

-- a type that rests on no other brings none
pub brings_none : (scoping : Scoping) (l : Located) → base_of scoping.texts l ≡ None → IsDefault scoping l None
brings_none scoping l none = λ default brings. let b = how_brought scoping.texts l default brings in let e = b.base_is in cc

no_type_none : (scoping : Scoping) (footing : Footing) → ((base : ℕ) → footing ≡ OnType base → ⊥) → (l : Located) → IsFooting scoping l footing → IsDefault scoping l None
no_type_none scoping (OnBuiltIn one) other l foot = λ default brings. let b = how_brought scoping.texts l default brings in built_or_base scoping.texts l one b.base foot b.base_is
no_type_none scoping (OnType base) other l foot = absurd (other base refl)
no_type_none scoping OnNothing other l foot = brings_none scoping l foot.1

pub not_over : (scoping : Scoping) (n : ℕ) (footing : Footing) (defaults : List (Option ℕ)) → ((base : ℕ) → footing ≡ OnType base → ⊥) →
    OnNumber scoping n (λ l. IsFooting scoping l footing → KnowsBase scoping defaults footing → IsDefault scoping l None)
not_over scoping n footing defaults other = λ l here foot knows. no_type_none scoping footing other l foot

module _ (scoping : Scoping) (n base : ℕ) (footing : Footing) (is : footing ≡ OnType base) (defaults : List (Option ℕ)) where
  -- its typedef has one
  pub own_default : (own : ℕ) → OnNumber scoping n (λ l. IsNumber scoping.located (Some own) (of_typedef Default scoping.texts l)) →
      OnNumber scoping n (λ l. IsFooting scoping l footing → KnowsBase scoping defaults footing → IsDefault scoping l (Some own))
  own_default own found = λ l here foot knows. by l (subst (IsFooting scoping l) is foot) (of_typedef Default scoping.texts l) refl (found l here)
    where
      by : (l : Located) → IsFooting scoping l (OnType base) → (o : Option Located) → of_typedef Default scoping.texts l ≡ o → Some (slice_get scoping.located own) ≡ option_map Some o → IsDefault scoping l (Some own)
      by l foot None e f = absurd (cc)
      by l foot (Some x) e f = let at : slice_get scoping.located own ≡ Some x = cc in (x, at, nearest l foot.1.0 x foot.1.2 e)

  -- it has none
  pub base_default : OnNumber scoping n (λ l. IsNumber scoping.located None (of_typedef Default scoping.texts l)) →
      OnNumber scoping n (λ l. IsFooting scoping l footing → KnowsBase scoping defaults footing → IsDefault scoping l (default_at defaults base))
  base_default lost = λ l here foot knows. by l (subst (IsFooting scoping l) is foot) (subst (KnowsBase scoping defaults) is knows) (of_typedef Default scoping.texts l) refl (lost l here)
    where
      more : (l : Located) (foot : IsFooting scoping l (OnType base)) → of_typedef Default scoping.texts l ≡ None → (d : Option ℕ) → IsDefault scoping foot.1.0 d → IsDefault scoping l d
      more l foot none None h = λ default brings.
          let b = how_brought scoping.texts l default brings in
          elim b.by [
            | inl own ↦ cc
            | inr deep ↦ (let same : b.base ≡ foot.1.0 = (let p = b.base_is in let q = foot.1.2 in cc) in h default (subst (λ k. Brings scoping.texts k default) same deep.1))
          ]
      more l foot none (Some number) h = (h.0, h.1, further l foot.1.0 h.0 foot.1.2 none h.2)

      by : (l : Located) → IsFooting scoping l (OnType base) → KnowsBase scoping defaults (OnType base) → (o : Option Located) → of_typedef Default scoping.texts l ≡ o → None ≡ option_map Some o → IsDefault scoping l (default_at defaults base)
      by l foot knows None e f = more l foot e (default_at defaults base) (knows foot.1.0 foot.1.1)
      by l foot knows (Some x) e f = absurd (cc)

-- along an order
pub known_none : (scoping : Scoping) (count : ℕ) (defaults : List (Option ℕ)) → count ≡ length scoping.located → defaults ≡ replicate count None → AreKnown scoping [] defaults
known_none scoping count defaults count_is is = record {
  counted = ap length is ∙ length-replicate count None ∙ count_is;
  known = λ m l h. absurd (contains_none m h);
}

module _ (footings : List Footing) (order : List ℕ) (ready : EachAfter (IsReady footings) [] order) (i number : ℕ) (less : i < length order) (is : number ≡ get_or order i 0)
    (scoping : Scoping) (are : AreFootings scoping (length scoping.located) footings) (old : List (Option ℕ)) (so_far : AreKnown scoping (take i order) old) where
  place_is : slice_get order i ≡ Some number
  place_is = slice_get-get_or order i 0 less ∙ ap Some (sym is)

  ready_here : IsReady footings (take i order) number
  ready_here = each_at (IsReady footings) [] order i number ready place_is

  pub known_within : number < length old
  known_within = let w = ready_within footings (take i order) number ready_here in omega (arith, are.counted, so_far.counted)

  knows : KnowsBase scoping old (footing_at footings number)
  knows = by ready_here
    where
      by : IsReady footings (take i order) number → KnowsBase scoping old (footing_at footings number)
      by (inl (one, e)) = subst (KnowsBase scoping old) (sym (ap (λ o. unwrap_or o OnNothing) e)) tt
      by (inr (base, e, h)) = subst (KnowsBase scoping old) (sym (ap (λ o. unwrap_or o OnNothing) e)) (λ l here. so_far.known base l h here)

  pub known_more : (footing : Footing) → footing ≡ footing_at footings number → (default : Option ℕ) →
      OnNumber scoping number (λ l. IsFooting scoping l footing → KnowsBase scoping old footing → IsDefault scoping l default) →
      AreKnown scoping (take (i + 1) order) (set old number default)
  known_more footing footing_at_is default judged = subst (λ z. AreKnown scoping z (set old number default)) (sym (take_next order i number place_is)) (record {
    counted = length-set old number default ∙ so_far.counted;
    known = known;
  })
    where
      there : (before : Option ℕ) × (slice_get old number ≡ Some before)
      there = by (slice_get old number) refl
        where
          by : (o : Option (Option ℕ)) → slice_get old number ≡ o → (before : Option ℕ) × (slice_get old number ≡ Some before)
          by None e = absurd (let past = get_none old number e in let w = known_within in omega arith)
          by (Some before) e = (before, e)

      known : (m : ℕ) (l : Located) → Contains (take i order ++ number ∷ []) m → slice_get scoping.located m ≡ Some l → IsDefault scoping l (default_at (set old number default) m)
      known m l h here = elim (cases_eq m number) [
        | inl same ↦
            let here' : slice_get scoping.located number ≡ Some l = subst (λ z. slice_get scoping.located z ≡ Some l) same here in
            subst (λ z. IsDefault scoping l (default_at (set old number default) z)) (sym same)
            (subst (IsDefault scoping l) (sym (ap (λ o. unwrap_or o None) (get_set_same old number there.0 default there.1)))
            (judged l here' (subst (IsFooting scoping l) (sym footing_at_is) (footing_is scoping footings are number l here')) (subst (KnowsBase scoping old) (sym footing_at_is) knows)))
        | inr apart ↦ elim (either (take i order) number m h) [
          | inl earlier ↦ subst (IsDefault scoping l) (sym (ap (λ o. unwrap_or o None) (get_set_other old number m default apart))) (so_far.known m l earlier here)
          | inr now ↦ absurd (apart (sym now))
        ]
      ]

-- all that mean something
pub defaults_all : (scoping : Scoping) (footings : List Footing) → AreFootings scoping (length scoping.located) footings → (list : List Footing) → list ≡ footings → (reach : Reach) → IsOrdered list reach →
    (order : List ℕ) → order ≡ reach.found → (r : Result (List (Option ℕ)) Memory) → IfOk r (AreKnown scoping order) → IfOk r (AreDefaults scoping)
defaults_all scoping footings are list list_is reach ordered order order_is (Err e) h = tt
defaults_all scoping footings are list list_is reach ordered order order_is (Ok it) h = λ on number l m here means.
    h.known number l
    (subst (λ z. Contains z number) (sym order_is)
    (means_reached list ordered.graph ordered.starts ordered.dependents ordered.are_starts on scoping (subst (AreFootings scoping (length scoping.located)) (sym list_is) are) reach ordered.reached l m means number here)) here

-- of leafs
module _ (scoping : Scoping) (n : ℕ) where
  pub leaf_own : (own : ℕ) → OnNumber scoping n (λ l. IsNumber scoping.located (Some own) (part_of Default l)) →
      OnNumber scoping n (λ l. (on : ℕ → List ℕ → Bool) → (of_type : Located) → (m : Meaning) → part_of TypeName l ≡ Some of_type → Means on scoping.texts of_type m → IsLeafDefault scoping l of_type (Some own))
  leaf_own own found = λ l here on of_type m type_is means. by l of_type (part_of Default l) refl (found l here)
    where
      by : (l of_type : Located) (o : Option Located) → part_of Default l ≡ o → Some (slice_get scoping.located own) ≡ option_map Some o → IsLeafDefault scoping l of_type (Some own)
      by l of_type None e f = absurd (cc)
      by l of_type (Some x) e f = let at : slice_get scoping.located own ≡ Some x = cc in (x, at, inl e)

  no_own : (l : Located) → None ≡ option_map Some (part_of Default l) → part_of Default l ≡ None
  no_own l f = by (part_of Default l) refl f
    where
      by : (o : Option Located) → part_of Default l ≡ o → None ≡ option_map Some o → part_of Default l ≡ None
      by None e f = e
      by (Some x) e f = absurd (cc)

  pub leaf_brought : (defaults : List (Option ℕ)) → AreDefaults scoping defaults → OnNumber scoping n (λ l. IsNumber scoping.located None (part_of Default l)) →
      (t : ℕ) → OnNumber scoping n (λ l. IsNumber scoping.located (Some t) (part_of TypeName l)) →
      OnNumber scoping n (λ l. (on : ℕ → List ℕ → Bool) → (of_type : Located) → (m : Meaning) → part_of TypeName l ≡ Some of_type → Means on scoping.texts of_type m → IsLeafDefault scoping l of_type (default_at defaults t))
  leaf_brought defaults are lost t found = λ l here on of_type m type_is means.
      let at : Some (slice_get scoping.located t) ≡ Some (Some of_type) = found l here ∙ ap (option_map Some) type_is in
      let there : slice_get scoping.located t ≡ Some of_type = cc in
      by l of_type (no_own l (lost l here)) (default_at defaults t) (are on t of_type m there means)
    where
      by : (l of_type : Located) → part_of Default l ≡ None → (d : Option ℕ) → IsDefault scoping of_type d → IsLeafDefault scoping l of_type d
      by l of_type none None h = λ default has. elim has [ inl own ↦ (cc) | inr deep ↦ h default deep.1 ]
      by l of_type none (Some number) h = (h.0, h.1, inr (none, h.2))

-- a type brings one default at most
pub one_default : (texts : List Statement) (l one other : Located) → Brings texts l one → Brings texts l other → one ≡ other
one_default texts _ _ other (nearest l base one base_is own) brings =
    let b = how_brought texts l other brings in
    elim b.by [ inl same ↦ cc | inr deep ↦ absurd (let e = deep.0 in cc) ]
one_default texts _ _ other (further l base one base_is none more) brings =
    let b = how_brought texts l other brings in
    elim b.by [
      | inl same ↦ absurd (cc)
      | inr deep ↦ (let eq : b.base ≡ base = (let p = b.base_is in cc) in one_default texts base one other more (subst (λ k. Brings texts k other) eq deep.1))
    ]
