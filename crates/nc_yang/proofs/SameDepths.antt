-- Two schemas with the types of the same leafs and leaf-lists lead through as many types, and ask as many.
use Rattle.std.proofs.Common.{inl, inr, ◌≡◌, ◌||◌, ◌+◌, ℕ, zero, suc, Bool, false, List, [], ◌∷◌, map, refl, sym, ap, subst, ◌∙◌}
use Rattle.std.specs.Prelude.{Option, Some, None, is_some, nat_lt, option_map, slice_get}
use Rattle.std.specs.List.{list_any, sum, sum_by}
use Rattle.std.specs.Option.{option_map_or, option_to_list}
use Rattle.std.proofs.lemmas.List.Sums.{sum-map}
use Rattle.nc_names.specs.declared.name.QName.{QName}
use Rattle.nc_patterns.specs.Admits.{admits_each}
use Rattle.nc_schema.specs.Tables.{Tables}
use Rattle.nc_schema.specs.Values.{type_of as kind_at}
use Rattle.nc_schema.specs.declared.pattern.LeafrefEnd.{LeafrefEnd}
use Rattle.nc_schema.specs.declared.value_type.ValueType.{ValueType}
use Rattle.nc_schema.specs.declared.value_type.ValueType.TheVariants.{Chars as String, Identity, Leafref, Union}
use Rattle.nc_yang_scopes.specs.Scopes.{Located}
use Rattle.nc_yang_types.specs.Meanings.{DerivedFrom, Entry, Meaning, OneOf, Refers}
use Rattle.nc_yang_types.specs.Wholes.{members_of}
use Rattle.nc_yang_types.proofs.MeaningLemmas.{means_one}
use Rattle.nc_yang_leafs.specs.Bases.{Basis, leads}
use Rattle.nc_yang_leafs.specs.Typings.{HasType, IsEntry, IsPatterned, none, numbers_of, one_more}
use Rattle.nc_yang_leafs.proofs.AlikeLemmas.{has_others, path_tables}
use Rattle.nc_yang.specs.Depths.{asked, asked_of, asks_too_many, leads_through, reads_too_many}
use Rattle.nc_yang.proofs.Alone.{IsAlone, means_alone}
use Rattle.nc_yang.proofs.LeafTypes.{Typed, head}
use Rattle.nc_yang.proofs.SameTypes.{Kinds}

-- a type without others asks none
asks_none : (tables : Tables) (entry : ValueType) → has_others entry ≡ false → asked_of tables entry ≡ []
asks_none tables (Union members) e = absurd (cc)
asks_none tables (Leafref target above required) e = absurd (cc)
asks_none tables entry e = refl

patterned_none : (named : List ℕ → List Located → Type 0) (tables : Tables) (x : ValueType) (ps : List Located) (entry : ValueType) → has_others x ≡ false →
    IsPatterned named x ps entry → asked_of tables entry ≡ []
patterned_none named tables (String lengths starless blank) ps entry e is = ap (asked_of tables) is.2
patterned_none named tables (Union members) ps entry e is = absurd (cc)
patterned_none named tables (Leafref target above required) ps entry e is = absurd (cc)
patterned_none named tables x ps entry e is = ap (asked_of tables) (sym is) ∙ asks_none tables x refl

-- what is found of several things, by what each comes to
map_listed : {A : Type 0} (f : ℕ → A) (o : Option ℕ) → map f (option_to_list o) ≡ option_to_list (option_map f o)
map_listed f None = refl
map_listed f (Some n) = refl

any_mapped : (f : ℕ → Bool) (ns : List ℕ) → list_any f ns ≡ list_any (λ b. b) (map f ns)
any_mapped f [] = refl
any_mapped f (n ∷ ns) = ap (λ b. f n || b) (any_mapped f ns)

or_mapped : (f : ℕ → Bool) (o : Option ℕ) → option_map_or f o false ≡ option_map_or (λ b. b) (option_map f o) false
or_mapped f None = refl
or_mapped f (Some n) = refl

any_asked : (tables : Tables) (f : ℕ → Bool) (o : Option ValueType) →
    option_map_or (λ type. list_any f (asked_of tables type)) o false ≡ option_map_or (list_any (λ b. b)) (option_map (λ type. map f (asked_of tables type)) o) false
any_asked tables f None = refl
any_asked tables f (Some type) = any_mapped f (asked_of tables type)

sum_asked : (tables : Tables) (f : ℕ → ℕ) (o : Option ValueType) →
    option_map_or (λ type. 1 + sum_by f (asked_of tables type)) o 0 ≡ option_map_or (λ ns. 1 + sum ns) (option_map (λ type. map f (asked_of tables type)) o) 0
sum_asked tables f None = refl
sum_asked tables f (Some type) = ap (λ n. 1 + n) (sym (sum-map f (asked_of tables type)))

module _ (derived : List Located → List QName → Type 0) (one_derived : (bases : List Located) (xs ys : List QName) → derived bases xs → derived bases ys → xs ≡ ys)
    (b : Basis) (t u : Tables) (alike : path_tables t ≡ path_tables u) (named other : List ℕ → List Located → Type 0)
    (agree : (ns ms : List ℕ) (ps : List Located) → named ns ps → other ms ps → (text : List ℕ) → admits_each t.patterns ns text ≡ admits_each u.patterns ms text)
    (kinds : (n : ℕ) → Kinds derived one_derived b t u alike named other agree n) where
  abbrev IsIn : ℕ → Meaning → ValueType → Type 0
  IsIn n = IsEntry derived named (leads b.scoping b.given n)

  abbrev IsAlso : ℕ → Meaning → ValueType → Type 0
  IsAlso n = IsEntry derived other (leads b.scoping b.given n)

  module _ {A : Type 0} (f g : ℕ → A) where
    abbrev Deeper : Type 0
    Deeper = (n : ℕ) (l : Located) (x y : ℕ) → HasType derived named b t.types n l x → HasType derived other b u.types n l y → f x ≡ g y

    members_alike : Deeper → (n : ℕ) (ls : List Located) (ks js : List ℕ) → Typed derived named b t n ls ks → Typed derived other b u n ls js → map f ks ≡ map g js
    members_alike deeper n [] _ _ none none = refl
    members_alike deeper n (l ∷ ls) _ _ (one_more _ _ x ks m e a p c ms more) (one_more _ _ y js m2 e2 a2 p2 c2 ms2 more2) =
        let first : f x ≡ g y = deeper n l x y (one_more l [] x [] m e a p c ms none) (one_more l [] y [] m2 e2 a2 p2 c2 ms2 none) in
        let rest = members_alike deeper n ls ks js more more2 in
        λ i. first i ∷ rest i

    target_alike : Deeper → (to : ℕ) → option_map f (kind_at t to) ≡ option_map g (kind_at u to)
    target_alike deeper to = by (kinds to)
      where
        by : Kinds derived one_derived b t u alike named other agree to → option_map f (kind_at t to) ≡ option_map g (kind_at u to)
        by (inl nothing) = ap (option_map f) nothing.0 ∙ sym (ap (option_map g) nothing.1)
        by (inr both) =
            ap (option_map f) both.one_is ∙ ap Some (deeper to both.l both.one both.twin both.one_has both.other_has)
            ∙ sym (ap (option_map g) both.other_is)

    entries_alike : Deeper → (n : ℕ) (m : Meaning) (e d : ValueType) → IsAlone m → IsIn n m e → IsAlso n m d → Typed derived named b t n (members_of m) (numbers_of m e) →
        Typed derived other b u n (members_of m) (numbers_of m d) → map f (asked_of t e) ≡ map g (asked_of u d)
    entries_alike deeper n (Entry x ps taken) e d alone is is2 h h2 =
        ap (map f) (patterned_none named t x ps e alone is) ∙ sym (ap (map g) (patterned_none other u x ps d alone is2))
    entries_alike deeper n (OneOf ms) (Union ks) (Union js) alone is is2 h h2 = members_alike deeper n ms ks js h h2
    entries_alike deeper n (OneOf ms) (Union ks) d alone is is2 h h2 = absurd is2
    entries_alike deeper n (DerivedFrom bases) (Identity xs) (Identity ys) alone is is2 h h2 = refl
    entries_alike deeper n (DerivedFrom bases) (Identity xs) d alone is is2 h h2 = absurd is2
    entries_alike deeper n (Refers path need) (Leafref to above one) (Leafref to2 above2 two) alone is is2 h h2 =
        let there : to2 ≡ to = sym (ap (λ o. option_map_or (λ (z : LeafrefEnd). z.target) o 0) (sym is.0 ∙ is2.0)) in
        map_listed f (kind_at t to) ∙ ap option_to_list (target_alike deeper to) ∙ sym (map_listed g (kind_at u to))
        ∙ ap (λ z. map g (option_to_list (kind_at u z))) (sym there)
    entries_alike deeper n (Refers path need) (Leafref to above one) d alone is is2 h h2 = absurd is2
    entries_alike deeper n m e d alone is is2 h h2 = absurd is

    -- the types of one `type` statement at one data node
    ask_alike : Deeper → (n : ℕ) (l : Located) (x y : ℕ) → HasType derived named b t.types n l x → HasType derived other b u.types n l y →
        option_map (λ type. map f (asked_of t type)) (slice_get t.types x) ≡ option_map (λ type. map g (asked_of u type)) (slice_get u.types y)
    ask_alike deeper n l x y has has2 =
        let a = head derived named b t n l x has in
        let c = head derived other b u n l y has2 in
        let one : c.m ≡ a.m = means_one b.on b.scoping.texts l c.m a.m c.means_it a.means_it in
        ap (option_map (λ type. map f (asked_of t type))) a.at
        ∙ ap Some (entries_alike deeper n a.m a.entry c.entry (means_alone b.on b.scoping.texts l a.m a.means_it) a.is_it (subst (λ z. IsAlso n z c.entry) one c.is_it) a.members
        (subst (λ z. Typed derived other b u n (members_of z) (numbers_of z c.entry)) one c.members))
        ∙ sym (ap (option_map (λ type. map g (asked_of u type))) c.at)

  depths_alike : (more : ℕ) → Deeper (leads_through t more) (leads_through u more)
  unfolding leads_through
  depths_alike zero n l x y has has2 = ap is_some (head derived named b t n l x has).at ∙ sym (ap is_some (head derived other b u n l y has2).at)
  depths_alike (suc more) n l x y has has2 =
      any_asked t (leads_through t more) (slice_get t.types x)
      ∙ ap (λ o. option_map_or (list_any (λ b. b)) o false) (ask_alike (leads_through t more) (leads_through u more) (depths_alike more) n l x y has has2)
      ∙ sym (any_asked u (leads_through u more) (slice_get u.types y))

  counts_alike : (levels : ℕ) → Deeper (asked t levels) (asked u levels)
  unfolding asked
  counts_alike zero n l x y has has2 = refl
  counts_alike (suc levels) n l x y has has2 =
      sum_asked t (asked t levels) (slice_get t.types x)
      ∙ ap (λ o. option_map_or (λ ns. 1 + sum ns) o 0) (ask_alike (asked t levels) (asked u levels) (counts_alike levels) n l x y has has2)
      ∙ sym (sum_asked u (asked u levels) (slice_get u.types y))

  too_many_alike : Deeper (asks_too_many t) (asks_too_many u)
  too_many_alike n l x y has has2 =
      let deep = depths_alike 64 n l x y has has2 in
      let count = counts_alike 64 n l x y has has2 in
      λ i. deep i || nat_lt 4096 (count i)

  pub deep_alike : (n : ℕ) → reads_too_many t n ≡ reads_too_many u n
  deep_alike n =
      or_mapped (asks_too_many t) (kind_at t n) ∙ ap (λ o. option_map_or (λ b. b) o false) (target_alike (asks_too_many t) (asks_too_many u) too_many_alike n)
      ∙ sym (or_mapped (asks_too_many u) (kind_at u n))
