-- Two schemas with the types of the same leafs and leaf-lists take texts alike, whatever numbers the types have.
use Rattle.std.proofs.Common.{inl, inr, ◌≡◌, ◌⊎◌, ◌<◌, ◌++◌, ℕ, zero, suc, Bool, false, cond, List, [], ◌∷◌, length, refl, sym, ap, subst, ◌∙◌}
use Rattle.std.specs.Prelude.{◌&&◌, Option, Some, None, option_and_then, slice_get, Contains}
use Rattle.std.specs.List.{list_all}
use Rattle.std.specs.Option.{option_map_or}
use Rattle.std.proofs.lemmas.Option.{slice_get_within}
use Rattle.nc_names.specs.declared.name.Bound.{Bound}
use Rattle.nc_names.specs.declared.name.QName.{QName}
use Rattle.nc_patterns.specs.Admits.{admits_each}
use Rattle.nc_schema.specs.Bindings.{module_bounds}
use Rattle.nc_schema.specs.Tables.{Tables}
use Rattle.nc_schema.specs.Values.{Givers, Gives, agrees, text_in_type, type_of as kind_at, type_text, union_text}
use Rattle.nc_schema.specs.declared.pattern.LeafrefEnd.{LeafrefEnd}
use Rattle.nc_schema.specs.declared.value_type.ValueType.{ValueType}
use Rattle.nc_schema.specs.declared.value_type.ValueType.TheVariants.{Chars as String, Identity, Leafref, Union}
use Rattle.nc_yang_scopes.proofs.LinkLists.{contains_first, contains_later}
use Rattle.nc_yang_scopes.specs.Scopes.{Located}
use Rattle.nc_yang_types.specs.Meanings.{DerivedFrom, Entry, Meaning, OneOf, Refers}
use Rattle.nc_yang_types.specs.Wholes.{members_of}
use Rattle.nc_yang_types.proofs.MeaningLemmas.{means_one}
use Rattle.nc_yang_leafs.specs.Bases.{Basis, leads}
use Rattle.nc_yang_leafs.specs.Typings.{HasType, IsEntry, IsPatterned, none, numbers_of, one_more}
use Rattle.nc_yang_leafs.specs.Readings.{has_whole, is_whole}
use Rattle.nc_yang_leafs.proofs.AlikeLemmas.{alone_alike, has_others, path_tables, strings_alike}
use Rattle.nc_yang.specs.Laws.{reference_at, reference_in}
use Rattle.nc_yang.proofs.Alone.{IsAlone, means_alone}
use Rattle.nc_yang.proofs.Chains.{Asks, Clear, Ends, asked_is, clear_at_start, ends, further, member, next_clear, one_is_left, target}
use Rattle.nc_yang.proofs.LeafTypes.{Typed, head}

-- ---- unions
module _ (f g : List Bound → Gives) where
  abbrev TakeOne : ℕ → ℕ → Type 0
  TakeOne k j = (bounds : List Bound) (text : List ℕ) → f bounds k text ≡ g bounds j text

  -- one after another
  abbrev pub Agree : List ℕ → List ℕ → Type 0
  Agree [] [] = Unit {0}
  Agree (k ∷ ks) (j ∷ js) = TakeOne k j × Agree ks js
  Agree ks js = ⊥

  agree_more : (ks js : List ℕ) (k j : ℕ) → Agree ks js → TakeOne k j → Agree (ks ++ k ∷ []) (js ++ j ∷ [])
  agree_more [] [] k j h one = (one, tt)
  agree_more [] (y ∷ js) k j h one = absurd h
  agree_more (x ∷ ks) [] k j h one = absurd h
  agree_more (x ∷ ks) (y ∷ js) k j h one = (h.0, agree_more ks js k j h.1 one)

  all_agree : (names : List Bound) (found : List ℕ) (ks js : List ℕ) → Agree ks js →
      list_all (λ other. agrees found (f names other found)) ks ≡ list_all (λ other. agrees found (g names other found)) js
  all_agree names found [] [] h = refl
  all_agree names found [] (y ∷ js) h = absurd h
  all_agree names found (x ∷ ks) [] h = absurd h
  all_agree names found (x ∷ ks) (y ∷ js) h = λ i. agrees found (h.0 names found i) && all_agree names found ks js h.1 i

  pub union_alike : (names bounds : List Bound) (es ds ks js : List ℕ) → Agree es ds → Agree ks js → (text : List ℕ) →
      union_text f names bounds es ks text ≡ union_text g names bounds ds js text
  union_alike names bounds es ds [] [] before h text = refl
  union_alike names bounds es ds [] (y ∷ js) before h text = absurd h
  union_alike names bounds es ds (x ∷ ks) [] before h text = absurd h
  union_alike names bounds es ds (x ∷ ks) (y ∷ js) before h text =
      let rest = union_alike names bounds (es ++ x ∷ []) (ds ++ y ∷ []) ks js (agree_more es ds x y before h.0) h.1 text in
      λ i. elim (h.0 bounds text i) as (λ _. Option (List ℕ)) [
        | None ↦ rest i
        | Some found ↦ cond (all_agree names found es ds before i) (Some found) None
      ]

module _ (derived : List Located → List QName → Type 0) (one_derived : (bases : List Located) (xs ys : List QName) → derived bases xs → derived bases ys → xs ≡ ys)
    (b : Basis) (t u : Tables) (alike : path_tables t ≡ path_tables u) (named other : List ℕ → List Located → Type 0)
    (agree : (ns ms : List ℕ) (ps : List Located) → named ns ps → other ms ps → (text : List ℕ) → admits_each t.patterns ns text ≡ admits_each u.patterns ms text) where
  -- the type of a leaf or leaf-list in both
  pub record Both (n : ℕ) : Type 0 where
    pub l : Located
    pub one : ℕ
    pub twin : ℕ
    pub one_is : kind_at t n ≡ Some one
    pub other_is : kind_at u n ≡ Some twin
    pub one_has : HasType derived named b t.types n l one
    pub other_has : HasType derived other b u.types n l twin

  abbrev pub Kinds : ℕ → Type 0
  Kinds n = ((kind_at t n ≡ None) × (kind_at u n ≡ None)) ⊎ Both n

  module _ (kinds : (n : ℕ) → Kinds n) where
    abbrev IsIn : ℕ → Meaning → ValueType → Type 0
    IsIn n = IsEntry derived named (leads b.scoping b.given n)

    abbrev IsAlso : ℕ → Meaning → ValueType → Type 0
    IsAlso n = IsEntry derived other (leads b.scoping b.given n)

    -- the entries of one meaning
    module _ (f g : List Bound → Gives) (keys others : List Bound → Gives) (same : keys ≡ others) where
      abbrev Deeper : ℕ → ℕ → Type 0
      Deeper k j =
          (n : ℕ) (l : Located) (k2 j2 : ℕ) → Asks t k k2 → Asks u j j2 → HasType derived named b t.types n l k2 → HasType derived other b u.types n l j2 →
          (bounds : List Bound) (text : List ℕ) → f bounds k2 text ≡ g bounds j2 text

      abbrev one_givers : Givers
      one_givers = record { keys = keys; types = f }

      abbrev other_givers : Givers
      other_givers = record { keys = others; types = g }

      members_agree : (n : ℕ) (ls : List Located) (ks js : List ℕ) → Typed derived named b t n ls ks → Typed derived other b u n ls js → (k j : ℕ) → Deeper k j →
          ((x : ℕ) → Contains ks x → Asks t k x) → ((x : ℕ) → Contains js x → Asks u j x) → Agree f g ks js
      members_agree n [] _ _ none none k j deeper asks also = tt
      members_agree n (l ∷ ls) _ _ (one_more _ _ x ks m e a p c ms more) (one_more _ _ y js m2 e2 a2 p2 c2 ms2 more2) k j deeper asks also = (
        deeper n l x y (asks x (contains_first x ks)) (also y (contains_first y js)) (one_more l [] x [] m e a p c ms none) (one_more l [] y [] m2 e2 a2 p2 c2 ms2 none),
        members_agree n ls ks js more more2 k j deeper (λ z later. asks z (contains_later x ks z later)) (λ z later. also z (contains_later y js z later)),
      )

      abbrev TakeEntries : ValueType → ValueType → Type 0
      TakeEntries e d = (bounds : List Bound) (text : List ℕ) → text_in_type t one_givers e bounds text ≡ text_in_type u other_givers d bounds text

      union_entries : (n : ℕ) (ms : List Located) (e d : ValueType) (k j : ℕ) → Deeper k j → slice_get t.types k ≡ Some e → slice_get u.types j ≡ Some d →
          IsIn n (OneOf ms) e → IsAlso n (OneOf ms) d → Typed derived named b t n ms (numbers_of (OneOf ms) e) → Typed derived other b u n ms (numbers_of (OneOf ms) d) → TakeEntries e d
      union_entries n ms (Union ks) (Union js) k j deeper at also is is2 h h2 bounds text =
          union_alike f g (module_bounds t) bounds [] [] ks js tt
          (members_agree n ms ks js h h2 k j deeper (λ x c. member k x ks at c) (λ x c. member j x js also c)) text
          ∙ ap (λ (z : Tables). union_text g (module_bounds z) bounds [] js text) alike
      union_entries n ms (Union ks) d k j deeper at also is is2 h h2 bounds text = absurd is2
      union_entries n ms e d k j deeper at also is is2 h h2 bounds text = absurd is

      identity_entries : (n : ℕ) (bases : List Located) (e d : ValueType) → IsIn n (DerivedFrom bases) e → IsAlso n (DerivedFrom bases) d → TakeEntries e d
      identity_entries n bases (Identity xs) (Identity ys) is is2 bounds text =
          alone_alike t u alike one_givers other_givers same (Identity xs) refl bounds text
          ∙ ap (λ zs. text_in_type u other_givers (Identity zs) bounds text) (one_derived bases xs ys is is2)
      identity_entries n bases (Identity xs) d is is2 bounds text = absurd is2
      identity_entries n bases e d is is2 bounds text = absurd is

      target_takes : (to k j : ℕ) (above above2 : Option ℕ) (need need2 : Bool) → Deeper k j → slice_get t.types k ≡ Some (Leafref to above need) →
          slice_get u.types j ≡ Some (Leafref to above2 need2) → (bounds : List Bound) (text : List ℕ) →
          option_and_then (λ number. f bounds number text) (kind_at t to) ≡ option_and_then (λ number. g bounds number text) (kind_at u to)
      target_takes to k j above above2 need need2 deeper at also bounds text = by (kinds to)
        where
          by : Kinds to → option_and_then (λ number. f bounds number text) (kind_at t to) ≡ option_and_then (λ number. g bounds number text) (kind_at u to)
          by (inl nothing) = ap (option_and_then (λ number. f bounds number text)) nothing.0 ∙ sym (ap (option_and_then (λ number. g bounds number text)) nothing.1)
          by (inr both) =
              ap (option_and_then (λ number. f bounds number text)) both.one_is
              ∙ deeper to both.l both.one both.twin (target k both.one to above need at both.one_is) (target j both.twin to above2 need2 also both.other_is)
              both.one_has both.other_has bounds text
              ∙ sym (ap (option_and_then (λ number. g bounds number text)) both.other_is)

      leafref_entries : (n : ℕ) (path : Located) (need : Bool) (e d : ValueType) (k j : ℕ) → Deeper k j → slice_get t.types k ≡ Some e → slice_get u.types j ≡ Some d →
          IsIn n (Refers path need) e → IsAlso n (Refers path need) d → TakeEntries e d
      leafref_entries n path need (Leafref to above one) (Leafref to2 above2 two) k j deeper at also is is2 bounds text =
          let there : to2 ≡ to = sym (ap (λ o. option_map_or (λ (z : LeafrefEnd). z.target) o 0) (sym is.0 ∙ is2.0)) in
          target_takes to k j above above2 one two deeper at (subst (λ z. slice_get u.types j ≡ Some (Leafref z above2 two)) there also) bounds text
          ∙ ap (λ z. option_and_then (λ number. g bounds number text) (kind_at u z)) (sym there)
      leafref_entries n path need (Leafref to above one) d k j deeper at also is is2 bounds text = absurd is2
      leafref_entries n path need e d k j deeper at also is is2 bounds text = absurd is

      entry_take : (x : ValueType) (ps : List Located) (e d : ValueType) → has_others x ≡ false → IsPatterned named x ps e → IsPatterned other x ps d → TakeEntries e d
      entry_take (String lengths starless blank) ps e d alone is is2 bounds text =
          ap (λ z. text_in_type t one_givers z bounds text) is.2
          ∙ strings_alike t u alike one_givers other_givers lengths starless is.0 is2.0 bounds text (agree is.0 is2.0 ps is.1 is2.1 text)
          ∙ sym (ap (λ z. text_in_type u other_givers z bounds text) is2.2)
      entry_take (Union members) ps e d alone is is2 bounds text = absurd (cc)
      entry_take (Leafref to above need) ps e d alone is is2 bounds text = absurd (cc)
      entry_take x ps e d alone is is2 bounds text =
          ap (λ z. text_in_type t one_givers z bounds text) (sym is) ∙ alone_alike t u alike one_givers other_givers same x refl bounds text
          ∙ ap (λ z. text_in_type u other_givers z bounds text) is2

      entries_take : (n : ℕ) (m : Meaning) (e d : ValueType) (k j : ℕ) → IsAlone m → Deeper k j → slice_get t.types k ≡ Some e → slice_get u.types j ≡ Some d →
          IsIn n m e → IsAlso n m d → Typed derived named b t n (members_of m) (numbers_of m e) → Typed derived other b u n (members_of m) (numbers_of m d) → TakeEntries e d
      entries_take n (Entry x ps taken) e d k j alone deeper at also is is2 h h2 bounds text = entry_take x ps e d alone is is2 bounds text
      entries_take n (OneOf ms) e d k j alone deeper at also is is2 h h2 bounds text = union_entries n ms e d k j deeper at also is is2 h h2 bounds text
      entries_take n (DerivedFrom bases) e d k j alone deeper at also is is2 h h2 bounds text = identity_entries n bases e d is is2 bounds text
      entries_take n (Refers path need) e d k j alone deeper at also is is2 h h2 bounds text = leafref_entries n path need e d k j deeper at also is is2 bounds text

      abbrev in_one : List Bound → List ℕ → Option ValueType → Option (List ℕ)
      in_one bounds text o = option_and_then (λ (type : ValueType). text_in_type t one_givers type bounds text) o

      abbrev in_other : List Bound → List ℕ → Option ValueType → Option (List ℕ)
      in_other bounds text o = option_and_then (λ (type : ValueType). text_in_type u other_givers type bounds text) o

      pub numbers_take : (n : ℕ) (l : Located) (k j : ℕ) → HasType derived named b t.types n l k → HasType derived other b u.types n l j → Deeper k j → (bounds : List Bound) (text : List ℕ) →
          in_one bounds text (slice_get t.types k) ≡ in_other bounds text (slice_get u.types j)
      numbers_take n l k j has has2 deeper bounds text =
          let a = head derived named b t n l k has in
          let c = head derived other b u n l j has2 in
          let one : c.m ≡ a.m = means_one b.on b.scoping.texts l c.m a.m c.means_it a.means_it in
          ap (in_one bounds text) a.at
          ∙ entries_take n a.m a.entry c.entry k j (means_alone b.on b.scoping.texts l a.m a.means_it) deeper a.at c.at a.is_it
          (subst (λ z. IsAlso n z c.entry) one c.is_it) a.members (subst (λ z. Typed derived other b u n (members_of z) (numbers_of z c.entry)) one c.members) bounds text
          ∙ sym (ap (in_other bounds text) c.at)

    within : (n : ℕ) (l : Located) (k : ℕ) → HasType derived named b t.types n l k → k < length t.types
    within n l k has = let a = head derived named b t n l k has in slice_get_within t.types k a.entry a.at

    also_within : (n : ℕ) (l : Located) (j : ℕ) → HasType derived other b u.types n l j → j < length u.types
    also_within n l j has = let a = head derived other b u n l j has in slice_get_within u.types j a.entry a.at

    -- types of one `type` statement at one data node take texts alike
    types_take : (k : ℕ) → Ends t k → (keys others : List Bound → Gives) → keys ≡ others → (n : ℕ) (l : Located) (j : ℕ) → Ends u j →
        HasType derived named b t.types n l k → HasType derived other b u.types n l j → (most more : ℕ) (chain also : List ℕ) → Clear t chain most k → Clear u also more j →
        (bounds : List Bound) (text : List ℕ) → type_text t keys most chain bounds k text ≡ type_text u others more also bounds j text
    types_take _ (ends k each) keys others same n l j over has has2 zero more chain also clear clear2 bounds text =
        absurd (one_is_left t chain k (ends k each) clear (within n l k has))
    types_take _ (ends k each) keys others same n l j over has has2 (suc most) zero chain also clear clear2 bounds text =
        absurd (one_is_left u also j over clear2 (also_within n l j has2))
    types_take _ (ends k each) keys others same n l j over has has2 (suc most) (suc more) chain also clear clear2 bounds text =
        asked_is t chain k (ends k each) keys most bounds text clear
        ∙ numbers_take (type_text t keys most (k ∷ chain)) (type_text u others more (j ∷ also)) keys others same n l k j has has2
        (λ n2 l2 k2 j2 asks asks2 h h2. types_take k2 (each k2 asks) keys others same n2 l2 j2 (further u j j2 over asks2) h h2 most more (k ∷ chain) (j ∷ also)
        (next_clear t chain k (ends k each) most clear (within n l k has) k2 asks) (next_clear u also j over more clear2 (also_within n l j has2) j2 asks2))
        bounds text
        ∙ sym (asked_is u also j over others more bounds text clear2)

    module _ (one_ends : (n k : ℕ) → kind_at t n ≡ Some k → Ends t k) (other_ends : (n k : ℕ) → kind_at u n ≡ Some k → Ends u k) where
      pub nodes_take : (keys others : List Bound → Gives) → keys ≡ others → (n : ℕ) (bounds : List Bound) (text : List ℕ) →
          option_and_then (λ type. type_text t keys (length t.types) [] bounds type text) (kind_at t n)
          ≡ option_and_then (λ type. type_text u others (length u.types) [] bounds type text) (kind_at u n)
      nodes_take keys others same n bounds text = by (kinds n)
        where
          by : Kinds n → option_and_then (λ type. type_text t keys (length t.types) [] bounds type text) (kind_at t n)
              ≡ option_and_then (λ type. type_text u others (length u.types) [] bounds type text) (kind_at u n)
          by (inl nothing) =
              ap (option_and_then (λ type. type_text t keys (length t.types) [] bounds type text)) nothing.0
              ∙ sym (ap (option_and_then (λ type. type_text u others (length u.types) [] bounds type text)) nothing.1)
          by (inr both) =
              ap (option_and_then (λ type. type_text t keys (length t.types) [] bounds type text)) both.one_is
              ∙ types_take both.one (one_ends n both.one both.one_is) keys others same n both.l both.twin (other_ends n both.twin both.other_is) both.one_has both.other_has
              (length t.types) (length u.types) [] [] (clear_at_start t both.one) (clear_at_start u both.twin) bounds text
              ∙ sym (ap (option_and_then (λ type. type_text u others (length u.types) [] bounds type text)) both.other_is)

    -- ---- integer types
    entry_whole : (x : ValueType) (ps : List Located) (e d : ValueType) → IsPatterned named x ps e → IsPatterned other x ps d → is_whole e ≡ is_whole d
    entry_whole (String lengths starless blank) ps e d is is2 = ap is_whole is.2 ∙ sym (ap is_whole is2.2)
    entry_whole x ps e d is is2 = ap is_whole (sym is ∙ is2)

    entries_whole : (n : ℕ) (m : Meaning) (e d : ValueType) → IsIn n m e → IsAlso n m d → is_whole e ≡ is_whole d
    entries_whole n (Entry x ps taken) e d is is2 = entry_whole x ps e d is is2
    entries_whole n (OneOf ms) (Union ks) (Union js) is is2 = refl
    entries_whole n (OneOf ms) (Union ks) d is is2 = absurd is2
    entries_whole n (DerivedFrom bases) (Identity xs) (Identity ys) is is2 = refl
    entries_whole n (DerivedFrom bases) (Identity xs) d is is2 = absurd is2
    entries_whole n (Refers path need) (Leafref to above one) (Leafref to2 above2 two) is is2 = refl
    entries_whole n (Refers path need) (Leafref to above one) d is is2 = absurd is2
    entries_whole n m e d is is2 = absurd is

    pub whole_alike : (n : ℕ) → has_whole t n ≡ has_whole u n
    whole_alike n = by (kinds n)
      where
        by : Kinds n → has_whole t n ≡ has_whole u n
        by (inl nothing) =
            ap (λ o. option_map_or is_whole (option_and_then (slice_get t.types) o) false) nothing.0
            ∙ sym (ap (λ o. option_map_or is_whole (option_and_then (slice_get u.types) o) false) nothing.1)
        by (inr both) =
            let a = head derived named b t n both.l both.one both.one_has in
            let c = head derived other b u n both.l both.twin both.other_has in
            let one : c.m ≡ a.m = means_one b.on b.scoping.texts both.l c.m a.m c.means_it a.means_it in
            ap (λ o. option_map_or is_whole (option_and_then (slice_get t.types) o) false) both.one_is
            ∙ ap (λ o. option_map_or is_whole o false) a.at
            ∙ entries_whole n a.m a.entry c.entry a.is_it (subst (λ z. IsAlso n z c.entry) one c.is_it)
            ∙ sym (ap (λ o. option_map_or is_whole o false) c.at)
            ∙ sym (ap (λ o. option_map_or is_whole (option_and_then (slice_get u.types) o) false) both.other_is)

    -- ---- references
    entry_refers : (x : ValueType) (ps : List Located) (e d : ValueType) → IsPatterned named x ps e → IsPatterned other x ps d → reference_in e ≡ reference_in d
    entry_refers (String lengths starless blank) ps e d is is2 = ap reference_in is.2 ∙ sym (ap reference_in is2.2)
    entry_refers x ps e d is is2 = ap reference_in (sym is ∙ is2)

    entries_refer : (n : ℕ) (m : Meaning) (e d : ValueType) → IsIn n m e → IsAlso n m d → reference_in e ≡ reference_in d
    entries_refer n (Entry x ps taken) e d is is2 = entry_refers x ps e d is is2
    entries_refer n (OneOf ms) (Union ks) (Union js) is is2 = refl
    entries_refer n (OneOf ms) (Union ks) d is is2 = absurd is2
    entries_refer n (DerivedFrom bases) (Identity xs) (Identity ys) is is2 = refl
    entries_refer n (DerivedFrom bases) (Identity xs) d is is2 = absurd is2
    entries_refer n (Refers path need) (Leafref to above one) (Leafref to2 above2 two) is is2 =
        let first : LeafrefEnd = record { target = to; above = above } in
        let second : LeafrefEnd = record { target = to2; above = above2 } in
        let end : first ≡ second = (let e : Some first ≡ Some second = sym is.0 ∙ is2.0 in cc) in
        let need_same : one ≡ two = is.1 ∙ sym is2.1 in
        λ i. Some (Leafref (end i).target (end i).above (need_same i))
    entries_refer n (Refers path need) (Leafref to above one) d is is2 = absurd is2
    entries_refer n m e d is is2 = absurd is

    abbrev refers_in : Tables → Option ℕ → Option ValueType
    refers_in tables o = option_and_then reference_in (option_and_then (slice_get tables.types) o)

    pub references_alike : (n : ℕ) → reference_at t n ≡ reference_at u n
    references_alike n = by (kinds n)
      where
        by : Kinds n → reference_at t n ≡ reference_at u n
        by (inl nothing) = ap (refers_in t) nothing.0 ∙ sym (ap (refers_in u) nothing.1)
        by (inr both) =
            let a = head derived named b t n both.l both.one both.one_has in
            let c = head derived other b u n both.l both.twin both.other_has in
            let one : c.m ≡ a.m = means_one b.on b.scoping.texts both.l c.m a.m c.means_it a.means_it in
            ap (refers_in t) both.one_is
            ∙ ap (option_and_then reference_in) a.at
            ∙ entries_refer n a.m a.entry c.entry a.is_it (subst (λ z. IsAlso n z c.entry) one c.is_it)
            ∙ sym (ap (option_and_then reference_in) c.at)
            ∙ sym (ap (refers_in u) both.other_is)
