-- The types of leafs and leaf-lists in a schema that has them, and that no path of a leafref is lost there.
use Rattle.std.proofs.Common.{inl, inr, ◌≡◌, ◌⊎◌, ◌<◌, ℕ, zero, suc, Bool, true, false, cond, List, [], ◌∷◌, length, map, refl, sym, ap, subst, ◌∙◌, arith}
use Rattle.std.specs.Prelude.{Option, Some, None, IsTrue, IsSomeAnd, option_and_then, slice_get, Contains}
use Rattle.std.proofs.lemmas.Option.{slice_get_past, slice_get_within}
use Rattle.nc_names.specs.declared.name.QName.{QName}
use Rattle.nc_schema.specs.Kinds.{has_value}
use Rattle.nc_schema.specs.Tables.{Tables}
use Rattle.nc_schema.specs.Values.{type_of as kind_at}
use Rattle.nc_schema.specs.declared.node.Node.{Node}
use Rattle.nc_schema.specs.declared.value_type.ValueType.{ValueType}
use Rattle.nc_schema.specs.declared.value_type.ValueType.TheVariants.{Chars as String, Union, Leafref}
use Rattle.nc_yang_order.proofs.Lists.{contains_none, contains_one, get_none}
use Rattle.nc_yang_scopes.specs.References.{fault_at}
use Rattle.nc_yang_scopes.proofs.LinkLists.{contains_cases, contains_first}
use Rattle.nc_yang_scopes.specs.Scopes.{Located}
use Rattle.nc_yang_scopes.specs.declared.naming.TextFault.{TextFault}
use Rattle.nc_yang_nodes.proofs.ListLemmas.{got}
use Rattle.nc_yang_types.specs.Meanings.{DerivedFrom, Entry, Meaning, Means, OneOf, Refers as RefersTo}
use Rattle.nc_yang_types.specs.Wholes.{UsesPath, itself as used, member as used_in, members_of}
use Rattle.nc_yang_types.proofs.MeaningLemmas.{means_one}
use Rattle.nc_yang_leafs.specs.Bases.{AllMeanWhole, Basis, leads, type_of}
use Rattle.nc_yang_leafs.specs.Faults.{BreaksLeafref}
use Rattle.nc_yang_leafs.specs.Typings.{HasItsType, HasType, HasTypes, HasTypings, IsEntry, IsPatterned, IsSameNode, none, numbers_of, one_more}
use Rattle.nc_yang_leafs.proofs.ClosingLemmas.{IsOne}
use Rattle.nc_yang_leafs.specs.Circles.{HasNoCircle, Reaches, Refers, itself, through}
use Rattle.nc_yang_leafs.proofs.AlikeLemmas.{IsPair, has_others, path_tables}
use Rattle.nc_yang_leafs.proofs.BareLemmas.{bare_by}
use Rattle.nc_yang.proofs.Alone.{IsAlone, means_alone}
use Rattle.nc_yang.proofs.Chains.{Asks, Ends, ends, member, places, target}
use Rattle.nc_yang.proofs.Lists.{without}

-- an entry with patterns has others where the one that is meant has
patterned_others : (named : List ℕ → List Located → Type 0) (one : ValueType) (ps : List Located) (entry : ValueType) → IsPatterned named one ps entry → has_others one ≡ has_others entry
patterned_others named (String lengths starless blank) ps entry is = sym (ap has_others is.2)
patterned_others named one ps entry is = ap has_others is

module _ (derived : List Located → List QName → Type 0) (named : List ℕ → List Located → Type 0) (b : Basis) where
  abbrev pub Typed : Tables → ℕ → List Located → List ℕ → Type 0
  Typed tables n = HasTypes (Means b.on b.scoping.texts) (IsEntry derived named (leads b.scoping b.given n)) tables.types

  abbrev pub One : Tables → ℕ → Located → ℕ → Type 0
  One tables n = IsOne (Means b.on b.scoping.texts) (IsEntry derived named (leads b.scoping b.given n)) tables.types

  -- the first of those numbers
  first_of : (tables : Tables) (n : ℕ) (ls : List Located) (ks : List ℕ) → Typed tables n ls ks → (l : Located) (rest : List Located) (k : ℕ) (more : List ℕ) →
      ls ≡ l ∷ rest → ks ≡ k ∷ more → One tables n l k
  first_of tables n _ _ none l rest k more e f = absurd (cc)
  first_of tables n _ _ (one_more l2 ls k2 ks m entry means at is members others) l rest k more e f =
      let same : l2 ≡ l = cc in
      let one : k2 ≡ k = cc in
      record {
        m = m;
        entry = entry;
        means_it = subst (λ z. Means b.on b.scoping.texts z m) same means;
        at = subst (λ z. slice_get tables.types z ≡ Some entry) one at;
        is_it = is;
        members = members;
      }

  pub head : (tables : Tables) (n : ℕ) (l : Located) (k : ℕ) → HasType derived named b tables.types n l k → One tables n l k
  head tables n l k has = first_of tables n (l ∷ []) (k ∷ []) has l [] k [] refl refl

  -- one of them
  pub one_among : (tables : Tables) (n : ℕ) (ls : List Located) (ks : List ℕ) → Typed tables n ls ks → (l : Located) → Contains ls l →
      (k : ℕ) × HasType derived named b tables.types n l k
  one_among tables n _ _ none l h = absurd (contains_none l h)
  one_among tables n _ _ (one_more first ls k ks m entry means at is members others) l h = elim (contains_cases first ls l h) [
    | inl same ↦ (k, subst (λ z. HasType derived named b tables.types n z k) same (one_more first [] k [] m entry means at is members none))
    | inr later ↦ one_among tables n ls ks others l later
  ]

  -- ---- no path is lost
  found_not_lost : (n : ℕ) (path : Located) (need : Bool) (entry : ValueType) → IsEntry derived named (leads b.scoping b.given n) (RefersTo path need) entry →
      leads b.scoping b.given n path ≡ None → ⊥
  found_not_lost n path need (Leafref node above required) is lost = let found = is.0 in cc
  found_not_lost n path need entry is lost = is

  path_leads : (tables : Tables) (n : ℕ) (l path : Located) → UsesPath b.on b.scoping.texts l path → (k : ℕ) → HasType derived named b tables.types n l k →
      leads b.scoping b.given n path ≡ None → ⊥
  path_leads tables n _ _ (used l path need means) k has lost =
      let a = head tables n l k has in
      let same : a.m ≡ RefersTo path need = means_one b.on b.scoping.texts l a.m (RefersTo path need) a.means_it means in
      found_not_lost n path need a.entry (subst (λ z. IsEntry derived named (leads b.scoping b.given n) z a.entry) same a.is_it) lost
  path_leads tables n _ _ (used_in l path one members means among uses) k has lost =
      let a = head tables n l k has in
      let same : a.m ≡ OneOf members = means_one b.on b.scoping.texts l a.m (OneOf members) a.means_it means in
      let o = one_among tables n (members_of a.m) (numbers_of a.m a.entry) a.members one (subst (λ z. Contains (members_of z) one) (sym same) among) in
      path_leads tables n one path uses o.0 o.1 lost

  -- ---- leafs and leaf-lists
  pub record LeafAt (tables : Tables) (n : ℕ) : Type 0 where
    pub node : Node
    pub there : slice_get b.given.nodes n ≡ Some node
    pub valued : IsTrue (has_value node.kind)
    pub l : Located
    pub is : type_of b.scoping b.plan n ≡ Some l
    pub number : ℕ
    pub kind : kind_at tables n ≡ Some number
    pub has : HasType derived named b tables.types n l number

  module _ (tables : Tables) (typed : HasTypings derived named b tables) where
    pub record Now (n : ℕ) (old : Node) : Type 0 where
      pub new : Node
      pub at : slice_get tables.nodes n ≡ Some new
      pub same : IsSameNode old new
      pub its : HasItsType derived named b tables.types n new.kind new.kind_of_value

    pub now_at : (n : ℕ) (old : Node) → slice_get b.given.nodes n ≡ Some old → Now n old
    now_at n old there = by (slice_get tables.nodes n) refl (typed.nodes n old there)
      where
        by : (o : Option Node) → slice_get tables.nodes n ≡ o →
            IsSomeAnd o (λ new. IsSameNode old new × HasItsType derived named b tables.types n new.kind new.kind_of_value) → Now n old
        by None e h = absurd h
        by (Some new) e h = record { new = new; at = e; same = h.0; its = h.1 }

    abbrev kind_in : Node → Option ℕ
    kind_in node = cond (has_value node.kind) (Some node.kind_of_value) None

    -- a valued node has its type
    abbrev pub leaf_there : (n : ℕ) (node : Node) → slice_get b.given.nodes n ≡ Some node → IsTrue (has_value node.kind) → (l : Located) → type_of b.scoping b.plan n ≡ Some l → LeafAt tables n
    leaf_there n node there valued l is =
        let w = now_at n node there in
        let has : IsTrue (has_value w.new.kind) = ap (λ (z : Node). has_value z.kind) w.same ∙ valued in
        record {
          node = node;
          there = there;
          valued = valued;
          l = l;
          is = is;
          number = w.new.kind_of_value;
          kind = ap (option_and_then kind_in) w.at ∙ ap (λ c. cond c (Some w.new.kind_of_value) None) has;
          has = w.its.valued has l is;
        }

    no_kind : (n : ℕ) (node : Node) → slice_get b.given.nodes n ≡ Some node → has_value node.kind ≡ false → kind_at tables n ≡ None
    no_kind n node there other =
        let w = now_at n node there in
        let has : has_value w.new.kind ≡ false = ap (λ (z : Node). has_value z.kind) w.same ∙ other in
        ap (option_and_then kind_in) w.at ∙ ap (λ c. cond c (Some w.new.kind_of_value) None) has

    module _ (whole : AllMeanWhole b) where
      pub leaf_at : (n : ℕ) → (kind_at tables n ≡ None) ⊎ LeafAt tables n
      leaf_at n = by (slice_get b.given.nodes n) refl
        where
          leaf : (node : Node) (c : Bool) → slice_get b.given.nodes n ≡ Some node → has_value node.kind ≡ c → (kind_at tables n ≡ None) ⊎ LeafAt tables n
          leaf node true there has = let m = whole n node there has in inr (leaf_there n node there has m.0 m.1)
          leaf node false there has = inl (no_kind n node there has)

          by : (o : Option Node) → slice_get b.given.nodes n ≡ o → (kind_at tables n ≡ None) ⊎ LeafAt tables n
          by None e =
              let past = get_none b.given.nodes n e in
              let many = typed.counted in
              inl (ap (option_and_then kind_in) (slice_get_past tables.nodes n (omega (arith, past, many))))
          by (Some node) e = leaf node (has_value node.kind) e refl

    -- where all have types, no path of a leafref leads nowhere
    pub no_path_lost : (fault : TextFault) → BreaksLeafref b fault → ⊥
    no_path_lost fault f =
        let leaf = leaf_there f.number f.node f.there f.valued f.of_type f.is in
        path_leads tables f.number f.of_type f.path f.uses leaf.number leaf.has f.lost

  -- ---- where no leafref leads in a circle, the types of leafs end
  module _ (tables : Tables) (leafs : (n : ℕ) → (kind_at tables n ≡ None) ⊎ LeafAt tables n) (straight : HasNoCircle b) where
    abbrev Good : ℕ → Type 0
    Good n = (k : ℕ) → kind_at tables n ≡ Some k → Ends tables k

    module _ (n : ℕ) (leaf : LeafAt tables n) (good : (path : Located) (to : ℕ) → Refers b n path to → Good to) where
      refers : (path : Located) (to : ℕ) (above : Option ℕ) → UsesPath b.on b.scoping.texts leaf.l path →
          leads b.scoping b.given n path ≡ Some (record { target = to; above = above }) → Refers b n path to
      refers path to above uses is = record {
        has = record { node = leaf.node; there = leaf.there; valued = leaf.valued; of_type = leaf.l; is = leaf.is; uses = uses };
        end = record { target = to; above = above };
        leads = is;
        to = refl;
      }

      -- a union
      union_ends : (l : Located) (m : Meaning) (entry : ValueType) (members : List ℕ) (j : ℕ) → Means b.on b.scoping.texts l m →
          IsEntry derived named (leads b.scoping b.given n) m entry → entry ≡ Union members → Contains members j →
          ((i : ℕ) → Contains (numbers_of m entry) i → Ends tables i) → Ends tables j
      union_ends l m entry members j means is same among below = by m (means_alone b.on b.scoping.texts l m means)
          (subst (IsEntry derived named (leads b.scoping b.given n) m) same is) (subst (λ z. (i : ℕ) → Contains (numbers_of m z) i → Ends tables i) same below)
        where
          by : (m : Meaning) → IsAlone m → IsEntry derived named (leads b.scoping b.given n) m (Union members) → ((i : ℕ) → Contains (numbers_of m (Union members)) i → Ends tables i) → Ends tables j
          by (Entry e ps taken) alone is below = absurd (let clash : has_others e ≡ true = patterned_others named e ps (Union members) is in cc)
          by (OneOf ls) alone is below = below j among
          by (DerivedFrom bases) alone is below = absurd is
          by (RefersTo path need) alone is below = absurd is

      -- a leafref
      leafref_ends : (l : Located) (m : Meaning) (entry : ValueType) (to : ℕ) (above : Option ℕ) (required : Bool) (j : ℕ) → Means b.on b.scoping.texts l m →
          IsEntry derived named (leads b.scoping b.given n) m entry → entry ≡ Leafref to above required → kind_at tables to ≡ Some j →
          ((path : Located) → UsesPath b.on b.scoping.texts l path → UsesPath b.on b.scoping.texts leaf.l path) → Ends tables j
      leafref_ends l m entry to above required j means is same kind lift = by m means (means_alone b.on b.scoping.texts l m means)
          (subst (IsEntry derived named (leads b.scoping b.given n) m) same is)
        where
          by : (m : Meaning) → Means b.on b.scoping.texts l m → IsAlone m → IsEntry derived named (leads b.scoping b.given n) m (Leafref to above required) → Ends tables j
          by (Entry e ps taken) means alone is = absurd (let clash : has_others e ≡ true = patterned_others named e ps (Leafref to above required) is in cc)
          by (OneOf ls) means alone is = absurd is
          by (DerivedFrom bases) means alone is = absurd is
          by (RefersTo path need) means alone is = good path to (refers path to above (lift path (used l path need means)) is.0) j kind

      members_end : (ls : List Located) (ks : List ℕ) → Typed tables n ls ks →
          ((l path : Located) → Contains ls l → UsesPath b.on b.scoping.texts l path → UsesPath b.on b.scoping.texts leaf.l path) →
          (k : ℕ) → Contains ks k → Ends tables k
      members_end _ _ none lift k h = absurd (contains_none k h)
      members_end _ _ (one_more l ls k0 ks m entry means at is members others) lift k h =
          by (contains_cases k0 ks k h)
          (λ more. members_end (members_of m) (numbers_of m entry) members more)
          (members_end ls ks others (λ z path later uses. lift z path (later_in z later) uses))
        where
          later_in : (z : Located) → Contains ls z → Contains (l ∷ ls) z
          later_in z later = (suc later.0, (let e = later.1 in omega (arith, e)), later.2)

          member_uses : (ms : List Located) → m ≡ OneOf ms → (z path : Located) → Contains ms z → UsesPath b.on b.scoping.texts z path → UsesPath b.on b.scoping.texts leaf.l path
          member_uses ms same z path among uses = lift l path (contains_first l ls) (used_in l path z ms (subst (Means b.on b.scoping.texts l) same means) among uses)

          uses_below : (x : Meaning) → m ≡ x → (z path : Located) → Contains (members_of x) z → UsesPath b.on b.scoping.texts z path → UsesPath b.on b.scoping.texts leaf.l path
          uses_below (OneOf ms) same z path among uses = member_uses ms same z path among uses
          uses_below (Entry e ps taken) same z path among uses = absurd (contains_none z among)
          uses_below (DerivedFrom bases) same z path among uses = absurd (contains_none z among)
          uses_below (RefersTo to need) same z path among uses = absurd (contains_none z among)

          asked : (x j : ℕ) → Asks tables x j → x ≡ k0 → ((i : ℕ) → Contains (numbers_of m entry) i → Ends tables i) → Ends tables j
          asked _ _ (member x j numbers there among) same below =
              let one : entry ≡ Union numbers = (let e = ap (slice_get tables.types) same in cc) in
              union_ends l m entry numbers j means is one among below
          asked _ _ (target x j to above required there kind) same below =
              let one : entry ≡ Leafref to above required = (let e = ap (slice_get tables.types) same in cc) in
              leafref_ends l m entry to above required j means is one kind (λ path uses. lift l path (contains_first l ls) uses)

          by : (k0 ≡ k) ⊎ Contains ks k →
              (((z path : Located) → Contains (members_of m) z → UsesPath b.on b.scoping.texts z path → UsesPath b.on b.scoping.texts leaf.l path) → (i : ℕ) → Contains (numbers_of m entry) i → Ends tables i) →
              ((i : ℕ) → Contains ks i → Ends tables i) → Ends tables k
          by (inl same) below behind = subst (Ends tables) same (ends k0 (λ j asks. asked k0 j asks refl (below (uses_below m refl))))
          by (inr later) below behind = behind k later

      leaf_ends : Ends tables leaf.number
      leaf_ends =
          members_end (leaf.l ∷ []) (leaf.number ∷ []) leaf.has
          (λ l path h uses. subst (λ z. UsesPath b.on b.scoping.texts z path) (sym (contains_one leaf.l l h)) uses) leaf.number (contains_first leaf.number [])

    good_step : (n : ℕ) → ((path : Located) (to : ℕ) → Refers b n path to → Good to) → Good n
    good_step n good k is = by (leafs n)
      where
        by : (kind_at tables n ≡ None) ⊎ LeafAt tables n → Ends tables k
        by (inl no_type) = absurd (cc)
        by (inr leaf) = let same : leaf.number ≡ k = (let e = leaf.kind in cc) in subst (Ends tables) same (leaf_ends n leaf good)

    -- an end is met since no data node comes twice
    of_reach : (count : ℕ) (xs : List ℕ) → length xs ≡ count → (n : ℕ) → ((m : ℕ) → Reaches b n m → m < length b.given.nodes → Contains xs m) → Good n
    of_reach zero xs many n all k is = by (leafs n)
      where
        by : (kind_at tables n ≡ None) ⊎ LeafAt tables n → Ends tables k
        by (inl no_type) = absurd (cc)
        by (inr leaf) = absurd (let h = all n (itself n) (slice_get_within b.given.nodes n leaf.node leaf.there) in omega (arith, h.1, many))
    of_reach (suc count) xs many n all k is = by (leafs n) (of_reach count)
      where
        by : (kind_at tables n ≡ None) ⊎ LeafAt tables n →
            ((ys : List ℕ) → length ys ≡ count → (o : ℕ) → ((m : ℕ) → Reaches b o m → m < length b.given.nodes → Contains ys m) → Good o) → Ends tables k
        by (inl no_type) further = absurd (cc)
        by (inr leaf) further =
            let r = without xs n (all n (itself n) (slice_get_within b.given.nodes n leaf.node leaf.there)) in
            let fewer = r.1 in
            good_step n (λ path to leads_to. further r.0 (omega (arith, fewer, many)) to (λ m reaches within.
            r.2 m (all m (through n path to m leads_to reaches) within) (λ same. straight (fault_at path) (record {
              leaf = n;
              path = path;
              target = to;
              refers = leads_to;
              back = subst (Reaches b to) same reaches;
              at = refl;
            })))) k is

    pub leafs_end : (n : ℕ) → Good n
    leafs_end n = let p = places (length b.given.nodes) in of_reach (length b.given.nodes) p.0 p.1 n (λ m reaches less. p.2 m less)

  -- ---- a schema with types is as it was, but for the numbers of these
  maps_alike : {A B : Type 0} (f : A → B) (xs ys : List A) → length xs ≡ length ys →
      ((i : ℕ) (x y : A) → slice_get xs i ≡ Some x → slice_get ys i ≡ Some y → f x ≡ f y) → map f xs ≡ map f ys
  maps_alike f [] [] many same = refl
  maps_alike f [] (y ∷ ys) many same = absurd (omega (arith, many))
  maps_alike f (x ∷ xs) [] many same = absurd (omega (arith, many))
  maps_alike f (x ∷ xs) (y ∷ ys) many same =
      let rest = maps_alike f xs ys (omega (arith, many)) (λ i. same (suc i)) in
      let first = same 0 x y refl refl in
      λ i. first i ∷ rest i

  pub paths_as_given : (tables : Tables) → HasTypings derived named b tables → path_tables tables ≡ path_tables b.given
  paths_as_given tables typed =
      let nodes = maps_alike (bare_by (λ n. 0)) tables.nodes b.given.nodes typed.counted (λ i x y at from.
      let w = now_at tables typed i y from in
      let same : x ≡ w.new = (let e : Some x ≡ Some w.new = sym at ∙ w.at in cc) in
      ap (bare_by (λ n. 0)) same ∙ ap (bare_by (λ n. 0)) w.same) in
      λ i. record { nodes = nodes i; choices = typed.choices i; types = []; modules = typed.modules i; patterns = [] }

-- a node in two of them, whose types may have other numbers of patterns
module _ (derived : List Located → List QName → Type 0) (named other : List ℕ → List Located → Type 0) (b : Basis) (t u : Tables) (one : HasTypings derived named b t) (two : HasTypings derived other b u) where
  pub nodes_paired : (n : ℕ) (node : Node) → slice_get u.nodes n ≡ Some node →
      (old : Node) × (kind : ℕ) × (other_kind : ℕ) × (node ≡ record old { kind_of_value = other_kind }) × (slice_get t.nodes n ≡ Some (record old { kind_of_value = kind }))
  nodes_paired n node at =
      let less = slice_get_within u.nodes n node at in
      let many = two.counted in
      let g = got b.given.nodes n (omega (arith, less, many)) in
      let w = now_at derived named b t one n g.0 g.1 in
      let v = now_at derived other b u two n g.0 g.1 in
      let same : node ≡ v.new = (let e : Some node ≡ Some v.new = sym at ∙ v.at in cc) in
      (g.0, w.new.kind_of_value, v.new.kind_of_value, same ∙ v.same, w.at ∙ ap Some w.same)

  pub pair_at : (n : ℕ) → n < length t.nodes → IsPair t u n
  pair_at n less =
      let many = one.counted in
      let g = got b.given.nodes n (omega (arith, less, many)) in
      let w = now_at derived named b t one n g.0 g.1 in
      let v = now_at derived other b u two n g.0 g.1 in
      (g.0, w.new.kind_of_value, v.new.kind_of_value, w.at ∙ ap Some w.same, v.at ∙ ap Some v.same)
