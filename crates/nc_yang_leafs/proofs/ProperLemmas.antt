-- The types of a schema are proper.
use Rattle.std.proofs.Common.{◌≡◌, ◌++◌, ℕ, Bool, List, [], ◌∷◌, get_or, Option, Some, None, refl, sym, ap, subst, ◌∙◌, arith}
use Rattle.std.specs.Prelude.{IsSome, IsSomeAnd, IsTrue, slice_get}
use Rattle.std.specs.List.{All}
use Rattle.std.proofs.lemmas.List.Elements.{All-cons, All-nil}
use Rattle.std.proofs.lemmas.Option.{slice_get_within, slice_get-get_or}
use Rattle.nc_names.specs.declared.name.QName.{QName}
use Rattle.nc_schema.specs.declared.node.Node.{Node}
use Rattle.nc_schema.specs.declared.value_type.ValueType.{ValueType}
use Rattle.nc_schema.specs.declared.value_type.ValueType.TheVariants.{Whole, Decimal, Chars as String, Boolean as Truth, Enumeration as Names, Bits as Set, Binary as Octets, Empty as Nothing, Union as Members, Identity, Leafref, Instance, NodeInstance}
use Rattle.nc_schema.specs.Kinds.{has_value}
use Rattle.nc_schema.specs.Proper.{AreTypesProper, EachNode, IsChain, IsIdentityOf, IsProperType, TurnsAbove}
use Rattle.nc_schema.specs.Tables.{Tables}
use Rattle.nc_yang_order.proofs.Lists.{get_none}
use Rattle.nc_yang_statements.specs.Statements.{name}
use Rattle.nc_yang_scopes.specs.Prefixes.{prefixes_in}
use Rattle.nc_yang_scopes.specs.Scopes.{Located}
use Rattle.nc_yang_types.specs.Meanings.{DerivedFrom, Entry, Meaning, Means, OneOf, Refers}
use Rattle.nc_yang_types.specs.Wholes.{members_of}
use Rattle.nc_yang_leafs.specs.Bases.{AllMeanWhole, Basis, leads}
use Rattle.nc_yang_leafs.specs.Typings.{HasItsType, HasTypes, IsEntry, IsSameNode, IsTyped, NameEach, none, numbers_of, one_more}
use Rattle.nc_yang_leafs.proofs.ClosingLemmas.{IsOne}
use Rattle.nc_yang_leafs.proofs.LeafrefLemmas.{IsEnd, path_end}
use Rattle.nc_yang_leafs.proofs.SoundLemmas.{means_sound, patterned_apart, patterned_proper}

is_there : (types : List ValueType) (number : ℕ) (entry : ValueType) → slice_get types number ≡ Some entry → IsSome (slice_get types number)
is_there types number entry e = subst IsSome (sym e) refl

-- what a number is of
module _ (means : Located → Meaning → Type 0) (is : Meaning → ValueType → Type 0) (types : List ValueType) where
  abbrev AreFirst : List Located → List ℕ → Type 0
  AreFirst [] numbers = Unit {0}
  AreFirst (l ∷ ls) [] = Unit {0}
  AreFirst (l ∷ ls) (number ∷ numbers) = IsOne means is types l number

  are_first : (ls : List Located) (numbers : List ℕ) → HasTypes means is types ls numbers → AreFirst ls numbers
  are_first _ _ none = tt
  are_first _ _ (one_more l ls number numbers m entry a b c members rest) = record { m = m; entry = entry; means_it = a; at = b; is_it = c; members = members }

  pub one_of : (l : Located) (number : ℕ) → HasTypes means is types (l ∷ []) (number ∷ []) → IsOne means is types l number
  one_of l number has = are_first (l ∷ []) (number ∷ []) has

  -- the numbers are those of entries
  pub all_there : (ls : List Located) (numbers : List ℕ) → HasTypes means is types ls numbers → All (λ number. IsSome (slice_get types number)) numbers
  all_there _ _ none = All-nil (λ number. IsSome (slice_get types number))
  all_there _ _ (one_more l ls number numbers m entry a b c members rest) =
      All-cons (λ number. IsSome (slice_get types number)) number numbers (is_there types number entry b) (all_there ls numbers rest)

module _ (derived : List Located → List QName → Type 0) (b : Basis) (tables : Tables) (typed : IsTyped derived b tables) where
  -- a data node as it was
  pub record WasThere (number : ℕ) (node : Node) : Type 0 where
    pub old : Node
    pub there : slice_get b.given.nodes number ≡ Some old
    pub same : IsSameNode old node
    pub has : HasItsType derived (NameEach tables.patterns) b tables.types number node.kind node.kind_of_value

  was_there : (number : ℕ) (node : Node) → slice_get tables.nodes number ≡ Some node → WasThere number node
  was_there number node there = by (slice_get b.given.nodes number) refl
    where
      by : (o : Option Node) → slice_get b.given.nodes number ≡ o → WasThere number node
      by None e = absurd (let past = get_none b.given.nodes number e in let l = slice_get_within tables.nodes number node there in let c = typed.counted in omega (arith, past, l, c))
      by (Some old) e =
          let h : IsSameNode old node × HasItsType derived (NameEach tables.patterns) b tables.types number node.kind node.kind_of_value =
          subst (λ o. IsSomeAnd o (λ new. IsSameNode old new × HasItsType derived (NameEach tables.patterns) b tables.types number new.kind new.kind_of_value)) there (typed.nodes number old e) in
          record { old = old; there = e; same = h.0; has = h.1 }

  -- what is so of a data node for its kind and parent is so of it with its type
  still_there : (P : Node → Type 0) → ((node : Node) (kind_of_value : ℕ) → P node → P (record node { kind_of_value = kind_of_value })) →
      (number : ℕ) → IsSomeAnd (slice_get b.given.nodes number) P → IsSomeAnd (slice_get tables.nodes number) P
  still_there P keeps number h = by (slice_get b.given.nodes number) refl h
    where
      find : (old : Node) (o : Option Node) → P old → IsSomeAnd o (λ new. IsSameNode old new × HasItsType derived (NameEach tables.patterns) b tables.types number new.kind new.kind_of_value) → IsSomeAnd o P
      find old None p found = absurd found
      find old (Some new) p found = subst P (sym found.0) (keeps old new.kind_of_value p)

      by : (o : Option Node) → slice_get b.given.nodes number ≡ o → IsSomeAnd o P → IsSomeAnd (slice_get tables.nodes number) P
      by None e p = absurd p
      by (Some old) e p = find old (slice_get tables.nodes number) p (typed.nodes number old e)

  chain_kept : (above : ℕ) (numbers : List ℕ) → IsChain b.given above numbers → IsChain tables above numbers
  chain_kept above [] h = tt
  chain_kept above (number ∷ numbers) h = (
    still_there (λ node. node.parent ≡ Some above) (λ node kind_of_value p. p) number h.0,
    chain_kept number numbers h.1,
  )

  module _ (whole : AllMeanWhole b) where
    -- what the type of a data node is of
    type_is : (number : ℕ) (node : Node) → slice_get tables.nodes number ≡ Some node → IsTrue (has_value node.kind) →
        (l : Located) × IsOne (Means b.on b.scoping.texts) (IsEntry derived (NameEach tables.patterns) (leads b.scoping b.given number)) tables.types l node.kind_of_value
    type_is number node there valued =
        let was = was_there number node there in
        let before : IsTrue (has_value was.old.kind) = ap (λ (z : Node). has_value z.kind) (sym was.same) ∙ valued in
        let w = whole number was.old was.there before in
        (w.0, one_of (Means b.on b.scoping.texts) (IsEntry derived (NameEach tables.patterns) (leads b.scoping b.given number)) tables.types w.0 node.kind_of_value (was.has.valued valued w.0 w.1))

    are_typed : EachNode tables (λ number node. IsTrue (has_value node.kind) → IsSome (slice_get tables.types node.kind_of_value))
    are_typed number node there valued = let t = type_is number node there valued in is_there tables.types node.kind_of_value t.1.entry t.1.at

    -- where a leafref of a meaning ends
    leafref_is : (number : ℕ) (l : Located) (m : Meaning) (target : ℕ) (above : Option ℕ) (need : Bool) → Means b.on b.scoping.texts l m →
        IsEntry derived (NameEach tables.patterns) (leads b.scoping b.given number) m (Leafref target above need) → IsEnd b.given number (record { target = target; above = above })
    leafref_is number l (Entry entry ps taken) target above need means is =
        absurd (patterned_apart (NameEach tables.patterns) entry ps target above need (means_sound b.on b.scoping.texts l (Entry entry ps taken) means) is)
    leafref_is number l (OneOf members) target above need means is = absurd is
    leafref_is number l (DerivedFrom bases) target above need means is = absurd is
    leafref_is number l (Refers path required) target above need means is =
        path_end b.given number (name path.statement) (prefixes_in b.scoping.texts path.place.text) (record { target = target; above = above }) is.0

    turn_above : EachNode tables (TurnsAbove tables)
    turn_above number node there target above need is valued =
        let t = type_is number node there valued in
        let same : t.1.entry ≡ Leafref target (Some above) need = (let f = t.1.at in cc) in
        let end = leafref_is number t.0 t.1.m target (Some above) need t.1.means_it (subst (IsEntry derived (NameEach tables.patterns) (leads b.scoping b.given number) t.1.m) same t.1.is_it) in
        let chain = end.turns above refl in
        (chain.0, chain_kept above (chain.0 ++ number ∷ []) chain.1)

    module _ (named : (bases : List Located) (names : List QName) → derived bases names → All (IsIdentityOf tables) names) where
      entry_proper : (number : ℕ) (l : Located) (m : Meaning) (entry : ValueType) → Means b.on b.scoping.texts l m → IsEntry derived (NameEach tables.patterns) (leads b.scoping b.given number) m entry →
          HasTypes (Means b.on b.scoping.texts) (IsEntry derived (NameEach tables.patterns) (leads b.scoping b.given number)) tables.types (members_of m) (numbers_of m entry) → IsProperType tables entry
      entry_proper number l (Entry one ps taken) entry means is members = patterned_proper (NameEach tables.patterns) tables one ps entry (means_sound b.on b.scoping.texts l (Entry one ps taken) means) is
      entry_proper number l (OneOf ls) (Members numbers) means is members = all_there (Means b.on b.scoping.texts) (IsEntry derived (NameEach tables.patterns) (leads b.scoping b.given number)) tables.types ls numbers members
      entry_proper number l (OneOf ls) (Whole among) means is members = absurd is
      entry_proper number l (OneOf ls) (Decimal digits among) means is members = absurd is
      entry_proper number l (OneOf ls) (String among starless patterns) means is members = absurd is
      entry_proper number l (OneOf ls) Truth means is members = absurd is
      entry_proper number l (OneOf ls) (Names names) means is members = absurd is
      entry_proper number l (OneOf ls) (Set names) means is members = absurd is
      entry_proper number l (OneOf ls) (Octets among) means is members = absurd is
      entry_proper number l (OneOf ls) Nothing means is members = absurd is
      entry_proper number l (OneOf ls) (Identity among) means is members = absurd is
      entry_proper number l (OneOf ls) (Leafref target above need) means is members = absurd is
      entry_proper number l (OneOf ls) (Instance need) means is members = absurd is
      entry_proper number l (OneOf ls) NodeInstance means is members = absurd is
      entry_proper number l (DerivedFrom bases) (Identity among) means is members = named bases among is
      entry_proper number l (DerivedFrom bases) (Whole among) means is members = absurd is
      entry_proper number l (DerivedFrom bases) (Decimal digits among) means is members = absurd is
      entry_proper number l (DerivedFrom bases) (String among starless patterns) means is members = absurd is
      entry_proper number l (DerivedFrom bases) Truth means is members = absurd is
      entry_proper number l (DerivedFrom bases) (Names names) means is members = absurd is
      entry_proper number l (DerivedFrom bases) (Set names) means is members = absurd is
      entry_proper number l (DerivedFrom bases) (Octets among) means is members = absurd is
      entry_proper number l (DerivedFrom bases) Nothing means is members = absurd is
      entry_proper number l (DerivedFrom bases) (Members numbers) means is members = absurd is
      entry_proper number l (DerivedFrom bases) (Leafref target above need) means is members = absurd is
      entry_proper number l (DerivedFrom bases) (Instance need) means is members = absurd is
      entry_proper number l (DerivedFrom bases) NodeInstance means is members = absurd is
      entry_proper number l (Refers path required) (Leafref target above need) means is members =
          still_there (λ node. IsTrue (has_value node.kind)) (λ node kind_of_value p. p) target (leafref_is number l (Refers path required) target above need means is).valued
      entry_proper number l (Refers path required) (Whole among) means is members = absurd is
      entry_proper number l (Refers path required) (Decimal digits among) means is members = absurd is
      entry_proper number l (Refers path required) (String among starless patterns) means is members = absurd is
      entry_proper number l (Refers path required) Truth means is members = absurd is
      entry_proper number l (Refers path required) (Names names) means is members = absurd is
      entry_proper number l (Refers path required) (Set names) means is members = absurd is
      entry_proper number l (Refers path required) (Octets among) means is members = absurd is
      entry_proper number l (Refers path required) Nothing means is members = absurd is
      entry_proper number l (Refers path required) (Members numbers) means is members = absurd is
      entry_proper number l (Refers path required) (Identity among) means is members = absurd is
      entry_proper number l (Refers path required) (Instance need) means is members = absurd is
      entry_proper number l (Refers path required) NodeInstance means is members = absurd is

      each_proper : All (IsProperType tables) tables.types
      each_proper number d less =
          let u = typed.entries number less in
          let one = one_of (Means b.on b.scoping.texts) (IsEntry derived (NameEach tables.patterns) (leads b.scoping b.given u.0)) tables.types u.3.one number u.3.has in
          let same : one.entry ≡ get_or tables.types number d = (let e = slice_get-get_or tables.types number d less in let f = one.at in cc) in
          subst (IsProperType tables) same (entry_proper u.0 u.3.one one.m one.entry one.means_it one.is_it one.members)

      pub types_are_proper : AreTypesProper tables
      types_are_proper = record { typed = are_typed; types = each_proper; leafrefs = turn_above }

pub law : (b : Basis) (tables : Tables) → IsTyped (λ bases names. All (IsIdentityOf tables) names) b tables → AllMeanWhole b → AreTypesProper tables
law b tables typed whole = types_are_proper (λ bases names. All (IsIdentityOf tables) names) b tables typed whole (λ bases names h. h)
