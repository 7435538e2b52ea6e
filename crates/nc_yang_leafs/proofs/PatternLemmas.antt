-- The patterns of types: by the numbers of their statements, and by those that a schema gives them.
use Rattle.std.proofs.Common.{◌≡◌, ◌<◌, ℕ, suc, Bool, true, false, cond, List, [], ◌∷◌, ◌++◌, length, map, get_or, Option, Some, None, refl, sym, ap, ◌∙◌, subst, arith, zero}
use Rattle.std.specs.Prelude.{IsSomeAnd, filter, option_map, slice_get}
use Rattle.std.specs.List.{All}
use Rattle.std.proofs.lemmas.List.{get_or-map, length-map}
use Rattle.std.proofs.lemmas.List.Elements.{All-append, All-cons, All-nil}
use Rattle.std.proofs.lemmas.Option.{slice_get-get_or, slice_get-map, slice_get_within}
use Rattle.nc_names.specs.declared.name.QName.{QName}
use Rattle.nc_patterns.specs.Reading.{IsPattern}
use Rattle.nc_schema.specs.declared.node.Kind.{Kind}
use Rattle.nc_schema.specs.declared.node.Node.{Node}
use Rattle.nc_schema.specs.declared.pattern.LeafrefEnd.{LeafrefEnd}
use Rattle.nc_schema.specs.declared.value_type.Between.{Between}
use Rattle.nc_schema.specs.declared.value_type.ValueType.{ValueType}
use Rattle.nc_schema.specs.declared.value_type.ValueType.TheVariants.{Chars as String, Empty as Nothing, Union as UnionType, Identity as IdentityType, Leafref as LeafrefType, Instance}
use Rattle.nc_schema.specs.Tables.{NamesPatterns, Tables}
use Rattle.nc_yang_order.proofs.Lists.{contains_at}
use Rattle.nc_yang_words.specs.declared.statement.Statement.{Statement}
use Rattle.nc_yang_statements.specs.declared.built_in.BuiltIn.{BuiltIn}
use Rattle.nc_yang_statements.specs.declared.built_in.BuiltIn.TheVariants.{IdentityRef, LeafRef, Union}
use Rattle.nc_yang_statements.specs.declared.keyword.Keyword.TheVariants.{Base, Path, Pattern, TypeName}
use Rattle.nc_yang_statements.specs.Keywords.{is_same_keyword}
use Rattle.nc_yang_statements.specs.Statements.{below, kind, name}
use Rattle.nc_yang_scopes.specs.declared.naming.TextFault.{TextFault}
use Rattle.nc_yang_scopes.specs.Numbers.{AreNumbers}
use Rattle.nc_yang_scopes.specs.Parts.{in_it, part_of, parts_of}
use Rattle.nc_yang_scopes.specs.Scopes.{Located}
use Rattle.nc_yang_types.specs.declared.member.Named.{Named}
use Rattle.nc_yang_types.specs.Entries.{listing_of, names_left, narrowed, own, required}
use Rattle.nc_yang_types.proofs.PatternLemmas.{AreRead, narrowed_read, own_read}
use Rattle.nc_yang_types.specs.Features.{stands}
use Rattle.nc_yang_types.specs.Meanings.{DerivedFrom, Entry, Meaning, Means, OneOf, Refers, by_itself, in_text, meant, names_of, of_access, over, said, shape, with_parts}
use Rattle.nc_yang_types.specs.Wholes.{members_of}
use Rattle.nc_yang_leafs.specs.declared.bare.Typed.{Typed}
use Rattle.nc_yang_leafs.specs.Bases.{Basis, leads}
use Rattle.nc_yang_leafs.specs.Patterns.{AreTypings, HasPatterns, IsPatternInUse, IsReadable, IsRefused, Refusals, RefusesType, bare, numbers_in, text_at, with_numbers, without_patterns}
use Rattle.nc_yang_leafs.specs.Typings.{HasItsType, HasTypes, HasTypings, IsEntry, IsInUse, IsPatterned, IsSameNode, IsTyped, NameEach, none, numbers_of, one_more}
use Rattle.nc_yang_leafs.proofs.ProperLemmas.{one_of}
use Rattle.nc_yang_leafs.proofs.StepLemmas.{number_in_place}

abbrev pub is_string : ValueType → Bool
is_string (String lengths starless numbers) = true
is_string entry = false

-- numbers put into a type, and left out of it
bare_names : (count : ℕ) (one : ValueType) → NamesPatterns count (bare one)
bare_names count (String lengths starless numbers) = All-nil (λ number. number < count)
bare_names count one = tt

pub bare_named : (count : ℕ) (one made : ValueType) → made ≡ bare one → NamesPatterns count made
bare_named count one made e = subst (NamesPatterns count) (sym e) (bare_names count one)

with_bare : (numbers : List ℕ) (e : ValueType) → with_numbers numbers (bare e) ≡ with_numbers numbers e
with_bare numbers (String lengths starless old) = refl
with_bare numbers e = refl

with_own : (e : ValueType) → with_numbers (numbers_in e) e ≡ e
with_own (String lengths starless old) = refl
with_own e = refl

bare_with : (numbers : List ℕ) (e : ValueType) → bare (with_numbers numbers e) ≡ bare e
bare_with numbers (String lengths starless old) = refl
bare_with numbers e = refl

pub named_with : (count : ℕ) (numbers : List ℕ) (e : ValueType) → All (λ number. number < count) numbers → NamesPatterns count (with_numbers numbers e)
named_with count numbers (String lengths starless old) h = h
named_with count numbers e h = tt

-- lists
same_lists : {A : Type 0} (xs ys : List A) → length ys ≡ length xs → ((k : ℕ) (x : A) → slice_get xs k ≡ Some x → slice_get ys k ≡ Some x) → ys ≡ xs
same_lists [] [] long same = refl
same_lists [] (y ∷ ys) long same = absurd (omega (arith, long))
same_lists (x ∷ xs) [] long same = absurd (omega (arith, long))
same_lists (x ∷ xs) (y ∷ ys) long same =
    let first : y ≡ x = (let e : Some y ≡ Some x = same 0 x refl in cc) in
    let rest = same_lists xs ys (omega (arith, long)) (λ k. same (suc k)) in
    λ i. first i ∷ rest i

pub all_at : {A : Type 0} (P : A → Type 0) (xs : List A) (k : ℕ) (x : A) → All P xs → slice_get xs k ≡ Some x → P x
all_at P xs k x all at =
    let less = slice_get_within xs k x at in
    let same : get_or xs k x ≡ x = (let e = slice_get-get_or xs k x less in cc) in
    subst P same (all k x less)

map_same : {A B : Type 0} (f g : A → B) → ((x : A) → f x ≡ g x) → (xs : List A) → map f xs ≡ map g xs
map_same f g same [] = refl
map_same f g same (x ∷ xs) = let first = same x in let rest = map_same f g same xs in λ i. first i ∷ rest i

pub some_on : {A : Type 0} (P Q : A → Type 0) (o : Option A) → IsSomeAnd o P → ((x : A) → P x → Q x) → IsSomeAnd o Q
some_on P Q None h f = absurd h
some_on P Q (Some x) h f = f x h

-- the texts of statements by their numbers
text_of : Located → List ℕ
text_of l = name l.statement

texts_of : (located : List Located) (ns : List ℕ) (ps : List Located) → AreNumbers located ns ps → map (text_at located) ns ≡ map (λ p. Some (name p.statement)) ps
texts_of located [] [] e = refl
texts_of located [] (p ∷ ps) e = absurd (cc)
texts_of located (n ∷ ns) [] e = absurd (cc)
texts_of located (n ∷ ns) (p ∷ ps) e =
    let here : slice_get located n ≡ Some p = cc in
    let rest : map (slice_get located) ns ≡ map Some ps = cc in
    let first : text_at located n ≡ Some (name p.statement) = ap (option_map (λ (l : Located). name l.statement)) here in
    let more = texts_of located ns ps rest in
    λ i. first i ∷ more i

texts_named : (located : List Located) (ns : List ℕ) (ps : List Located) → AreNumbers located ns ps → NameEach (map (λ (l : Located). name l.statement) located) ns ps
texts_named located ns ps e =
    map_same (slice_get (map (λ (l : Located). name l.statement) located)) (text_at located) (λ n. slice_get-map (λ (l : Located). name l.statement) located n) ns
    ∙ texts_of located ns ps e

-- an entry whose patterns have other numbers
kept_numbers : (m : Meaning) (e : ValueType) (numbers : List ℕ) → numbers_of m e ≡ numbers_of m (with_numbers numbers e)
kept_numbers (OneOf members) (String lengths starless old) numbers = refl
kept_numbers m e numbers = refl

module _ (derived : List Located → List QName → Type 0) (leads : Located → Option LeafrefEnd) (named later : List ℕ → List Located → Type 0) where
  same_patterned : (one : ValueType) (ps : List Located) (e : ValueType) → is_string e ≡ false → IsPatterned named one ps e → IsPatterned later one ps e
  same_patterned (String lengths starless blank) ps e plain is = absurd (let f : is_string e ≡ true = ap is_string is.2 in cc)
  same_patterned one ps e plain is = is

  same_named : (m : Meaning) (e : ValueType) → is_string e ≡ false → IsEntry derived named leads m e → IsEntry derived later leads m e
  same_named (Entry one ps taken) e plain is = same_patterned one ps e plain is
  same_named (OneOf members) (UnionType numbers) plain is = is
  same_named (DerivedFrom bases) (IdentityType names) plain is = is
  same_named (Refers path need) (LeafrefType target above required) plain is = is
  same_named m e plain is = absurd is

  string_named : (m : Meaning) (lengths : List Between) (starless : Bool) (old numbers : List ℕ) → ((ps : List Located) → named old ps → later numbers ps) → IsEntry derived named leads m (String lengths starless old) →
      IsEntry derived later leads m (String lengths starless numbers)
  string_named (Entry one ps taken) lengths starless old numbers names is = by one is
    where
      by : (one : ValueType) → IsPatterned named one ps (String lengths starless old) → IsPatterned later one ps (String lengths starless numbers)
      by (String others also blank) is =
          let e = is.2 in
          let same : old ≡ is.0 = cc in
          let same_lengths : lengths ≡ others = cc in
          let same_starless : starless ≡ also = cc in
          (numbers, names ps (subst (λ z. named z ps) (sym same) is.1), λ i. String (same_lengths i) (same_starless i) numbers)
      by one is = absurd (cc)
  string_named (OneOf members) lengths starless old numbers names is = absurd is
  string_named (DerivedFrom bases) lengths starless old numbers names is = absurd is
  string_named (Refers path need) lengths starless old numbers names is = absurd is

  moved : (m : Meaning) (e : ValueType) (numbers : List ℕ) → ((ps : List Located) → named (numbers_in e) ps → later numbers ps) → IsEntry derived named leads m e → IsEntry derived later leads m (with_numbers numbers e)
  moved m (String lengths starless old) numbers names is = string_named m lengths starless old numbers names is
  moved m e numbers names is = same_named m e refl is

-- a type has other numbers in a table
pub record Renumbered (named later : List ℕ → List Located → Type 0) (types : List ValueType) (k : ℕ) (e : ValueType) : Type 0 where
  pub numbers : List ℕ
  pub there : slice_get types k ≡ Some (with_numbers numbers e)
  pub names : (ps : List Located) → named (numbers_in e) ps → later numbers ps

module _ (derived : List Located → List QName → Type 0) (named later : List ℕ → List Located → Type 0) (types others : List ValueType)
    (each : (k : ℕ) (e : ValueType) → slice_get types k ≡ Some e → Renumbered named later others k e) where
  have_later : (leads : Located → Option LeafrefEnd) (means : Located → Meaning → Type 0) (ls : List Located) (ks : List ℕ) → HasTypes means (IsEntry derived named leads) types ls ks →
      HasTypes means (IsEntry derived later leads) others ls ks
  have_later leads means _ _ none = none
  have_later leads means _ _ (one_more l ls k ks m e a at is members rest) =
      let r = each k e at in
      one_more l ls k ks m (with_numbers r.numbers e) a r.there (moved derived leads named later m e r.numbers r.names is)
      (subst (HasTypes means (IsEntry derived later leads) others (members_of m)) (kept_numbers m e r.numbers) (have_later leads means (members_of m) (numbers_of m e) members))
      (have_later leads means ls ks rest)

  its_later : (b : Basis) (number : ℕ) (kind : Kind) (k : ℕ) → HasItsType derived named b types number kind k → HasItsType derived later b others number kind k
  its_later b number kind k has = record {
    valued = λ v l e. have_later (leads b.scoping b.given number) (Means b.on b.scoping.texts) (l ∷ []) (k ∷ []) (has.valued v l e);
    other = has.other;
  }

  use_later : (b : Basis) (number : ℕ) → IsInUse derived named b types number → IsInUse derived later b others number
  use_later b number (place, node, there, use_of) = (
    place,
    node,
    there,
    record {
      valued = use_of.valued;
      of_type = use_of.of_type;
      is = use_of.is;
      one = use_of.one;
      among = use_of.among;
      has = have_later (leads b.scoping b.given place) (Means b.on b.scoping.texts) (use_of.one ∷ []) (number ∷ []) use_of.has;
    },
  )

pub typings_later : (derived : List Located → List QName → Type 0) (named later : List ℕ → List Located → Type 0) (b : Basis) (old new : Tables) →
    ((k : ℕ) (e : ValueType) → slice_get old.types k ≡ Some e → Renumbered named later new.types k e) →
    new.nodes ≡ old.nodes → length new.types ≡ length old.types → new.modules ≡ old.modules → new.choices ≡ old.choices → HasTypings derived named b old → HasTypings derived later b new
typings_later derived named later b old new each nodes counted modules choices t = record {
  modules = modules ∙ t.modules;
  choices = choices ∙ t.choices;
  counted = ap length nodes ∙ t.counted;
  nodes = λ number before there.
      subst (λ (z : List Node). IsSomeAnd (slice_get z number) (λ found. IsSameNode before found × HasItsType derived later b new.types number found.kind found.kind_of_value)) (sym nodes)
      (some_on (λ (found : Node). IsSameNode before found × HasItsType derived named b old.types number found.kind found.kind_of_value)
      (λ (found : Node). IsSameNode before found × HasItsType derived later b new.types number found.kind found.kind_of_value) (slice_get old.nodes number)
      (t.nodes number before there) (λ found h. (h.0, its_later derived named later old.types new.types each b number found.kind found.kind_of_value h.1)));
  entries = λ number less. use_later derived named later old.types new.types each b number (t.entries number (omega (arith, less, counted)));
}

-- the `pattern` statements of a meaning can be read
all_parts : (l : Located) (ss : List Statement) → AreRead ss → All (λ (p : Located). IsPattern (name p.statement)) (map (in_it l) (filter (λ s. is_same_keyword Pattern (kind s)) ss))
all_parts l [] h = All-nil (λ (p : Located). IsPattern (name p.statement))
all_parts l (s ∷ ss) h = by (is_same_keyword Pattern (kind s)) refl (all_parts l ss h.1)
  where
    by : (b : Bool) → is_same_keyword Pattern (kind s) ≡ b → All (λ (p : Located). IsPattern (name p.statement)) (map (in_it l) (filter (λ s. is_same_keyword Pattern (kind s)) ss)) →
        All (λ (p : Located). IsPattern (name p.statement)) (map (in_it l) (cond b (s ∷ filter (λ s. is_same_keyword Pattern (kind s)) ss) (filter (λ s. is_same_keyword Pattern (kind s)) ss)))
    by true e rest = All-cons (λ (p : Located). IsPattern (name p.statement)) (in_it l s) (map (in_it l) (filter (λ s. is_same_keyword Pattern (kind s)) ss)) (h.0 e) rest
    by false e rest = rest

abbrev pub ReadsAll : Meaning → Type 0
ReadsAll (Entry entry patterns taken) = All (λ (p : Located). IsPattern (name p.statement)) patterns
ReadsAll (OneOf members) = Unit {0}
ReadsAll (DerivedFrom bases) = Unit {0}
ReadsAll (Refers path need) = Unit {0}

as_read : {A : Type 0} (f : A → Meaning) → (o : Option A) (m : Meaning) → ((x : A) → ReadsAll (f x)) → option_map f o ≡ Some m → ReadsAll m
as_read f None m h e = absurd (cc)
as_read f (Some x) m h e = let same : f x ≡ m = cc in subst ReadsAll same (h x)

is_read : (one m : Meaning) → ReadsAll one → Some one ≡ Some m → ReadsAll m
is_read one m h e = let same : one ≡ m = cc in subst ReadsAll same h

said_reads : (on : ℕ → List ℕ → Bool) (one : BuiltIn) (l : Located) (m : Meaning) → All (λ (p : Located). IsPattern (name p.statement)) (parts_of Pattern l) → said on one l ≡ Some m → ReadsAll m
said_reads on Union l m h e = is_read (OneOf (parts_of TypeName l)) m tt e
said_reads on IdentityRef l m h e = is_read (DerivedFrom (parts_of Base l)) m tt e
said_reads on LeafRef l m h e = as_read (λ path. Refers path (required true (below l.statement))) (part_of Path l) m (λ path. tt) e
said_reads on one l m h e = as_read (λ entry. Entry entry (parts_of Pattern l) (listing_of one (below l.statement))) (own (stands on l.place.text) one (below l.statement)) m (λ entry. h) e

access_reads : (entry : ValueType) (patterns : List Located) (taken : List Named) → All (λ (p : Located). IsPattern (name p.statement)) patterns → ReadsAll (of_access entry patterns taken)
access_reads (Instance need) patterns taken h = h
access_reads (String among starless blank) (p ∷ patterns) taken h = All-nil (λ (p : Located). IsPattern (name p.statement))
access_reads entry patterns taken h = h

text_reads : (text : ℕ) (m : Meaning) → ReadsAll m → ReadsAll (in_text text m)
text_reads zero (Entry entry patterns taken) h = access_reads entry patterns taken h
text_reads zero (OneOf members) h = h
text_reads zero (DerivedFrom bases) h = h
text_reads zero (Refers path need) h = h
text_reads (suc text) m h = h

meant_reads : (on : ℕ → List ℕ → Bool) (one : BuiltIn) (l : Located) (m : Meaning) → All (λ (p : Located). IsPattern (name p.statement)) (parts_of Pattern l) → meant on one l ≡ Some m → ReadsAll m
meant_reads on one l m h e = by (said on one l) refl e
  where
    by : (o : Option Meaning) → said on one l ≡ o → option_map (in_text l.place.text) o ≡ Some m → ReadsAll m
    by None is e = absurd (cc)
    by (Some n) is e = let same : in_text l.place.text n ≡ m = cc in subst ReadsAll same (text_reads l.place.text n (said_reads on one l n h is))

parts_read : (on : ℕ → List ℕ → Bool) (n m : Meaning) (l : Located) → ReadsAll n → All (λ (p : Located). IsPattern (name p.statement)) (parts_of Pattern l) → with_parts on n l ≡ Some m → ReadsAll m
parts_read on (Entry base patterns taken) m l before h e =
    as_read (λ left. Entry left (patterns ++ parts_of Pattern l) (names_left base taken (below l.statement))) (narrowed (stands on l.place.text) base (below l.statement)) m
    (λ left. All-append (λ (p : Located). IsPattern (name p.statement)) patterns (parts_of Pattern l) before h) e
parts_read on (OneOf members) m l before h e = is_read (OneOf members) m tt e
parts_read on (DerivedFrom bases) m l before h e = is_read (DerivedFrom bases) m tt e
parts_read on (Refers path need) m l before h e = is_read (Refers path (required need (below l.statement))) m tt e

means_reads : (on : ℕ → List ℕ → Bool) (texts : List Statement) (l : Located) (m : Meaning) → Means on texts l m → ReadsAll m
means_reads on texts _ _ (by_itself l one m built kept is) = meant_reads on one l m (all_parts l (below l.statement) (own_read one l.statement kept)) is
means_reads on texts _ _ (over l base n m base_is means kept is) =
    parts_read on n m l (means_reads on texts base n means) (all_parts l (below l.statement) (narrowed_read (shape n) (names_of n) (below l.statement) kept)) is

-- an entry that names `pattern` statements is of a meaning that has them
record HoldsThem (located : List Located) (m : Meaning) (e : ValueType) : Type 0 where
  entry : ValueType
  patterns : List Located
  names : List Named
  is : m ≡ Entry entry patterns names
  are : AreNumbers located (numbers_in e) patterns

module _ (derived : List Located → List QName → Type 0) (located : List Located) (leads : Located → Option LeafrefEnd) where
  holds_them : (m : Meaning) (e : ValueType) (place s : ℕ) → IsEntry derived (AreNumbers located) leads m e → slice_get (numbers_in e) place ≡ Some s → HoldsThem located m e
  holds_them m (String lengths starless old) place s is at = by m is
    where
      one_of_them : (one : ValueType) (ps : List Located) → IsPatterned (AreNumbers located) one ps (String lengths starless old) → AreNumbers located old ps
      one_of_them (String others also blank) ps is = let e = is.2 in let same : old ≡ is.0 = cc in subst (λ z. AreNumbers located z ps) (sym same) is.1
      one_of_them one ps is = absurd (cc)

      by : (m : Meaning) → IsEntry derived (AreNumbers located) leads m (String lengths starless old) → HoldsThem located m (String lengths starless old)
      by (Entry one ps taken) is = record { entry = one; patterns = ps; names = taken; is = refl; are = one_of_them one ps is }
      by (OneOf members) is = absurd is
      by (DerivedFrom bases) is = absurd is
      by (Refers path need) is = absurd is
  holds_them m e place s is at = absurd (cc)

-- a statement that a type in use names is a `pattern` in use
pub record IsUsedPattern (b : Basis) (s : ℕ) : Type 0 where
  pub pattern : Located
  pub at : slice_get b.scoping.located s ≡ Some pattern
  pub in_use : IsPatternInUse b pattern
  pub read : IsPattern (name pattern.statement)

module _ (derived : List Located → List QName → Type 0) (b : Basis) (tables : Tables) (typings : HasTypings derived (AreNumbers b.scoping.located) b tables) where
  pub used_pattern : (k : ℕ) (e : ValueType) → slice_get tables.types k ≡ Some e → (place s : ℕ) → slice_get (numbers_in e) place ≡ Some s → IsUsedPattern b s
  used_pattern k e at place s there =
      let u = typings.entries k (slice_get_within tables.types k e at) in
      let one = one_of (Means b.on b.scoping.texts) (IsEntry derived (AreNumbers b.scoping.located) (leads b.scoping b.given u.0)) tables.types u.3.one k u.3.has in
      let same : one.entry ≡ e = (let f = one.at in cc) in
      let h = holds_them derived b.scoping.located (leads b.scoping b.given u.0) one.m e place s
      (subst (IsEntry derived (AreNumbers b.scoping.located) (leads b.scoping b.given u.0) one.m) same one.is_it) there in
      let found = number_in_place (slice_get b.scoping.located) (numbers_in e) h.patterns h.are place s there in
      let means : Means b.on b.scoping.texts u.3.one (Entry h.entry h.patterns h.names) = subst (Means b.on b.scoping.texts u.3.one) h.is one.means_it in
      record {
        pattern = found.0;
        at = found.2;
        in_use = record {
          number = u.0;
          node = u.1;
          there = u.2;
          valued = u.3.valued;
          of_type = u.3.of_type;
          is = u.3.is;
          one = u.3.one;
          among = u.3.among;
          entry = h.entry;
          patterns = h.patterns;
          names = h.names;
          means = means;
          holds = contains_at h.patterns place found.0 found.1;
        };
        read = all_at (λ (p : Located). IsPattern (name p.statement)) h.patterns place found.0 (means_reads b.on b.scoping.texts u.3.one (Entry h.entry h.patterns h.names) means) found.1;
      }

  each_readable : (k : ℕ) (e : ValueType) → slice_get tables.types k ≡ Some e → All (IsReadable b.scoping.located) (numbers_in e)
  each_readable k e at place d less =
      let u = used_pattern k e at place (get_or (numbers_in e) place d) (slice_get-get_or (numbers_in e) place d less) in (u.pattern, u.at, u.read)

  pub all_readable : All (All (IsReadable b.scoping.located)) (map numbers_in tables.types)
  all_readable k d less =
      let within : k < length tables.types = (let long = length-map tables.types numbers_in in omega (arith, less, long)) in
      subst (All (IsReadable b.scoping.located)) (sym (get_or-map numbers_in tables.types k Nothing d within))
      (each_readable k (get_or tables.types k Nothing) (slice_get-get_or tables.types k Nothing within))

-- what the types come to with patterns
module _ (derived : List Located → List QName → Type 0) (b : Basis) (typed : Typed) (are : AreTypings derived b typed) where
  abbrev stated : Tables
  stated = record typed.schema { types = are.types }

  bare_at : (k : ℕ) (e : ValueType) → slice_get are.types k ≡ Some e → slice_get typed.schema.types k ≡ Some (bare e)
  bare_at k e at = ap (λ z. slice_get z k) are.stripped ∙ slice_get-map bare are.types k ∙ ap (option_map bare) at

  statements_at : (k : ℕ) (e : ValueType) → slice_get are.types k ≡ Some e → slice_get typed.patterns k ≡ Some (numbers_in e)
  statements_at k e at = ap (λ z. slice_get z k) are.statements ∙ slice_get-map numbers_in are.types k ∙ ap (option_map numbers_in) at

  module _ (tables : Tables) (has : HasPatterns b.scoping.located typed tables) where
    renumbered : (k : ℕ) (e : ValueType) → slice_get are.types k ≡ Some e → Renumbered (AreNumbers b.scoping.located) (NameEach tables.patterns) tables.types k e
    renumbered k e at =
        let h = has.each k (bare e) (numbers_in e) (bare_at k e at) (statements_at k e at) in
        record {
          numbers = h.numbers;
          there = h.there ∙ ap Some (with_bare h.numbers e);
          names = λ ps numbered. h.named ∙ sym h.are ∙ texts_of b.scoping.located (numbers_in e) ps numbered;
        }

    long : length tables.types ≡ length are.types
    long = has.counted ∙ ap length are.stripped ∙ length-map are.types bare

    pub with_patterns_typed : IsTyped derived b tables
    with_patterns_typed =
        typings_later derived (AreNumbers b.scoping.located) (NameEach tables.patterns) b stated tables renumbered has.nodes long has.modules has.choices are.is

    types_again : map bare tables.types ≡ map bare are.types
    types_again = same_lists (map bare are.types) (map bare tables.types) (length-map tables.types bare ∙ long ∙ sym (length-map are.types bare)) again
      where
        again : (k : ℕ) (x : ValueType) → slice_get (map bare are.types) k ≡ Some x → slice_get (map bare tables.types) k ≡ Some x
        again k x at = by (slice_get are.types k) refl (sym (slice_get-map bare are.types k) ∙ at)
          where
            by : (o : Option ValueType) → slice_get are.types k ≡ o → option_map bare o ≡ Some x → slice_get (map bare tables.types) k ≡ Some x
            by None e f = absurd (cc)
            by (Some one) e f =
                let r = renumbered k one e in
                slice_get-map bare tables.types k ∙ ap (option_map bare) r.there ∙ ap Some (bare_with r.numbers one) ∙ f

    pub patterns_left_out : without_patterns tables ≡ typed.schema
    patterns_left_out =
        let types : map bare tables.types ≡ typed.schema.types = types_again ∙ sym are.stripped in
        λ i. record { nodes = has.nodes i; choices = has.choices i; types = types i; modules = has.modules i; patterns = sym are.none i }

  -- there are such types, whatever a maker says
  pub stated_typed : (tables : Tables) × IsTyped derived b tables × (without_patterns tables ≡ typed.schema)
  stated_typed = (
    record typed.schema { types = are.types; patterns = map (λ (l : Located). name l.statement) b.scoping.located },
    typings_later derived (AreNumbers b.scoping.located) (NameEach (map (λ (l : Located). name l.statement) b.scoping.located)) b stated
        (record typed.schema { types = are.types; patterns = map (λ (l : Located). name l.statement) b.scoping.located })
        (λ k e at. record { numbers = numbers_in e; there = at ∙ ap Some (sym (with_own e)); names = λ ps numbered. texts_named b.scoping.located (numbers_in e) ps numbered })
        refl refl refl refl are.is,
    (λ i. record typed.schema { types = sym are.stripped i; patterns = sym are.none i }),
  )

  -- what a maker refused is in use
  pub refused_in_use : (refusals : Refusals) (fault : TextFault) → RefusesType b.scoping.located typed refusals fault → IsRefused b refusals fault
  refused_in_use refusals fault r = by (slice_get are.types r.place) refl (sym (slice_get-map numbers_in are.types r.place) ∙ ap (λ z. slice_get z r.place) (sym are.statements) ∙ r.there)
    where
      by : (o : Option ValueType) → slice_get are.types r.place ≡ o → option_map numbers_in o ≡ Some r.statements → IsRefused b refusals fault
      by None e f = absurd (cc)
      by (Some one) e f =
          let c = r.refuses.one in
          let same : numbers_in one ≡ r.statements = cc in
          let there : slice_get (numbers_in one) c.0 ≡ Some r.refuses.statement =
          (ap (λ z. slice_get z c.0) same ∙ slice_get-get_or r.statements c.0 r.refuses.statement c.1 ∙ ap Some c.2) in
          let u = used_pattern derived b stated are.is r.place one e c.0 r.refuses.statement there in
          let is : u.pattern ≡ r.refuses.pattern = (let g = u.at in let h = r.refuses.is in cc) in
          record { pattern = r.refuses.pattern; in_use = subst (IsPatternInUse b) is u.in_use; refuses = r.refuses.refuses; at = r.refuses.at }

-- a schema without its patterns has the same types, which name none
abbrev pub NamesNone : List ℕ → List Located → Type 0
NamesNone numbers patterns = numbers ≡ []

with_none : (e : ValueType) → with_numbers [] e ≡ bare e
with_none (String lengths starless old) = refl
with_none e = refl

pub bare_typings : (derived : List Located → List QName → Type 0) (named : List ℕ → List Located → Type 0) (b : Basis) (tables : Tables) → HasTypings derived named b tables →
    HasTypings derived NamesNone b (without_patterns tables)
bare_typings derived named b tables t =
    typings_later derived named NamesNone b tables (without_patterns tables)
    (λ k e at. record { numbers = []; there = slice_get-map bare tables.types k ∙ ap (option_map bare) at ∙ ap Some (sym (with_none e)); names = λ ps h. refl })
    refl (length-map tables.types bare) refl refl t
