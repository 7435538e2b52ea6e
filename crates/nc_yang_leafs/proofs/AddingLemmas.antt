-- Types and patterns added to a schema.
use Rattle.std.proofs.Common.{inl, inr, ◌≡◌, ◌<◌, ◌+◌, ℕ, zero, suc, List, [], ◌∷◌, ◌++◌, length, get_or, map, take, append_assoc, Option, Some, None, refl, sym, ap, ◌∙◌, subst, arith}
use Rattle.std.specs.Prelude.{slice_get, slice_set, option_map, replicate}
use Rattle.std.specs.List.{All}
use Rattle.std.proofs.lemmas.Bool.{cases_eq}
use Rattle.std.proofs.lemmas.List.{append-nil, length-set, map-append}
use Rattle.std.proofs.lemmas.List.Elements.{All-cons, All-nil}
use Rattle.std.proofs.lemmas.Option.{slice_get-get_or, slice_get_within}
use Rattle.nc_names.specs.declared.name.QName.{QName}
use Rattle.nc_schema.specs.declared.value_type.ValueType.{ValueType}
use Rattle.nc_schema.specs.Tables.{Tables}
use Rattle.nc_yang_order.proofs.Lists.{contains_at, get_set_other, get_set_same, take_next}
use Rattle.nc_yang_statements.specs.Statements.{name}
use Rattle.nc_yang_statements.specs.Stops.{OnBroken}
use Rattle.nc_yang_statements.specs.declared.stop.Stop.{Stop}
use Rattle.nc_yang_statements.specs.declared.stop.Stop.TheVariants.{Broken, Memory}
use Rattle.nc_yang_scopes.proofs.Lists.{get_left, get_right}
use Rattle.nc_yang_scopes.specs.declared.naming.TextFault.{TextFault}
use Rattle.nc_yang_scopes.specs.Scopes.{Located}
use Rattle.nc_yang_leafs.specs.declared.bare.Typed.{Typed}
use Rattle.nc_yang_leafs.specs.Bases.{Basis}
use Rattle.nc_yang_leafs.specs.Patterns.{AreTypings, HasItsPatterns, HasPatterns, IsReadable, Refusals, Refuses, RefusesOne, RefusesType, bare, numbers_in, refused_at, refusing, text_at, with_numbers}
use Rattle.nc_yang_leafs.specs.inner.Adding.{AddsAll, AddsOne, AreKnown, HasSomePatterns, SetsType}
use Rattle.nc_yang_leafs.specs.inner.Assembly.{HasBareTypes, HasKinds, both, with_type}
use Rattle.nc_yang_leafs.specs.inner.Nodes.{HaveKinds}
use Rattle.nc_yang_leafs.proofs.GiveLemmas.{all_typed}
use Rattle.nc_yang_leafs.proofs.PatternLemmas.{all_readable}

-- types without their patterns
pub bare_none : (old : Tables) (typed : Typed) → typed ≡ record { schema = old; patterns = [] } → HasBareTypes old [] typed
bare_none old typed is = subst (HasBareTypes old []) (sym is) (record { schema = λ i. record old { types = sym (append-nil old.types) i }; patterns = refl })

pub bare_more : (old : Tables) (types : List ValueType) (typed new : Typed) (one : ValueType) → HasBareTypes old types typed → new ≡ with_type typed one → HasBareTypes old (types ++ one ∷ []) new
bare_more old types typed new one h made = record {
  schema = ap (λ (t : Typed). t.schema) made ∙ ap (λ (z : Tables). record z { types = z.types ++ bare one ∷ [] }) h.schema
      ∙ ap (λ (z : List ValueType). record old { types = z }) (append_assoc old.types (map bare types) (bare one ∷ []) ∙ ap (λ z. old.types ++ z) (sym (map-append bare types (one ∷ []))));
  patterns = ap (λ (t : Typed). t.patterns) made ∙ ap (λ z. z ++ numbers_in one ∷ []) h.patterns ∙ sym (map-append numbers_in types (one ∷ []));
}

pub all_typings : (derived : List Located → List QName → Type 0) (b : Basis) (first : Typed) (new : Tables) (types : List ValueType) (kinds : List ℕ) → (b.given.types ≡ []) × (b.given.patterns ≡ []) →
    HasBareTypes b.given types first → HaveKinds derived b types (length b.given.nodes) kinds → HasKinds first.schema kinds new → AreTypings derived b (record { schema = new; patterns = first.patterns })
all_typings derived b first new types kinds blank h have has =
    let is = all_typed derived b first.schema new types (b.given.types ++ map bare types) kinds h.schema have has in
    record {
      types = types;
      is = is;
      stripped = has.types ∙ ap (λ (z : Tables). z.types) h.schema ∙ ap (λ z. z ++ map bare types) blank.0;
      statements = h.patterns;
      none = has.patterns ∙ ap (λ (z : Tables). z.patterns) h.schema ∙ blank.1;
      readable = subst (All (All (IsReadable b.scoping.located))) (sym h.patterns) (all_readable derived b (record new { types = types }) is);
    }

-- patterns that are added keep the numbers of those before
pub named_grown : (patterns more : List (List ℕ)) (ns : List ℕ) (texts : List (List ℕ)) → map (slice_get patterns) ns ≡ map Some texts → map (slice_get (patterns ++ more)) ns ≡ map Some texts
named_grown patterns more [] [] e = refl
named_grown patterns more [] (t ∷ ts) e = absurd (cc)
named_grown patterns more (n ∷ ns) [] e = absurd (cc)
named_grown patterns more (n ∷ ns) (t ∷ ts) e =
    let here : slice_get patterns n ≡ Some t = cc in
    let rest : map (slice_get patterns) ns ≡ map Some ts = cc in
    let first = get_left patterns more n (slice_get_within patterns n t here) ∙ here in
    let others = named_grown patterns more ns ts rest in
    λ i. first i ∷ others i

last_there : (patterns : List (List ℕ)) (text : List ℕ) (n : ℕ) → n ≡ length patterns → slice_get (patterns ++ text ∷ []) n ≡ Some text
last_there patterns text n is =
    let split : n ≡ length patterns + 0 = omega (arith, is) in
    ap (slice_get (patterns ++ text ∷ [])) split ∙ get_right patterns (text ∷ []) (length patterns) 0 refl

pub adds_none : (located : List Located) (old : Tables) (numbers : List ℕ) → numbers ≡ [] → AddsAll located [] old old numbers
adds_none located old numbers is = record {
  texts = [];
  are = refl;
  more = [];
  added = λ i. record old { patterns = sym (append-nil old.patterns) i };
  named = ap (map (slice_get old.patterns)) is;
}

-- the pattern of a statement is added, or was before
pub adds_one : (located : List Located) (statement : ℕ) (l : Located) (old new : Tables) (number : ℕ) → slice_get located statement ≡ Some l → number ≡ length old.patterns →
    new ≡ record old { patterns = old.patterns ++ name l.statement ∷ [] } → AddsOne located statement old new number
adds_one located statement l old new number at next added = record {
  text = name l.statement;
  is = ap (option_map (λ (p : Located). name p.statement)) at;
  more = name l.statement ∷ [];
  added = added;
  named = ap (λ (z : Tables). slice_get z.patterns number) added ∙ last_there old.patterns (name l.statement) number next;
}

pub has_one : (located : List Located) (statement : ℕ) (tables : Tables) (known : List (Option ℕ)) (number : ℕ) → AreKnown located tables.patterns known →
    slice_get known statement ≡ Some (Some number) → AddsOne located statement tables tables number
has_one located statement tables known number are is =
    let k = are statement number is in
    record {
      text = k.0;
      is = k.1;
      more = [];
      added = λ i. record tables { patterns = sym (append-nil tables.patterns) i };
      named = k.2;
    }

-- what is known of statements
abbrev nones : ℕ → List (Option ℕ)
nones count = replicate count None

none_there : (count statement number : ℕ) → slice_get (nones count) statement ≡ Some (Some number) → ⊥
none_there zero statement number e = cc
none_there (suc count) zero number e = cc
none_there (suc count) (suc statement) number e = none_there count statement number e

pub none_known : (located : List Located) (patterns : List (List ℕ)) (count : ℕ) (known : List (Option ℕ)) → known ≡ replicate count None → AreKnown located patterns known
none_known located patterns count known is statement number at = absurd (none_there count statement number (sym (ap (λ z. slice_get z statement) is) ∙ at))

set_known : (known : List (Option ℕ)) (n : ℕ) (x y : Option ℕ) → slice_get (slice_set known n x) n ≡ Some y → x ≡ y
set_known [] n x y e = absurd (cc)
set_known (k ∷ ks) zero x y e = cc
set_known (k ∷ ks) (suc n) x y e = set_known ks n x y e

pub known_grown : (located : List Located) (statement : ℕ) (old new : Tables) (number : ℕ) (known : List (Option ℕ)) → AreKnown located old.patterns known → AddsOne located statement old new number →
    AreKnown located new.patterns (slice_set known statement (Some number))
known_grown located statement old new number known are adds s n at = elim (cases_eq s statement) [
  | inl same ↦
      let here : Some number ≡ Some n = set_known known statement (Some number) (Some n) (subst (λ z. slice_get (slice_set known statement (Some number)) z ≡ Some (Some n)) same at) in
      let now : number ≡ n = cc in
      (adds.text, ap (text_at located) same ∙ adds.is, subst (λ z. slice_get new.patterns z ≡ Some adds.text) now adds.named)
  | inr apart ↦
      let k = are s n (sym (get_set_other known statement s (Some number) apart) ∙ at) in (
        k.0,
        k.1,
        ap (λ (z : Tables). slice_get z.patterns n) adds.added ∙ get_left old.patterns adds.more n (slice_get_within old.patterns n k.0 k.2) ∙ k.2,
      )
]

pub adds_more : (located : List Located) (ss : List ℕ) (s : ℕ) (old mid new : Tables) (ns next : List ℕ) (n : ℕ) → AddsAll located ss old mid ns → AddsOne located s mid new n → next ≡ ns ++ n ∷ [] →
    AddsAll located (ss ++ s ∷ []) old new next
adds_more located ss s old mid new ns next n a one next_is = record {
  texts = a.texts ++ one.text ∷ [];
  are = map-append (text_at located) ss (s ∷ []) ∙ ap (λ z. z ++ text_at located s ∷ []) a.are ∙ ap (λ z. map Some a.texts ++ z ∷ []) one.is ∙ sym (map-append Some a.texts (one.text ∷ []));
  more = a.more ++ one.more;
  added = one.added ∙ ap (λ (z : Tables). record z { patterns = z.patterns ++ one.more }) a.added
      ∙ ap (λ (z : List (List ℕ)). record old { patterns = z }) (append_assoc old.patterns a.more one.more);
  named = ap (map (slice_get new.patterns)) next_is ∙ map-append (slice_get new.patterns) ns (n ∷ [])
      ∙ ap (λ z. z ++ slice_get new.patterns n ∷ []) (ap (λ z. map (slice_get z) ns) grown ∙ named_grown mid.patterns one.more ns a.texts a.named)
      ∙ ap (λ z. map Some a.texts ++ z ∷ []) one.named
      ∙ sym (map-append Some a.texts (one.text ∷ []));
}
  where
    grown : new.patterns ≡ mid.patterns ++ one.more
    grown = ap (λ (z : Tables). z.patterns) one.added

pub adds_turn : (located : List Located) (statements : List ℕ) (i s : ℕ) (old mid new : Tables) (ns next : List ℕ) (n : ℕ) → slice_get statements i ≡ Some s → AddsAll located (take i statements) old mid ns →
    AddsOne located s mid new n → next ≡ ns ++ n ∷ [] → AddsAll located (take (i + 1) statements) old new next
adds_turn located statements i s old mid new ns next n at a one next_is =
    subst (λ z. AddsAll located z old new next) (sym (take_next statements i s at)) (adds_more located (take i statements) s old mid new ns next n a one next_is)

-- the element of a place
pub at_place : {A : Type 0} (xs : List A) (i : ℕ) (x : A) → i < length xs → x ≡ get_or xs i x → slice_get xs i ≡ Some x
at_place xs i x less is = slice_get-get_or xs i x less ∙ ap Some (sym is)

pub refuses_one : (located : List Located) (statements : List ℕ) (i s : ℕ) (refusals : Refusals) (fault : TextFault) → slice_get statements i ≡ Some s → IsReadable located s →
    ((l : Located) → slice_get located s ≡ Some l → Refuses refusals (name l.statement) × (fault ≡ refused_at l)) → RefusesOne located statements refusals fault
refuses_one located statements i s refusals fault at (l, here, read) h =
    record { statement = s; one = contains_at statements i s at; pattern = l; is = here; refuses = (h l here).0; at = (h l here).1 }

pub refused_one_on : (located : List Located) (statements : List ℕ) (i s : ℕ) (before start now : ℕ) (last : Option (List ℕ)) (stop : Stop TextFault) → before ≡ start → slice_get statements i ≡ Some s → IsReadable located s →
    OnBroken (λ fault. (l : Located) → slice_get located s ≡ Some l → Refuses (refusing before now last) (name l.statement) × (fault ≡ refused_at l)) stop →
    OnBroken (RefusesOne located statements (refusing start now last)) stop
refused_one_on located statements i s before start now last (Broken fault) same at read h =
    refuses_one located statements i s (refusing start now last) fault at read
    (subst (λ z. (l : Located) → slice_get located s ≡ Some l → Refuses (refusing z now last) (name l.statement) × (fault ≡ refused_at l)) same h)
refused_one_on located statements i s before start now last Memory same at read h = tt

-- the numbers of patterns are below that of all patterns
pub all_within : (patterns : List (List ℕ)) (ns : List ℕ) (texts : List (List ℕ)) → map (slice_get patterns) ns ≡ map Some texts → All (λ n. n < length patterns) ns
all_within patterns [] [] e = All-nil (λ n. n < length patterns)
all_within patterns [] (t ∷ ts) e = absurd (cc)
all_within patterns (n ∷ ns) [] e = absurd (cc)
all_within patterns (n ∷ ns) (t ∷ ts) e =
    let here : slice_get patterns n ≡ Some t = cc in
    All-cons (λ n. n < length patterns) n ns (slice_get_within patterns n t here) (all_within patterns ns ts (cc))

-- the type of a number with its patterns
pub sets_type : (located : List Located) (place : ℕ) (statements : List ℕ) (old between new : Tables) (numbers : List ℕ) (one whole : ValueType) → AddsAll located statements old between numbers →
    slice_get between.types place ≡ Some one → whole ≡ with_numbers numbers one → new ≡ record between { types = slice_set between.types place whole } → SetsType located place statements old new
sets_type located place statements old between new numbers one whole adds there made set = record {
  numbers = numbers;
  between = between;
  adds = adds;
  rest = set ∙ (λ i. record between { types = sym types_are i });
  counted = ap length types_are ∙ length-set between.types place whole ∙ ap length kept;
  here = λ entry at.
      let before : slice_get between.types place ≡ Some entry = ap (λ z. slice_get z place) kept ∙ at in
      let same : one ≡ entry = cc in
      ap (λ z. slice_get z place) types_are ∙ get_set_same between.types place one whole there ∙ ap Some (made ∙ ap (with_numbers numbers) same);
  others = λ other apart. ap (λ z. slice_get z other) types_are ∙ get_set_other between.types place other whole apart ∙ ap (λ z. slice_get z other) kept;
}
  where
    kept : between.types ≡ old.types
    kept = ap (λ (z : Tables). z.types) adds.added

    types_are : new.types ≡ slice_set between.types place whole
    types_are = ap (λ (z : Tables). z.types) set

pub sets_none : (located : List Located) (place : ℕ) (statements : List ℕ) (old between : Tables) (numbers : List ℕ) → AddsAll located statements old between numbers → slice_get between.types place ≡ None →
    SetsType located place statements old between
sets_none located place statements old between numbers adds gone = record {
  numbers = numbers;
  between = between;
  adds = adds;
  rest = refl;
  counted = ap length kept;
  here = λ entry at. absurd (let before : slice_get between.types place ≡ Some entry = ap (λ z. slice_get z place) kept ∙ at in cc);
  others = λ other apart. ap (λ z. slice_get z other) kept;
}
  where
    kept : between.types ≡ old.types
    kept = ap (λ (z : Tables). z.types) adds.added

-- type after type
module _ (located : List Located) (typed : Typed) where
  pub has_none : (tables : Tables) → tables ≡ typed.schema → HasSomePatterns located typed 0 tables
  has_none tables is = subst (HasSomePatterns located typed 0) (sym is) (record {
    nodes = refl;
    choices = refl;
    modules = refl;
    counted = refl;
    each = λ place entry statements less. absurd (omega (arith, less));
    others = λ place le. refl;
  })

  pub has_turn : (i : ℕ) (statements : List ℕ) (mid new : Tables) → slice_get typed.patterns i ≡ Some statements → HasSomePatterns located typed i mid → SetsType located i statements mid new →
      HasSomePatterns located typed (i + 1) new
  has_turn i statements mid new at has s = record {
    nodes = ap (λ (z : Tables). z.nodes) (s.rest ∙ rest) ∙ has.nodes;
    choices = ap (λ (z : Tables). z.choices) (s.rest ∙ rest) ∙ has.choices;
    modules = ap (λ (z : Tables). z.modules) (s.rest ∙ rest) ∙ has.modules;
    counted = s.counted ∙ has.counted;
    each = each;
    others = λ place le. s.others place (λ same. absurd (omega (arith, le, same))) ∙ has.others place (omega (arith, le));
  }
    where
      rest : record s.between { types = new.types } ≡ record mid { types = new.types; patterns = mid.patterns ++ s.adds.more }
      rest = ap (λ (z : Tables). record z { types = new.types }) s.adds.added

      grown : new.patterns ≡ mid.patterns ++ s.adds.more
      grown = ap (λ (z : Tables). z.patterns) (s.rest ∙ rest)

      between_grown : s.between.patterns ≡ new.patterns
      between_grown = ap (λ (z : Tables). z.patterns) (sym s.rest)

      each : (place : ℕ) (entry : ValueType) (others : List ℕ) → place < i + 1 → slice_get typed.schema.types place ≡ Some entry → slice_get typed.patterns place ≡ Some others →
          HasItsPatterns located others entry new place
      each place entry others less there known = elim (cases_eq place i) [
        | inl now ↦
            let here : slice_get typed.patterns i ≡ Some others = subst (λ z. slice_get typed.patterns z ≡ Some others) now known in
            let same : statements ≡ others = cc in
            let before : slice_get mid.types i ≡ Some entry = has.others i (omega arith) ∙ subst (λ z. slice_get typed.schema.types z ≡ Some entry) now there in
            record {
              numbers = s.numbers;
              texts = s.adds.texts;
              are = ap (map (text_at located)) (sym same) ∙ s.adds.are;
              named = ap (λ z. map (slice_get z) s.numbers) (sym between_grown) ∙ s.adds.named;
              there = ap (slice_get new.types) now ∙ s.here entry before;
            }
        | inr apart ↦
            let h = has.each place entry others (omega (arith, less, apart)) there known in
            record {
              numbers = h.numbers;
              texts = h.texts;
              are = h.are;
              named = ap (λ z. map (slice_get z) h.numbers) grown ∙ named_grown mid.patterns s.adds.more h.numbers h.texts h.named;
              there = s.others place apart ∙ h.there;
            }
      ]

  pub refuses_type : (i : ℕ) (statements : List ℕ) (refusals : Refusals) (fault : TextFault) → slice_get typed.patterns i ≡ Some statements → RefusesOne located statements refusals fault →
      RefusesType located typed refusals fault
  refuses_type i statements refusals fault at refuses = record { place = i; statements = statements; there = at; refuses = refuses }

pub refused_type_on : (located : List Located) (typed : Typed) (i : ℕ) (statements : List ℕ) (before start now : ℕ) (last : Option (List ℕ)) (stop : Stop TextFault) → before ≡ start → slice_get typed.patterns i ≡ Some statements →
    OnBroken (RefusesOne located statements (refusing before now last)) stop → OnBroken (RefusesType located typed (refusing start now last)) stop
refused_type_on located typed i statements before start now last (Broken fault) same at h =
    refuses_type located typed i statements (refusing start now last) fault at (subst (λ z. RefusesOne located statements (refusing z now last) fault) same h)
refused_type_on located typed i statements before start now last Memory same at h = tt

-- what was taken apart
pub has_all : (located : List Located) (typed : Typed) (tables : Tables) → HasSomePatterns located (both typed.schema typed.patterns) (length typed.patterns) tables → HasPatterns located typed tables
has_all located typed tables has = record {
  nodes = has.nodes;
  choices = has.choices;
  modules = has.modules;
  counted = has.counted;
  each = λ place entry statements there known. has.each place entry statements (slice_get_within typed.patterns place statements known) there known;
}

pub refuses_whole : (located : List Located) (typed : Typed) (refusals : Refusals) (stop : Stop TextFault) → OnBroken (RefusesType located (both typed.schema typed.patterns) refusals) stop → OnBroken (RefusesType located typed refusals) stop
refuses_whole located typed refusals (Broken fault) r = record { place = r.place; statements = r.statements; there = r.there; refuses = r.refuses }
refuses_whole located typed refusals Memory r = tt
