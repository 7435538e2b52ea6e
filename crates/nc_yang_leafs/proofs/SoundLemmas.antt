-- What a `type` statement says by its own parts is in order: digits of decimals, names of bits.
use Rattle.std.proofs.Common.{◌≡◌, ◌≢◌, ◌≤◌, sym, ◌++◌, ◌&&◌, ℕ, Bool, true, false, cond, List, [], Option, Some, None, refl, subst, arith, zero, suc, ◌∷◌, ◌∙◌}
use Rattle.std.specs.Prelude.{ℤ, pos, negsuc, nat_le, option_map}
use Rattle.std.specs.List.{AllPairs}
use Rattle.nc_schema.specs.NumberTexts.{number_of}
use Rattle.nc_schema.specs.Proper.{IsProperType}
use Rattle.nc_schema.specs.Tables.{Tables}
use Rattle.nc_schema.specs.declared.value_type.ValueType.{ValueType}
use Rattle.nc_schema.specs.declared.value_type.ValueType.TheVariants.{Whole, Decimal, Chars as String, Boolean as Truth, Enumeration as Names, Bits as Set, Binary as Octets, Empty as Nothing, Union as Members, Identity, Leafref, Instance, NodeInstance}
use Rattle.nc_yang_words.specs.declared.statement.Statement.{Statement}
use Rattle.nc_yang_statements.specs.declared.built_in.BuiltIn.{BuiltIn}
use Rattle.nc_yang_statements.specs.declared.built_in.BuiltIn.TheVariants.{Binary, Bits, Boolean, Decimal64, Empty, Enumeration, IdentityRef, InstanceIdentifier, Int8, Int16, Int32, Int64, LeafRef, Chars, Uint8, Uint16, Uint32, Uint64, Union}
use Rattle.nc_yang_statements.specs.declared.keyword.Keyword.TheVariants.{Base, FractionDigits, Length, Path, Pattern, Range, TypeName}
use Rattle.nc_yang_statements.specs.Statements.{below, name, part}
use Rattle.nc_yang_scopes.specs.Scopes.{Located}
use Rattle.nc_yang_types.specs.declared.bound.Counted.TheVariants.{Units, Lengths}
use Rattle.nc_yang_types.specs.Entries.{decimal, decimals, digits_by, digits_in, digits_of, integers, lengths, listing_of, names_left, narrowed, own, own_faults, required, restricted}
use Rattle.nc_yang_types.specs.declared.member.Named.{Named}
use Rattle.nc_yang_types.specs.Members.{bit_names, enum_names}
use Rattle.nc_yang_types.specs.Features.{stands}
use Rattle.nc_yang_types.specs.Meanings.{DerivedFrom, Entry, Meaning, Means, OneOf, Refers, by_itself, in_text, meant, of_access, over, said, with_parts}
use Rattle.nc_yang_types.specs.Places.{part_of, parts_of}
use Rattle.nc_yang_leafs.specs.Typings.{IsPatterned}
use Rattle.nc_yang_types.proofs.ApartLemmas.{chosen_apart, names_apart}

-- an entry that names no other is in order
abbrev pub IsSound : ValueType → Type 0
IsSound (Decimal digits among) = (1 ≤ digits) × (digits ≤ 18)
IsSound (Set names) = AllPairs (λ name later. name ≢ later) names
IsSound (Members members) = ⊥
IsSound (Identity among) = ⊥
IsSound (Leafref target above need) = ⊥
IsSound other = Unit {0}

-- an entry that is made of what may be there
made : {A : Type 0} (f : A → ValueType) → ((x : A) → IsSound (f x)) → (o : Option A) (entry : ValueType) → option_map f o ≡ Some entry → IsSound entry
made f sound None entry e = absurd (cc)
made f sound (Some x) entry e = let same : f x ≡ entry = cc in subst IsSound same (sound x)

given : (one entry : ValueType) → IsSound one → Some one ≡ Some entry → IsSound entry
given one entry sound e = let same : one ≡ entry = cc in subst IsSound same sound

-- fraction digits
within : (n d : ℕ) (b : Bool) → (nat_le 1 n && nat_le n 18) ≡ b → cond b (Some n) None ≡ Some d → (1 ≤ d) × (d ≤ 18)
within n d false is e = absurd (cc)
within n d true is e = let same : n ≡ d = cc in (grind arith, grind arith)

digits_within : (o : Option ℤ) (d : ℕ) → digits_in o ≡ Some d → (1 ≤ d) × (d ≤ 18)
digits_within None d e = absurd (cc)
digits_within (Some (pos n)) d e = within n d (nat_le 1 n && nat_le n 18) refl e
digits_within (Some (negsuc n)) d e = absurd (cc)

written_within : (o : Option Statement) (d : ℕ) → digits_by o ≡ Some d → (1 ≤ d) × (d ≤ 18)
written_within None d e = absurd (cc)
written_within (Some s) d e = digits_within (number_of (name s)) d e

decimal_sound : (o : Option ℕ) (ss : List Statement) (entry : ValueType) → ((d : ℕ) → o ≡ Some d → (1 ≤ d) × (d ≤ 18)) → decimal o ss ≡ Some entry → IsSound entry
decimal_sound None ss entry bound e = absurd (cc)
decimal_sound (Some digits) ss entry bound e = made (λ among. Decimal digits among) (λ among. bound digits refl) (restricted (Units digits) Range decimals ss) entry e

-- of a built-in type
own_sound : (holds : Statement → Bool) (one : BuiltIn) (s : Statement) (entry : ValueType) → own_faults one s ≡ [] → own holds one (below s) ≡ Some entry → IsSound entry
own_sound holds Binary s entry off e = made Octets (λ among. tt) (restricted Lengths Length lengths (below s)) entry e
own_sound holds Bits s entry off e = given (Set (bit_names holds (below s))) entry (names_apart holds s off) e
own_sound holds Boolean s entry off e = given Truth entry tt e
own_sound holds Decimal64 s entry off e = decimal_sound (digits_of (below s)) (below s) entry (written_within (part FractionDigits (below s))) e
own_sound holds Empty s entry off e = given Nothing entry tt e
own_sound holds Enumeration s entry off e = given (Names (enum_names holds (below s))) entry tt e
own_sound holds IdentityRef s entry off e = absurd (cc)
own_sound holds InstanceIdentifier s entry off e = given (Instance (required true (below s))) entry tt e
own_sound holds Int8 s entry off e = made Whole (λ among. tt) (restricted (Units 0) Range (integers Int8) (below s)) entry e
own_sound holds Int16 s entry off e = made Whole (λ among. tt) (restricted (Units 0) Range (integers Int16) (below s)) entry e
own_sound holds Int32 s entry off e = made Whole (λ among. tt) (restricted (Units 0) Range (integers Int32) (below s)) entry e
own_sound holds Int64 s entry off e = made Whole (λ among. tt) (restricted (Units 0) Range (integers Int64) (below s)) entry e
own_sound holds LeafRef s entry off e = absurd (cc)
own_sound holds Chars s entry off e = made (λ among. String among false []) (λ among. tt) (restricted Lengths Length lengths (below s)) entry e
own_sound holds Uint8 s entry off e = made Whole (λ among. tt) (restricted (Units 0) Range (integers Uint8) (below s)) entry e
own_sound holds Uint16 s entry off e = made Whole (λ among. tt) (restricted (Units 0) Range (integers Uint16) (below s)) entry e
own_sound holds Uint32 s entry off e = made Whole (λ among. tt) (restricted (Units 0) Range (integers Uint32) (below s)) entry e
own_sound holds Uint64 s entry off e = made Whole (λ among. tt) (restricted (Units 0) Range (integers Uint64) (below s)) entry e
own_sound holds Union s entry off e = absurd (cc)

-- those that take names
enumeration_sound : (names : List (List ℕ)) (entry : ValueType) → Some (Names names) ≡ Some entry → IsSound entry
enumeration_sound names entry e = given (Names names) entry tt e

bits_sound : (names : List (List ℕ)) (entry : ValueType) → Some (Set names) ≡ Some entry → AllPairs (λ name later. name ≢ later) names → IsSound entry
bits_sound names entry e apart = given (Set names) entry apart e

-- of a type over another
narrowed_sound : (holds : Statement → Bool) (base entry : ValueType) (ss : List Statement) → IsSound base → narrowed holds base ss ≡ Some entry → IsSound entry
narrowed_sound holds (Whole among) entry ss h e = made Whole (λ left. tt) (restricted (Units 0) Range among ss) entry e
narrowed_sound holds (Decimal digits among) entry ss h e = made (λ left. Decimal digits left) (λ left. h) (restricted (Units digits) Range among ss) entry e
narrowed_sound holds (String among starless patterns) entry ss h e = made (λ left. String left starless patterns) (λ left. tt) (restricted Lengths Length among ss) entry e
narrowed_sound holds (Octets among) entry ss h e = made Octets (λ left. tt) (restricted Lengths Length among ss) entry e
narrowed_sound holds (Leafref target above need) entry ss h e = absurd h
narrowed_sound holds (Instance need) entry ss h e = given (Instance (required need ss)) entry tt e
narrowed_sound holds Truth entry ss h e = given Truth entry tt e
narrowed_sound holds (Names taken) entry ss h e = enumeration_sound _ entry e
narrowed_sound holds (Set taken) entry ss h e = bits_sound _ entry e (chosen_apart holds ss taken h)
narrowed_sound holds Nothing entry ss h e = given Nothing entry tt e
narrowed_sound holds (Members members) entry ss h e = absurd h
narrowed_sound holds (Identity among) entry ss h e = absurd h
narrowed_sound holds NodeInstance entry ss h e = given NodeInstance entry tt e

-- of a meaning
abbrev pub IsSoundMeaning : Meaning → Type 0
IsSoundMeaning (Entry entry patterns names) = IsSound entry
IsSoundMeaning (OneOf members) = Unit {0}
IsSoundMeaning (DerivedFrom bases) = Unit {0}
IsSoundMeaning (Refers path need) = Unit {0}

as_meant : {A : Type 0} (f : A → Meaning) → (o : Option A) (m : Meaning) → ((x : A) → o ≡ Some x → IsSoundMeaning (f x)) → option_map f o ≡ Some m → IsSoundMeaning m
as_meant f None m sound e = absurd (cc)
as_meant f (Some x) m sound e = let same : f x ≡ m = cc in subst IsSoundMeaning same (sound x refl)

is_meant : (one m : Meaning) → IsSoundMeaning one → Some one ≡ Some m → IsSoundMeaning m
is_meant one m sound e = let same : one ≡ m = cc in subst IsSoundMeaning same sound

said_sound : (on : ℕ → List ℕ → Bool) (one : BuiltIn) (l : Located) (m : Meaning) → own_faults one l.statement ≡ [] → said on one l ≡ Some m → IsSoundMeaning m
said_sound on Union l m off e = is_meant (OneOf (parts_of TypeName l)) m tt e
said_sound on IdentityRef l m off e = is_meant (DerivedFrom (parts_of Base l)) m tt e
said_sound on LeafRef l m off e = as_meant (λ path. Refers path (required true (below l.statement))) (part_of Path l) m (λ path f. tt) e
said_sound on Binary l m off e = as_meant (λ entry. Entry entry (parts_of Pattern l) (listing_of Binary (below l.statement))) (own (stands on l.place.text) Binary (below l.statement)) m (λ entry f. own_sound (stands on l.place.text) Binary l.statement entry off f) e
said_sound on Bits l m off e = as_meant (λ entry. Entry entry (parts_of Pattern l) (listing_of Bits (below l.statement))) (own (stands on l.place.text) Bits (below l.statement)) m (λ entry f. own_sound (stands on l.place.text) Bits l.statement entry off f) e
said_sound on Boolean l m off e = as_meant (λ entry. Entry entry (parts_of Pattern l) (listing_of Boolean (below l.statement))) (own (stands on l.place.text) Boolean (below l.statement)) m (λ entry f. own_sound (stands on l.place.text) Boolean l.statement entry off f) e
said_sound on Decimal64 l m off e = as_meant (λ entry. Entry entry (parts_of Pattern l) (listing_of Decimal64 (below l.statement))) (own (stands on l.place.text) Decimal64 (below l.statement)) m (λ entry f. own_sound (stands on l.place.text) Decimal64 l.statement entry off f) e
said_sound on Empty l m off e = as_meant (λ entry. Entry entry (parts_of Pattern l) (listing_of Empty (below l.statement))) (own (stands on l.place.text) Empty (below l.statement)) m (λ entry f. own_sound (stands on l.place.text) Empty l.statement entry off f) e
said_sound on Enumeration l m off e = as_meant (λ entry. Entry entry (parts_of Pattern l) (listing_of Enumeration (below l.statement))) (own (stands on l.place.text) Enumeration (below l.statement)) m (λ entry f. own_sound (stands on l.place.text) Enumeration l.statement entry off f) e
said_sound on InstanceIdentifier l m off e = as_meant (λ entry. Entry entry (parts_of Pattern l) (listing_of InstanceIdentifier (below l.statement))) (own (stands on l.place.text) InstanceIdentifier (below l.statement)) m (λ entry f. own_sound (stands on l.place.text) InstanceIdentifier l.statement entry off f) e
said_sound on Int8 l m off e = as_meant (λ entry. Entry entry (parts_of Pattern l) (listing_of Int8 (below l.statement))) (own (stands on l.place.text) Int8 (below l.statement)) m (λ entry f. own_sound (stands on l.place.text) Int8 l.statement entry off f) e
said_sound on Int16 l m off e = as_meant (λ entry. Entry entry (parts_of Pattern l) (listing_of Int16 (below l.statement))) (own (stands on l.place.text) Int16 (below l.statement)) m (λ entry f. own_sound (stands on l.place.text) Int16 l.statement entry off f) e
said_sound on Int32 l m off e = as_meant (λ entry. Entry entry (parts_of Pattern l) (listing_of Int32 (below l.statement))) (own (stands on l.place.text) Int32 (below l.statement)) m (λ entry f. own_sound (stands on l.place.text) Int32 l.statement entry off f) e
said_sound on Int64 l m off e = as_meant (λ entry. Entry entry (parts_of Pattern l) (listing_of Int64 (below l.statement))) (own (stands on l.place.text) Int64 (below l.statement)) m (λ entry f. own_sound (stands on l.place.text) Int64 l.statement entry off f) e
said_sound on Chars l m off e = as_meant (λ entry. Entry entry (parts_of Pattern l) (listing_of Chars (below l.statement))) (own (stands on l.place.text) Chars (below l.statement)) m (λ entry f. own_sound (stands on l.place.text) Chars l.statement entry off f) e
said_sound on Uint8 l m off e = as_meant (λ entry. Entry entry (parts_of Pattern l) (listing_of Uint8 (below l.statement))) (own (stands on l.place.text) Uint8 (below l.statement)) m (λ entry f. own_sound (stands on l.place.text) Uint8 l.statement entry off f) e
said_sound on Uint16 l m off e = as_meant (λ entry. Entry entry (parts_of Pattern l) (listing_of Uint16 (below l.statement))) (own (stands on l.place.text) Uint16 (below l.statement)) m (λ entry f. own_sound (stands on l.place.text) Uint16 l.statement entry off f) e
said_sound on Uint32 l m off e = as_meant (λ entry. Entry entry (parts_of Pattern l) (listing_of Uint32 (below l.statement))) (own (stands on l.place.text) Uint32 (below l.statement)) m (λ entry f. own_sound (stands on l.place.text) Uint32 l.statement entry off f) e
said_sound on Uint64 l m off e = as_meant (λ entry. Entry entry (parts_of Pattern l) (listing_of Uint64 (below l.statement))) (own (stands on l.place.text) Uint64 (below l.statement)) m (λ entry f. own_sound (stands on l.place.text) Uint64 l.statement entry off f) e

access_sound : (entry : ValueType) (patterns : List Located) (names : List Named) → IsSound entry → IsSoundMeaning (of_access entry patterns names)
access_sound (Instance need) patterns names h = tt
access_sound (String among starless none) (p ∷ patterns) names h = tt
access_sound entry patterns names h = h

text_sound : (text : ℕ) (m : Meaning) → IsSoundMeaning m → IsSoundMeaning (in_text text m)
text_sound zero (Entry entry patterns names) h = access_sound entry patterns names h
text_sound zero (OneOf members) h = h
text_sound zero (DerivedFrom bases) h = h
text_sound zero (Refers path need) h = h
text_sound (suc text) m h = h

meant_sound : (on : ℕ → List ℕ → Bool) (one : BuiltIn) (l : Located) (m : Meaning) → own_faults one l.statement ≡ [] → meant on one l ≡ Some m → IsSoundMeaning m
meant_sound on one l m off e = by (said on one l) refl e
  where
    by : (o : Option Meaning) → said on one l ≡ o → option_map (in_text l.place.text) o ≡ Some m → IsSoundMeaning m
    by o is e = as_meant (in_text l.place.text) o m (λ n f. text_sound l.place.text n (said_sound on one l n off (is ∙ f))) e

parts_sound : (on : ℕ → List ℕ → Bool) (n m : Meaning) (l : Located) → IsSoundMeaning n → with_parts on n l ≡ Some m → IsSoundMeaning m
parts_sound on (Entry base patterns names) m l h e =
    as_meant (λ left. Entry left (patterns ++ parts_of Pattern l) (names_left base names (below l.statement))) (narrowed (stands on l.place.text) base (below l.statement)) m
    (λ entry f. narrowed_sound (stands on l.place.text) base entry (below l.statement) h f) e
parts_sound on (OneOf members) m l h e = is_meant (OneOf members) m tt e
parts_sound on (DerivedFrom bases) m l h e = is_meant (DerivedFrom bases) m tt e
parts_sound on (Refers path need) m l h e = is_meant (Refers path (required need (below l.statement))) m tt e

pub means_sound : (on : ℕ → List ℕ → Bool) (texts : List Statement) (l : Located) (m : Meaning) → Means on texts l m → IsSoundMeaning m
means_sound on texts _ _ (by_itself l one m built kept is) = meant_sound on one l m kept is
means_sound on texts _ _ (over l base n m base_is means kept is) = parts_sound on n m l (means_sound on texts base n means) is

-- an entry of such a meaning is in order, whatever the numbers of its patterns
pub patterned_proper : (named : List ℕ → List Located → Type 0) (tables : Tables) (one : ValueType) (patterns : List Located) (entry : ValueType) → IsSound one → IsPatterned named one patterns entry →
    IsProperType tables entry
patterned_proper named tables (String among starless none) patterns entry sound is = subst (IsProperType tables) (sym is.2) tt
patterned_proper named tables (Decimal digits among) patterns entry sound is = subst (IsProperType tables) is sound
patterned_proper named tables (Set names) patterns entry sound is = subst (IsProperType tables) is sound
patterned_proper named tables (Members members) patterns entry sound is = absurd sound
patterned_proper named tables (Identity among) patterns entry sound is = absurd sound
patterned_proper named tables (Leafref target above need) patterns entry sound is = absurd sound
patterned_proper named tables (Whole among) patterns entry sound is = subst (IsProperType tables) is tt
patterned_proper named tables Truth patterns entry sound is = subst (IsProperType tables) is tt
patterned_proper named tables (Names names) patterns entry sound is = subst (IsProperType tables) is tt
patterned_proper named tables (Octets among) patterns entry sound is = subst (IsProperType tables) is tt
patterned_proper named tables Nothing patterns entry sound is = subst (IsProperType tables) is tt
patterned_proper named tables (Instance need) patterns entry sound is = subst (IsProperType tables) is tt
patterned_proper named tables NodeInstance patterns entry sound is = subst (IsProperType tables) is tt

-- and is no leafref
pub patterned_apart : (named : List ℕ → List Located → Type 0) (one : ValueType) (patterns : List Located) (target : ℕ) (above : Option ℕ) (need : Bool) → IsSound one →
    IsPatterned named one patterns (Leafref target above need) → ⊥
patterned_apart named (String among starless none) patterns target above need sound is = let e = is.2 in absurd (cc)
patterned_apart named (Decimal digits among) patterns target above need sound is = absurd (cc)
patterned_apart named (Set names) patterns target above need sound is = absurd (cc)
patterned_apart named (Members members) patterns target above need sound is = absurd sound
patterned_apart named (Identity among) patterns target above need sound is = absurd sound
patterned_apart named (Leafref to outer asked) patterns target above need sound is = absurd sound
patterned_apart named (Whole among) patterns target above need sound is = absurd (cc)
patterned_apart named Truth patterns target above need sound is = absurd (cc)
patterned_apart named (Names names) patterns target above need sound is = absurd (cc)
patterned_apart named (Octets among) patterns target above need sound is = absurd (cc)
patterned_apart named Nothing patterns target above need sound is = absurd (cc)
patterned_apart named (Instance asked) patterns target above need sound is = absurd (cc)
patterned_apart named NodeInstance patterns target above need sound is = absurd (cc)
