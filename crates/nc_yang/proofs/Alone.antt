-- What a `type` statement means by an entry has no other types.
use Rattle.std.proofs.Common.{◌≡◌, ◌++◌, ℕ, Bool, true, false, List, refl, subst, [], zero, suc, ◌∷◌}
use Rattle.std.specs.Prelude.{Option, Some, None, option_map}
use Rattle.nc_schema.specs.declared.value_type.Between.{Between}
use Rattle.nc_schema.specs.declared.value_type.ValueType.{ValueType}
use Rattle.nc_schema.specs.declared.value_type.ValueType.TheVariants.{Whole, Decimal, Chars, Binary as Octets, Bits as Set, Enumeration as Names, Union as UnionType, Leafref as LeafrefType, Instance}
use Rattle.nc_yang_words.specs.declared.statement.Statement.{Statement}
use Rattle.nc_yang_statements.specs.declared.built_in.BuiltIn.{BuiltIn}
use Rattle.nc_yang_statements.specs.declared.built_in.BuiltIn.TheVariants.{Binary, Bits, Boolean, Decimal64, Empty, Enumeration, IdentityRef, InstanceIdentifier, LeafRef, Chars as StringType, Union}
use Rattle.nc_yang_statements.specs.declared.keyword.Keyword.TheVariants.{Length, Path, Pattern, Range}
use Rattle.nc_yang_statements.specs.Statements.{below}
use Rattle.nc_yang_scopes.specs.Scopes.{Located}
use Rattle.nc_yang_types.specs.declared.bound.Counted.TheVariants.{Units, Lengths}
use Rattle.nc_yang_types.specs.declared.member.Named.{Named}
use Rattle.nc_yang_types.specs.Entries.{decimal, decimals, digits_of, integers, lengths, listing_of, names_left, narrowed, own, required, restricted}
use Rattle.nc_yang_types.specs.Features.{stands}
use Rattle.nc_yang_types.specs.Meanings.{DerivedFrom, Entry, Meaning, Means, OneOf, Refers, by_itself, in_text, meant, of_access, over, said, with_parts}
use Rattle.nc_yang_types.specs.Places.{part_of, parts_of}
use Rattle.nc_yang_leafs.proofs.AlikeLemmas.{has_others}

abbrev pub IsAlone : Meaning → Type 0
IsAlone (Entry entry patterns names) = has_others entry ≡ false
IsAlone (OneOf members) = Unit {0}
IsAlone (DerivedFrom bases) = Unit {0}
IsAlone (Refers path need) = Unit {0}

abbrev OwnAlone : Option ValueType → Type 0
OwnAlone None = Unit {0}
OwnAlone (Some entry) = has_others entry ≡ false

abbrev EachAlone : Option Meaning → Type 0
EachAlone None = Unit {0}
EachAlone (Some m) = IsAlone m

by_entry : (patterns : List Located) (names : List Named) (o : Option ValueType) → OwnAlone o → EachAlone (option_map (λ entry. Entry entry patterns names) o)
by_entry patterns names None h = tt
by_entry patterns names (Some entry) h = h

by_parts : (f : List Between → ValueType) → ((among : List Between) → has_others (f among) ≡ false) → (o : Option (List Between)) → OwnAlone (option_map f o)
by_parts f each None = tt
by_parts f each (Some among) = each among

decimal_alone : (o : Option ℕ) (ss : List Statement) → OwnAlone (decimal o ss)
decimal_alone None ss = tt
decimal_alone (Some digits) ss = by_parts (λ among. Decimal digits among) (λ among. refl) (restricted (Units digits) Range decimals ss)

own_alone : (holds : Statement → Bool) (one : BuiltIn) (ss : List Statement) → OwnAlone (own holds one ss)
own_alone holds Binary ss = by_parts Octets (λ among. refl) (restricted Lengths Length lengths ss)
own_alone holds Bits ss = refl
own_alone holds Boolean ss = refl
own_alone holds Decimal64 ss = decimal_alone (digits_of ss) ss
own_alone holds Empty ss = refl
own_alone holds Enumeration ss = refl
own_alone holds IdentityRef ss = tt
own_alone holds InstanceIdentifier ss = refl
own_alone holds LeafRef ss = tt
own_alone holds StringType ss = by_parts (λ among. Chars among false []) (λ among. refl) (restricted Lengths Length lengths ss)
own_alone holds Union ss = tt
own_alone holds one ss = by_parts Whole (λ among. refl) (restricted (Units 0) Range (integers one) ss)

leafref_alone : (o : Option Located) (need : Bool) → EachAlone (option_map (λ path. Refers path need) o)
leafref_alone None need = tt
leafref_alone (Some path) need = tt

said_alone : (on : ℕ → List ℕ → Bool) (one : BuiltIn) (l : Located) → EachAlone (said on one l)
said_alone on Union l = tt
said_alone on IdentityRef l = tt
said_alone on LeafRef l = leafref_alone (part_of Path l) (required true (below l.statement))
said_alone on one l = by_entry (parts_of Pattern l) (listing_of one (below l.statement)) (own (stands on l.place.text) one (below l.statement)) (own_alone (stands on l.place.text) one (below l.statement))

access_alone : (entry : ValueType) (patterns : List Located) (names : List Named) → has_others entry ≡ false → IsAlone (of_access entry patterns names)
access_alone (Instance need) patterns names e = refl
access_alone (Chars among starless none) (p ∷ patterns) names e = refl
access_alone entry patterns names e = e

text_alone : (text : ℕ) (o : Option Meaning) → EachAlone o → EachAlone (option_map (in_text text) o)
text_alone text None h = h
text_alone zero (Some (Entry entry patterns names)) h = access_alone entry patterns names h
text_alone zero (Some (OneOf members)) h = h
text_alone zero (Some (DerivedFrom bases)) h = h
text_alone zero (Some (Refers path need)) h = h
text_alone (suc text) (Some m) h = h

meant_alone : (on : ℕ → List ℕ → Bool) (one : BuiltIn) (l : Located) → EachAlone (meant on one l)
meant_alone on one l = text_alone l.place.text (said on one l) (said_alone on one l)

narrowed_alone : (holds : Statement → Bool) (entry : ValueType) (ss : List Statement) → has_others entry ≡ false → OwnAlone (narrowed holds entry ss)
narrowed_alone holds (Whole among) ss e = by_parts Whole (λ left. refl) (restricted (Units 0) Range among ss)
narrowed_alone holds (Decimal digits among) ss e = by_parts (λ left. Decimal digits left) (λ left. refl) (restricted (Units digits) Range among ss)
narrowed_alone holds (Chars among starless patterns) ss e = by_parts (λ left. Chars left starless patterns) (λ left. refl) (restricted Lengths Length among ss)
narrowed_alone holds (Octets among) ss e = by_parts Octets (λ left. refl) (restricted Lengths Length among ss)
narrowed_alone holds (LeafrefType target above need) ss e = absurd (cc)
narrowed_alone holds (UnionType members) ss e = absurd (cc)
narrowed_alone holds (Instance need) ss e = refl
narrowed_alone holds (Names taken) ss e = refl
narrowed_alone holds (Set taken) ss e = refl
narrowed_alone holds entry ss e = e

parts_alone : (on : ℕ → List ℕ → Bool) (m : Meaning) (l : Located) → IsAlone m → EachAlone (with_parts on m l)
parts_alone on (Entry entry patterns names) l h =
    by_entry (patterns ++ parts_of Pattern l) (names_left entry names (below l.statement)) (narrowed (stands on l.place.text) entry (below l.statement))
    (narrowed_alone (stands on l.place.text) entry (below l.statement) h)
parts_alone on (OneOf members) l h = tt
parts_alone on (DerivedFrom bases) l h = tt
parts_alone on (Refers path need) l h = tt

pub means_alone : (on : ℕ → List ℕ → Bool) (texts : List Statement) (l : Located) (m : Meaning) → Means on texts l m → IsAlone m
means_alone on texts _ _ (by_itself l one m built kept is) = subst EachAlone is (meant_alone on one l)
means_alone on texts _ _ (over l base n m base_is means kept is) = subst EachAlone is (parts_alone on n l (means_alone on texts base n means))
