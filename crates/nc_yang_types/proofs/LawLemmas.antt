-- Entries are there where no rule is broken, and ranges are no wider than their base.
use Rattle.std.proofs.Common.{◌≡◌, ◌&&◌, ◌||◌, ◌++◌, ℕ, Bool, true, false, cond, not, List, [], ◌∷◌, Option, Some, None, refl, ap, ◌∙◌, subst, arith}
use Rattle.std.specs.Prelude.{ℤ, pos, ◌-ℤ◌, ◌==◌, int_le, int_lt, IsSome, is_some, option_map, option_and_then}
use Rattle.std.specs.List.{list_all, slice_split}
use Rattle.std.specs.Ordering.{int_eq}
use Rattle.std.proofs.lemmas.Bool.Decides.{Decides-int_eq}
use Rattle.std.proofs.lemmas.Int.{ints}
use Rattle.nc_names.specs.Signs.{bar}
use Rattle.nc_schema.specs.NumberTexts.{is_among, number_of}
use Rattle.nc_schema.specs.declared.value_type.Between.{Between}
use Rattle.nc_schema.specs.declared.value_type.ValueType.{ValueType}
use Rattle.nc_schema.specs.declared.value_type.ValueType.TheVariants.{Whole, Decimal, Chars as String, Boolean as Truth, Enumeration as Names, Bits as Flags, Binary as Octets, Empty as Nothing, Union as Members, Identity, Leafref, Instance, NodeInstance}
use Rattle.nc_yang_words.specs.declared.statement.Statement.{Statement}
use Rattle.nc_yang_statements.specs.declared.built_in.BuiltIn.{BuiltIn}
use Rattle.nc_yang_statements.specs.declared.built_in.BuiltIn.TheVariants.{Binary, Bits, Boolean, Decimal64, Empty, Enumeration, IdentityRef, InstanceIdentifier, Int8, Int16, Int32, Int64, LeafRef, Chars, Uint8, Uint16, Uint32, Uint64, Union}
use Rattle.nc_yang_statements.specs.declared.fault.ModuleWhy.TheVariants.{BadArgument, Missing}
use Rattle.nc_yang_statements.specs.declared.keyword.Keyword.{Keyword}
use Rattle.nc_yang_statements.specs.declared.keyword.Keyword.TheVariants.{FractionDigits, Length, Range}
use Rattle.nc_yang_statements.specs.Keywords.{is_same_keyword}
use Rattle.nc_yang_statements.specs.Rules.{at_if}
use Rattle.nc_yang_statements.specs.Statements.{below, has, kind, name, part}
use Rattle.nc_yang_types.specs.declared.bound.Counted.{Counted}
use Rattle.nc_yang_types.specs.declared.member.Named.{Named}
use Rattle.nc_yang_types.specs.declared.bound.Counted.TheVariants.{Units, Lengths}
use Rattle.nc_yang_types.specs.Entries.{decimal, decimals, digits_by, digits_in, digits_of, ill_digits, ill_digits_by, integers, lengths, misnarrowed, misread_by, misread_units, misused, narrowed, narrowed_faults, own, own_faults, restricted_by}
use Rattle.nc_yang_types.specs.Laws.{needs_names}
use Rattle.nc_yang_types.specs.Parts.{foreign, foreign_over, lacking, misshapen}
use Rattle.nc_yang_types.specs.Patterns.{ill_patterns}
use Rattle.nc_yang_types.specs.Ranges.{adjoins, are_ascending, are_parts, holds, is_tight, lies_in, merged, merged_with, parts_of, restriction, whole_of}

empty_left : {A : Type 0} (xs ys : List A) → xs ++ ys ≡ [] → xs ≡ []
empty_left [] ys e = refl
empty_left (x ∷ xs) ys e = absurd (cc)

empty_right : {A : Type 0} (xs ys : List A) → xs ++ ys ≡ [] → ys ≡ []
empty_right [] ys e = e
empty_right (x ∷ xs) ys e = absurd (cc)

map_gives : {A B : Type 0} (f : A → B) (o : Option A) → IsSome o → IsSome (option_map f o)
map_gives f None e = absurd (cc)
map_gives f (Some x) e = refl

-- what no fault is listed of is there
kept_gives : {A : Type 0} (o : Option A) (s : Statement) → at_if (not (is_some o)) s BadArgument ≡ [] → IsSome o
kept_gives None s e = absurd (cc)
kept_gives (Some x) s e = refl

misread_gives : (counted : Counted) (base : List Between) (given : Option Statement) → misread_by counted base given ≡ [] → IsSome (restricted_by counted base given)
misread_gives counted base None e = refl
misread_gives counted base (Some given) e = kept_gives (restriction counted base (name given)) given e

-- decimals
there_step : (x : Bool) (keyword : Keyword) (s : Statement) (ss : List Statement) → (x || has keyword ss) ≡ true → (has keyword ss ≡ true → IsSome (part keyword ss)) → IsSome (cond {A = Option Statement} x (Some s) (part keyword ss))
there_step true keyword s ss e further = refl
there_step false keyword s ss e further = further e

there : (keyword : Keyword) (ss : List Statement) → has keyword ss ≡ true → IsSome (part keyword ss)
there keyword [] e = absurd (cc)
there keyword (s ∷ ss) e = there_step (is_same_keyword keyword (kind s)) keyword s ss e (there keyword ss)

stands_there : (b : Bool) (s : Statement) → at_if (not b) s Missing ≡ [] → b ≡ true
stands_there true s e = refl
stands_there false s e = absurd (cc)

digits_give : (given : Option Statement) → IsSome given → ill_digits_by given ≡ [] → IsSome (digits_by given)
digits_give None there_is e = absurd (cc)
digits_give (Some given) there_is e = kept_gives (digits_in (number_of (name given))) given e

decimal_gives : (digits : Option ℕ) (ss : List Statement) → IsSome digits → misread_units digits ss ≡ [] → IsSome (decimal digits ss)
decimal_gives None ss some e = absurd (cc)
decimal_gives (Some digits) ss some e =
    map_gives (λ among. Decimal digits among) (restricted_by (Units digits) decimals (part Range ss)) (misread_gives (Units digits) decimals (part Range ss) e)

used : (built_in : BuiltIn) (s : Statement) → own_faults built_in s ≡ [] → misused built_in (below s) ≡ []
used built_in s e = empty_right (ill_patterns (below s)) (misused built_in (below s)) (empty_right (misshapen built_in s) (ill_patterns (below s) ++ misused built_in (below s)) e)

over_decimal : (s : Statement) → own_faults Decimal64 s ≡ [] → IsSome (decimal (digits_of (below s)) (below s))
over_decimal s e =
    let shape : misshapen Decimal64 s ≡ [] = empty_left (misshapen Decimal64 s) (ill_patterns (below s) ++ misused Decimal64 (below s)) e in
    let asked : misused Decimal64 (below s) ≡ [] = used Decimal64 s e in
    let lacks : lacking Decimal64 s ≡ [] = empty_right (foreign Decimal64 (below s)) (lacking Decimal64 s) shape in
    let stands : has FractionDigits (below s) ≡ true = stands_there (has FractionDigits (below s)) s lacks in
    decimal_gives (digits_of (below s)) (below s)
    (digits_give (part FractionDigits (below s)) (there FractionDigits (below s) stands) (empty_left (ill_digits (below s)) (misread_units (digits_of (below s)) (below s)) asked))
    (empty_right (ill_digits (below s)) (misread_units (digits_of (below s)) (below s)) asked)

integer_gives : (built_in : BuiltIn) (ss : List Statement) → misread_by (Units 0) (integers built_in) (part Range ss) ≡ [] → IsSome (option_map Whole (restricted_by (Units 0) (integers built_in) (part Range ss)))
integer_gives built_in ss e = map_gives Whole (restricted_by (Units 0) (integers built_in) (part Range ss)) (misread_gives (Units 0) (integers built_in) (part Range ss) e)

pub own_gives : (stands : Statement → Bool) (built_in : BuiltIn) (s : Statement) → needs_names built_in ≡ false → own_faults built_in s ≡ [] → IsSome (own stands built_in (below s))
own_gives stands Binary s free e = map_gives Octets (restricted_by Lengths lengths (part Length (below s))) (misread_gives Lengths lengths (part Length (below s)) (used Binary s e))
own_gives stands Bits s free e = refl
own_gives stands Boolean s free e = refl
own_gives stands Decimal64 s free e = over_decimal s e
own_gives stands Empty s free e = refl
own_gives stands Enumeration s free e = refl
own_gives stands IdentityRef s free e = absurd (cc)
own_gives stands InstanceIdentifier s free e = refl
own_gives stands Int8 s free e = integer_gives Int8 (below s) (used Int8 s e)
own_gives stands Int16 s free e = integer_gives Int16 (below s) (used Int16 s e)
own_gives stands Int32 s free e = integer_gives Int32 (below s) (used Int32 s e)
own_gives stands Int64 s free e = integer_gives Int64 (below s) (used Int64 s e)
own_gives stands LeafRef s free e = absurd (cc)
own_gives stands Chars s free e = map_gives (λ among. String among false []) (restricted_by Lengths lengths (part Length (below s))) (misread_gives Lengths lengths (part Length (below s)) (used Chars s e))
own_gives stands Uint8 s free e = integer_gives Uint8 (below s) (used Uint8 s e)
own_gives stands Uint16 s free e = integer_gives Uint16 (below s) (used Uint16 s e)
own_gives stands Uint32 s free e = integer_gives Uint32 (below s) (used Uint32 s e)
own_gives stands Uint64 s free e = integer_gives Uint64 (below s) (used Uint64 s e)
own_gives stands Union s free e = absurd (cc)

narrow_used : (base : ValueType) (names : List Named) (ss : List Statement) → narrowed_faults base names ss ≡ [] → misnarrowed base names ss ≡ []
narrow_used base names ss e = empty_right (ill_patterns ss) (misnarrowed base names ss) (empty_right (foreign_over base ss) (ill_patterns ss ++ misnarrowed base names ss) e)

pub narrowed_gives : (stands : Statement → Bool) (base : ValueType) (names : List Named) (ss : List Statement) → narrowed_faults base names ss ≡ [] → IsSome (narrowed stands base ss)
narrowed_gives stands (Whole among) names ss e = map_gives Whole (restricted_by (Units 0) among (part Range ss)) (misread_gives (Units 0) among (part Range ss) (narrow_used (Whole among) names ss e))
narrowed_gives stands (Decimal digits among) names ss e = map_gives (λ more. Decimal digits more) (restricted_by (Units digits) among (part Range ss)) (misread_gives (Units digits) among (part Range ss) (narrow_used (Decimal digits among) names ss e))
narrowed_gives stands (String among starless patterns) names ss e = map_gives (λ more. String more starless patterns) (restricted_by Lengths among (part Length ss)) (misread_gives Lengths among (part Length ss) (narrow_used (String among starless patterns) names ss e))
narrowed_gives stands (Octets among) names ss e = map_gives Octets (restricted_by Lengths among (part Length ss)) (misread_gives Lengths among (part Length ss) (narrow_used (Octets among) names ss e))
narrowed_gives stands (Leafref target over need) names ss e = refl
narrowed_gives stands (Instance need) names ss e = refl
narrowed_gives stands Truth names ss e = refl
narrowed_gives stands (Names taken) names ss e = refl
narrowed_gives stands (Flags taken) names ss e = refl
narrowed_gives stands Nothing names ss e = refl
narrowed_gives stands (Members members) names ss e = refl
narrowed_gives stands (Identity among) names ss e = refl
narrowed_gives stands NodeInstance names ss e = refl

-- ranges
left : (a b : Bool) → (a && b) ≡ true → a ≡ true
left true b e = refl
left false b e = e

right : (a b : Bool) → (a && b) ≡ true → b ≡ true
right true b e = e
right false b e = cc

taken : (c : List Between → Bool) (found parts : List Between) (x : Bool) → c found ≡ x → cond {A = Option (List Between)} x (Some found) None ≡ Some parts → c parts ≡ true
taken c found parts true e f = let same : found ≡ parts = cc in subst (λ (z : List Between). c z ≡ true) same e
taken c found parts false e f = absurd (cc)

taken_of : (c : List Between → Bool) (o : Option (List Between)) (parts : List Between) → option_and_then (λ found. cond {A = Option (List Between)} (c found) (Some found) None) o ≡ Some parts → c parts ≡ true
taken_of c None parts e = absurd (cc)
taken_of c (Some found) parts e = taken c found parts (c found) refl e

taken_over : (c : List Between → Bool) (f : Between → Option (List Between)) (whole : Option Between) (parts : List Between) → option_and_then (λ w. option_and_then (λ found. cond {A = Option (List Between)} (c found) (Some found) None) (f w)) whole ≡ Some parts → c parts ≡ true
taken_over c f None parts e = absurd (cc)
taken_over c f (Some w) parts e = taken_of c (f w) parts e

abbrev fits : List Between → List ℕ → List Between → Bool
fits base text parts = is_tight text && are_parts base parts

are_inside : (counted : Counted) (base parts : List Between) (text : List ℕ) → restriction counted base text ≡ Some parts → list_all (lies_in (merged base)) parts ≡ true
are_inside counted base parts text e =
    let kept : fits base text parts ≡ true =
    taken_over (fits base text) (λ whole. parts_of counted whole (slice_split (λ c. c == bar) text)) (whole_of base) parts e in
    right (are_ascending parts) (list_all (lies_in (merged base)) parts) (right (is_tight text) (are_parts base parts) kept)

abbrev among_one : ℤ → Between → Bool
among_one number range = int_le range.least number && int_le number range.most

wider : (number a b c d : ℤ) → int_le c a ≡ true → int_le b d ≡ true → int_le a number ≡ true → int_le number b ≡ true → (int_le c number && int_le number d) ≡ true
wider number a b c d e f g h =
    let low : int_le c number ≡ true = grind (arith, ints) in
    let high : int_le number d ≡ true = grind (arith, ints) in
    cc

held_step : (x : Bool) (number : ℤ) (over part : Between) (base : List Between) → holds part over ≡ x → (x || lies_in base part) ≡ true → among_one number part ≡ true → (lies_in base part ≡ true → is_among base number ≡ true) → (among_one number over || is_among base number) ≡ true
held_step true number over part base e lies one further =
    ap (λ b. b || is_among base number)
    (wider number part.least part.most over.least over.most (left (int_le over.least part.least) (int_le part.most over.most) e) (right (int_le over.least part.least) (int_le part.most over.most) e) (left (int_le part.least number) (int_le number part.most) one) (right (int_le part.least number) (int_le number part.most) one))
held_step false number over part base e lies one further = either (among_one number over) (is_among base number) (further lies)
  where
    either : (a b : Bool) → b ≡ true → (a || b) ≡ true
    either true b e = refl
    either false b e = e

held : (number : ℤ) (base : List Between) (part : Between) → lies_in base part ≡ true → among_one number part ≡ true → is_among base number ≡ true
held number [] part lies one = absurd (cc)
held number (over ∷ base) part lies one = held_step (holds part over) number over part base refl lies one (λ further. held number base part further one)

all_step : (x : Bool) (number : ℤ) (base : List Between) (part : Between) (parts : List Between) → among_one number part ≡ x → (lies_in base part && list_all (lies_in base) parts) ≡ true → (x || is_among parts number) ≡ true → (list_all (lies_in base) parts ≡ true → is_among parts number ≡ true → is_among base number ≡ true) → is_among base number ≡ true
all_step true number base part parts e inside one further = held number base part (left (lies_in base part) (list_all (lies_in base) parts) inside) e
all_step false number base part parts e inside one further = further (right (lies_in base part) (list_all (lies_in base) parts) inside) one

all_held : (number : ℤ) (base parts : List Between) → list_all (lies_in base) parts ≡ true → is_among parts number ≡ true → is_among base number ≡ true
all_held number base [] inside one = absurd (cc)
all_held number base (part ∷ parts) inside one = all_step (among_one number part) number base part parts refl inside one (all_held number base parts)

-- parts of which those that adjoin are one have no other numbers
after_gap : (number b c : ℤ) → int_lt b c ≡ true → int_eq (c -ℤ pos 1) b ≡ true → int_le number b ≡ false → int_le c number ≡ true
after_gap number b c lt next past = let same : c -ℤ pos 1 ≡ b = (Decides-int_eq (c -ℤ pos 1) b).0 next in grind (arith, ints)

in_either : (number a b c d : ℤ) (x : Bool) → int_le number b ≡ x → (int_le number b ≡ false → int_le c number ≡ true) → (int_le a number && int_le number d) ≡ true
    → ((int_le a number && int_le number b) || (int_le c number && int_le number d)) ≡ true
in_either number a b c d true e later h =
    ap (λ z. (z && int_le number b) || (int_le c number && int_le number d)) (left (int_le a number) (int_le number d) h)
    ∙ ap (λ z. z || (int_le c number && int_le number d)) e
in_either number a b c d false e later h =
    ap (λ z. (z && int_le number b) || (int_le c number && int_le number d)) (left (int_le a number) (int_le number d) h)
    ∙ ap (λ z. z || (int_le c number && int_le number d)) e
    ∙ ap (λ z. z && int_le number d) (later e) ∙ right (int_le a number) (int_le number d) h

among_both : (number : ℤ) (part next : Between) → adjoins part next ≡ true → among_one number (record { least = part.least; most = next.most }) ≡ true → (among_one number part || among_one number next) ≡ true
among_both number part next e h =
    in_either number part.least part.most next.least next.most (int_le number part.most) refl
    (after_gap number part.most next.least (left (int_lt part.most next.least) (int_eq (next.least -ℤ pos 1) part.most) e) (right (int_lt part.most next.least) (int_eq (next.least -ℤ pos 1) part.most) e)) h

or_more : (a b c d : Bool) → (a ≡ true → (b || c) ≡ true) → (a || d) ≡ true → (b || (c || d)) ≡ true
or_more true true c d h e = refl
or_more true false true d h e = refl
or_more true false false d h e = absurd (let f : false ≡ true = h refl in cc)
or_more false true c d h e = refl
or_more false false true d h e = refl
or_more false false false d h e = e

or_rest : (a b c : Bool) → (b ≡ true → c ≡ true) → (a || b) ≡ true → (a || c) ≡ true
or_rest true b c h e = refl
or_rest false b c h e = h e

merged_step : (x : Bool) (number : ℤ) (part next : Between) (parts : List Between) → adjoins part next ≡ x
    → is_among (cond x (merged_with (record { least = part.least; most = next.most }) parts) (part ∷ merged_with next parts)) number ≡ true
    → (is_among (merged_with (record { least = part.least; most = next.most }) parts) number ≡ true → is_among (record { least = part.least; most = next.most } ∷ parts) number ≡ true)
    → (is_among (merged_with next parts) number ≡ true → is_among (next ∷ parts) number ≡ true) → is_among (part ∷ next ∷ parts) number ≡ true
merged_step true number part next parts e h first more =
    or_more (among_one number (record { least = part.least; most = next.most })) (among_one number part) (among_one number next) (is_among parts number)
    (among_both number part next e) (first h)
merged_step false number part next parts e h first more = or_rest (among_one number part) (is_among (merged_with next parts) number) (is_among (next ∷ parts) number) more h

among_with : (number : ℤ) (parts : List Between) (part : Between) → is_among (merged_with part parts) number ≡ true → is_among (part ∷ parts) number ≡ true
among_with number [] part h = h
among_with number (next ∷ parts) part h =
    merged_step (adjoins part next) number part next parts refl h (among_with number parts (record { least = part.least; most = next.most })) (among_with number parts next)

among_merged : (number : ℤ) (base : List Between) → is_among (merged base) number ≡ true → is_among base number ≡ true
among_merged number [] h = h
among_merged number (part ∷ parts) h = among_with number parts part h

pub restrictions_narrow : (counted : Counted) (base parts : List Between) (text : List ℕ) (number : ℤ) → restriction counted base text ≡ Some parts → is_among parts number ≡ true → is_among base number ≡ true
restrictions_narrow counted base parts text number e one = among_merged number base (all_held number (merged base) parts (are_inside counted base parts text e) one)
