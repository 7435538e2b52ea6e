-- The canonical texts of plain types, read once more.
use Rattle.std.proofs.Common.{◌≡◌, ◌&&◌, ◌==◌, ◌<◌, ◌^◌, not, cond, neg_ℤ, drop, ℕ, suc, Bool, true, false, List, [], ◌∷◌, length, Option, Some, None, refl, sym, ap, subst, ◌∙◌, arith, lit<}
use Rattle.std.specs.Char.{is_ascii_digit, digit_value}
use Rattle.std.specs.Fmt.{decimal, signed_decimal}
use Rattle.std.specs.List.{filter, list_all, list_any}
use Rattle.std.specs.Prelude.{codes, ℤ, pos, negsuc, option_map, option_and_then}
use Rattle.std.specs.Str.Parse.{AllDigits, digits_value, signed_digits_value, without_leading_sign, starts_with_minus, without_leading_plus}
use Rattle.std.proofs.lemmas.Bool.{lt-ltb, ltb-true}
use Rattle.std.proofs.lemmas.Bool.Decides.{nat_tests}
use Rattle.std.proofs.lemmas.Fmt.{decimal_is_IsNumeral_wide}
use Rattle.base64.specs.Engines.{standard}
use Rattle.base64.specs.GeneralPurpose.{decoded_of}
use Rattle.nc_names.specs.Ends.{trimmed}
use Rattle.nc_names.specs.Same.{is_same_text}
use Rattle.nc_names.specs.Signs.{is_white}
use Rattle.nc_schema.specs.NumberTexts.{has_128_bits, in_range, is_among, is_numeral, number_of, whole_text}
use Rattle.nc_schema.specs.Values.{binary_text, boolean_text, empty_text, one_of, string_text}
use Rattle.nc_schema.specs.declared.value_type.Between.{Between}
use Rattle.nc_print.proofs.TrimAgain.{HasNoWhite, left_true, right_true, no_white, trimmed_again}

-- ---- what a text gave that was asked by a test
pub passed : {X : Type 0} (b : Bool) (x y : X) → cond b (Some x) None ≡ Some y → (b ≡ true) × (x ≡ y)
passed true x y e = (refl, cc)
passed false x y e = absurd (let none : None ≡ Some y = e in cc)

-- ---- numbers
digit_is : (c : ℕ) → digit_value c < 10 → is_ascii_digit c ≡ true
digit_is c h = grind (arith, nat_tests)

pub digits_are : (ds : List ℕ) → AllDigits 10 ds → list_all is_ascii_digit ds ≡ true
digits_are [] h = refl
digits_are (d ∷ ds) h = (λ i. digit_is d h.0 i && digits_are ds h.1 i)

digit_is_black : (c : ℕ) → is_ascii_digit c ≡ true → not (is_white c) ≡ true
digit_is_black c h = grind (arith, nat_tests)

pub digits_are_black : (ds : List ℕ) → list_all is_ascii_digit ds ≡ true → HasNoWhite ds
digits_are_black [] h = refl
digits_are_black (d ∷ ds) h = (λ i. digit_is_black d (left_true (is_ascii_digit d) (list_all is_ascii_digit ds) h) i && digits_are_black ds (right_true (is_ascii_digit d) (list_all is_ascii_digit ds) h) i)

no_sign : (c : ℕ) (sign : ℕ) → is_ascii_digit c ≡ true → sign < 48 → (c == sign) ≡ false
no_sign c sign h small = grind (arith, nat_tests)

-- digits have no sign
pub no_minus : (ds : List ℕ) → list_all is_ascii_digit ds ≡ true → 0 < length ds → starts_with_minus ds ≡ false
no_minus [] h some = absurd (omega (arith, some))
no_minus (d ∷ ds) h some = no_sign d 45 (left_true (is_ascii_digit d) (list_all is_ascii_digit ds) h) (lit< tt)

pub plain : (ds : List ℕ) → list_all is_ascii_digit ds ≡ true → 0 < length ds → without_leading_sign ds ≡ ds
plain [] h some = absurd (omega (arith, some))
plain (d ∷ ds) h some =
    ap (λ b. cond b ds (without_leading_plus (d ∷ ds))) (no_minus (d ∷ ds) h some)
    ∙ ap (λ b. drop (cond b 1 0) (d ∷ ds)) (no_sign d 43 (left_true (is_ascii_digit d) (list_all is_ascii_digit ds) h) (lit< tt))

pub numeral_is : (ds : List ℕ) → list_all is_ascii_digit ds ≡ true → 0 < length ds → is_numeral ds ≡ true
numeral_is ds h some = (λ i. lt-ltb 0 (length ds) some i && h i)

-- a number of digits that have no sign
pub digits_number : (ds : List ℕ) (n : ℕ) → list_all is_ascii_digit ds ≡ true → 0 < length ds → digits_value 10 ds ≡ n → has_128_bits (pos n) ≡ true → number_of ds ≡ Some (pos n)
digits_number ds n h some value small =
    (λ i. cond (is_numeral (plain ds h some i) && has_128_bits (number i)) (Some (number i)) None)
    ∙ (λ i. cond (numeral_is ds h some i && small i) (Some (pos n)) None)
  where
    number : signed_digits_value 10 ds ≡ pos n
    number = (λ i. cond (no_minus ds h some i) (neg (plain ds h some i)) (pos (digits_value 10 (plain ds h some i)))) ∙ ap (λ (k : ℕ). pos k) value
      where
        neg : List ℕ → ℤ
        neg xs = neg_ℤ (pos (digits_value 10 xs))

below_wide : (n : ℕ) → n < 2 ^ 127 → suc n < 10 ^ 64
below_wide n small = omega (arith, few)
  where
    few : 2 ^ 127 < 10 ^ 64
    few = lit< tt

-- a number is read where it is written
pub number_back : (z : ℤ) → has_128_bits z ≡ true → number_of (signed_decimal z) ≡ Some z
number_back (pos n) small =
    let below : n < 2 ^ 127 = ltb-true n (2 ^ 127) small in
    let wide = below_wide n below in
    let is = decimal_is_IsNumeral_wide n (omega (arith, wide)) in
    digits_number (decimal n) n (digits_are (decimal n) is.0.1) is.0.0 is.1 small
number_back (negsuc n) small =
    let below : n < 2 ^ 127 = ltb-true n (2 ^ 127) small in
    let is = decimal_is_IsNumeral_wide (suc n) (below_wide n below) in
    (λ i. cond (numeral_is (decimal (suc n)) (digits_are (decimal (suc n)) is.0.1) is.0.0 i && has_128_bits (neg_ℤ (pos (is.1 i)))) (Some (neg_ℤ (pos (is.1 i)))) None)
    ∙ ap (λ b. cond b (Some (negsuc n)) None) small

pub number_small : (text : List ℕ) (z : ℤ) → number_of text ≡ Some z → has_128_bits z ≡ true
number_small text z e =
    let both = passed (is_numeral (without_leading_sign text) && has_128_bits (signed_digits_value 10 text)) (signed_digits_value 10 text) z e in
    subst (λ (y : ℤ). has_128_bits y ≡ true) both.1 (right_true (is_numeral (without_leading_sign text)) (has_128_bits (signed_digits_value 10 text)) both.0)

signed_black : (z : ℤ) → has_128_bits z ≡ true → HasNoWhite (signed_decimal z)
signed_black (pos n) small =
    let wide = below_wide n (ltb-true n (2 ^ 127) small) in
    let is = decimal_is_IsNumeral_wide n (omega (arith, wide)) in
    digits_are_black (decimal n) (digits_are (decimal n) is.0.1)
signed_black (negsuc n) small =
    let is = decimal_is_IsNumeral_wide (suc n) (below_wide n (ltb-true n (2 ^ 127) small)) in
    digits_are_black (decimal (suc n)) (digits_are (decimal (suc n)) is.0.1)

pub whole_again : (among : List Between) (given text : List ℕ) → whole_text among given ≡ Some text → whole_text among (trimmed text) ≡ Some text
unfolding whole_text
whole_again among given text e = by (number_of given) refl e
  where
    by : (o : Option ℤ) → number_of given ≡ o → option_map signed_decimal (in_range among o) ≡ Some text → option_map signed_decimal (in_range among (number_of (trimmed text))) ≡ Some text
    by None is f = absurd (let none : None ≡ Some text = f in cc)
    by (Some z) is f = go (is_among among z) refl f
      where
        small : has_128_bits z ≡ true
        small = number_small given z is

        go : (b : Bool) → is_among among z ≡ b → option_map signed_decimal (cond b (Some z) None) ≡ Some text → option_map signed_decimal (in_range among (number_of (trimmed text))) ≡ Some text
        go false within g = absurd (let none : None ≡ Some text = g in cc)
        go true within g =
            let same : signed_decimal z ≡ text = cc in
            (λ i. option_map signed_decimal (in_range among (number_of ((ap trimmed (sym same) ∙ no_white (signed_decimal z) (signed_black z small)) i))))
            ∙ ap (λ o. option_map signed_decimal (in_range among o)) (number_back z small)
            ∙ ap (λ b. option_map signed_decimal (cond b (Some z) None)) within ∙ g

-- ---- texts that are taken as they are
pub string_again : (patterns : List (List ℕ)) (lengths : List Between) (starless : Bool) (numbers given text : List ℕ) → string_text patterns lengths starless numbers given ≡ Some text →
    string_text patterns lengths starless numbers text ≡ Some text
unfolding string_text
string_again patterns lengths starless numbers given text e =
    let both = passed _ given text e in
    subst (λ (t : List ℕ). string_text patterns lengths starless numbers t ≡ Some text) both.1 e

one_again : (names : List (List ℕ)) (given text : List ℕ) → one_of names given ≡ Some text → given ≡ text
one_again names given text e = (passed (list_any (λ name. is_same_text name given) names) given text e).1

pub one_of_again : (names : List (List ℕ)) (given text : List ℕ) → one_of names (trimmed given) ≡ Some text → one_of names (trimmed text) ≡ Some text
one_of_again names given text e =
    let same : trimmed given ≡ text = one_again names (trimmed given) text e in
    ap (one_of names) (ap trimmed (sym same) ∙ trimmed_again given) ∙ e

pub boolean_again : (given text : List ℕ) → boolean_text (trimmed given) ≡ Some text → boolean_text (trimmed text) ≡ Some text
unfolding boolean_text
boolean_again given text e = one_of_again (codes "true" ∷ codes "false" ∷ []) given text e

pub empty_again : (given text : List ℕ) → empty_text given ≡ Some text → empty_text (trimmed text) ≡ Some text
unfolding empty_text
empty_again given text e =
    let both = passed (length given == 0) [] text e in
    subst (λ (t : List ℕ). empty_text (trimmed t) ≡ Some t) both.1 refl

-- ---- base64
black_filter : (text : List ℕ) → HasNoWhite (filter (λ c. not (is_white c)) text)
black_filter [] = refl
black_filter (c ∷ cs) = by (not (is_white c)) refl (black_filter cs)
  where
    by : (b : Bool) → not (is_white c) ≡ b → HasNoWhite (filter (λ c. not (is_white c)) cs) → HasNoWhite (cond b (c ∷ filter (λ c. not (is_white c)) cs) (filter (λ c. not (is_white c)) cs))
    by true is rest = (λ i. is i && rest i)
    by false is rest = rest

black_kept : (text : List ℕ) → HasNoWhite text → filter (λ c. not (is_white c)) text ≡ text
black_kept [] none = refl
black_kept (c ∷ cs) none =
    ap (λ b. cond b (c ∷ filter (λ c. not (is_white c)) cs) (filter (λ c. not (is_white c)) cs)) (left_true (not (is_white c)) (list_all (λ d. not (is_white d)) cs) none)
    ∙ ap (λ more. c ∷ more) (black_kept cs (right_true (not (is_white c)) (list_all (λ d. not (is_white d)) cs) none))

-- what is given is the text without its white space
symbols_are : (o : Option (List ℕ)) (lengths : List Between) (symbols text : List ℕ) →
    option_and_then (λ octets. cond (is_among lengths (pos (length octets))) (Some symbols) None) o ≡ Some text → symbols ≡ text
symbols_are None lengths symbols text e = absurd (let none : None ≡ Some text = e in cc)
symbols_are (Some octets) lengths symbols text e = (passed (is_among lengths (pos (length octets))) symbols text e).1

given_is : (lengths : List Between) (given text : List ℕ) → binary_text lengths given ≡ Some text → filter (λ c. not (is_white c)) given ≡ text
unfolding binary_text
given_is lengths given text e = symbols_are (decoded_of standard (filter (λ c. not (is_white c)) given)) lengths (filter (λ c. not (is_white c)) given) text e

-- white space in it does not count
binary_same : (lengths : List Between) (given : List ℕ) → binary_text lengths (filter (λ c. not (is_white c)) given) ≡ binary_text lengths given
unfolding binary_text
binary_same lengths given = rw (black_kept (filter (λ c. not (is_white c)) given) (black_filter given)) refl

pub binary_again : (lengths : List Between) (given text : List ℕ) → binary_text lengths given ≡ Some text → binary_text lengths (trimmed text) ≡ Some text
binary_again lengths given text e =
    let symbols : List ℕ = filter (λ c. not (is_white c)) given in
    let same : symbols ≡ text = given_is lengths given text e in
    ap (binary_text lengths) (ap trimmed (sym same) ∙ no_white symbols (black_filter given)) ∙ binary_same lengths given ∙ e
