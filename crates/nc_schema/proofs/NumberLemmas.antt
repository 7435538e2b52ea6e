-- Numbers read and printed.
use Rattle.std.proofs.Common.{◌≡◌, ◌<◌, ◌&&◌, ◌^◌, ℕ, Bool, true, false, cond, ltb, List, [], ◌∷◌, Some, None, length, refl, ap, arith}
use Rattle.std.specs.Char.{is_ascii_digit, digit_value}
use Rattle.std.specs.List.{list_all}
use Rattle.std.specs.Prelude.{ℤ, pos, negsuc, Result, Ok, Err, FitsSigned}
use Rattle.std.specs.Int.{w128}
use Rattle.std.specs.Result.{result_ok}
use Rattle.std.specs.Str.Parse.{AllDigits, IsNumeral, signed_digits_value, without_leading_sign, ParsesSigned}
use Rattle.std.proofs.lemmas.Bool.{lt-ltb, ltb-true}
use Rattle.std.proofs.lemmas.Bool.Decides.{nat_tests}
use Rattle.nc_schema.specs.NumberTexts.{has_128_bits, is_numeral, number_of}

digit_reads : (c : ℕ) → is_ascii_digit c ≡ true → digit_value c < 10
digit_reads c h = grind (arith, nat_tests)

reads_digit : (c : ℕ) → digit_value c < 10 → is_ascii_digit c ≡ true
reads_digit c h = grind (arith, nat_tests)

both : (a b : Bool) → a ≡ true → b ≡ true → (a && b) ≡ true
both a b e f = cc

left : (a b : Bool) → (a && b) ≡ true → a ≡ true
left true b e = refl
left false b e = e

right : (a b : Bool) → (a && b) ≡ true → b ≡ true
right true b e = e
right false b e = cc

digits_read : (ds : List ℕ) → list_all is_ascii_digit ds ≡ true → AllDigits 10 ds
digits_read [] e = tt
digits_read (d ∷ ds) e = (digit_reads d (left (is_ascii_digit d) (list_all is_ascii_digit ds) e), digits_read ds (right (is_ascii_digit d) (list_all is_ascii_digit ds) e))

read_digits : (ds : List ℕ) → AllDigits 10 ds → list_all is_ascii_digit ds ≡ true
read_digits [] h = refl
read_digits (d ∷ ds) h = both (is_ascii_digit d) (list_all is_ascii_digit ds) (reads_digit d h.0) (read_digits ds h.1)

numeral_is : (ds : List ℕ) → is_numeral ds ≡ true → IsNumeral 10 ds
numeral_is ds e = (ltb-true 0 (length ds) (left (ltb 0 (length ds)) (list_all is_ascii_digit ds) e), digits_read ds (right (ltb 0 (length ds)) (list_all is_ascii_digit ds) e))

is_numeral_of : (ds : List ℕ) → IsNumeral 10 ds → is_numeral ds ≡ true
is_numeral_of ds h = both (ltb 0 (length ds)) (list_all is_ascii_digit ds) (lt-ltb 0 (length ds) h.0) (read_digits ds h.1)

fits_is : (z : ℤ) → has_128_bits z ≡ true → FitsSigned w128 z
fits_is (pos n) e = record { sfits = ltb-true n (2 ^ 127) e }
fits_is (negsuc n) e = record { sfits = ltb-true n (2 ^ 127) e }

is_fitting : (z : ℤ) → FitsSigned w128 z → has_128_bits z ≡ true
is_fitting (pos n) h = lt-ltb n (2 ^ 127) h.sfits
is_fitting (negsuc n) h = lt-ltb n (2 ^ 127) h.sfits

-- the test of a number
abbrev is_number : List ℕ → Bool
is_number text = is_numeral (without_leading_sign text) && has_128_bits (signed_digits_value 10 text)

refused : (b : Bool) (v : ℤ) → ¬ (b ≡ true) → None ≡ cond b (Some v) None
refused true v no_number = absurd (no_number refl)
refused false v no_number = refl

pub number_is : {E : Type 0} (text : List ℕ) (r : Result ℤ E) → ParsesSigned w128 10 text r → result_ok r ≡ number_of text
number_is text (Ok x) ((numeral, fits), is) =
    let test : is_number text ≡ true = both (is_numeral (without_leading_sign text)) (has_128_bits (signed_digits_value 10 text)) (is_numeral_of (without_leading_sign text) numeral) (is_fitting (signed_digits_value 10 text) fits) in
    rw test (ap Some is)
number_is text (Err e) no_number =
    refused (is_number text) (signed_digits_value 10 text)
    (λ test. no_number (numeral_is (without_leading_sign text) (left (is_numeral (without_leading_sign text)) (has_128_bits (signed_digits_value 10 text)) test), fits_is (signed_digits_value 10 text) (right (is_numeral (without_leading_sign text)) (has_128_bits (signed_digits_value 10 text)) test)))
