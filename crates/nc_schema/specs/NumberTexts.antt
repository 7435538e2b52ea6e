-- The texts of integers and of decimal64 values (RFC 7950 9.2, 9.3).
use Rattle.std.specs.Prelude.{ℕ, zero, suc, ◌+◌, ◌-◌, ◌/◌, ◌%◌, ◌^◌, ◌==◌, ◌&&◌, Bool, nat_lt, nat_le, if◌then◌else◌, List, [], ◌∷◌, ◌++◌, length, replicate, ℤ, pos, negsuc, nat_abs, int_le, Option, Some, None, is_some, option_map, option_and_then}
use Rattle.std.specs.Char.{is_ascii_digit}
use Rattle.std.specs.Fmt.{decimal, signed_decimal}
use Rattle.std.specs.List.{list_all, list_any, before_first, after_first}
use Rattle.std.specs.Str.Parse.{without_leading_sign, signed_digits_value}
use Rattle.nc_names.specs.Ends.{without_last}
use Rattle.nc_names.specs.Signs.{dot, hyphen}
use Rattle.nc_schema.specs.declared.value_type.Between.{Between}

-- `0`
abbrev pub zero_digit : ℕ
zero_digit = 48

-- one digit or more
abbrev pub is_numeral : List ℕ → Bool
is_numeral digits = nat_lt 0 (length digits) && list_all is_ascii_digit digits

-- the bounds of a range have 128 bits, so a number beyond is in no range
abbrev pub has_128_bits : ℤ → Bool
has_128_bits (pos n) = nat_lt n (2 ^ 127)
has_128_bits (negsuc n) = nat_lt n (2 ^ 127)

-- the number of an optional sign and digits (RFC 7950 9.2.1)
abbrev pub number_of : List ℕ → Option ℤ
number_of text =
    let number = signed_digits_value 10 text in
    if is_numeral (without_leading_sign text) && has_128_bits number then Some number else None

-- the number is in one of the ranges (RFC 7950 9.2.4)
abbrev pub is_among : List Between → ℤ → Bool
is_among ranges number = list_any (λ range. int_le range.least number && int_le number range.most) ranges

-- that number, where it is in one of the ranges
abbrev pub in_range : List Between → Option ℤ → Option ℤ
in_range ranges found = option_and_then (λ number. if is_among ranges number then Some number else None) found

-- the canonical text of an integer (RFC 7950 9.2.2)
unfoldable pub whole_text : List Between → List ℕ → Option (List ℕ)
whole_text ranges text = option_map signed_decimal (in_range ranges (number_of text))

-- the digits after the point of a decimal64
abbrev pub fraction_of : List ℕ → List ℕ
fraction_of text = after_first (λ c. c == dot) text

-- the text without its point, filled with zeros to so many digits after the point
abbrev pub without_point : ℕ → List ℕ → List ℕ
without_point digits text =
    let fraction = fraction_of text in
    before_first (λ c. c == dot) text ++ fraction ++ replicate (digits - length fraction) zero_digit

-- the number of an optional sign, digits and perhaps a point and at most so many digits, in units of
-- the last of these (RFC 7950 9.3.1)
abbrev pub units_of : ℕ → List ℕ → Option ℤ
units_of digits text =
    let fraction = fraction_of text in
    if is_some (number_of (before_first (λ c. c == dot) text)) && list_all is_ascii_digit fraction
    && nat_le (length fraction) digits
    then number_of (without_point digits text) else None

-- so many digits of a number, with leading zeros
abbrev pub last_digits : ℕ → ℕ → List ℕ
last_digits zero number = []
last_digits (suc more) number = (zero_digit + number / 10 ^ more % 10) ∷ last_digits more number

-- one digit or more after the point, and no other zero at the end (RFC 7950 9.3.2)
abbrev pub shortened : List ℕ → List ℕ
shortened digits =
    let kept = without_last (λ digit. digit == zero_digit) digits in
    if length kept == 0 then zero_digit ∷ [] else kept

-- a number below 0 has a sign
abbrev pub sign_of : ℤ → List ℕ
sign_of number = if int_le (pos 0) number then [] else hyphen ∷ []

-- the canonical text of a number in units of the last of so many fraction digits (RFC 7950 9.3.2)
abbrev pub units_text : ℕ → ℤ → List ℕ
units_text digits units =
    let size = nat_abs units in
    sign_of units ++ decimal (size / 10 ^ digits) ++ dot ∷ shortened (last_digits digits size)

-- the canonical text of a decimal64, which has from 1 to 18 fraction digits (RFC 7950 9.3.4)
unfoldable pub decimal_text : ℕ → List Between → List ℕ → Option (List ℕ)
decimal_text digits ranges text =
    if nat_le 1 digits && nat_le digits 18
    then option_map (units_text digits) (in_range ranges (units_of digits text)) else None
