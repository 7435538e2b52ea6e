-- The canonical texts of decimal64 values, read once more.
use Rattle.std.proofs.Common.{◌≡◌, ◌&&◌, ◌==◌, ◌<◌, ◌≤◌, ◌^◌, ◌+◌, ◌-◌, ◌*◌, ◌/◌, ◌%◌, not, cond, neg_ℤ, drop, take, ℕ, zero, suc, Bool, true, false, List, [], ◌∷◌, ◌++◌, length, replicate, Option, Some, None, refl, sym, ap, subst, ◌∙◌, arith, lit<, append_assoc}
use Rattle.std.specs.Char.{is_ascii_digit, digit_value}
use Rattle.std.specs.Fmt.{decimal}
use Rattle.std.specs.List.{after_first, before_first, list_all, position_or_len}
use Rattle.std.specs.Prelude.{ℤ, pos, negsuc, is_some, option_map, nat_le}
use Rattle.std.specs.Str.Parse.{digits_value, digits_value_after}
use Rattle.std.proofs.Math.Dec.{leb-zero}
use Rattle.std.proofs.Math.Nat.{div-div-eq-div-mul, div-le_self, pow-suc}
use Rattle.std.proofs.lemmas.Bool.{lt-ltb, ltb-true}
use Rattle.std.proofs.lemmas.Bool.Decides.{nat_tests, Decides-eqb}
use Rattle.std.proofs.lemmas.Fmt.{decimal_is_IsNumeral_wide}
use Rattle.nc_names.specs.Ends.{trimmed, without_last}
use Rattle.nc_names.specs.Signs.{dot, hyphen, is_white}
use Rattle.nc_schema.specs.NumberTexts.{decimal_text, fraction_of, has_128_bits, in_range, is_among, last_digits, number_of, shortened, units_of, units_text, without_point, zero_digit}
use Rattle.nc_schema.specs.declared.value_type.Between.{Between}
use Rattle.nc_print.proofs.SimpleAgain.{digits_are, digits_are_black, digits_number, number_small, numeral_is}
use Rattle.nc_print.proofs.TrimAgain.{HasNoWhite, left_true, no_white, right_true}

-- ---- digits
digit_back : (d : ℕ) → d < 10 → digit_value (zero_digit + d) ≡ d
digit_back d small = grind (arith, nat_tests)

digit_there : (d : ℕ) → d < 10 → is_ascii_digit (zero_digit + d) ≡ true
digit_there d small = grind (arith, nat_tests)

below_ten : (n : ℕ) → n % 10 < 10
below_ten n = omega arith

last_are_digits : (k n : ℕ) → list_all is_ascii_digit (last_digits k n) ≡ true
last_are_digits zero n = refl
last_are_digits (suc k) n = (λ i. digit_there (n / 10 ^ k % 10) (below_ten (n / 10 ^ k)) i && last_are_digits k n i)

last_length : (k n : ℕ) → length (last_digits k n) ≡ k
last_length zero n = refl
last_length (suc k) n = ap suc (last_length k n)

after_join : (radix n : ℕ) (xs ys : List ℕ) → digits_value_after radix n (xs ++ ys) ≡ digits_value_after radix (digits_value_after radix n xs) ys
after_join radix n [] ys = refl
after_join radix n (x ∷ xs) ys = after_join radix (n * radix + digit_value x) xs ys

div_one : (n : ℕ) → n / 1 ≡ n
div_one n = omega arith

-- the digits after the point, behind those before it, are those of the number
pub last_value : (k n : ℕ) → digits_value_after 10 (n / 10 ^ k) (last_digits k n) ≡ n
last_value zero n = div_one n
last_value (suc k) n = ap (λ acc. digits_value_after 10 acc (last_digits k n)) step ∙ last_value k n
  where
    whole : n / 10 ^ suc k ≡ n / 10 ^ k / 10
    whole = ap (λ m. n / m) (pow-suc 10 k) ∙ sym (div-div-eq-div-mul n (10 ^ k) 10)

    digits : (m : ℕ) → m / 10 * 10 + m % 10 ≡ m
    digits m = omega arith

    step : n / 10 ^ suc k * 10 + digit_value (zero_digit + n / 10 ^ k % 10) ≡ n / 10 ^ k
    step = (λ i. whole i * 10 + digit_back (n / 10 ^ k % 10) (below_ten (n / 10 ^ k)) i) ∙ digits (n / 10 ^ k)

-- ---- zeros at the end
abbrev is_zero : ℕ → Bool
is_zero digit = digit == zero_digit

zeros : (ds : List ℕ) → list_all is_zero ds ≡ true → replicate (length ds) zero_digit ≡ ds
zeros [] e = refl
zeros (d ∷ ds) e = (λ i. sym ((Decides-eqb d zero_digit).0 (left_true (is_zero d) (list_all is_zero ds) e)) i ∷ zeros ds (right_true (is_zero d) (list_all is_zero ds) e) i)

-- so many zeros fill the digits again
abbrev Fills : List ℕ → List ℕ → Type 0
Fills kept ds = (n : ℕ) × (length kept + n ≡ length ds) × (kept ++ replicate n zero_digit ≡ ds)

trailing : (ds : List ℕ) → Fills (without_last is_zero ds) ds
trailing [] = (0, omega arith, refl)
trailing (d ∷ ds) = by (is_zero d && list_all is_zero ds) refl (trailing ds)
  where
    by : (b : Bool) → (is_zero d && list_all is_zero ds) ≡ b → Fills (without_last is_zero ds) ds → Fills (cond b [] (d ∷ without_last is_zero ds)) (d ∷ ds)
    by true e rest = (length (d ∷ ds), omega arith, zeros (d ∷ ds) e)
    by false e (n, size, is) = (n, omega (arith, size), ap (λ more. d ∷ more) is)

pub record IsFraction (fraction ds : List ℕ) : Type 0 where
  pub fills : Fills fraction ds
  pub digits : list_all is_ascii_digit fraction ≡ true
  pub some : 0 < length fraction

all_front : (xs ys : List ℕ) → list_all is_ascii_digit (xs ++ ys) ≡ true → list_all is_ascii_digit xs ≡ true
all_front [] ys e = refl
all_front (x ∷ xs) ys e = (λ i. left_true (is_ascii_digit x) (list_all is_ascii_digit (xs ++ ys)) e i && all_front xs ys (right_true (is_ascii_digit x) (list_all is_ascii_digit (xs ++ ys)) e) i)

some_length : (n : ℕ) → (suc n == 0) ≡ false
some_length n = grind (arith, nat_tests)

pub shortened_is : (ds : List ℕ) → list_all is_ascii_digit ds ≡ true → 0 < length ds → IsFraction (shortened ds) ds
shortened_is ds all some = by (without_last is_zero ds) (trailing ds)
  where
    by : (kept : List ℕ) → Fills kept ds → IsFraction (cond (length kept == 0) (zero_digit ∷ []) kept) ds
    by [] (zero, size, is) = absurd (omega (arith, size, some))
    by [] (suc n, size, is) = record { fills = (n, omega (arith, size), is); digits = refl; some = omega arith }
    by (k ∷ kept) (n, size, is) = subst (λ (fraction : List ℕ). IsFraction fraction ds) (sym (ap (λ b. cond b (zero_digit ∷ []) (k ∷ kept)) (some_length (length kept)))) (record {
      fills = (n, size, is);
      digits = all_front (k ∷ kept) (replicate n zero_digit) (ap (list_all is_ascii_digit) is ∙ all);
      some = omega arith;
    })

-- ---- where the point stands
point_at : (xs ys : List ℕ) → list_all (λ c. not (c == dot)) xs ≡ true → position_or_len (λ c. c == dot) (xs ++ dot ∷ ys) ≡ length xs
point_at [] ys none = refl
point_at (x ∷ xs) ys none =
    ap (λ b. cond b (1 + position_or_len (λ c. c == dot) (xs ++ dot ∷ ys)) 0) (left_true (not (x == dot)) (list_all (λ c. not (c == dot)) xs) none)
    ∙ (let rest = point_at xs ys (right_true (not (x == dot)) (list_all (λ c. not (c == dot)) xs) none) in omega (arith, rest))

take_front : (xs ys : List ℕ) → take (length xs) (xs ++ ys) ≡ xs
take_front [] ys = refl
take_front (x ∷ xs) ys = ap (λ more. x ∷ more) (take_front xs ys)

drop_front : (xs ys : List ℕ) (y : ℕ) → drop (suc (length xs)) (xs ++ y ∷ ys) ≡ ys
drop_front [] ys y = refl
drop_front (x ∷ xs) ys y = drop_front xs ys y

before_point : (xs ys : List ℕ) → list_all (λ c. not (c == dot)) xs ≡ true → before_first (λ c. c == dot) (xs ++ dot ∷ ys) ≡ xs
before_point xs ys none = ap (λ n. take n (xs ++ dot ∷ ys)) (point_at xs ys none) ∙ take_front xs (dot ∷ ys)

after_point : (xs ys : List ℕ) → list_all (λ c. not (c == dot)) xs ≡ true → after_first (λ c. c == dot) (xs ++ dot ∷ ys) ≡ ys
after_point xs ys none =
    ap (λ n. drop n (xs ++ dot ∷ ys)) (let at = point_at xs ys none in let next : position_or_len (λ c. c == dot) (xs ++ dot ∷ ys) + 1 ≡ suc (length xs) = omega (arith, at) in next) ∙ drop_front xs ys dot

digit_no_dot : (c : ℕ) → is_ascii_digit c ≡ true → not (c == dot) ≡ true
digit_no_dot c h = grind (arith, nat_tests)

abbrev HasNoDot : List ℕ → Type 0
HasNoDot text = list_all (λ c. not (c == dot)) text ≡ true

digits_no_dot : (ds : List ℕ) → list_all is_ascii_digit ds ≡ true → HasNoDot ds
digits_no_dot [] h = refl
digits_no_dot (d ∷ ds) h = (λ i. digit_no_dot d (left_true (is_ascii_digit d) (list_all is_ascii_digit ds) h) i && digits_no_dot ds (right_true (is_ascii_digit d) (list_all is_ascii_digit ds) h) i)

all_join : (p : ℕ → Bool) (xs ys : List ℕ) → list_all p xs ≡ true → list_all p ys ≡ true → list_all p (xs ++ ys) ≡ true
all_join p [] ys e f = f
all_join p (x ∷ xs) ys e f = (λ i. left_true (p x) (list_all p xs) e i && all_join p xs ys (right_true (p x) (list_all p xs) e) f i)

-- ---- the parts of a decimal64, put together
parts_back : (digits : ℕ) (front fraction ds : List ℕ) (y z : ℤ) → HasNoDot front → number_of front ≡ Some y → IsFraction fraction ds → length ds ≡ digits →
    number_of (front ++ ds) ≡ Some z → units_of digits (front ++ dot ∷ fraction) ≡ Some z
parts_back digits front fraction ds y z none whole is size all =
    (λ i. cond (is_some (number_of (before_point front fraction none i)) && list_all is_ascii_digit (after_point front fraction none i) && nat_le (length (after_point front fraction none i)) digits)
    (number_of (before_point front fraction none i ++ after_point front fraction none i ++ replicate (digits - length (after_point front fraction none i)) zero_digit)) None)
    ∙ (λ i. cond (is_some (whole i) && is.digits i && fits i) (number_of (front ++ fraction ++ replicate (left i) zero_digit)) None)
    ∙ ap number_of (append_assoc front fraction (replicate is.fills.0 zero_digit) ∙ ap (λ more. front ++ more) is.fills.2) ∙ all
  where
    fits : nat_le (length fraction) digits ≡ true
    fits = small_is (length fraction) digits (omega (arith, is.fills.1, size))
      where
        small_is : (a b : ℕ) → a ≤ b → nat_le a b ≡ true
        small_is a b h = grind (arith, nat_tests)

    left : digits - length fraction ≡ is.fills.0
    left = omega (arith, is.fills.1, size)

minus_number : (ds : List ℕ) (n : ℕ) → list_all is_ascii_digit ds ≡ true → 0 < length ds → digits_value 10 ds ≡ n → has_128_bits (neg_ℤ (pos n)) ≡ true → number_of (hyphen ∷ ds) ≡ Some (neg_ℤ (pos n))
minus_number ds n h some value small =
    (λ i. cond (numeral_is ds h some i && has_128_bits (neg_ℤ (pos (value i)))) (Some (neg_ℤ (pos (value i)))) None)
    ∙ ap (λ b. cond b (Some (neg_ℤ (pos n))) None) small

negative_small : (n : ℕ) → n ≤ 2 ^ 127 → has_128_bits (neg_ℤ (pos n)) ≡ true
negative_small zero small = refl
negative_small (suc n) small = lt-ltb n (2 ^ 127) (omega (arith, small))

-- a number in units is read where it is written
pub record IsUnits (digits : ℕ) (z : ℤ) : Type 0 where
  pub back : units_of digits (units_text digits z) ≡ Some z
  pub black : HasNoWhite (units_text digits z)

module _ (digits size : ℕ) (some : 1 ≤ digits) (small : size ≤ 2 ^ 127) where
  whole : ℕ
  whole = size / 10 ^ digits

  wide : size / 10 ^ digits < 10 ^ 64
  wide = let less : size / 10 ^ digits ≤ size = div-le_self size (10 ^ digits) in omega (arith, less, few)
    where
      few : 2 ^ 127 < 10 ^ 64
      few = lit< tt

  ws : List ℕ
  ws = decimal (size / 10 ^ digits)

  ds : List ℕ
  ds = last_digits digits size

  ws_digits : list_all is_ascii_digit (decimal (size / 10 ^ digits)) ≡ true
  ws_digits = digits_are (decimal (size / 10 ^ digits)) (decimal_is_IsNumeral_wide (size / 10 ^ digits) wide).0.1

  ws_some : 0 < length (decimal (size / 10 ^ digits))
  ws_some = (decimal_is_IsNumeral_wide (size / 10 ^ digits) wide).0.0

  ws_value : digits_value 10 (decimal (size / 10 ^ digits)) ≡ size / 10 ^ digits
  ws_value = (decimal_is_IsNumeral_wide (size / 10 ^ digits) wide).1

  fraction_is : IsFraction (shortened (last_digits digits size)) (last_digits digits size)
  fraction_is = shortened_is (last_digits digits size) (last_are_digits digits size) (let long = last_length digits size in omega (arith, long, some))

  both_digits : list_all is_ascii_digit (decimal (size / 10 ^ digits) ++ last_digits digits size) ≡ true
  both_digits = all_join is_ascii_digit (decimal (size / 10 ^ digits)) (last_digits digits size) ws_digits (last_are_digits digits size)

  both_some : (xs ys : List ℕ) → 0 < length xs → 0 < length (xs ++ ys)
  both_some [] ys h = absurd (omega (arith, h))
  both_some (x ∷ xs) ys h = omega arith

  both_value : digits_value 10 (decimal (size / 10 ^ digits) ++ last_digits digits size) ≡ size
  both_value = after_join 10 0 (decimal (size / 10 ^ digits)) (last_digits digits size) ∙ ap (λ acc. digits_value_after 10 acc (last_digits digits size)) ws_value ∙ last_value digits size

  black_front : HasNoWhite (decimal (size / 10 ^ digits))
  black_front = digits_are_black (decimal (size / 10 ^ digits)) ws_digits

  black_behind : HasNoWhite (dot ∷ shortened (last_digits digits size))
  black_behind = digits_are_black (shortened (last_digits digits size)) fraction_is.digits

  less : size / 10 ^ digits ≤ size
  less = div-le_self size (10 ^ digits)

  pub positive : has_128_bits (pos size) ≡ true →
      (units_of digits (decimal (size / 10 ^ digits) ++ dot ∷ shortened (last_digits digits size)) ≡ Some (pos size))
      × HasNoWhite (decimal (size / 10 ^ digits) ++ dot ∷ shortened (last_digits digits size))
  positive bits = (
    parts_back digits (decimal (size / 10 ^ digits)) (shortened (last_digits digits size)) (last_digits digits size) (pos (size / 10 ^ digits)) (pos size)
        (digits_no_dot (decimal (size / 10 ^ digits)) ws_digits)
        (digits_number (decimal (size / 10 ^ digits)) (size / 10 ^ digits) ws_digits ws_some ws_value
        (lt-ltb (size / 10 ^ digits) (2 ^ 127) (let inside : size < 2 ^ 127 = ltb-true size (2 ^ 127) bits in omega (arith, inside, less))))
        fraction_is (last_length digits size)
        (digits_number (decimal (size / 10 ^ digits) ++ last_digits digits size) size both_digits (both_some (decimal (size / 10 ^ digits)) (last_digits digits size) ws_some) both_value bits),
    all_join (λ c. not (is_white c)) (decimal (size / 10 ^ digits)) (dot ∷ shortened (last_digits digits size)) black_front black_behind,
  )

  pub negative :
      (units_of digits (hyphen ∷ (decimal (size / 10 ^ digits) ++ dot ∷ shortened (last_digits digits size))) ≡ Some (neg_ℤ (pos size)))
      × HasNoWhite (hyphen ∷ (decimal (size / 10 ^ digits) ++ dot ∷ shortened (last_digits digits size)))
  negative = (
    parts_back digits (hyphen ∷ decimal (size / 10 ^ digits)) (shortened (last_digits digits size)) (last_digits digits size) (neg_ℤ (pos (size / 10 ^ digits))) (neg_ℤ (pos size))
        (digits_no_dot (decimal (size / 10 ^ digits)) ws_digits)
        (minus_number (decimal (size / 10 ^ digits)) (size / 10 ^ digits) ws_digits ws_some ws_value (negative_small (size / 10 ^ digits) (omega (arith, less, small))))
        fraction_is (last_length digits size)
        (minus_number (decimal (size / 10 ^ digits) ++ last_digits digits size) size both_digits (both_some (decimal (size / 10 ^ digits)) (last_digits digits size) ws_some) both_value (negative_small size small)),
    all_join (λ c. not (is_white c)) (decimal (size / 10 ^ digits)) (dot ∷ shortened (last_digits digits size)) black_front black_behind,
  )

units_are : (digits : ℕ) (z : ℤ) → 1 ≤ digits → has_128_bits z ≡ true → IsUnits digits z
units_are digits (pos n) some bits =
    let size : n ≤ 2 ^ 127 = (let inside : n < 2 ^ 127 = ltb-true n (2 ^ 127) bits in omega (arith, inside)) in
    let is = positive digits n some size bits in
    let text : units_text digits (pos n) ≡ decimal (n / 10 ^ digits) ++ dot ∷ shortened (last_digits digits n) =
    ap (λ b. cond b [] (hyphen ∷ []) ++ decimal (n / 10 ^ digits) ++ dot ∷ shortened (last_digits digits n)) (leb-zero n) in
    record { back = ap (units_of digits) text ∙ is.0; black = subst HasNoWhite (sym text) is.1 }
units_are digits (negsuc n) some bits =
    let size : suc n ≤ 2 ^ 127 = (let inside : n < 2 ^ 127 = ltb-true n (2 ^ 127) bits in omega (arith, inside)) in
    let is = negative digits (suc n) some size in
    record { back = is.0; black = is.1 }

pub decimal_again : (digits : ℕ) (ranges : List Between) (given text : List ℕ) → decimal_text digits ranges given ≡ Some text → decimal_text digits ranges (trimmed text) ≡ Some text
unfolding decimal_text
decimal_again digits ranges given text e = by (nat_le 1 digits && nat_le digits 18) refl (units_of digits given) refl e
  where
    at_least : (a b : ℕ) → nat_le a b ≡ true → a ≤ b
    at_least a b h = grind (arith, nat_tests)

    units_small : (z : ℤ) → units_of digits given ≡ Some z → has_128_bits z ≡ true
    units_small z is =
        go (is_some (number_of (before_first (λ c. c == dot) given)) && list_all is_ascii_digit (fraction_of given) && nat_le (length (fraction_of given)) digits) is
      where
        go : (b : Bool) → cond b (number_of (without_point digits given)) None ≡ Some z → has_128_bits z ≡ true
        go true f = number_small (without_point digits given) z f
        go false f = absurd (let none : None ≡ Some z = f in cc)

    by : (b : Bool) → (nat_le 1 digits && nat_le digits 18) ≡ b → (o : Option ℤ) → units_of digits given ≡ o → cond b (option_map (units_text digits) (in_range ranges o)) None ≡ Some text →
        cond (nat_le 1 digits && nat_le digits 18) (option_map (units_text digits) (in_range ranges (units_of digits (trimmed text)))) None ≡ Some text
    by false few o is f = absurd (let none : None ≡ Some text = f in cc)
    by true few None is f = absurd (let none : None ≡ Some text = f in cc)
    by true few (Some z) is f = go (is_among ranges z) refl f
      where
        units : IsUnits digits z
        units = units_are digits z (at_least 1 digits (left_true (nat_le 1 digits) (nat_le digits 18) few)) (units_small z is)

        go : (b : Bool) → is_among ranges z ≡ b → option_map (units_text digits) (cond b (Some z) None) ≡ Some text →
            cond (nat_le 1 digits && nat_le digits 18) (option_map (units_text digits) (in_range ranges (units_of digits (trimmed text)))) None ≡ Some text
        go false within g = absurd (let none : None ≡ Some text = g in cc)
        go true within g =
            let same : units_text digits z ≡ text = cc in
            (λ i. cond (few i) (option_map (units_text digits) (in_range ranges (units_of digits (trimmed (sym same i))))) None)
            ∙ ap (λ t. option_map (units_text digits) (in_range ranges (units_of digits t))) (no_white (units_text digits z) units.black)
            ∙ ap (λ o. option_map (units_text digits) (in_range ranges o)) units.back
            ∙ ap (λ b. option_map (units_text digits) (cond b (Some z) None)) within ∙ g
