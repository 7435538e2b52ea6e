-- Digits one after another, and powers of ten.
use Rattle.std.proofs.Common.{◌≡◌, ◌<◌, ◌≤◌, ◌+◌, ◌-◌, ◌/◌, ◌%◌, ◌^◌, ℕ, zero, suc, List, [], ◌∷◌, ◌++◌, sym, ap, ◌∙◌, append_assoc, lit<, arith}
use Rattle.std.specs.Char.{encode_utf8}
use Rattle.std.proofs.Math.Nat.{pow-le-pow_right, one-le-pow}
use Rattle.std.proofs.lemmas.Str.{encode_ascii}
use Rattle.std.specs.Fmt.{decimal}
use Rattle.std.specs.Prelude.{ℤ, nat_abs}
use Rattle.nc_names.specs.Signs.{dot}
use Rattle.nc_schema.specs.NumberTexts.{last_digits, shortened, sign_of, units_text, zero_digit}

pub power_fits : (k : ℕ) → k ≤ 18 → 10 ^ k < 2 ^ 128
power_fits k few = omega (arith, pow-le-pow_right {n = 10} (lit< tt) few)

pub power_above : (k : ℕ) → 0 < 10 ^ k
power_above k = omega (arith, one-le-pow k 10 (lit< tt))

pub encode_digit : (d : ℕ) → d < 10 → encode_utf8 (zero_digit + d) ≡ (zero_digit + d) ∷ []
encode_digit d few = encode_ascii (zero_digit + d) (omega (arith, few))

pub next_digit : (whole out : List ℕ) (m size : ℕ) → whole ≡ out ++ last_digits m size → 0 < m → whole ≡ (out ++ (zero_digit + size / 10 ^ (m - 1) % 10) ∷ []) ++ last_digits (m - 1) size
next_digit whole out zero size e some = absurd (omega (arith, some))
next_digit whole out (suc k) size e some =
    let less : suc k - 1 ≡ k = omega arith in
    rw less (e ∙ sym (append_assoc out ((zero_digit + size / 10 ^ k % 10) ∷ []) (last_digits k size)))

-- a number in units, part by part
pub units_whole : (digits : ℕ) (units : ℤ) (size power : ℕ) (whole fraction w f o0 o1 o2 o3 o4 : List ℕ) → size ≡ nat_abs units → power ≡ 10 ^ digits → whole ≡ decimal (size / power) → fraction ≡ last_digits digits size → w ≡ whole → f ≡ fraction → o0 ≡ [] → o1 ≡ o0 ++ sign_of units → o2 ≡ o1 ++ w → o3 ≡ o2 ++ dot ∷ [] → o4 ≡ o3 ++ shortened f → o4 ≡ units_text digits units
units_whole digits units size power whole fraction w f o0 o1 o2 o3 o4 e_size e_power e_whole e_fraction e_w e_f e0 e1 e2 e3 e4 =
    let front : o2 ≡ sign_of units ++ decimal (nat_abs units / 10 ^ digits) =
    e2 ∙ (λ i. (e1 ∙ ap (λ x. x ++ sign_of units) e0) i ++ (e_w ∙ e_whole ∙ (λ j. decimal (e_size j / e_power j))) i) in
    let back : f ≡ last_digits digits (nat_abs units) = e_f ∙ e_fraction ∙ ap (last_digits digits) e_size in
    e4 ∙ (λ i. (e3 ∙ ap (λ x. x ++ dot ∷ []) front) i ++ shortened (back i))
    ∙ append_assoc (sign_of units ++ decimal (nat_abs units / 10 ^ digits)) (dot ∷ []) (shortened (last_digits digits (nat_abs units)))
