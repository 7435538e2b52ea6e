-- Numbers up to one past the last code of a character.
use Rattle.std.proofs.Common.{◌≡◌, ℕ, ◌+◌, ◌*◌, ◌<◌, suc, List, [], ◌∷◌, length, drop, get_or, drop-cons, sym, ap, ◌∙◌, arith, inl, inr}
use Rattle.std.proofs.lemmas.Bool.Decides.{nat_tests}
use Rattle.std.specs.Char.{digit_value}
use Rattle.std.specs.Str.Parse.{digits_value_after}
use Rattle.nc_message_read.specs.inner.Numbers.{IsRadix, capped}

ten : (n d : ℕ) → capped (n * 10 + d) ≡ capped (capped n * 10 + d)
ten n d = grind (arith, nat_tests)

sixteen : (n d : ℕ) → capped (n * 16 + d) ≡ capped (capped n * 16 + d)
sixteen n d = grind (arith, nat_tests)

one_digit : (radix n d : ℕ) → IsRadix radix → capped (n * radix + d) ≡ capped (capped n * radix + d)
one_digit radix n d (inl e) = rw e (ten n d)
one_digit radix n d (inr e) = rw e (sixteen n d)

-- only the capped number counts for the digits that follow
pub capped_after : (radix : ℕ) → IsRadix radix → (n : ℕ) (ds : List ℕ) → capped (digits_value_after radix n ds) ≡ capped (digits_value_after radix (capped n) ds)
capped_after radix is n [] = twice n where
  twice : (n : ℕ) → capped n ≡ capped (capped n)
  twice n = grind (arith, nat_tests)
capped_after radix is n (d ∷ ds) =
    capped_after radix is (n * radix + digit_value d) ds
    ∙ ap (λ x. capped (digits_value_after radix x ds)) (one_digit radix n (digit_value d) is)
    ∙ sym (capped_after radix is (capped n * radix + digit_value d) ds)

-- one digit more
pub next_digit : (radix : ℕ) → IsRadix radix → (number next : ℕ) (digits : List ℕ) (i : ℕ) → i < length digits
    → next ≡ capped (number * radix + digit_value (get_or digits i 0))
    → capped (digits_value_after radix number (drop i digits)) ≡ capped (digits_value_after radix next (drop (i + 1) digits))
next_digit radix is number next digits i less now =
    let d = get_or digits i 0 in
    let same : suc i ≡ i + 1 = omega arith in
    let here : drop i digits ≡ d ∷ drop (i + 1) digits = drop-cons digits i 0 less ∙ ap (λ k. d ∷ drop k digits) same in
    ap (λ l. capped (digits_value_after radix number l)) here
    ∙ capped_after radix is (number * radix + digit_value d) (drop (i + 1) digits)
    ∙ ap (λ x. capped (digits_value_after radix x (drop (i + 1) digits))) (sym now)
