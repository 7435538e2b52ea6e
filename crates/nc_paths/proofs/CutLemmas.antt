-- Where texts are cut.
use Rattle.std.proofs.Common.{◌≡◌, ◌<◌, ◌+◌, ℕ, suc, Bool, true, false, not, cond, eqb, List, [], ◌∷◌, Option, Some, None, MatchOption, Bor, length, take, drop, refl, sym, ap, subst, ◌∙◌, arith}
use Rattle.std.specs.List.{prefix_len, position_or_len, before_first, after_first}
use Rattle.std.specs.Prelude.{IsUtf8, IsCharBoundary, option_map}
use Rattle.std.proofs.lemmas.Bool.Decides.{nat_tests}
use Rattle.std.proofs.lemmas.Str.{IsCharBoundary-after_ascii}
use Rattle.nc_names.specs.Ends.{past}
use Rattle.nc_names.specs.Signs.{is_in_identifier}
use Rattle.nc_schema.specs.PathWords.{leading, up_to, begins_name, begins_with, identifier}

pub name_low : (c : ℕ) → is_in_identifier c ≡ true → c < 128
name_low c h = grind (arith, nat_tests)

leading_step : (b : Bool) (c : ℕ) (cs rest : List ℕ) (n : ℕ) → take n cs ≡ rest → take (cond b (1 + n) 0) (c ∷ cs) ≡ cond b (c ∷ rest) []
leading_step true c cs rest n e = let next : 1 + n ≡ suc n = omega arith in rw next (ap (λ x. c ∷ x) e)
leading_step false c cs rest n e = refl

pub leading_is : (p : ℕ → Bool) (xs : List ℕ) → take (prefix_len p xs) xs ≡ leading p xs
leading_is p [] = refl
leading_is p (c ∷ cs) = leading_step (p c) c cs (leading p cs) (prefix_len p cs) (leading_is p cs)

pub leading_at : (p : ℕ → Bool) (text bytes front : List ℕ) (n : ℕ) → front ≡ take n text → n ≡ prefix_len p bytes → bytes ≡ text → front ≡ leading p text
leading_at p text bytes front n cut count same =
    cut ∙ ap (λ k. take k text) (count ∙ ap (prefix_len p) same) ∙ leading_is p text

pub identifier_is : (text front rest : List ℕ) → begins_name text ≡ true → front ≡ leading is_in_identifier text → rest ≡ past is_in_identifier text → identifier text ≡ Some (front, rest)
identifier_is text front rest begins e f = rw (begins, e, f) refl

-- after one sign of ASCII
pub cut_first : (byte : ℕ) (text bytes : List ℕ) → byte < 128 → begins_with byte text ≡ true → bytes ≡ text → IsUtf8 bytes → IsCharBoundary text 1
cut_first byte [] bytes low first same utf = cc
cut_first byte (c ∷ cs) bytes low first same utf =
    IsCharBoundary-after_ascii (c ∷ cs) 0 (subst IsUtf8 same utf) (omega arith) (grind (arith, nat_tests))

-- ---- up to a mark
abbrev put_first : ℕ → Option (List ℕ × List ℕ) → Option (List ℕ × List ℕ)
put_first c rest = option_map (λ found. (c ∷ found.0, found.1)) rest

found_step : (b : Bool) (c : ℕ) (cs : List ℕ) (n : ℕ) (rest : Option (List ℕ × List ℕ)) → (n < length cs → rest ≡ Some (take n cs, drop (n + 1) cs)) → cond (not b) (1 + n) 0 < length (c ∷ cs) → cond b (Some ([], cs)) (put_first c rest) ≡ Some (take (cond (not b) (1 + n) 0) (c ∷ cs), drop (cond (not b) (1 + n) 0 + 1) (c ∷ cs))
found_step true c cs n rest further within = refl
found_step false c cs n rest further within =
    let next : 1 + n ≡ suc n = omega arith in
    let more : suc n + 1 ≡ suc (n + 1) = omega arith in
    rw (further (omega (arith, within)), next, more) refl

missing_step : (b : Bool) (c : ℕ) (cs : List ℕ) (n : ℕ) (rest : Option (List ℕ × List ℕ)) → (n ≡ length cs → rest ≡ None) → cond (not b) (1 + n) 0 ≡ length (c ∷ cs) → cond b (Some ([], cs)) (put_first c rest) ≡ None
missing_step true c cs n rest further past = absurd (omega (arith, past))
missing_step false c cs n rest further past = ap (put_first c) (further (omega (arith, past)))

up_to_found : (mark : ℕ) (text : List ℕ) → position_or_len (λ b. eqb b mark) text < length text → up_to mark text ≡ Some (before_first (λ b. eqb b mark) text, after_first (λ b. eqb b mark) text)
up_to_found mark [] within = absurd (omega (arith, within))
up_to_found mark (c ∷ cs) within = found_step (eqb c mark) c cs (position_or_len (λ b. eqb b mark) cs) (up_to mark cs) (up_to_found mark cs) within

up_to_missing : (mark : ℕ) (text : List ℕ) → position_or_len (λ b. eqb b mark) text ≡ length text → up_to mark text ≡ None
up_to_missing mark [] e = refl
up_to_missing mark (c ∷ cs) e = missing_step (eqb c mark) c cs (position_or_len (λ b. eqb b mark) cs) (up_to mark cs) (up_to_missing mark cs) e

pub up_to_is : (mark : ℕ) (text : List ℕ) (found : Option (Bor (List ℕ) × Bor (List ℕ))) → MatchOption found (position_or_len (λ b. eqb b mark) text ≡ length text) (λ x. (x.0.now ≡ before_first (λ b. eqb b mark) text) × (x.1.now ≡ after_first (λ b. eqb b mark) text) × (position_or_len (λ b. eqb b mark) text < length text)) → MatchOption found (up_to mark text ≡ None) (λ x. up_to mark text ≡ Some (x.0.now, x.1.now))
up_to_is mark text None e = up_to_missing mark text e
up_to_is mark text (Some x) (front, back, within) = up_to_found mark text within ∙ (λ i. Some (sym front i, sym back i))
