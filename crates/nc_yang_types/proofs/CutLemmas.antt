-- Where texts are cut.
use Rattle.std.proofs.Common.{◌≡◌, ◌<◌, ◌≤◌, ◌+◌, ◌&&◌, ℕ, zero, suc, Bool, true, false, not, cond, eqb, List, [], ◌∷◌, ◌++◌, Option, Some, None, MatchOption, Bor, length, take, drop, get_or, refl, sym, ap, subst, ◌∙◌, arith}
use Rattle.std.specs.List.{prefix_len, position_or_len, before_first, after_first, slice_split, onto_first}
use Rattle.std.specs.Prelude.{IsUtf8, IsCharBoundary}
use Rattle.std.specs.Str.Pattern.{FindsText, LacksTextAt}
use Rattle.std.proofs.lemmas.Str.Pattern.{split_text_parts}
use Rattle.std.proofs.lemmas.Bool.Decides.{nat_tests}
use Rattle.std.proofs.lemmas.List.Sums.{prefix_len-le-length, prefix_len_passes}
use Rattle.std.proofs.lemmas.List.Splits.{slice_split_first}
use Rattle.std.proofs.lemmas.Str.{IsCharBoundary-after_ascii, IsCharBoundary-start}
use Rattle.nc_names.specs.Ends.{past}
use Rattle.nc_names.specs.Signs.{is_white, bar, dot}
use Rattle.nc_yang_types.specs.Ranges.{around_dots}
use Rattle.nc_yang_types.specs.inner.Cuts.{SplitsAtDots}

pub white_low : (c : ℕ) → is_white c ≡ true → c < 128
white_low c h = grind (arith, nat_tests)

past_step : (b : Bool) (c : ℕ) (cs rest : List ℕ) (n : ℕ) → drop n cs ≡ rest → drop (cond b (1 + n) 0) (c ∷ cs) ≡ cond b rest (c ∷ cs)
past_step true c cs rest n e = let next : 1 + n ≡ suc n = omega arith in rw next e
past_step false c cs rest n e = refl

past_is : (p : ℕ → Bool) (xs : List ℕ) → drop (prefix_len p xs) xs ≡ past p xs
past_is p [] = refl
past_is p (c ∷ cs) = past_step (p c) c cs (past p cs) (prefix_len p cs) (past_is p cs)

-- a text is cut after signs of ASCII
after_low : (p : ℕ → Bool) (xs : List ℕ) (n : ℕ) → ((c : ℕ) → p c ≡ true → c < 128) → IsUtf8 xs → prefix_len p xs ≡ n → IsCharBoundary xs n
after_low p xs zero low utf e = IsCharBoundary-start xs utf
after_low p xs (suc k) low utf e =
    let next : k + 1 ≡ suc k = omega arith in
    subst (IsCharBoundary xs) next (IsCharBoundary-after_ascii xs k utf (omega (arith, e, prefix_len-le-length p xs)) (low (get_or xs k 0) (prefix_len_passes p xs k 0 (omega (arith, e)))))

-- the same of a text and its bytes
pub cut_after : (p : ℕ → Bool) (text bytes : List ℕ) (n : ℕ) → ((c : ℕ) → p c ≡ true → c < 128) → n ≡ prefix_len p bytes → bytes ≡ text → IsUtf8 bytes → IsCharBoundary text n
cut_after p text bytes n low count same utf = subst (λ (xs : List ℕ). IsCharBoundary xs n) same (after_low p bytes n low utf (sym count))

pub past_at : (p : ℕ → Bool) (text bytes rest : List ℕ) (n : ℕ) → rest ≡ drop n text → n ≡ prefix_len p bytes → bytes ≡ text → rest ≡ past p text
past_at p text bytes rest n cut count same =
    cut ∙ ap (λ k. drop k text) (count ∙ ap (prefix_len p) same) ∙ past_is p text

-- the parts between bars
abbrev is_bar : ℕ → Bool
is_bar c = eqb c bar

last_step : (b : Bool) (c : ℕ) (cs : List ℕ) → cond (not b) (1 + position_or_len is_bar cs) 0 ≡ 1 + length cs → (position_or_len is_bar cs ≡ length cs → slice_split is_bar cs ≡ cs ∷ []) → cond b ([] ∷ slice_split is_bar cs) (onto_first c (slice_split is_bar cs)) ≡ (c ∷ cs) ∷ []
last_step true c cs e further = absurd (omega (arith, e))
last_step false c cs e further = ap (onto_first c) (further (omega (arith, e)))

pub last_part : (text : List ℕ) → position_or_len (λ c. eqb c bar) text ≡ length text → slice_split (λ c. eqb c bar) text ≡ text ∷ []
last_part [] e = refl
last_part (c ∷ cs) e = last_step (is_bar c) c cs (e ∙ (omega arith)) (last_part cs)

pub parts_cut : (text : List ℕ) (before after : Bor (List ℕ)) → (before.now ≡ before_first (λ c. eqb c bar) text) × (after.now ≡ after_first (λ c. eqb c bar) text) × (position_or_len (λ c. eqb c bar) text < length text)
    → slice_split (λ c. eqb c bar) text ≡ before.now ∷ slice_split (λ c. eqb c bar) after.now
parts_cut text before after (first, rest, within) =
    slice_split_first is_bar text 0 within ∙ (λ i. sym first i ∷ slice_split is_bar (sym rest i))

-- the dots of a part
abbrev dots : List ℕ
dots = dot ∷ dot ∷ []

no_dots : (a b : ℕ) (rest : List ℕ) (x y : Bool) → eqb a dot ≡ x → eqb b dot ≡ y → (a ≡ dot → b ≡ dot → ⊥) → (x && y) ≡ false
no_dots a b rest true true e f lacks = absurd (lacks (grind (arith, nat_tests)) (grind (arith, nat_tests)))
no_dots a b rest true false e f lacks = refl
no_dots a b rest false y e f lacks = refl

lacks_dots : (a b : ℕ) (rest : List ℕ) → LacksTextAt dots (a ∷ b ∷ rest) 0 → (eqb a dot && eqb b dot) ≡ false
lacks_dots a b rest lacks = no_dots a b rest (eqb a dot) (eqb b dot) refl refl (λ e f. lacks rest (λ i. e i ∷ f i ∷ rest))

pub no_dots_around : (text : List ℕ) → ((i : ℕ) → i ≤ length text → LacksTextAt dots text i) → around_dots text ≡ None
no_dots_around [] lacks = refl
no_dots_around (a ∷ []) lacks = refl
no_dots_around (a ∷ b ∷ rest) lacks =
    rw (lacks_dots a b rest (lacks 0 (omega arith)), no_dots_around (b ∷ rest) (λ i le. lacks (suc i) (omega (arith, le)))) refl

dots_after : (a : ℕ) (text before after : List ℕ) → LacksTextAt dots (a ∷ text) 0 → around_dots text ≡ Some (before, after) → around_dots (a ∷ text) ≡ Some (a ∷ before, after)
dots_after a [] before after lacks e = cc
dots_after a (b ∷ rest) before after lacks e = rw (lacks_dots a b rest lacks, e) refl

pub dots_around : (before after : List ℕ) → ((i : ℕ) → i < length before → LacksTextAt dots (before ++ (dots ++ after)) i) → around_dots (before ++ (dots ++ after)) ≡ Some (before, after)
dots_around [] after lacks = refl
dots_around (a ∷ before) after lacks =
    dots_after a (before ++ (dots ++ after)) before after (lacks 0 (omega arith)) (dots_around before after (λ i lt. lacks (suc i) (omega (arith, lt))))

pub splits_at_dots : (text : List ℕ) (found : Option (Bor (List ℕ) × Bor (List ℕ))) → MatchOption found (FindsText dots text None) (λ x. (i : ℕ) × (j : ℕ) × FindsText dots text (Some (i, j)) × (x.0.now ≡ take i text) × (x.1.now ≡ drop j text) × (i ≤ j) × (length x.0.now ≡ i) × (length x.1.now + j ≡ length text)) → SplitsAtDots text found
splits_at_dots text None h = no_dots_around text h
splits_at_dots text (Some (before, after)) h =
    let whole : text ≡ before.now ++ (dots ++ after.now) = split_text_parts dots text (Some (before, after)) h in
    ap around_dots whole ∙ dots_around before.now after.now (λ k lt. subst (λ (t : List ℕ). LacksTextAt dots t k) whole (h.2.0 k (omega (arith, lt, h.6))))
