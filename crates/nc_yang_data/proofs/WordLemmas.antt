-- Where a text is cut at white space.
use Rattle.std.proofs.Common.{◌≡◌, ◌<◌, ◌≤◌, ◌+◌, ℕ, Bool, true, eqb, List, [], ◌∷◌, length, take, drop, get_or, sym, ap, subst, ◌∙◌, arith, Bor, Option, Some, None}
use Rattle.std.specs.List.{after_first, before_first, position_or_len, slice_split}
use Rattle.std.specs.Option.{MatchOption}
use Rattle.std.specs.Prelude.{IsUtf8, IsCharBoundary}
use Rattle.std.proofs.lemmas.Bool.Decides.{nat_tests}
use Rattle.std.proofs.lemmas.List.Splits.{slice_split_first, slice_split_none}
use Rattle.std.proofs.lemmas.List.Sums.{fails_before_first, passes_at_first}
use Rattle.std.proofs.lemmas.Str.{IsCharBoundary-after_ascii}
use Rattle.nc_names.specs.Signs.{is_white, slash}

white_low : (c : ℕ) → is_white c ≡ true → c < 128
white_low c h = grind (arith, nat_tests)

-- a byte of white space is one
low_at : (text : List ℕ) (n : ℕ) → n ≡ position_or_len is_white text → n < length text → get_or text n 0 < 128
low_at text n e less =
    white_low (get_or text n 0)
    (subst (λ k. is_white (get_or text k 0) ≡ true) (sym e)
    (passes_at_first is_white text 0 (subst (λ k. k < length text) e less)))

pub cut_before : (text bytes : List ℕ) (n : ℕ) → n ≡ position_or_len is_white bytes → bytes ≡ text → IsUtf8 bytes → n < length text →
    IsCharBoundary text n
cut_before text bytes n e same utf less =
    let low = low_at text n (e ∙ ap (position_or_len is_white) same) less in
    (omega (arith, less), λ within high. absurd (omega (arith, low, high)))

pub cut_after : (text bytes : List ℕ) (n : ℕ) → n ≡ position_or_len is_white bytes → bytes ≡ text → IsUtf8 bytes → n < length text →
    IsCharBoundary text (n + 1)
cut_after text bytes n e same utf less =
    IsCharBoundary-after_ascii text n (subst IsUtf8 same utf) less (low_at text n (e ∙ ap (position_or_len is_white) same) less)

pub part_first : (text bytes front rest : List ℕ) (n : ℕ) → n ≡ position_or_len is_white bytes → bytes ≡ text → n < length text →
    front ≡ take n text → rest ≡ drop (n + 1) text → slice_split is_white text ≡ front ∷ slice_split is_white rest
part_first text bytes front rest n e same less f g =
    let at : n ≡ position_or_len is_white text = e ∙ ap (position_or_len is_white) same in
    rw (f, g, at) (slice_split_first is_white text 0 (subst (λ k. k < length text) at less))

pub part_only : (text bytes : List ℕ) (n : ℕ) → n ≡ position_or_len is_white bytes → bytes ≡ text → length text ≤ n →
    slice_split is_white text ≡ text ∷ []
part_only text bytes n e same end =
    let at : n ≡ position_or_len is_white text = e ∙ ap (position_or_len is_white) same in
    slice_split_none is_white text
    (λ k d within. fails_before_first is_white text k d (subst (λ m. k < m) at (omega (arith, within, end))))

-- ---- names between slashes
abbrev is_slash : ℕ → Bool
is_slash c = eqb c slash

-- by what `split_once` gives
pub name_by : (text : List ℕ) (r : Option (Bor (List ℕ) × Bor (List ℕ))) →
    MatchOption r (position_or_len is_slash text ≡ length text)
    (λ x. (x.0.now ≡ before_first is_slash text) × (x.1.now ≡ after_first is_slash text) × (position_or_len is_slash text < length text)) →
    MatchOption r (slice_split (λ c. eqb c slash) text ≡ text ∷ [])
    (λ x. slice_split (λ c. eqb c slash) text ≡ x.0.now ∷ slice_split (λ c. eqb c slash) x.1.now)
name_by text None end =
    slice_split_none is_slash text (λ k d within. fails_before_first is_slash text k d (subst (λ m. k < m) (sym end) within))
name_by text (Some x) found = rw (found.0, found.1) (slice_split_first is_slash text 0 found.2)
