-- Texts without what stands at their ends.
use Rattle.std.proofs.Common.{◌≡◌, ◌<◌, ◌≤◌, ◌+◌, ◌-◌, ◌&&◌, ℕ, zero, suc, Bool, true, false, cond, List, [], ◌∷◌, ◌++◌, length, take, drop, get_or, refl, sym, ap, subst, ◌∙◌, arith}
use Rattle.std.specs.List.{list_all, prefix_len}
use Rattle.std.specs.Prelude.{IsUtf8, IsCharBoundary}
use Rattle.std.proofs.Math.Seq.{take-suc}
use Rattle.std.proofs.lemmas.Bool.Decides.{nat_tests}
use Rattle.std.proofs.lemmas.List.Sums.{prefix_len-le-length, prefix_len_passes}
use Rattle.std.proofs.lemmas.Str.{IsCharBoundary-after_ascii, IsCharBoundary-before_ascii, IsCharBoundary-start}
use Rattle.nc_names.specs.Ends.{last_passes, past, without_last}
use Rattle.nc_names.specs.Signs.{is_white}

-- white space is ASCII
pub white_low : (c : ℕ) → is_white c ≡ true → c < 128
white_low c h = grind (arith, nat_tests)

-- ---- at the front
past_step : (b : Bool) (c : ℕ) (cs rest : List ℕ) (n : ℕ) → drop n cs ≡ rest →
    drop (cond b (1 + n) 0) (c ∷ cs) ≡ cond b rest (c ∷ cs)
past_step true c cs rest n e = let next : 1 + n ≡ suc n = omega arith in rw next e
past_step false c cs rest n e = refl

pub past_is : (p : ℕ → Bool) (xs : List ℕ) → drop (prefix_len p xs) xs ≡ past p xs
past_is p [] = refl
past_is p (c ∷ cs) = past_step (p c) c cs (past p cs) (prefix_len p cs) (past_is p cs)

-- a text is cut after signs of ASCII
after_low : (p : ℕ → Bool) (xs : List ℕ) (n : ℕ) → ((c : ℕ) → p c ≡ true → c < 128) → IsUtf8 xs → prefix_len p xs ≡ n →
    IsCharBoundary xs n
after_low p xs zero low utf e = IsCharBoundary-start xs utf
after_low p xs (suc k) low utf e =
    let next : k + 1 ≡ suc k = omega arith in
    subst (IsCharBoundary xs) next
    (IsCharBoundary-after_ascii xs k utf (omega (arith, e, prefix_len-le-length p xs))
    (low (get_or xs k 0) (prefix_len_passes p xs k 0 (omega (arith, e)))))

-- the same of a text and its bytes
pub cut_after : (p : ℕ → Bool) (text bytes : List ℕ) (n : ℕ) → ((c : ℕ) → p c ≡ true → c < 128) →
    n ≡ prefix_len p bytes → bytes ≡ text → IsUtf8 bytes → IsCharBoundary text n
cut_after p text bytes n low count same utf =
    subst (λ (xs : List ℕ). IsCharBoundary xs n) same (after_low p bytes n low utf (sym count))

pub past_at : (p : ℕ → Bool) (text bytes rest : List ℕ) (n : ℕ) → rest ≡ drop n text → n ≡ prefix_len p bytes →
    bytes ≡ text → rest ≡ past p text
past_at p text bytes rest n cut count same =
    cut ∙ ap (λ k. drop k text) (count ∙ ap (prefix_len p) same) ∙ past_is p text

-- ---- at the end
and_false : (b : Bool) → (b && false) ≡ false
and_false true = refl
and_false false = refl

all_last : (p : ℕ → Bool) (xs : List ℕ) (c : ℕ) → p c ≡ true → list_all p (xs ++ c ∷ []) ≡ list_all p xs
all_last p [] c e = rw e refl
all_last p (x ∷ xs) c e = ap (λ b. p x && b) (all_last p xs c e)

all_not : (p : ℕ → Bool) (xs : List ℕ) (c : ℕ) → p c ≡ false → list_all p (xs ++ c ∷ []) ≡ false
all_not p [] c e = rw e refl
all_not p (x ∷ xs) c e = ap (λ b. p x && b) (all_not p xs c e) ∙ and_false (p x)

pub drops_last : (p : ℕ → Bool) (xs : List ℕ) (c : ℕ) → p c ≡ true →
    without_last p (xs ++ c ∷ []) ≡ without_last p xs
drops_last p [] c e = rw e refl
drops_last p (x ∷ xs) c e = rw (all_last p xs c e, drops_last p xs c e) refl

pub keeps_last : (p : ℕ → Bool) (xs : List ℕ) (c : ℕ) → p c ≡ false → without_last p (xs ++ c ∷ []) ≡ xs ++ c ∷ []
keeps_last p [] c e = rw e refl
keeps_last p (x ∷ xs) c e = rw (all_not p xs c e, and_false (p x), keeps_last p xs c e) refl

-- one less
pub shorter : (p : ℕ → Bool) (text : List ℕ) (end : ℕ) → end ≤ length text → last_passes p text end ≡ true →
    without_last p (take end text) ≡ without_last p (take (end - 1) text)
shorter p text zero within e = cc
shorter p text (suc k) within e =
    let less : suc k - 1 ≡ k = omega arith in
    ap (without_last p) (take-suc text k 0 (omega (arith, within)))
    ∙ drops_last p (take k text) (get_or text k 0) e
    ∙ ap (λ j. without_last p (take j text)) (sym less)

-- nothing more to drop
pub kept : (p : ℕ → Bool) (text : List ℕ) (end : ℕ) → end ≤ length text → last_passes p text end ≡ false →
    without_last p (take end text) ≡ take end text
kept p text zero within e = refl
kept p text (suc k) within e =
    let whole : take (suc k) text ≡ take k text ++ (get_or text k 0 ∷ []) = take-suc text k 0 (omega (arith, within)) in
    ap (without_last p) whole ∙ keeps_last p (take k text) (get_or text k 0) e ∙ sym whole

-- a text is cut before ASCII
pub cut_before : (p : ℕ → Bool) (text : List ℕ) (end : ℕ) → ((c : ℕ) → p c ≡ true → c < 128) → end ≤ length text →
    last_passes p text end ≡ true → IsCharBoundary text (end - 1)
cut_before p text zero low within e = cc
cut_before p text (suc k) low within e =
    let less : k ≡ suc k - 1 = omega arith in
    subst (IsCharBoundary text) less
    (IsCharBoundary-before_ascii text k (omega (arith, within)) (low (get_or text k 0) e))
