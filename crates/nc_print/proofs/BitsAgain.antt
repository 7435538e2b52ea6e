-- Names of bits with single spaces between them, read once more.
use Rattle.std.proofs.Common.{◌≡◌, ◌&&◌, ◌==◌, ◌<◌, not, cond, ℕ, zero, suc, Bool, true, false, List, [], ◌∷◌, ◌++◌, length, Some, None, refl, sym, ap, subst, ◌∙◌, arith}
use Rattle.std.specs.Cmp.Lexicographic.{bytes_decides}
use Rattle.std.specs.List.{All, Contains, filter, join_with_byte, list_all, list_any, onto_first, slice_split}
use Rattle.std.specs.Prelude.{nat_lt}
use Rattle.std.proofs.lemmas.Bool.{lt-ltb, ltb-true}
use Rattle.std.proofs.lemmas.Bool.Decides.{Decides-eqb}
use Rattle.std.proofs.lemmas.List.Folds.{list_any_at}
use Rattle.std.proofs.lemmas.List.Splits.{slice_split_at, slice_split_none}
use Rattle.nc_names.specs.Ends.{past, trimmed, without_last}
use Rattle.nc_names.specs.Same.{is_same_text}
use Rattle.nc_names.specs.Signs.{blank, is_white}
use Rattle.nc_schema.specs.Values.{bits_text, words_of}
use Rattle.nc_protocol.proofs.AboveLemmas.{some_passes}
use Rattle.nc_protocol.proofs.BoolLemmas.{is_false}
use Rattle.nc_protocol.proofs.ListLemmas.{contains_behind}
use Rattle.nc_protocol.proofs.Parts.{contains_kept, kept_contains, kept_true}
use Rattle.nc_print.proofs.SimpleAgain.{passed}
use Rattle.nc_print.proofs.TrimAgain.{HasNoWhite, IsTrimmed, begins_past, kept_whole, left_true, not_true, right_true}

-- some text without white space
abbrev IsWord : List ℕ → Type 0
IsWord word = (0 < length word) × HasNoWhite word

pub any_has : {X : Type 0} (p : X → Bool) (xs : List X) (x : X) → Contains xs x → p x ≡ true → list_any p xs ≡ true
any_has p xs x (k, within, here) e = list_any_at p xs k x within (ap p here ∙ e)

-- a filter depends on the test of its elements alone
filter_same : {X : Type 0} (p q : X → Bool) (xs : List X) → ((x : X) → Contains xs x → p x ≡ q x) → filter p xs ≡ filter q xs
filter_same p q [] same = refl
filter_same p q (x ∷ xs) same =
    (λ i. cond (same x (0, omega arith, refl) i) (x ∷ filter_same p q xs (λ y has. same y (contains_behind x xs y has)) i) (filter_same p q xs (λ y has. same y (contains_behind x xs y has)) i))

-- ---- the parts between white space have none
onto_black : (c : ℕ) (parts : List (List ℕ)) → not (is_white c) ≡ true → ((part : List ℕ) → Contains parts part → HasNoWhite part) → (part : List ℕ) → Contains (onto_first c parts) part → HasNoWhite part
onto_black c [] black each part (zero, within, here) = subst HasNoWhite here (λ i. black i && true)
onto_black c [] black each part (suc k, within, here) = absurd (omega (arith, within))
onto_black c (first ∷ parts) black each part (zero, within, here) = subst HasNoWhite here (λ i. black i && each first (0, omega arith, refl) i)
onto_black c (first ∷ parts) black each part (suc k, within, here) = each part (suc k, omega (arith, within), here)

parts_black : (text part : List ℕ) → Contains (slice_split is_white text) part → HasNoWhite part
parts_black [] part (zero, within, here) = subst HasNoWhite here refl
parts_black [] part (suc k, within, here) = absurd (omega (arith, within))
parts_black (c ∷ cs) part has = by (is_white c) refl (parts_black cs) has
  where
    by : (b : Bool) → is_white c ≡ b → ((part : List ℕ) → Contains (slice_split is_white cs) part → HasNoWhite part) →
        Contains (cond b ([] ∷ slice_split is_white cs) (onto_first c (slice_split is_white cs))) part → HasNoWhite part
    by false is each there = onto_black c (slice_split is_white cs) (ap not is) each part there
    by true is each (zero, within, here) = subst HasNoWhite here refl
    by true is each (suc k, within, here) = each part (k, omega (arith, within), here)

word_is : (text word : List ℕ) → Contains (words_of text) word → IsWord word
word_is text word has = (
  ltb-true 0 (length word) (kept_true (λ one. nat_lt 0 (length one)) word (slice_split is_white text) has),
  parts_black text word (kept_contains (λ one. nat_lt 0 (length one)) word (slice_split is_white text) has),
)

-- ---- words with single spaces between them are cut into themselves
all_black : (word : List ℕ) → HasNoWhite word → All (λ c. is_white c ≡ false) word
all_black [] black = λ k d within. absurd (omega (arith, within))
all_black (c ∷ cs) black = by
  where
    rest : HasNoWhite cs
    rest = right_true (not (is_white c)) (list_all (λ d. not (is_white d)) cs) black

    by : All (λ c. is_white c ≡ false) (c ∷ cs)
    by zero d within = not_true (is_white c) (left_true (not (is_white c)) (list_all (λ d. not (is_white d)) cs) black)
    by (suc k) d within = all_rest cs rest k d (omega (arith, within))
      where
        all_rest : (xs : List ℕ) → HasNoWhite xs → All (λ c. is_white c ≡ false) xs
        all_rest [] none k d within = absurd (omega (arith, within))
        all_rest (x ∷ xs) none zero d within = not_true (is_white x) (left_true (not (is_white x)) (list_all (λ d. not (is_white d)) xs) none)
        all_rest (x ∷ xs) none (suc k) d within = all_rest xs (right_true (not (is_white x)) (list_all (λ d. not (is_white d)) xs) none) k d (omega (arith, within))

joined_words : (names : List (List ℕ)) → ((name : List ℕ) → Contains names name → IsWord name) → words_of (join_with_byte blank names) ≡ names
joined_words [] each = refl
joined_words (name ∷ []) each =
    let is = each name (0, omega arith, refl) in
    ap (filter (λ one. nat_lt 0 (length one))) (slice_split_none is_white name (all_black name is.1))
    ∙ ap (λ b. cond b (name ∷ []) []) (lt-ltb 0 (length name) is.0)
joined_words (name ∷ next ∷ names) each =
    let is = each name (0, omega arith, refl) in
    ap (filter (λ one. nat_lt 0 (length one))) (slice_split_at is_white name blank (join_with_byte blank (next ∷ names)) (all_black name is.1) refl)
    ∙ ap (λ b. cond b (name ∷ words_of (join_with_byte blank (next ∷ names))) (words_of (join_with_byte blank (next ∷ names)))) (lt-ltb 0 (length name) is.0)
    ∙ ap (λ more. name ∷ more) (joined_words (next ∷ names) (λ one has. each one (contains_behind name (next ∷ names) one has)))

-- ---- nothing is dropped at their ends
-- a text that keeps its end, and is not white space alone, keeps it behind others
pub record KeepsEnd (text : List ℕ) : Type 0 where
  pub kept : without_last is_white text ≡ text
  pub black : list_all is_white text ≡ false

and_false : (b : Bool) → (b && false) ≡ false
and_false true = refl
and_false false = refl

pub keeps_behind : (front text : List ℕ) → KeepsEnd text → KeepsEnd (front ++ text)
keeps_behind [] text keeps = keeps
keeps_behind (c ∷ front) text keeps =
    let rest = keeps_behind front text keeps in
    let none : (is_white c && list_all is_white (front ++ text)) ≡ false = ap (λ b. is_white c && b) rest.black ∙ and_false (is_white c) in
    record { kept = ap (λ b. cond b [] (c ∷ without_last is_white (front ++ text))) none ∙ ap (λ more. c ∷ more) rest.kept; black = none }

pub word_keeps : (word : List ℕ) → IsWord word → KeepsEnd word
word_keeps [] is = absurd (omega (arith, is.0))
word_keeps (c ∷ cs) is = record {
  kept = kept_whole (c ∷ cs) is.1;
  black = ap (λ b. b && list_all is_white cs) (not_true (is_white c) (left_true (not (is_white c)) (list_all (λ d. not (is_white d)) cs) is.1));
}

joined_keeps : (name : List ℕ) (names : List (List ℕ)) → ((one : List ℕ) → Contains (name ∷ names) one → IsWord one) → KeepsEnd (join_with_byte blank (name ∷ names))
joined_keeps name [] each = word_keeps name (each name (0, omega arith, refl))
joined_keeps name (next ∷ names) each =
    keeps_behind name (blank ∷ join_with_byte blank (next ∷ names)) (keeps_behind (blank ∷ []) (join_with_byte blank (next ∷ names))
    (joined_keeps next names (λ one has. each one (contains_behind name (next ∷ names) one has))))

first_black : (word rest : List ℕ) → IsWord word → past is_white (word ++ rest) ≡ word ++ rest
first_black [] rest is = absurd (omega (arith, is.0))
first_black (c ∷ cs) rest is = begins_past is_white (c ∷ (cs ++ rest)) (not_true (is_white c) (left_true (not (is_white c)) (list_all (λ d. not (is_white d)) cs) is.1))

pub keeps_trimmed : (text : List ℕ) → past is_white text ≡ text → KeepsEnd text → IsTrimmed text
keeps_trimmed text begins keeps = ap (without_last is_white) begins ∙ keeps.kept

joined_trimmed : (names : List (List ℕ)) → ((name : List ℕ) → Contains names name → IsWord name) → IsTrimmed (join_with_byte blank names)
joined_trimmed [] each = refl
joined_trimmed (name ∷ []) each =
    let is = each name (0, omega arith, refl) in
    keeps_trimmed name (by name is) (word_keeps name is)
  where
    by : (word : List ℕ) → IsWord word → past is_white word ≡ word
    by [] is = refl
    by (c ∷ cs) is = begins_past is_white (c ∷ cs) (not_true (is_white c) (left_true (not (is_white c)) (list_all (λ d. not (is_white d)) cs) is.1))
joined_trimmed (name ∷ next ∷ names) each =
    keeps_trimmed (join_with_byte blank (name ∷ next ∷ names)) (first_black name (blank ∷ join_with_byte blank (next ∷ names)) (each name (0, omega arith, refl)))
    (joined_keeps name (next ∷ names) each)

-- ---- the bits of a text, read once more
abbrev named : List (List ℕ) → List ℕ → Bool
named words name = list_any (λ word. is_same_text word name) words

pub bits_again : (names : List (List ℕ)) (given text : List ℕ) → bits_text names given ≡ Some text → bits_text names (trimmed text) ≡ Some text
unfolding bits_text
bits_again names given text e =
    ap (bits_text names) (ap trimmed (sym text_is) ∙ joined_trimmed set each ∙ text_is)
    ∙ (λ i. bits_text names (sym text_is i))
    ∙ (λ i. cond (length (filter (named (joined_words set each i)) names) == length (joined_words set each i)) (Some (join_with_byte blank (filter (named (joined_words set each i)) names))) None)
    ∙ (λ i. cond (length (again i) == length set) (Some (join_with_byte blank (again i))) None)
    ∙ ap (λ b. cond b (Some (join_with_byte blank set)) None) ((Decides-eqb (length set) (length set)).1 refl)
    ∙ ap Some text_is
  where
    set : List (List ℕ)
    set = filter (named (words_of given)) names

    text_is : join_with_byte blank set ≡ text
    text_is = (passed (length set == length (words_of given)) (join_with_byte blank set) text e).1

    each : (name : List ℕ) → Contains set name → IsWord name
    each name has =
        let word = some_passes (λ word. is_same_text word name) (words_of given) (kept_true (named (words_of given)) name names has) in
        subst IsWord ((bytes_decides word.0 name).0 word.2) (word_is given word.0 word.1)

    again : filter (named set) names ≡ set
    again = filter_same (named set) (named (words_of given)) names agree
      where
        agree : (name : List ℕ) → Contains names name → named set name ≡ named (words_of given) name
        agree name has = by (named (words_of given) name) refl
          where
            by : (b : Bool) → named (words_of given) name ≡ b → named set name ≡ b
            by true is = any_has (λ word. is_same_text word name) set name (contains_kept (named (words_of given)) name names has is) ((bytes_decides name name).1 refl)
            by false is = is_false (named set name) (λ there.
                (let found = some_passes (λ word. is_same_text word name) set there in
                let passes : named (words_of given) name ≡ true = ap (named (words_of given)) (sym ((bytes_decides found.0 name).0 found.2)) ∙ kept_true (named (words_of given)) found.0 names found.1 in
                let clash : true ≡ false = sym passes ∙ is in
                cc))
