-- Sets of numbers as bits.
use Rattle.std.proofs.Common.{◌≡◌, ◌==◌, ◌&&◌, ◌||◌, ◌+◌, ◌*◌, ◌/◌, ◌%◌, ◌^◌, ◌<◌, ◌≤◌, ◌⊎◌, inl, inr, ℕ, zero, suc, Bool, true, false, List, [], ◌∷◌, ◌++◌, length, get_or, set, length-set, get_or-set_same, get_or-set_other, refl, sym, ap, ◌∙◌, arith, ne_eqb, w64, bit_or}
use Rattle.std.specs.Prelude.{bit_and, min, max}
use Rattle.std.specs.Int.{bit_at}
use Rattle.std.proofs.lemmas.Bool.{cases_eq, cases_lt}
use Rattle.std.proofs.lemmas.Bool.Decides.{Decides-eqb}
use Rattle.std.proofs.lemmas.List.{get_or_past}
use Rattle.std.proofs.lemmas.Nat.Bits.{bit_at-lt, bit_at-zero, bit_at_and, bit_at_or, bit_at_set_other, bit_at_set_same}
use Rattle.std.specs.List.{list_any}
use Rattle.std.proofs.lemmas.List.Folds.{list_any-append}
use Rattle.nc_filter.specs.declared.members.Members.{Members}
use Rattle.nc_filter.specs.inner.Sets.{bit_of, has}
use Rattle.nc_filter.proofs.Unions.{or_assoc, or_false, or_true}

pub no_bit : (words : List ℕ) (n : ℕ) → get_or words (n / 64) 0 ≡ 0 → bit_of words n ≡ false
no_bit words n none = ap (λ (w : ℕ). bit_at w (n % 64) == 1) none ∙ ap (λ (x : ℕ). x == 1) (bit_at-zero (n % 64))

pub nothing_at : (i : ℕ) → get_or {A = ℕ} [] i 0 ≡ 0
nothing_at i = get_or_past {X = ℕ} [] i 0 (omega arith)

pub empty_bits : (n : ℕ) → bit_of [] n ≡ false
empty_bits n = no_bit [] n (nothing_at (n / 64))

-- ---- a number more
pub bit_put : (words : List ℕ) (word number n : ℕ) → number / 64 < length words → word ≡ get_or words (number / 64) 0 →
    bit_of (set words (number / 64) (bit_or word (1 * 2 ^ (number % 64) % 2 ^ 64))) n ≡ (bit_of words n || (number == n))
bit_put words word number n within is = by (cases_eq n number)
  where
    v : ℕ
    v = bit_or word (1 * 2 ^ (number % 64) % 2 ^ 64)

    now : List ℕ
    now = set words (number / 64) v

    low : number % 64 < 64
    low = omega arith

    here : bit_of now number ≡ true
    here =
        ap (λ (w : ℕ). bit_at w (number % 64) == 1) (get_or-set_same words (number / 64) v 0 within)
        ∙ ap (λ (x : ℕ). x == 1) (bit_at_set_same w64 word (number % 64) low)

    kept : (n ≡ number → ⊥) → bit_of now n ≡ bit_of words n
    kept other = at (cases_eq (n / 64) (number / 64))
      where
        at : (n / 64 ≡ number / 64) ⊎ (n / 64 ≡ number / 64 → ⊥) → bit_of now n ≡ bit_of words n
        at (inl row) =
            ap (λ (k : ℕ). bit_at (get_or now k 0) (n % 64) == 1) row
            ∙ ap (λ (w : ℕ). bit_at w (n % 64) == 1) (get_or-set_same words (number / 64) v 0 within)
            ∙ ap (λ (x : ℕ). x == 1) (bit_at_set_other w64 word (number % 64) low (n % 64) (omega arith))
            ∙ ap (λ (w : ℕ). bit_at w (n % 64) == 1) (is ∙ ap (λ (k : ℕ). get_or words k 0) (sym row))
        at (inr apart) = ap (λ (w : ℕ). bit_at w (n % 64) == 1) (get_or-set_other words (number / 64) (n / 64) v 0 apart)

    by : (n ≡ number) ⊎ (n ≡ number → ⊥) → bit_of now n ≡ (bit_of words n || (number == n))
    by (inl same) = ap (bit_of now) same ∙ here ∙ sym (ap (λ b. bit_of words n || b) ((Decides-eqb number n).1 (sym same)) ∙ or_true (bit_of words n))
    by (inr other) = kept other ∙ sym (ap (λ b. bit_of words n || b) (ne_eqb number n (λ e. other (sym e))) ∙ or_false (bit_of words n))

-- ---- more words
word_pushed : (words : List ℕ) (i : ℕ) → get_or (words ++ 0 ∷ []) i 0 ≡ get_or words i 0
word_pushed [] zero = refl
word_pushed [] (suc i) = nothing_at i ∙ sym (nothing_at (suc i))
word_pushed (w ∷ words) zero = refl
word_pushed (w ∷ words) (suc i) = word_pushed words i

pub bit_pushed : (words now : List ℕ) (n : ℕ) → now ≡ words ++ 0 ∷ [] → bit_of now n ≡ bit_of words n
bit_pushed words now n put = ap (λ (ws : List ℕ). bit_of ws n) put ∙ ap (λ (w : ℕ). bit_at w (n % 64) == 1) (word_pushed words (n / 64))

-- ---- two sets, word by word: those up to a place are done
abbrev pub Upto : (ℕ → ℕ → ℕ) → List ℕ → List ℕ → List ℕ → ℕ → Type 0
Upto f words others now place =
    (length now ≡ length words)
    × ((j : ℕ) → j < place → get_or now j 0 ≡ f (get_or words j 0) (get_or others j 0))
    × ((j : ℕ) → place ≤ j → get_or now j 0 ≡ get_or words j 0)

pub upto_start : (f : ℕ → ℕ → ℕ) (words others : List ℕ) → Upto f words others words 0
upto_start f words others = (refl, λ j below. absurd (omega (arith, below)), λ j above. refl)

pub upto_next : (f : ℕ → ℕ → ℕ) (words others before now : List ℕ) (word place : ℕ) → place < length words → now ≡ set before place word →
    word ≡ f (get_or before place 0) (get_or others place 0) → Upto f words others before place → Upto f words others now (place + 1)
upto_next f words others before now word place within put is so_far = (
  ap length put ∙ length-set before place word ∙ so_far.0,
  λ j below. ap (λ (ws : List ℕ). get_or ws j 0) put ∙ by j below (cases_eq j place),
  λ j above. ap (λ (ws : List ℕ). get_or ws j 0) put ∙ get_or-set_other before place j word 0 (λ e. omega (arith, e, above)) ∙ so_far.2 j (omega (arith, above)),
)
  where
    inside : place < length before
    inside = omega (arith, within, so_far.0)

    by : (j : ℕ) → j < place + 1 → (j ≡ place) ⊎ (j ≡ place → ⊥) → get_or (set before place word) j 0 ≡ f (get_or words j 0) (get_or others j 0)
    by j below (inl same) =
        ap (λ (k : ℕ). get_or (set before place word) k 0) same
        ∙ get_or-set_same before place word 0 inside
        ∙ is
        ∙ ap (λ (w : ℕ). f w (get_or others place 0)) (so_far.2 place (omega arith))
        ∙ ap (λ (k : ℕ). f (get_or words k 0) (get_or others k 0)) (sym same)
    by j below (inr other) = get_or-set_other before place j word 0 other ∙ so_far.1 j (omega (arith, below, other))

min_one : (a b : ℕ) → a < 2 → b < 2 → (min a b == 1) ≡ ((a == 1) && (b == 1))
min_one zero zero p q = refl
min_one zero (suc zero) p q = refl
min_one zero (suc (suc b)) p q = absurd (omega (arith, q))
min_one (suc zero) zero p q = refl
min_one (suc zero) (suc zero) p q = refl
min_one (suc zero) (suc (suc b)) p q = absurd (omega (arith, q))
min_one (suc (suc a)) b p q = absurd (omega (arith, p))

max_one : (a b : ℕ) → a < 2 → b < 2 → (max a b == 1) ≡ ((a == 1) || (b == 1))
max_one zero zero p q = refl
max_one zero (suc zero) p q = refl
max_one zero (suc (suc b)) p q = absurd (omega (arith, q))
max_one (suc zero) zero p q = refl
max_one (suc zero) (suc zero) p q = refl
max_one (suc zero) (suc (suc b)) p q = absurd (omega (arith, q))
max_one (suc (suc a)) b p q = absurd (omega (arith, p))

pub bits_met : (words others now : List ℕ) (end n : ℕ) → length words ≤ end → Upto bit_and words others now end → bit_of now n ≡ (bit_of words n && bit_of others n)
bits_met words others now end n past upto = by (cases_lt (n / 64) end)
  where
    by : (n / 64 < end) ⊎ (end ≤ n / 64) → bit_of now n ≡ (bit_of words n && bit_of others n)
    by (inl within) =
        ap (λ (w : ℕ). bit_at w (n % 64) == 1) (upto.1 (n / 64) within)
        ∙ ap (λ (x : ℕ). x == 1) (bit_at_and (get_or words (n / 64) 0) (get_or others (n / 64) 0) (n % 64))
        ∙ min_one (bit_at (get_or words (n / 64) 0) (n % 64)) (bit_at (get_or others (n / 64) 0) (n % 64)) (bit_at-lt (get_or words (n / 64) 0) (n % 64)) (bit_at-lt (get_or others (n / 64) 0) (n % 64))
    by (inr above) =
        let none : get_or words (n / 64) 0 ≡ 0 = get_or_past words (n / 64) 0 (omega (arith, past, above)) in
        no_bit now n (upto.2 (n / 64) above ∙ none) ∙ sym (ap (λ b. b && bit_of others n) (no_bit words n none))

pub bits_joined : (words others now : List ℕ) (end n : ℕ) → length others ≤ end → Upto bit_or words others now end → bit_of now n ≡ (bit_of words n || bit_of others n)
bits_joined words others now end n past upto = by (cases_lt (n / 64) end)
  where
    by : (n / 64 < end) ⊎ (end ≤ n / 64) → bit_of now n ≡ (bit_of words n || bit_of others n)
    by (inl within) =
        ap (λ (w : ℕ). bit_at w (n % 64) == 1) (upto.1 (n / 64) within)
        ∙ ap (λ (x : ℕ). x == 1) (bit_at_or (get_or words (n / 64) 0) (get_or others (n / 64) 0) (n % 64))
        ∙ max_one (bit_at (get_or words (n / 64) 0) (n % 64)) (bit_at (get_or others (n / 64) 0) (n % 64)) (bit_at-lt (get_or words (n / 64) 0) (n % 64)) (bit_at-lt (get_or others (n / 64) 0) (n % 64))
    by (inr above) =
        ap (λ (w : ℕ). bit_at w (n % 64) == 1) (upto.2 (n / 64) above)
        ∙ sym (ap (λ b. bit_of words n || b) (no_bit others n (get_or_past others (n / 64) 0 (omega (arith, past, above)))) ∙ or_false (bit_of words n))

-- ---- sets of a list and of bits
or_swap : (a b c : Bool) → ((a || b) || c) ≡ ((a || c) || b)
or_swap true b c = refl
or_swap false true true = refl
or_swap false true false = refl
or_swap false false c = sym (or_false c)

or_turn : (a b : Bool) → (a || b) ≡ (b || a)
or_turn true true = refl
or_turn true false = refl
or_turn false true = refl
or_turn false false = refl

pub few_more : (few now words : List ℕ) (number n : ℕ) → now ≡ few ++ number ∷ [] →
    (list_any (λ one. one == n) now || bit_of words n) ≡ ((list_any (λ one. one == n) few || bit_of words n) || (number == n))
few_more few now words number n put =
    ap (λ (list : List ℕ). list_any (λ one. one == n) list || bit_of words n) put
    ∙ ap (λ b. b || bit_of words n) (list_any-append (λ one. one == n) few (number ∷ []) ∙ ap (λ b. list_any (λ one. one == n) few || b) (or_false (number == n)))
    ∙ or_swap (list_any (λ one. one == n) few) (number == n) (bit_of words n)

pub bits_more : (members : Members) (all more some : List ℕ) (number n : ℕ) → some ≡ members.few → bit_of all n ≡ (bit_of members.words n || list_any (λ one. one == n) some) →
    bit_of more n ≡ (bit_of all n || (number == n)) → bit_of more n ≡ (has members n || (number == n))
bits_more members all more some number n is first second =
    second
    ∙ ap (λ b. b || (number == n))
    (first ∙ ap (λ (list : List ℕ). bit_of members.words n || list_any (λ one. one == n) list) is ∙ or_turn (bit_of members.words n) (list_any (λ one. one == n) members.few))

-- all numbers of a set as bits, where the list comes to the bits of others
pub bits_whole : (members : Members) (first mid now some others : List ℕ) (n : ℕ) → some ≡ members.few → others ≡ members.words →
    bit_of mid n ≡ (bit_of first n || list_any (λ one. one == n) some) → bit_of now n ≡ (bit_of mid n || bit_of others n) → bit_of now n ≡ (bit_of first n || has members n)
bits_whole members first mid now some others n some_is others_is one two =
    two
    ∙ (λ i. (one ∙ ap (λ (list : List ℕ). bit_of first n || list_any (λ one. one == n) list) some_is) i || bit_of (others_is i) n)
    ∙ or_assoc (bit_of first n) (list_any (λ one. one == n) members.few) (bit_of members.words n)

pub from_none : (members : Members) (first now : List ℕ) (n : ℕ) → first ≡ [] → bit_of now n ≡ (bit_of first n || has members n) → bit_of now n ≡ has members n
from_none members first now n none is = is ∙ ap (λ b. b || has members n) (ap (λ (words : List ℕ). bit_of words n) none ∙ empty_bits n)

pub few_none : (members : Members) (n : ℕ) → members.few ≡ [] → bit_of members.words n ≡ has members n
few_none members n none = ap (λ (few : List ℕ). list_any (λ one. one == n) few || bit_of members.words n) (sym none)
