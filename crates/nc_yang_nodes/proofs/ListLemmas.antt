-- Elements of lists by their places.
use Rattle.std.proofs.Common.{◌≡◌, ◌<◌, ◌≤◌, ◌+◌, ◌&&◌, ◌⊎◌, inl, inr, ℕ, zero, suc, Bool, true, List, [], ◌∷◌, ◌++◌, length, drop, set, refl, sym, ap, ◌∙◌, arith}
use Rattle.std.specs.Prelude.{Some, slice_get}
use Rattle.std.specs.List.{list_all}

pub drop_next : {A : Type 0} (xs : List A) (i : ℕ) (x : A) → slice_get xs i ≡ Some x → drop i xs ≡ x ∷ drop (i + 1) xs
drop_next [] i x is = absurd (cc)
drop_next (y ∷ xs) zero x is = let same : y ≡ x = cc in ap (λ z. z ∷ xs) same
drop_next (y ∷ xs) (suc i) x is =
    let e : suc (i + 1) ≡ suc i + 1 = omega arith in
    drop_next xs i x is ∙ ap (λ n. x ∷ drop n (y ∷ xs)) e

pub drop_past : {A : Type 0} (xs : List A) (i : ℕ) → length xs ≤ i → drop i xs ≡ []
drop_past [] zero h = refl
drop_past [] (suc i) h = refl
drop_past (x ∷ xs) zero h = absurd (omega arith)
drop_past (x ∷ xs) (suc i) h = drop_past xs i (omega arith)

pub got : {A : Type 0} (xs : List A) (i : ℕ) → i < length xs → (x : A) × (slice_get xs i ≡ Some x)
got [] i h = absurd (omega arith)
got (x ∷ xs) zero h = (x, refl)
got (x ∷ xs) (suc i) h = got xs i (omega arith)

-- the test of all from a place on
pub all_next : {A : Type 0} (p : A → Bool) (xs : List A) (i : ℕ) (b : Bool) → i < length xs → ((x : A) → slice_get xs i ≡ Some x → b ≡ p x)
    → list_all p (drop i xs) ≡ (b && list_all p (drop (i + 1) xs))
all_next p xs i b lt h =
    let x = got xs i lt in
    ap (list_all p) (drop_next xs i x.0 x.1) ∙ ap (λ c. c && list_all p (drop (i + 1) xs)) (sym (h x.0 x.1))

pub all_past : {A : Type 0} (p : A → Bool) (xs : List A) (i : ℕ) → length xs ≤ i → list_all p (drop i xs) ≡ true
all_past p xs i h = ap (list_all p) (drop_past xs i h)

-- a mark that is set
pub set_mark : (marks : List Bool) (n k : ℕ) → slice_get (set marks n true) k ≡ Some true → (k ≡ n) ⊎ (slice_get marks k ≡ Some true)
set_mark [] n k e = inr e
set_mark (m ∷ marks) zero zero e = inl refl
set_mark (m ∷ marks) zero (suc k) e = inr e
set_mark (m ∷ marks) (suc n) zero e = inr e
set_mark (m ∷ marks) (suc n) (suc k) e = elim (set_mark marks n k e) [ inl same ↦ inl (ap suc same) | inr h ↦ inr h ]

-- an element of a list with one more
pub get_push : {A : Type 0} (xs : List A) (y x : A) (k : ℕ) → slice_get (xs ++ y ∷ []) k ≡ Some x
    → (slice_get xs k ≡ Some x) ⊎ ((k ≡ length xs) × (y ≡ x))
get_push [] y x zero e = let same : y ≡ x = cc in inr (refl, same)
get_push [] y x (suc k) e = absurd (cc)
get_push (z ∷ xs) y x zero e = inl e
get_push (z ∷ xs) y x (suc k) e = elim (get_push xs y x k e) [ inl h ↦ inl h | inr h ↦ inr (ap suc h.0, h.1) ]
