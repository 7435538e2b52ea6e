-- Whether two trees have the same rows.
use Rattle.std.proofs.Common.{◌≡◌, ◌↔◌, ◌+◌, ◌++◌, ◌<◌, ◌≤◌, ◌∙◌, ℕ, Bool, true, false, List, [], ◌∷◌, Some, get_or, length, take, drop, refl, sym, ap, subst, ⊎_elim, arith}
use Rattle.std.specs.Prelude.{IsTrue, slice_get, unwrap_or}
use Rattle.std.proofs.Math.Seq.{take-append_seam, drop-append_seam}
use Rattle.std.proofs.lemmas.Bool.{cases_lt}
use Rattle.std.proofs.lemmas.List.{ext_get_or, length-append}
use Rattle.std.proofs.lemmas.Option.{unwrap_or-slice_get}
use Rattle.nc_names.specs.declared.path.Row.{Row}
use Rattle.nc_branches.specs.Branches.{Branches, no_branches}
use Rattle.nc_branches.specs.inner.Alike.{AreAlike}
use Rattle.nc_branches.specs.inner.Forks.{IsForkOf, rows_of_fork}
use Rattle.nc_branches.specs.inner.Shoots.{own_rows, rows_of}
use Rattle.nc_branches.specs.declared.tree.Fork.{Fork}

split : {X : Type 0} (a b c d : List X) → length a ≡ length c → a ++ b ≡ c ++ d → (a ≡ c) × (b ≡ d)
split a b c d len same =
    (sym (take-append_seam a b) ∙ (λ i. take (len i) (same i)) ∙ take-append_seam c d, sym (drop-append_seam a b) ∙ (λ i. drop (len i) (same i)) ∙ drop-append_seam c d)

pub lengths_differ : {X : Type 0} (xs ys : List X) → ¬ (length xs ≡ length ys) → IsTrue false ↔ (xs ≡ ys)
lengths_differ xs ys differ = (λ lie. absurd (cc lie), λ same. absurd (differ (ap length same)))

-- Place by place.

pub place_differs : {X : Type 0} (xs ys : List X) (k : ℕ) → ¬ (slice_get xs k ≡ slice_get ys k) → IsTrue false ↔ (xs ≡ ys)
place_differs xs ys k differ = (λ lie. absurd (cc lie), λ same. absurd (differ (ap (λ list. slice_get list k) same)))

pub one_more_same : {X : Type 0} (xs ys : List X) (k : ℕ) → ((i : ℕ) → i < k → slice_get xs i ≡ slice_get ys i) → slice_get xs k ≡ slice_get ys k → (i : ℕ) → i < k + 1 → slice_get xs i ≡ slice_get ys i
one_more_same {X} xs ys k each last i less =
    ⊎_elim (λ (before : i < k). each i before) (λ (past : k ≤ i). let is : k ≡ i = omega (arith, less, past) in subst (λ (n : ℕ). slice_get xs n ≡ slice_get ys n) is last) (cases_lt i k)

all_same_lists : {X : Type 0} (xs ys : List X) → length xs ≡ length ys → ((i : ℕ) → i < length xs → slice_get xs i ≡ slice_get ys i) → xs ≡ ys
all_same_lists [] [] len each = refl
all_same_lists [] (y ∷ ys) len each = absurd (omega (arith, len))
all_same_lists (x ∷ xs) ys len each =
    ext_get_or x (x ∷ xs) ys len (λ i within. sym (unwrap_or-slice_get (x ∷ xs) i x) ∙ ap (λ o. unwrap_or o x) (each i within) ∙ unwrap_or-slice_get ys i x)

pub all_same : {X : Type 0} (xs ys : List X) (k : ℕ) → length xs ≡ length ys → length xs ≤ k → ((i : ℕ) → i < k → slice_get xs i ≡ slice_get ys i) → IsTrue true ↔ (xs ≡ ys)
all_same xs ys k len past each = (λ _. all_same_lists xs ys len (λ i within. each i (omega (arith, within, past))), λ _. refl)

pub some_decides : {X : Type 0} (x y : X) (result : Bool) → (IsTrue result ↔ (x ≡ y)) → IsTrue result ↔ (Some x ≡ Some y)
some_decides x y result is = (λ e. ap Some (is.0 e), λ same. is.1 (ap (λ o. unwrap_or o x) same))

-- Node by node.

pub own_decides : (s t : Bool) (row other : Row) (result : Bool) → s ≡ t → s ≡ true → (IsTrue result ↔ (row ≡ other)) → IsTrue result ↔ (own_rows s row ≡ own_rows t other)
own_decides true true row other result same stands is = (λ e. ap (λ x. x ∷ []) (is.0 e), λ rows. is.1 (ap (λ list. get_or list 0 row) rows))
own_decides true false row other result same stands is = absurd (cc same)
own_decides false t row other result same stands is = absurd (cc stands)

pub none_first : (a b : Branches) → length a.rows ≡ length b.rows → a ≡ no_branches → IsTrue true ↔ (a.rows ≡ b.rows)
none_first a b len none =
    (λ _. let empty : a.rows ≡ [] = ap (λ t. t.rows) none in empty ∙ sym (nothing b.rows (sym len ∙ ap length empty)), λ _. refl)
  where
    nothing : (rows : List Row) → length rows ≡ 0 → rows ≡ []
    nothing [] is = refl
    nothing (row ∷ rows) is = absurd (omega (arith, is))

pub none_second : (a b : Branches) → length a.rows ≡ length b.rows → b ≡ no_branches → IsTrue true ↔ (a.rows ≡ b.rows)
none_second a b len none =
    (λ _. let empty : b.rows ≡ [] = ap (λ t. t.rows) none in nothing a.rows (len ∙ ap length empty) ∙ sym empty, λ _. refl)
  where
    nothing : (rows : List Row) → length rows ≡ 0 → rows ≡ []
    nothing [] is = refl
    nothing (row ∷ rows) is = absurd (omega (arith, is))

own_lengths : (s t : Bool) (row other : Row) → s ≡ t → length (own_rows s row) ≡ length (own_rows t other)
own_lengths true true row other is = refl
own_lengths true false row other is = absurd (cc is)
own_lengths false true row other is = absurd (cc is)
own_lengths false false row other is = refl

abbrev own_of : Fork → List Row
own_of fork = own_rows fork.twig.stands fork.twig.row

-- the parts of two nodes with the same rows are the same
pub record SameParts (one two : Fork) : Type 0 where
  pub own : own_of one ≡ own_of two
  pub left : one.left.rows ≡ two.left.rows
  pub below : one.twig.below.rows ≡ two.twig.below.rows
  pub right : one.right.rows ≡ two.right.rows

parts_same : (a b : Branches) (one two : Fork) → IsForkOf a one → IsForkOf b two → AreAlike one two → a.rows ≡ b.rows → SameParts one two
parts_same a b one two first second like same =
    let rows : rows_of_fork one ≡ rows_of_fork two = sym first.rows ∙ same ∙ second.rows in
    let total = sym (length-append (one.left.rows ++ rows_of one.twig) one.right.rows) ∙ ap length rows ∙ length-append (two.left.rows ++ rows_of two.twig) two.right.rows in
    let right = like.right in
    let front : length (one.left.rows ++ rows_of one.twig) ≡ length (two.left.rows ++ rows_of two.twig) = omega (arith, total, right) in
    let outer = split (one.left.rows ++ rows_of one.twig) one.right.rows (two.left.rows ++ rows_of two.twig) two.right.rows front rows in
    let inner = split one.left.rows (rows_of one.twig) two.left.rows (rows_of two.twig) like.left outer.0 in
    let node = split (own_of one) one.twig.below.rows (own_of two) two.twig.below.rows (own_lengths one.twig.stands two.twig.stands one.twig.row two.twig.row like.stands) inner.1 in
    record { own = node.0; left = inner.0; below = node.1; right = outer.1 }

whole_same : (a b : Branches) (one two : Fork) → IsForkOf a one → IsForkOf b two → SameParts one two → a.rows ≡ b.rows
whole_same a b one two first second same =
    first.rows ∙ (λ i. same.left i ++ (same.own i ++ same.below i) ++ same.right i) ∙ sym second.rows

pub own_differs : (a b : Branches) (one two : Fork) → IsForkOf a one → IsForkOf b two → AreAlike one two → ¬ (own_rows one.twig.stands one.twig.row ≡ own_rows two.twig.stands two.twig.row) → IsTrue false ↔ (a.rows ≡ b.rows)
own_differs a b one two first second like differ = (λ lie. absurd (cc lie), λ same. absurd (differ (parts_same a b one two first second like same).own))

pub left_differs : (a b : Branches) (one two : Fork) → IsForkOf a one → IsForkOf b two → AreAlike one two → ¬ (one.left.rows ≡ two.left.rows) → IsTrue false ↔ (a.rows ≡ b.rows)
left_differs a b one two first second like differ = (λ lie. absurd (cc lie), λ same. absurd (differ (parts_same a b one two first second like same).left))

pub below_differs : (a b : Branches) (one two : Fork) → IsForkOf a one → IsForkOf b two → AreAlike one two → ¬ (one.twig.below.rows ≡ two.twig.below.rows) → IsTrue false ↔ (a.rows ≡ b.rows)
below_differs a b one two first second like differ = (λ lie. absurd (cc lie), λ same. absurd (differ (parts_same a b one two first second like same).below))

pub right_decides : (a b : Branches) (one two : Fork) → IsForkOf a one → IsForkOf b two → AreAlike one two → own_rows one.twig.stands one.twig.row ≡ own_rows two.twig.stands two.twig.row → one.left.rows ≡ two.left.rows → one.twig.below.rows ≡ two.twig.below.rows → (result : Bool) → (IsTrue result ↔ (one.right.rows ≡ two.right.rows)) → IsTrue result ↔ (a.rows ≡ b.rows)
right_decides a b one two first second like own left below result right =
    (λ is. whole_same a b one two first second (record { own = own; left = left; below = below; right = right.0 is }), λ same. right.1 (parts_same a b one two first second like same).right)
