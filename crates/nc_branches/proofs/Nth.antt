-- The row at a place, by the numbers of the rows in the parts.
use Rattle.std.proofs.Common.{◌≡◌, ◌++◌, ◌+◌, ◌-◌, ◌<◌, ◌≤◌, ℕ, zero, suc, true, false, List, [], ◌∷◌, Some, refl, sym, ap, ◌∙◌, arith, length}
use Rattle.std.specs.Prelude.{slice_get}
use Rattle.std.proofs.lemmas.List.{append_assoc, length-append}
use Rattle.nc_names.specs.declared.path.Row.{Row}
use Rattle.nc_branches.specs.Branches.{Branches}
use Rattle.nc_branches.specs.inner.Shoots.{Shoot, own_rows, rows_of}
use Rattle.nc_branches.specs.inner.Forks.{IsForkOf}
use Rattle.nc_branches.specs.declared.tree.Fork.{Fork}

get_first : (xs ys : List Row) (n : ℕ) → n < length xs → slice_get (xs ++ ys) n ≡ slice_get xs n
get_first [] ys n less = absurd (omega (arith, less))
get_first (x ∷ xs) ys zero less = refl
get_first (x ∷ xs) ys (suc n) less = get_first xs ys n (omega (arith, less))

get_past : (xs ys : List Row) (n m : ℕ) → n ≡ length xs + m → slice_get (xs ++ ys) n ≡ slice_get ys m
get_past [] ys n m is = let same : n ≡ m = omega (arith, is) in ap (slice_get ys) same
get_past (x ∷ xs) ys zero m is = absurd (omega (arith, is))
get_past (x ∷ xs) ys (suc n) m is = get_past xs ys n m (omega (arith, is))

pub nth_left : (branches : Branches) (fork : Fork) (place : ℕ) → IsForkOf branches fork → place < length fork.left.rows → slice_get fork.left.rows place ≡ slice_get branches.rows place
nth_left branches fork place is less =
    sym (ap (λ rows. slice_get rows place) (is.rows ∙ append_assoc fork.left.rows (rows_of fork.twig) fork.right.rows) ∙ get_first fork.left.rows (rows_of fork.twig ++ fork.right.rows) place less)

pub lengths : (branches : Branches) (fork : Fork) → IsForkOf branches fork → length branches.rows ≡ length fork.left.rows + length (rows_of fork.twig) + length fork.right.rows
lengths branches fork is =
    ap length is.rows ∙ length-append (fork.left.rows ++ rows_of fork.twig) fork.right.rows ∙ ap (λ n. n + length fork.right.rows) (length-append fork.left.rows (rows_of fork.twig))

pub right_within : (branches : Branches) (fork : Fork) → IsForkOf branches fork → length fork.right.rows ≤ length branches.rows
right_within branches fork is = omega (arith, lengths branches fork is)

pub nth_here : (branches : Branches) (fork : Fork) (place : ℕ) → IsForkOf branches fork → length fork.left.rows ≤ place → place < length branches.rows - length fork.right.rows →
    slice_get (rows_of fork.twig) (place - length fork.left.rows) ≡ slice_get branches.rows place
nth_here branches fork place is more less =
    sym (ap (λ rows. slice_get rows place) (is.rows ∙ append_assoc fork.left.rows (rows_of fork.twig) fork.right.rows)
    ∙ get_past fork.left.rows (rows_of fork.twig ++ fork.right.rows) place (place - length fork.left.rows) (omega (arith, more))
    ∙ get_first (rows_of fork.twig) fork.right.rows (place - length fork.left.rows) (omega (arith, more, less, lengths branches fork is)))

pub nth_right : (branches : Branches) (fork : Fork) (place : ℕ) → IsForkOf branches fork → length branches.rows - length fork.right.rows ≤ place →
    slice_get fork.right.rows (place - (length branches.rows - length fork.right.rows)) ≡ slice_get branches.rows place
nth_right branches fork place is more =
    let rest = place - (length branches.rows - length fork.right.rows) in
    sym (ap (λ rows. slice_get rows place) (is.rows ∙ append_assoc fork.left.rows (rows_of fork.twig) fork.right.rows)
    ∙ get_past fork.left.rows (rows_of fork.twig ++ fork.right.rows) place (length (rows_of fork.twig) + rest) (omega (arith, more, lengths branches fork is))
    ∙ get_past (rows_of fork.twig) fork.right.rows (length (rows_of fork.twig) + rest) rest refl)

pub nth_own : (twig : Shoot) → twig.stands ≡ true → Some twig.row ≡ slice_get (rows_of twig) 0
nth_own twig stands = ap (λ b. slice_get (own_rows b twig.row ++ twig.below.rows) 0) (sym stands)

pub nth_bare : (twig : Shoot) (place : ℕ) → twig.stands ≡ false → slice_get twig.below.rows place ≡ slice_get (rows_of twig) place
nth_bare twig place bare = ap (λ b. slice_get (own_rows b twig.row ++ twig.below.rows) place) (sym bare)

pub nth_below : (twig : Shoot) (place rest : ℕ) → twig.stands ≡ true → place ≡ rest + 1 → slice_get twig.below.rows rest ≡ slice_get (rows_of twig) place
nth_below twig place rest stands is = sym (ap (λ b. slice_get (own_rows b twig.row ++ twig.below.rows) place) stands ∙ get_past (twig.row ∷ []) twig.below.rows place rest (omega (arith, is)))
