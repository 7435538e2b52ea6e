-- The rows that stand first in one element, counted.
use Rattle.std.proofs.Common.{◌≡◌, ◌≤◌, ◌-◌, ℕ, zero, suc, Bool, true, false, cond, List, [], ◌∷◌, length, map, take, drop, refl, sym, ap, subst, ◌∙◌, arith}
use Rattle.std.proofs.lemmas.List.{drop-map, length-drop, length-map, take-map}
use Rattle.std.proofs.Math.Seq.{take-length}
use Rattle.nc_names.specs.declared.path.Row.{Row}
use Rattle.nc_protocol.specs.Printed.{cut, onto_cut}
use Rattle.nc_print.specs.inner.Runs.{IsRun, run_length}

run_some : (b : Bool) (n : ℕ) → 1 ≤ cond b (suc n) 1
run_some true n = omega arith
run_some false n = omega arith

run_within : (b : Bool) (n m : ℕ) → n ≤ suc m → cond b (suc n) 1 ≤ suc (suc m)
run_within true n m small = omega arith
run_within false n m small = omega arith

pub length_some : (goes : Row → Row → Bool) (row : Row) (rows : List Row) → 1 ≤ run_length goes row rows
length_some goes row [] = omega arith
length_some goes row (next ∷ more) = run_some (goes row next) (run_length goes next more)

pub length_within : (goes : Row → Row → Bool) (row : Row) (rows : List Row) → run_length goes row rows ≤ suc (length rows)
length_within goes row [] = omega arith
length_within goes row (next ∷ more) = run_within (goes row next) (run_length goes next more) (length more) (length_within goes next more)

-- a count from 1 on takes the first row with the others
taken_first : (count : ℕ) → 1 ≤ count → (row : Row) (rows : List Row) → (n : ℕ) × (count ≡ suc n)
taken_first zero some row rows = absurd (omega arith)
taken_first (suc n) some row rows = (n, refl)

cut_onto : (goes : Row → Row → Bool) (row next : Row) (more : List Row) (later : List (List Row)) (b : Bool) → goes row next ≡ b →
    onto_cut goes row ((next ∷ more) ∷ later) ≡ cond b ((row ∷ next ∷ more) ∷ later) ((row ∷ []) ∷ (next ∷ more) ∷ later)
cut_onto goes row next more later b is = ap (λ x. cond x ((row ∷ next ∷ more) ∷ later) ((row ∷ []) ∷ (next ∷ more) ∷ later)) is

cut_case : (goes : Row → Row → Bool) (row next : Row) (more : List Row) (n : ℕ) (b : Bool) → goes row next ≡ b → (count : ℕ) → count ≡ cond (goes row next) (suc (suc n)) 1 →
    (next ∷ take n more) ∷ cut goes (drop n more) ≡ cut goes (next ∷ more) →
    onto_cut goes row ((next ∷ take n more) ∷ cut goes (drop n more)) ≡ take count (row ∷ next ∷ more) ∷ cut goes (drop count (row ∷ next ∷ more))
cut_case goes row next more n true is count count_is shown =
    cut_onto goes row next (take n more) (cut goes (drop n more)) true is
    ∙ ap (λ k. take k (row ∷ next ∷ more) ∷ cut goes (drop k (row ∷ next ∷ more))) (sym (count_is ∙ ap (λ x. cond x (suc (suc n)) 1) is))
cut_case goes row next more n false is count count_is shown =
    cut_onto goes row next (take n more) (cut goes (drop n more)) false is
    ∙ ap (λ later. (row ∷ []) ∷ later) shown
    ∙ ap (λ k. take k (row ∷ next ∷ more) ∷ cut goes (drop k (row ∷ next ∷ more))) (sym (count_is ∙ ap (λ x. cond x (suc (suc n)) 1) is))

pub cut_run : (goes : Row → Row → Bool) (row : Row) (rows : List Row) (count : ℕ) → count ≡ run_length goes row rows →
    cut goes (row ∷ rows) ≡ take count (row ∷ rows) ∷ cut goes (drop count (row ∷ rows))
cut_run goes row [] count is = rw is refl
cut_run goes row (next ∷ more) count is =
    let inner = run_length goes next more in
    let first = taken_first inner (length_some goes next more) next more in
    let rest = cut_run goes next more inner refl in
    let shown : cut goes (next ∷ more) ≡ (next ∷ take first.0 more) ∷ cut goes (drop first.0 more) = rest ∙ ap (λ n. take n (next ∷ more) ∷ cut goes (drop n (next ∷ more))) first.1 in
    ap (onto_cut goes row) shown ∙ cut_case goes row next more first.0 (goes row next) refl count (is ∙ ap (λ n. cond (goes row next) (suc n) 1) first.1) (sym shown)

pub is_run : (goes : Row → Row → Bool) (row : Row) (rows whole : List Row) (count : ℕ) → whole ≡ row ∷ rows → count ≡ run_length goes row rows → IsRun goes whole count
is_run goes row rows whole count whole_is is = rw whole_is (record {
  some = rw is (length_some goes row rows);
  within = rw is (length_within goes row rows);
  cut_is = cut_run goes row rows count is;
})

-- the first of some rows, and those after them, each where it stands
pub front_is : {A B : Type 0} (f : A → B) (count : ℕ) (rows front : List A) → front ≡ take count rows →
    map f front ≡ take count (map f rows)
front_is f count rows front is = ap (map f) is ∙ sym (take-map f count rows)

pub tail_is : {A B : Type 0} (f : A → B) (count : ℕ) (rows : List A) →
    map f (take (length rows - count) (drop count rows)) ≡ drop count (map f rows)
tail_is f count rows =
    ap (map f) (ap (λ n. take n (drop count rows)) (sym (length-drop count rows)) ∙ take-length (drop count rows))
    ∙ sym (drop-map f count rows)

pub within_is : {A B : Type 0} (f : A → B) (count : ℕ) (rows : List A) → count ≤ length (map f rows) → count ≤ length rows
within_is f count rows within = subst (λ n. count ≤ n) (length-map rows f) within
