-- The rows of one node stand first among those of a place.
use Rattle.std.proofs.Common.{◌≡◌, ◌<◌, ◌≤◌, ◌+◌, ◌-◌, ℕ, zero, suc, Bool, true, false, cond, List, [], ◌∷◌, Option, Some, None, length, take, drop, refl, sym, ap, ◌∙◌, arith, length-drop}
use borrow.Author.Count.{below_more}
use Rattle.std.proofs.lemmas.List.{take-take, drop-drop, drop-take, length-take-le}
use Rattle.std.specs.Prelude.{slice_get, option_and_then}
use Rattle.nc_names.specs.declared.path.Row.{Row}
use Rattle.nc_names.specs.declared.path.Step.{Step}
use Rattle.nc_names.proofs.SameLemmas.{step_decide, step_itself}
use Rattle.nc_schema.specs.Places.{Part, is_same_next, onto_first, parts}
use Rattle.nc_defaults.specs.Within.{rows_between}
use Rattle.nc_defaults.specs.inner.Runs.{next_at, past, run}

pub same_next : (a b : Option Step) → is_same_next a b ≡ true → a ≡ b
same_next None None e = refl
same_next None (Some b) e = absurd (let clash : false ≡ true = e in cc)
same_next (Some a) None e = absurd (let clash : false ≡ true = e in cc)
same_next (Some a) (Some b) e = ap Some ((step_decide a b).0 e)

pub next_itself : (a : Option Step) → is_same_next a a ≡ true
next_itself None = refl
next_itself (Some a) = step_itself a

abbrev next : ℕ → Row → Option Step
next depth row = slice_get row.path.steps depth

abbrev part : Option Step → List Row → Part
part step rows = record { step = step; rows = rows }

-- the first row begins a part of the rows with its step
one_more : (depth : ℕ) (step : Option Step) (row other : Row) (rows : List Row) →
    parts depth (other ∷ rows) ≡ part (next depth other) (other ∷ run depth (next depth other) rows) ∷ parts depth (past depth (next depth other) rows) →
    (b : Bool) → is_same_next step (next depth other) ≡ b →
    cond b (part (next depth other) (row ∷ other ∷ run depth (next depth other) rows) ∷ parts depth (past depth (next depth other) rows))
    (part step (row ∷ []) ∷ part (next depth other) (other ∷ run depth (next depth other) rows) ∷ parts depth (past depth (next depth other) rows))
    ≡ part step (row ∷ cond b (other ∷ run depth step rows) []) ∷ parts depth (cond b (past depth step rows) (other ∷ rows))
one_more depth step row other rows whole true same =
    let is : next depth other ≡ step = sym (same_next step (next depth other) same) in
    ap (λ s. part s (row ∷ other ∷ run depth s rows) ∷ parts depth (past depth s rows)) is
one_more depth step row other rows whole false differ = ap (λ ps. part step (row ∷ []) ∷ ps) (sym whole)

first_part : (depth : ℕ) (step : Option Step) (row : Row) (rows : List Row) →
    onto_first step row (parts depth rows) ≡ part step (row ∷ run depth step rows) ∷ parts depth (past depth step rows)
first_part depth step row [] = refl
first_part depth step row (other ∷ rows) =
    ap (onto_first step row) (first_part depth (next depth other) other rows)
    ∙ one_more depth step row other rows (first_part depth (next depth other) other rows) (is_same_next step (next depth other)) refl

-- ---- a run of so many rows
pub run_take : (depth : ℕ) (step : Option Step) (n : ℕ) (xs : List Row) → n ≤ length xs →
    ((k : ℕ) → k < n → next_at depth xs k ≡ step) → (n < length xs → is_same_next step (next_at depth xs n) ≡ false) →
    (run depth step xs ≡ take n xs) × (past depth step xs ≡ drop n xs)
run_take depth step zero [] fits all differs = (refl, refl)
run_take depth step zero (x ∷ xs) fits all differs =
    let no : is_same_next step (next depth x) ≡ false = differs (omega arith) in
    (ap (λ b. cond b (x ∷ run depth step xs) []) no, ap (λ b. cond b (past depth step xs) (x ∷ xs)) no)
run_take depth step (suc n) [] fits all differs = absurd (omega (arith, fits))
run_take depth step (suc n) (x ∷ xs) fits all differs =
    let is : next depth x ≡ step = all 0 (omega arith) in
    let yes : is_same_next step (next depth x) ≡ true = ap (is_same_next step) is ∙ next_itself step in
    let rest = run_take depth step n xs (omega (arith, fits)) (λ k lt. all (suc k) (omega (arith, lt))) (λ lt. differs (omega (arith, lt))) in
    (ap (λ b. cond b (x ∷ run depth step xs) []) yes ∙ ap (λ ys. x ∷ ys) rest.0, ap (λ b. cond b (past depth step xs) (x ∷ xs)) yes ∙ rest.1)

pub on_list : (depth n : ℕ) (xs : List Row) (step : Option Step) → 0 < n → n ≤ length xs →
    ((k : ℕ) → k < n → next_at depth xs k ≡ step) → (n < length xs → is_same_next step (next_at depth xs n) ≡ false) →
    parts depth xs ≡ part step (take n xs) ∷ parts depth (drop n xs)
on_list depth zero xs step some fits all differs = absurd (omega (arith, some))
on_list depth (suc n) [] step some fits all differs = absurd (omega (arith, fits))
on_list depth (suc n) (x ∷ xs) step some fits all differs =
    let is : next depth x ≡ step = all 0 (omega arith) in
    let rest = run_take depth step n xs (omega (arith, fits)) (λ k lt. all (suc k) (omega (arith, lt))) (λ lt. differs (omega (arith, lt))) in
    ap (λ s. onto_first s x (parts depth xs)) is
    ∙ first_part depth step x xs
    ∙ ap (λ ys. part step (x ∷ ys) ∷ parts depth (past depth step xs)) rest.0
    ∙ ap (λ ys. part step (x ∷ take n xs) ∷ parts depth ys) rest.1

-- ---- rows between two places
get_drop : (n k : ℕ) (xs : List Row) → slice_get (drop n xs) k ≡ slice_get xs (n + k)
get_drop zero k xs = let e : 0 + k ≡ k = omega arith in rw e refl
get_drop (suc n) k [] = refl
get_drop (suc n) k (x ∷ xs) = let e : suc n + k ≡ suc (n + k) = omega arith in rw e (get_drop n k xs)

get_take : (n k : ℕ) (xs : List Row) → k < n → slice_get (take n xs) k ≡ slice_get xs k
get_take zero k xs lt = absurd (omega (arith, lt))
get_take (suc n) k [] lt = refl
get_take (suc n) zero (x ∷ xs) lt = refl
get_take (suc n) (suc k) (x ∷ xs) lt = get_take n k xs (omega (arith, lt))

pub get_between : (from to k : ℕ) (rows : List Row) → from + k < to → slice_get (rows_between rows from to) k ≡ slice_get rows (from + k)
get_between from to k rows lt = get_drop from k (take to rows) ∙ get_take to (from + k) rows lt

next_between : (depth from to k : ℕ) (rows : List Row) → from + k < to → next_at depth (rows_between rows from to) k ≡ next_at depth rows (from + k)
next_between depth from to k rows lt = ap (λ found. option_and_then (λ row. next depth row) found) (get_between from to k rows lt)

pub length_between : (from to : ℕ) (rows : List Row) → to ≤ length rows → length (rows_between rows from to) ≡ to - from
length_between from to rows fits = length-drop from (take to rows) ∙ ap (λ n. n - from) (length-take-le to rows fits)

by_count : (depth from n to : ℕ) (rows : List Row) → 0 < n → from + n ≤ to → to ≤ length rows →
    ((k : ℕ) → from ≤ k → k < from + n → next_at depth rows k ≡ next_at depth rows from) →
    (from + n < to → is_same_next (next_at depth rows from) (next_at depth rows (from + n)) ≡ false) →
    parts depth (rows_between rows from to)
    ≡ part (next_at depth rows from) (rows_between rows from (from + n)) ∷ parts depth (rows_between rows (from + n) to)
by_count depth from n to rows some fits within all differs =
    let xs : List Row = rows_between rows from to in
    let long : length xs ≡ to - from = length_between from to rows within in
    let each : (k : ℕ) → k < n → next_at depth xs k ≡ next_at depth rows from =
    λ k lt. next_between depth from to k rows (omega (arith, lt)) ∙ all (from + k) (omega arith) (omega (arith, lt)) in
    let stop : n < length xs → is_same_next (next_at depth rows from) (next_at depth xs n) ≡ false =
    λ lt. ap (is_same_next (next_at depth rows from)) (next_between depth from to n rows (omega (arith, lt, long))) ∙ differs (omega (arith, lt, long)) in
    let front : take n xs ≡ rows_between rows from (from + n) =
    sym (drop-take from n (take to rows)) ∙ ap (drop from) (take-take (from + n) to rows fits) in
    let back : drop n xs ≡ rows_between rows (from + n) to = drop-drop n from (take to rows) in
    on_list depth n xs (next_at depth rows from) some (omega (arith, long)) each stop
    ∙ ap (λ ys. part (next_at depth rows from) ys ∷ parts depth (drop n xs)) front
    ∙ ap (λ ys. part (next_at depth rows from) (rows_between rows from (from + n)) ∷ parts depth ys) back

pub parts_of_run : (depth from end to : ℕ) (rows : List Row) → from < end → end ≤ to → to ≤ length rows →
    ((k : ℕ) → from ≤ k → k < end → next_at depth rows k ≡ next_at depth rows from) →
    (end < to → is_same_next (next_at depth rows from) (next_at depth rows end) ≡ false) →
    parts depth (rows_between rows from to)
    ≡ part (next_at depth rows from) (rows_between rows from end) ∷ parts depth (rows_between rows end to)
parts_of_run depth from end to rows less fits within all differs =
    let n : ℕ = end - from in
    let at_end : from + n ≡ end = omega arith in
    let got = by_count depth from n to rows (omega arith) (omega arith) within
    (λ k low high. all k low (omega (arith, high)))
    (λ lt. ap (λ e. is_same_next (next_at depth rows from) (next_at depth rows e)) at_end ∙ differs (omega (arith, lt))) in
    got
    ∙ ap (λ e. part (next_at depth rows from) (rows_between rows from e) ∷ parts depth (rows_between rows e to)) at_end

-- no rows are left
pub none_between : (to : ℕ) (rows : List Row) → rows_between rows to to ≡ []
none_between zero [] = refl
none_between zero (row ∷ rows) = refl
none_between (suc n) [] = refl
none_between (suc n) (row ∷ rows) = none_between n rows

-- one row more has the step
pub one_on : (depth from at : ℕ) (rows : List Row) →
    ((k : ℕ) → from ≤ k → k < at → next_at depth rows k ≡ next_at depth rows from) →
    is_same_next (next_at depth rows from) (next_at depth rows at) ≡ true →
    (k : ℕ) → from ≤ k → k < at + 1 → next_at depth rows k ≡ next_at depth rows from
one_on depth from at rows all same k low high =
    below_more (λ k. from ≤ k → next_at depth rows k ≡ next_at depth rows from) at (λ k lt low. all k low lt)
    (λ low. sym (same_next (next_at depth rows from) (next_at depth rows at) same)) k high low
