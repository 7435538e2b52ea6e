-- One part more of a place.
use Rattle.std.proofs.Common.{◌≡◌, ◌+◌, ◌||◌, ◌++◌, ◌<◌, ◌≤◌, ℕ, zero, suc, Bool, true, false, cond, List, [], ◌∷◌, Option, length, map, get_or, drop, refl, sym, ap, subst, ◌∙◌, arith, drop-cons}
use Rattle.std.specs.List.{cons_option, filter, filter_map, find, list_all, list_any}
use Rattle.std.specs.Prelude.{None, Some, slice_get, option_and_then}
use Rattle.nc_schema.specs.InUse.{first_value, named_value, or_else}
use Rattle.nc_defaults.specs.inner.Runs.{named_from, value_at}
use Rattle.nc_names.specs.declared.path.Row.{Row}
use Rattle.nc_names.specs.declared.path.Step.{Step}
use Rattle.nc_names.specs.Same.{is_same_text}
use Rattle.std.proofs.lemmas.Bool.Decides.{Decides-eqb}
use Rattle.nc_schema.specs.InUse.{value_from, values_in_use}
use Rattle.nc_schema.specs.Tables.{Tables}
use Rattle.nc_schema.specs.Places.{Part, Place, is_of, is_same_next}
use Rattle.nc_defaults.specs.Within.{rows_between}
use Rattle.nc_defaults.proofs.Runs.{get_between, same_next}

-- how many parts pass, with one more in front that does or does not
pub count_one : (p : Part → Bool) (part : Part) (all rest : List Part) (count whole : ℕ) → all ≡ part ∷ rest → p part ≡ true →
    count + length (filter p all) ≡ whole → count + 1 + length (filter p rest) ≡ whole
count_one p part all rest count whole split passes so_far =
    let is : length (filter p all) ≡ suc (length (filter p rest)) = ap (λ ps. length (filter p ps)) split ∙ ap (λ b. length (cond b (part ∷ filter p rest) (filter p rest))) passes in
    omega (arith, is, so_far)

pub count_none : (p : Part → Bool) (part : Part) (all rest : List Part) (count whole : ℕ) → all ≡ part ∷ rest → p part ≡ false →
    count + length (filter p all) ≡ whole → count + length (filter p rest) ≡ whole
count_none p part all rest count whole split fails so_far =
    let is : length (filter p all) ≡ length (filter p rest) = ap (λ ps. length (filter p ps)) split ∙ ap (λ b. length (cond b (part ∷ filter p rest) (filter p rest))) fails in
    omega (arith, is, so_far)

-- ---- a test of what the parts give
pub any_append : {X : Type 0} (p : X → Bool) (xs ys : List X) → list_any p (xs ++ ys) ≡ (list_any p xs || list_any p ys)
any_append p [] ys = refl
any_append p (x ∷ xs) ys = go (p x) (any_append p xs ys)
  where
    go : (b : Bool) → list_any p (xs ++ ys) ≡ (list_any p xs || list_any p ys) → (b || list_any p (xs ++ ys)) ≡ ((b || list_any p xs) || list_any p ys)
    go true e = refl
    go false e = e

-- ---- the first part that passes a second test
pub find_later : (p t : Part → Bool) (part : Part) (all rest : List Part) → all ≡ part ∷ rest → t part ≡ false →
    find t (filter p all) ≡ find t (filter p rest)
find_later p t part all rest split fails = ap (λ ps. find t (filter p ps)) split ∙ go (p part)
  where
    go : (a : Bool) → find t (cond a (part ∷ filter p rest) (filter p rest)) ≡ find t (filter p rest)
    go true = ap (λ b. cond b (Some part) (find t (filter p rest))) fails
    go false = refl

pub find_here : (p t : Part → Bool) (part : Part) (all rest : List Part) → all ≡ part ∷ rest → p part ≡ true → t part ≡ true →
    find t (filter p all) ≡ Some part
find_here p t part all rest split passes good =
    ap (λ ps. find t (filter p ps)) split
    ∙ ap (λ a. find t (cond a (part ∷ filter p rest) (filter p rest))) passes
    ∙ ap (λ b. cond b (Some part) (find t (filter p rest))) good

-- ---- the value that a step names, among the parts that are left
pub skip_other : (stands : Bool) (step : Step) (defaults : List (List ℕ)) (part : Part) (all rest : List Part) → all ≡ part ∷ rest →
    is_of step.node part ≡ false → named_from stands step all defaults ≡ named_from stands step rest defaults
skip_other stands step defaults part all rest split fails =
    ap (λ ps. named_from stands step ps defaults) split
    ∙ ap (λ b. cond stands (named_value step (filter_map (λ one. first_value one.rows) (cond b (part ∷ filter (is_of step.node) rest) (filter (is_of step.node) rest))))
    (named_value step (or_else (filter_map (λ one. first_value one.rows) (cond b (part ∷ filter (is_of step.node) rest) (filter (is_of step.node) rest))) defaults))) fails

with_value : (stands : Bool) (step : Step) (defaults : List (List ℕ)) (part : Part) (all rest : List Part) (value : Option (List ℕ)) → all ≡ part ∷ rest →
    is_of step.node part ≡ true → first_value part.rows ≡ value →
    named_from stands step all defaults
    ≡ cond stands (named_value step (filter_map (λ (v : Option (List ℕ)). v) (value ∷ []) ++ filter_map (λ one. first_value one.rows) (filter (is_of step.node) rest)))
    (named_value step (or_else (filter_map (λ (v : Option (List ℕ)). v) (value ∷ []) ++ filter_map (λ one. first_value one.rows) (filter (is_of step.node) rest)) defaults))
with_value stands step defaults part all rest value split passes is =
    ap (λ ps. named_from stands step ps defaults) split
    ∙ ap (λ b. cond stands (named_value step (filter_map (λ one. first_value one.rows) (cond b (part ∷ filter (is_of step.node) rest) (filter (is_of step.node) rest))))
    (named_value step (or_else (filter_map (λ one. first_value one.rows) (cond b (part ∷ filter (is_of step.node) rest) (filter (is_of step.node) rest))) defaults))) passes
    ∙ ap (λ v. cond stands (named_value step (cons_option v (filter_map (λ one. first_value one.rows) (filter (is_of step.node) rest))))
    (named_value step (or_else (cons_option v (filter_map (λ one. first_value one.rows) (filter (is_of step.node) rest))) defaults))) is
    ∙ go value
  where
    more : List (List ℕ)
    more = filter_map (λ one. first_value one.rows) (filter (is_of step.node) rest)

    go : (v : Option (List ℕ)) →
        cond stands (named_value step (cons_option v more)) (named_value step (or_else (cons_option v more) defaults))
        ≡ cond stands (named_value step (filter_map (λ (w : Option (List ℕ)). w) (v ∷ []) ++ more)) (named_value step (or_else (filter_map (λ (w : Option (List ℕ)). w) (v ∷ []) ++ more) defaults))
    go None = refl
    go (Some v) = refl

pub skip_empty : (stands : Bool) (step : Step) (defaults : List (List ℕ)) (part : Part) (all rest : List Part) → all ≡ part ∷ rest →
    is_of step.node part ≡ true → first_value part.rows ≡ None → named_from stands step all defaults ≡ named_from stands step rest defaults
skip_empty stands step defaults part all rest split passes none = with_value stands step defaults part all rest None split passes none

pub skip_value : (stands : Bool) (step : Step) (defaults : List (List ℕ)) (part : Part) (all rest : List Part) (value : List ℕ) → all ≡ part ∷ rest →
    is_of step.node part ≡ true → first_value part.rows ≡ Some value → list_all (is_same_text value) step.keys ≡ false →
    named_from stands step all defaults ≡ named_from true step rest defaults
skip_value stands step defaults part all rest value split passes is differs =
    with_value stands step defaults part all rest (Some value) split passes is ∙ go stands
  where
    more : List (List ℕ)
    more = filter_map (λ one. first_value one.rows) (filter (is_of step.node) rest)

    go : (b : Bool) → cond b (named_value step (value ∷ more)) (named_value step (or_else (value ∷ more) defaults)) ≡ named_value step more
    go true = ap (λ x. cond x (Some value) (named_value step more)) differs
    go false = ap (λ x. cond x (Some value) (named_value step more)) differs

pub find_value : (stands : Bool) (step : Step) (defaults : List (List ℕ)) (part : Part) (all rest : List Part) (value : List ℕ) → all ≡ part ∷ rest →
    is_of step.node part ≡ true → first_value part.rows ≡ Some value → list_all (is_same_text value) step.keys ≡ true →
    named_from stands step all defaults ≡ Some value
find_value stands step defaults part all rest value split passes is same =
    with_value stands step defaults part all rest (Some value) split passes is ∙ go stands
  where
    more : List (List ℕ)
    more = filter_map (λ one. first_value one.rows) (filter (is_of step.node) rest)

    go : (b : Bool) → cond b (named_value step (value ∷ more)) (named_value step (or_else (value ∷ more) defaults)) ≡ Some value
    go true = ap (λ x. cond x (Some value) (named_value step more)) same
    go false = ap (λ x. cond x (Some value) (named_value step more)) same

-- ---- the instance to which a step leads
abbrev leads_to : Step → Part → Bool
leads_to step part = is_same_next part.step (Some step)

own_node : (step : Step) (next : Option Step) (rows : List Row) → next ≡ Some step → is_of step.node (record { step = next; rows = rows }) ≡ true
own_node step next rows is = subst (λ n. is_of step.node (record { step = n; rows = rows }) ≡ true) (sym is) ((Decides-eqb step.node step.node).1 refl)

pub found_here : (step : Step) (next : Option Step) (rows : List Row) (all rest : List Part) (whole : Option Part) → all ≡ record { step = next; rows = rows } ∷ rest →
    is_same_next next (Some step) ≡ true → find (λ part. is_same_next part.step (Some step)) (filter (is_of step.node) all) ≡ whole →
    Some (record { step = Some step; rows = rows }) ≡ whole
found_here step next rows all rest whole split same found =
    let is : next ≡ Some step = same_next next (Some step) same in
    let first = find_here (is_of step.node) (λ part. is_same_next part.step (Some step)) (record { step = next; rows = rows }) all rest split (own_node step next rows is) same in
    ap (λ n. Some (record { step = n; rows = rows })) (sym is) ∙ sym first ∙ found

-- ---- the value of the first row of a run
first_of : (xs : List Row) → first_value xs ≡ option_and_then (λ row. row.value) (slice_get xs 0)
first_of [] = refl
first_of (x ∷ xs) = refl

pub first_between : (from end : ℕ) (rows : List Row) → from < end → first_value (rows_between rows from end) ≡ value_at rows from
first_between from end rows less =
    first_of (rows_between rows from end)
    ∙ ap (λ found. option_and_then (λ row. row.value) found) (get_between from end 0 rows (omega (arith, less)))
    ∙ (let same : from + 0 ≡ from = omega arith in ap (λ at. value_at rows at) same)

-- ---- the steps of a path
cut : (steps : List Step) (index : ℕ) (step : Step) → index < length steps → step ≡ get_or steps index step → drop index steps ≡ step ∷ drop (index + 1) steps
cut steps index step within item =
    let next : suc index ≡ index + 1 = omega arith in
    drop-cons steps index step within ∙ ap (λ s. s ∷ drop (suc index) steps) (sym item) ∙ ap (λ k. step ∷ drop k steps) next

none_after : (steps : List Step) (n : ℕ) → length steps ≤ n → drop n steps ≡ []
none_after [] n long = drop_nil n
  where
    drop_nil : (n : ℕ) → drop n (let x : List Step = [] in x) ≡ []
    drop_nil zero = refl
    drop_nil (suc n) = refl
none_after (x ∷ steps) zero long = absurd (omega (arith, long))
none_after (x ∷ steps) (suc n) long = none_after steps n (omega (arith, long))

pub last_step : (tables : Tables) (place : Place) (steps : List Step) (index : ℕ) (step : Step) (answer : Option (List ℕ)) →
    index < length steps → step ≡ get_or steps index step → index + 1 ≡ length steps →
    value_from tables place (drop index steps) ≡ answer → named_value step (values_in_use tables place step.node) ≡ answer
last_step tables place steps index step answer within item end so_far =
    sym (ap (value_from tables place) (cut steps index step within item ∙ ap (λ rest. step ∷ rest) (none_after steps (index + 1) (omega (arith, end))))) ∙ so_far

-- ---- the values of the parts that are left
pub values_skip : (number : ℕ) (part : Part) (all rest : List Part) → all ≡ part ∷ rest → is_of number part ≡ false →
    filter_map (λ one. first_value one.rows) (filter (is_of number) all) ≡ filter_map (λ one. first_value one.rows) (filter (is_of number) rest)
values_skip number part all rest split fails =
    ap (λ ps. filter_map (λ one. first_value one.rows) (filter (is_of number) ps)) split
    ∙ ap (λ b. filter_map (λ one. first_value one.rows) (cond b (part ∷ filter (is_of number) rest) (filter (is_of number) rest))) fails

pub values_with : (number : ℕ) (part : Part) (all rest : List Part) (value : Option (List ℕ)) → all ≡ part ∷ rest → is_of number part ≡ true → first_value part.rows ≡ value →
    filter_map (λ one. first_value one.rows) (filter (is_of number) all) ≡ cons_option value (filter_map (λ one. first_value one.rows) (filter (is_of number) rest))
values_with number part all rest value split passes is =
    ap (λ ps. filter_map (λ one. first_value one.rows) (filter (is_of number) ps)) split
    ∙ ap (λ b. filter_map (λ one. first_value one.rows) (cond b (part ∷ filter (is_of number) rest) (filter (is_of number) rest))) passes
    ∙ ap (λ v. cons_option v (filter_map (λ one. first_value one.rows) (filter (is_of number) rest))) is

pub map_push : {X Y : Type 0} (f : X → Y) (xs : List X) (x : X) (rest : List Y) → map f (xs ++ x ∷ []) ++ rest ≡ map f xs ++ f x ∷ rest
map_push f [] x rest = refl
map_push f (y ∷ xs) x rest = ap (λ ys. f y ∷ ys) (map_push f xs x rest)
