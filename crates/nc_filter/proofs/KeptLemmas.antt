-- Which rows come with those that are selected.
use Rattle.std.proofs.Common.{◌≡◌, ◌||◌, ◌&&◌, ◌+◌, ◌<◌, ◌≤◌, ℕ, Bool, true, false, List, [], ◌∷◌, ◌++◌, length, drop, get_or, map, sym, ap, subst, ◌∙◌, arith, if◌then◌else◌}
use Rattle.std.specs.List.{filter, list_any}
use Rattle.std.proofs.lemmas.Grind.{common_steps}
use Rattle.std.proofs.lemmas.List.{append_assoc, append-nil, get_or-map, length-map}
use Rattle.nc_names.specs.Same.{is_at_or_below}
use Rattle.nc_names.specs.declared.path.Row.{Row}
use Rattle.nc_names.specs.declared.path.Step.{Step}
use Rattle.nc_schema.specs.Blocks.{above_last}
use Rattle.nc_schema.specs.Tables.{Tables}
use Rattle.nc_protocol.specs.Filter.{comes_with, is_key_of_entry}
use Rattle.nc_protocol.proofs.KeyLemmas.{filter_takes, filter_leaves}
use Rattle.nc_filter.proofs.Unions.{any_and, any_or}

pub comes_with_some : {X : Type 0} (p q : X → Bool) (k : Bool) (xs : List X) → list_any (λ x. p x || (k && q x)) xs ≡ (list_any p xs || (k && list_any q xs))
comes_with_some p q k xs = any_or p (λ x. k && q x) xs ∙ ap (λ b. list_any p xs || b) (any_and k q xs)

pub kept_is : (tables : Tables) (row : Row) (rows : List Row) (steps above : List Step) (a k b : Bool) → steps ≡ row.path.steps → above ≡ above_last steps →
    a ≡ list_any (λ other. is_at_or_below steps other.path) rows → k ≡ is_key_of_entry tables steps → b ≡ list_any (λ other. is_at_or_below above other.path) rows →
    (a || (k && b)) ≡ list_any (λ other. comes_with tables other row) rows
kept_is tables row rows steps above a k b is above_is first key second =
    (λ i. first i || (key i && second i))
    ∙ ap (λ (over : List Step). list_any (λ other. is_at_or_below steps other.path) rows || (is_key_of_entry tables steps && list_any (λ other. is_at_or_below over other.path) rows)) above_is
    ∙ ap (λ (at : List Step). list_any (λ other. is_at_or_below at other.path) rows || (is_key_of_entry tables at && list_any (λ other. is_at_or_below (above_last at) other.path) rows)) is
    ∙ sym (comes_with_some (λ (other : Row). is_at_or_below row.path.steps other.path) (λ (other : Row). is_at_or_below (above_last row.path.steps) other.path) (is_key_of_entry tables row.path.steps) rows)

-- one row more, which passes a test or does not
pub filter_next : {X : Type 0} (test : X → Bool) (rows out now : List X) (index : ℕ) (row : X) (passes : Bool) → index < length rows → row ≡ get_or rows index row →
    passes ≡ test row → now ≡ (if passes then out ++ row ∷ [] else out) → out ++ filter test (drop index rows) ≡ filter test rows →
    now ++ filter test (drop (index + 1) rows) ≡ filter test rows
filter_next {X} test rows out now index row passes within is tested put so_far = by passes tested put
  where
    cut : drop index rows ≡ row ∷ drop (index + 1) rows
    cut = grind (arith, common_steps, is, within)

    by : (b : Bool) → b ≡ test row → now ≡ (if b then out ++ row ∷ [] else out) → now ++ filter test (drop (index + 1) rows) ≡ filter test rows
    by true e put =
        ap (λ (list : List X). list ++ filter test (drop (index + 1) rows)) put ∙ append_assoc out (row ∷ []) (filter test (drop (index + 1) rows))
        ∙ ap (λ more. out ++ more) (sym (filter_takes test row (drop (index + 1) rows) (sym e)) ∙ ap (filter test) (sym cut)) ∙ so_far
    by false e put =
        ap (λ (list : List X). list ++ filter test (drop (index + 1) rows)) put
        ∙ ap (λ more. out ++ more) (sym (filter_leaves test row (drop (index + 1) rows) (sym e)) ∙ ap (filter test) (sym cut)) ∙ so_far

pub filter_end : {X : Type 0} (test : X → Bool) (rows out : List X) (index : ℕ) → length rows ≤ index →
    out ++ filter test (drop index rows) ≡ filter test rows → out ≡ filter test rows
filter_end {X} test rows out index past so_far =
    sym (append-nil out) ∙ ap (λ (list : List X). out ++ filter test list) (sym none) ∙ so_far
  where
    none : drop index rows ≡ []
    none = grind (arith, common_steps, past)

-- an element of a list, in the list of what it leads to
pub mapped_within : {X Y : Type 0} (f : X → Y) (xs : List X) (index : ℕ) → index < length xs → index < length (map f xs)
mapped_within f xs index within = subst (λ (n : ℕ). index < n) (sym (length-map xs f)) within

pub mapped_past : {X Y : Type 0} (f : X → Y) (xs : List X) (index : ℕ) → length xs ≤ index → length (map f xs) ≤ index
mapped_past f xs index past = subst (λ (n : ℕ). n ≤ index) (sym (length-map xs f)) past

pub mapped_item : {X Y : Type 0} (f : X → Y) (xs : List X) (index : ℕ) (x : X) → index < length xs → x ≡ get_or xs index x → f x ≡ get_or (map f xs) index (f x)
mapped_item f xs index x within is = ap f is ∙ sym (get_or-map f xs index x (f x) within)
