-- The first denied change, found one change after another, is the first of all.
use Rattle.std.proofs.Common.{◌≡◌, ◌&&◌, ◌||◌, ◌+◌, ◌<◌, length, get_or, take, ℕ, Bool, true, false, cond, not, List, [], ◌∷◌, Option, Some, None, refl, sym, ap, ◌∙◌}
use Rattle.std.proofs.lemmas.List.{take_more}
use Rattle.std.proofs.lemmas.List.Sums.{fold-append}
use Rattle.std.specs.List.{cons_option, filter, filter_map, last_or, list_any, reduce}
use Rattle.std.specs.Option.{option_map_or}
use Rattle.std.specs.Prelude.{fold, option_and_then, slice_get}
use Rattle.nc_names.specs.Same.{is_same_value}
use Rattle.nc_names.specs.declared.path.Path.{Path}
use Rattle.nc_names.specs.declared.path.Right.{Right}
use Rattle.nc_names.specs.declared.path.Right.TheVariants.{Create as MayCreate, Update as MayUpdate}
use Rattle.nc_names.specs.declared.path.Row.{Row}
use Rattle.nc_names.specs.declared.path.Step.{Step}
use Rattle.nc_schema.specs.Blocks.{entries_beside, row_at}
use Rattle.nc_schema.specs.Standing.{has_row, is_by_user}
use Rattle.nc_protocol.specs.Changes.{has_moved, moves_between}
use Rattle.nc_schema.specs.Tables.{Tables}
use Rattle.nc_protocol.specs.Edited.{Change, change_at, changes_by, earlier, first_cause, first_denied, left_by, new_block}
use Rattle.nc_protocol.specs.declared.access.Decision.{Decision}
use Rattle.nc_protocol.specs.declared.edit.Edit.{Edit}
use Rattle.nc_protocol.specs.declared.request.Cause.{Cause}
use Rattle.nc_edit.specs.inner.Denied.{dropped, first_among, is_dropped, is_ordered, next_denied, stands_ordered}

module _ (tables : Tables) (rights : Path → Right → Decision) (rows : List Row) where
  abbrev next : Option Change → Change → Option Change
  next = next_denied tables rights rows

  abbrev is_denied : Change → Bool
  is_denied change = not (rights change.path change.right).permit

  from_some : (first : Change) (changes : List Change) → fold next (Some first) changes ≡ Some (fold (earlier tables rows) first (filter is_denied changes))
  from_some first [] = refl
  from_some first (change ∷ changes) = by (rights change.path change.right).permit (from_some first changes) (from_some (earlier tables rows first change) changes)
    where
      by : (b : Bool) → fold next (Some first) changes ≡ Some (fold (earlier tables rows) first (filter is_denied changes)) →
          fold next (Some (earlier tables rows first change)) changes ≡ Some (fold (earlier tables rows) (earlier tables rows first change) (filter is_denied changes)) →
          fold next (cond b (Some first) (Some (earlier tables rows first change))) changes ≡ Some (fold (earlier tables rows) first (cond (not b) (change ∷ filter is_denied changes) (filter is_denied changes)))
      by true same other = same
      by false same other = other

  from_none : (changes : List Change) → fold next None changes ≡ reduce (earlier tables rows) (filter is_denied changes)
  from_none [] = refl
  from_none (change ∷ changes) = by (rights change.path change.right).permit (from_none changes)
    where
      by : (b : Bool) → fold next None changes ≡ reduce (earlier tables rows) (filter is_denied changes) →
          fold next (cond b None (Some change)) changes ≡ reduce (earlier tables rows) (cond (not b) (change ∷ filter is_denied changes) (filter is_denied changes))
      by true same = same
      by false same = from_some change changes

pub first_is : (tables : Tables) (rights : Path → Right → Decision) (rows : List Row) (edit : Edit) →
    fold (next_denied tables rights rows) (fold (next_denied tables rights rows) None (dropped tables rows edit.path (new_block tables rows edit.path edit.action)))
    (filter_map (change_at tables rows (left_by tables rows edit)) (new_block tables rows edit.path edit.action))
    ≡ first_denied tables rights rows edit
unfolding is_dropped
first_is tables rights rows edit =
    let block = new_block tables rows edit.path edit.action in
    sym (fold-append (next_denied tables rights rows) None (dropped tables rows edit.path block) (filter_map (change_at tables rows (left_by tables rows edit)) block))
    ∙ from_none tables rights rows (changes_by tables rows edit)

pub last_cause : (cause : Option Cause) → first_cause (cause ∷ []) ≡ cause
last_cause None = refl
last_cause (Some cause) = refl

-- an entry that the user does not order has not moved
pub unmoved : (tables : Tables) (old new : List Row) (steps : List Step) → is_ordered tables steps ≡ false → has_moved tables old new steps ≡ false
unmoved tables old new steps none = by (last_or None steps) none
  where
    by : (last : Option Step) → option_map_or (λ node. node.by_user) (option_and_then (λ step. slice_get tables.nodes step.node) last) false ≡ false →
        option_map_or (λ step. is_by_user tables step.node && moves_between (entries_beside old steps) (entries_beside new steps) step.keys) last false ≡ false
    by None e = refl
    by (Some step) e = ap (λ b. b && moves_between (entries_beside old steps) (entries_beside new steps) step.keys) e

and_true : (a : Bool) → (a && true) ≡ false → a ≡ false
and_true true e = e
and_true false e = refl

-- a row that is no entry in the user's order, or is new, changes in the same way whatever stands afterwards
same_change : (tables : Tables) (old after other : List Row) (row : Row) → stands_ordered tables old row ≡ false → change_at tables old after row ≡ change_at tables old other row
same_change tables old after other row none = by (has_row old row.path.steps) none
  where
    updated : Bool → Option Change
    updated moved =
        cond (option_map_or (λ before. not (is_same_value before.value row.value) || moved) (row_at old row.path.steps) false) (Some (record { path = row.path; right = MayUpdate })) None

    by : (b : Bool) → (is_ordered tables row.path.steps && b) ≡ false →
        cond (not b) (Some (record { path = row.path; right = MayCreate })) (updated (has_moved tables old after row.path.steps))
        ≡ cond (not b) (Some (record { path = row.path; right = MayCreate })) (updated (has_moved tables old other row.path.steps))
    by false e = refl
    by true e =
        let still : is_ordered tables row.path.steps ≡ false = and_true (is_ordered tables row.path.steps) e in
        ap updated (unmoved tables old after row.path.steps still ∙ sym (unmoved tables old other row.path.steps still))

none_of_two : (a b : Bool) → (a || b) ≡ false → (a ≡ false) × (b ≡ false)
none_of_two true b e = absurd (cc)
none_of_two false b e = (refl, e)

same_changes : (tables : Tables) (old after other block : List Row) → list_any (stands_ordered tables old) block ≡ false →
    filter_map (change_at tables old after) block ≡ filter_map (change_at tables old other) block
same_changes tables old after other [] none = refl
same_changes tables old after other (row ∷ block) none =
    let parts = none_of_two (stands_ordered tables old row) (list_any (stands_ordered tables old) block) none in
    (λ i. cons_option (same_change tables old after other row parts.0 i) (same_changes tables old after other block parts.1 i))

pub first_kept : (tables : Tables) (rights : Path → Right → Decision) (rows : List Row) (edit : Edit) → list_any (stands_ordered tables rows) (new_block tables rows edit.path edit.action) ≡ false →
    first_among tables rights rows rows edit.path (new_block tables rows edit.path edit.action) ≡ first_denied tables rights rows edit
first_kept tables rights rows edit none =
    let block = new_block tables rows edit.path edit.action in
    ap (λ (changes : List Change). fold (next_denied tables rights rows) (fold (next_denied tables rights rows) None (dropped tables rows edit.path block)) changes)
    (same_changes tables rows rows (left_by tables rows edit) block none)
    ∙ first_is tables rights rows edit

-- the edits so far, with one more
pub fold_more : {A B : Type 0} (f : B → A → B) (start so_far next : B) (xs : List A) (i : ℕ) (x : A) → i < length xs → x ≡ get_or xs i x →
    so_far ≡ fold f start (take i xs) → next ≡ f so_far x → next ≡ fold f start (take (i + 1) xs)
fold_more f start so_far next xs i x within here before made =
    made ∙ (λ j. f (before j) (here j)) ∙ sym (fold-append f start (take i xs) (get_or xs i x ∷ [])) ∙ ap (fold f start) (sym (take_more xs i x within))
