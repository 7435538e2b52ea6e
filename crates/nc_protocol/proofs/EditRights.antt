-- What an edit that is made asked for.
use Rattle.std.proofs.Common.{◌≡◌, ◌⊎◌, ◌&&◌, ◌||◌, zero, suc, Bool, true, false, cond, not, List, [], ◌∷◌, Option, Some, None, inl, inr, refl, sym, ap, subst, ◌∙◌, arith}
use Rattle.std.proofs.lemmas.List.Elements.{Contains-append_left, Contains-append_right}
use Rattle.std.proofs.lemmas.Option.{none-some}
use Rattle.std.specs.List.{All, Contains, cons_option, filter, filter_map, find, list_any, reduce}
use Rattle.std.specs.Option.{option_map_or}
use Rattle.std.specs.Prelude.{Ok, map}
use Rattle.nc_names.specs.Same.{is_at_or_below, is_same_path, is_same_value}
use Rattle.nc_names.specs.declared.path.Path.{Path}
use Rattle.nc_names.specs.declared.path.Right.{Right}
use Rattle.nc_names.specs.declared.path.Right.TheVariants.{Create as MayCreate, Update as MayUpdate, Delete as MayDelete}
use Rattle.nc_names.specs.declared.path.Row.{Row}
use Rattle.nc_schema.specs.Blocks.{row_at}
use Rattle.nc_schema.specs.Configuration.{IsAtOrBelow}
use Rattle.nc_schema.specs.Standing.{block_at, excludes, has_row}
use Rattle.nc_schema.specs.Tables.{Tables}
use Rattle.nc_protocol.specs.Changes.{has_moved, is_missing, is_updated}
use Rattle.nc_protocol.specs.Edited.{Change, change_at, gives_way, changes_by, earlier, first_denied, denied_cause, left_by, new_block, place_by, missed, lacks_anchor, cause_where, refusal, unless_refused, edited}
use Rattle.nc_protocol.specs.Laws.{EditAsks}
use Rattle.nc_protocol.specs.ProperEdit.{IsProperEdit}
use Rattle.nc_protocol.specs.declared.access.Decision.{Decision}
use Rattle.nc_protocol.specs.declared.edit.Edit.{Edit}
use Rattle.nc_protocol.specs.declared.request.Cause.{Cause}
use Rattle.nc_protocol.proofs.AboveLemmas.{some_passes}
use Rattle.nc_protocol.proofs.BoolLemmas.{is_false}
use Rattle.nc_protocol.proofs.Building.{row_is_there, in_left}
use Rattle.nc_protocol.proofs.EditedRows.{below_of, block_is_there, left_is, others_stay}
use Rattle.nc_protocol.proofs.EditLemmas.{no_first}
use Rattle.nc_protocol.proofs.ListLemmas.{contains_behind, none_passes}
use Rattle.nc_protocol.proofs.NewSubtree.{of_left}
use Rattle.nc_protocol.proofs.Parts.{all_from, contains_kept}
use Rattle.nc_protocol.proofs.PlaceLemmas.{below_is_below}

-- ---- lists
contains_map : {A B : Type 0} (f : A → B) (xs : List A) (x : A) → Contains xs x → Contains (map f xs) (f x)
contains_map f [] x has = absurd (omega (arith, has.1))
contains_map f (y ∷ xs) x (zero, within, here) = (0, omega arith, ap f here)
contains_map f (y ∷ xs) x (suc k, within, here) = contains_behind (f y) (map f xs) (f x) (contains_map f xs x (k, omega (arith, within), here))

contains_made : {A B : Type 0} (f : A → Option B) (xs : List A) (x : A) (y : B) → f x ≡ Some y → Contains xs x → Contains (filter_map f xs) y
contains_made f [] x y is has = absurd (omega (arith, has.1))
contains_made {A} {B} f (z ∷ xs) x y is (zero, within, here) =
    subst (λ (o : Option B). Contains (cons_option o (filter_map f xs)) y) (sym (ap f here ∙ is)) (0, omega arith, refl)
contains_made {A} {B} f (z ∷ xs) x y is (suc k, within, here) = by (f z) (contains_made f xs x y is (k, omega (arith, within), here))
  where
    by : (o : Option B) → Contains (filter_map f xs) y → Contains (cons_option o (filter_map f xs)) y
    by None has = has
    by (Some w) has = contains_behind w (filter_map f xs) y has

nothing_first : {A : Type 0} (f : A → A → A) (xs : List A) → reduce f xs ≡ None → xs ≡ []
nothing_first f [] e = refl
nothing_first f (x ∷ xs) e = absurd (none-some _ (sym e))

none_kept : {A : Type 0} (p : A → Bool) (xs : List A) (x : A) → filter p xs ≡ [] → Contains xs x → p x ≡ false
none_kept {A} p xs x none has = by (p x) refl
  where
    by : (b : Bool) → p x ≡ b → p x ≡ false
    by false e = e
    by true e = let there = subst (λ (ys : List A). Contains ys x) none (contains_kept p x xs has e) in absurd (omega (arith, there.1))

not_found : {A : Type 0} (p : A → Bool) (xs : List A) → list_any p xs ≡ false → find p xs ≡ None
not_found p [] e = refl
not_found p (x ∷ xs) e = by (p x) refl e (not_found p xs)
  where
    by : (b : Bool) → p x ≡ b → (b || list_any p xs) ≡ false → (list_any p xs ≡ false → find p xs ≡ None) → cond b (Some x) (find p xs) ≡ None
    by true is e rest = let clash : true ≡ false = e in cc
    by false is e rest = rest e

-- ---- an edit that is made
module _ (tables : Tables) (rights : Path → Right → Decision) (rows left : List Row) (edit : Edit) (fits : IsProperEdit tables edit) (is : edited tables rights rows edit ≡ Ok left) where
  abbrev block : List Row
  block = new_block tables rows edit.path edit.action

  abbrev after : List Row
  after = left_by tables rows edit

  after_is : after ≡ left
  after_is = left_is tables rows left edit (refusal tables rights rows edit) is

  pub not_refused : refusal tables rights rows edit ≡ None
  not_refused = by (refusal tables rights rows edit) is
    where
      by : (o : Option Cause) → unless_refused o after ≡ Ok left → o ≡ None
      by None e = refl
      by (Some cause) e = cc

  -- each change is permitted
  permitted : (change : Change) → Contains (changes_by tables rows edit) change → (rights change.path change.right).permit ≡ true
  permitted change has = by (rights change.path change.right).permit refl
    where
      none_denied : first_denied tables rights rows edit ≡ None
      none_denied = go (first_denied tables rights rows edit) (no_first (denied_cause rights (first_denied tables rights rows edit)) [] (no_first (cause_where (lacks_anchor rows edit) _) _ (no_first (missed tables rows edit.path edit.action) _ not_refused).1).1).0
        where
          go : (o : Option Change) → denied_cause rights o ≡ None → o ≡ None
          go None e = refl
          go (Some c) e = cc

      by : (b : Bool) → (rights change.path change.right).permit ≡ b → (rights change.path change.right).permit ≡ true
      by true e = e
      by false e =
          let none = none_kept (λ c. not (rights c.path c.right).permit) (changes_by tables rows edit) change (nothing_first (earlier tables rows) _ none_denied) has in
          let clash : true ≡ false = sym (ap not e) ∙ none in cc

  below : All (λ row. IsAtOrBelow edit.path.steps row.path) block
  below = below_of tables rows edit.path edit.action fits.action

  in_block : (row : Row) → Contains left row → IsAtOrBelow edit.path.steps row.path → Contains block row
  in_block row has at =
      subst (λ (rs : List Row). Contains rs row) (ap (λ rs. block_at rs edit.path.steps) (sym after_is) ∙ block_is_there tables rows edit.path (place_by edit.action edit.place) block below)
      (contains_kept (λ r. is_at_or_below edit.path.steps r.path) row left has ((below_is_below edit.path.steps row.path).1 at))

  changed : (row : Row) (change : Change) → Contains block row → change_at tables rows after row ≡ Some change → Contains (changes_by tables rows edit) change
  changed row change has made =
      Contains-append_right (map (λ r. record { path = r.path; right = MayDelete }) (filter (λ r. is_missing block r && not (gives_way tables block r)) (block_at rows edit.path.steps)))
      (filter_map (change_at tables rows after) block) change (contains_made (change_at tables rows after) block row change made has)

  pub created : (row : Row) → Contains left row → has_row rows row.path.steps ≡ false → (rights row.path MayCreate).permit ≡ true
  created row has new = permitted (record { path = row.path; right = MayCreate }) (changed row (record { path = row.path; right = MayCreate }) there made)
    where
      made : change_at tables rows after row ≡ Some (record { path = row.path; right = MayCreate })
      made = ap (λ b. cond {A = Option Change} (not b) (Some (record { path = row.path; right = MayCreate })) (cond {A = Option Change} (is_updated tables rows after row) (Some (record { path = row.path; right = MayUpdate })) None)) new

      there : Contains block row
      there = by (of_left tables rows edit.path (place_by edit.action edit.place) block row (subst (λ (rs : List Row). Contains rs row) (sym after_is) has))
        where
          by : Contains rows row ⊎ Contains block row → Contains block row
          by (inr here) = here
          by (inl old) = let clash : true ≡ false = sym (row_is_there rows row old) ∙ new in cc

  updated : (row : Row) → Contains left row → IsAtOrBelow edit.path.steps row.path → is_updated tables rows left row ≡ true → (rights row.path MayUpdate).permit ≡ true
  updated row has at update = permitted (record { path = row.path; right = MayUpdate }) (changed row (record { path = row.path; right = MayUpdate }) (in_block row has at) (by (has_row rows row.path.steps) refl))
    where
      is_now : is_updated tables rows after row ≡ true
      is_now = ap (λ rs. is_updated tables rows rs row) after_is ∙ update

      by : (b : Bool) → has_row rows row.path.steps ≡ b → cond {A = Option Change} (not b) (Some (record { path = row.path; right = MayCreate })) (cond {A = Option Change} (is_updated tables rows after row) (Some (record { path = row.path; right = MayUpdate })) None) ≡ Some (record { path = row.path; right = MayUpdate })
      by true e = ap (λ b. cond {A = Option Change} b (Some (record { path = row.path; right = MayUpdate })) None) is_now
      by false e =
          let none = ap (λ o. option_map_or (λ before. not (is_same_value before.value row.value) || has_moved tables rows after row.path.steps) o false) (not_found (λ r. is_same_path r.path.steps row.path.steps) rows e) in
          let clash : true ≡ false = sym is_now ∙ none in cc

  or_true : (a b : Bool) → b ≡ true → (a || b) ≡ true
  or_true true b e = refl
  or_true false b e = e

  pub changed_value : (row old : Row) → Contains left row → IsAtOrBelow edit.path.steps row.path → row_at rows row.path.steps ≡ Some old → is_same_value old.value row.value ≡ false → (rights row.path MayUpdate).permit ≡ true
  changed_value row old has at found other =
      updated row has at (ap (λ o. option_map_or (λ before. not (is_same_value before.value row.value) || has_moved tables rows left row.path.steps) o false) found ∙ ap (λ b. not b || has_moved tables rows left row.path.steps) other)

  pub moved : (row old : Row) → Contains left row → IsAtOrBelow edit.path.steps row.path → row_at rows row.path.steps ≡ Some old → has_moved tables rows left row.path.steps ≡ true → (rights row.path MayUpdate).permit ≡ true
  moved row old has at found moves =
      updated row has at (ap (λ o. option_map_or (λ before. not (is_same_value before.value row.value) || has_moved tables rows left row.path.steps) o false) found ∙ or_true (not (is_same_value old.value row.value)) (has_moved tables rows left row.path.steps) moves)

  pub dropped : (row : Row) → Contains rows row → has_row left row.path.steps ≡ false → ((rights row.path MayDelete).permit ≡ true) ⊎ ((other : Row) × Contains left other × (excludes tables other.path.steps row.path.steps ≡ true))
  dropped row has gone = by (gives_way tables block row) refl
    where
      by_place : gives_way tables block row ≡ false → (b : Bool) → is_at_or_below edit.path.steps row.path ≡ b → (rights row.path MayDelete).permit ≡ true
      by_place stays false e =
          let there = (others_stay tables rows edit.path (place_by edit.action edit.place) block below row (λ at. (let clash : true ≡ false = sym ((below_is_below edit.path.steps row.path).1 at) ∙ e in cc))).1
          (has, all_from _ block (λ added in_it. none_passes (λ b. excludes tables b.path.steps row.path.steps) block added stays in_it)) in
          let clash : true ≡ false = sym (row_is_there left row (subst (λ (rs : List Row). Contains rs row) after_is there)) ∙ gone in cc
      by_place stays true e =
          permitted (record { path = row.path; right = MayDelete })
          (Contains-append_left _ _ (record { path = row.path; right = MayDelete })
          (contains_map (λ r. record { path = r.path; right = MayDelete }) (filter (λ r. is_missing block r && not (gives_way tables block r)) (block_at rows edit.path.steps)) row
          (contains_kept (λ r. is_missing block r && not (gives_way tables block r)) row (block_at rows edit.path.steps) (contains_kept (λ r. is_at_or_below edit.path.steps r.path) row rows has e)
          (λ i. not (missing i) && not (stays i)))))
        where
          missing : has_row block row.path.steps ≡ false
          missing = is_false (has_row block row.path.steps) (λ there. (let found = some_passes (λ r. is_same_path r.path.steps row.path.steps) block there in
              let in_all = in_left tables rows edit fits found.0 found.1 in
              let again : has_row left row.path.steps ≡ true = passes left found.0 (subst (λ (rs : List Row). Contains rs found.0) after_is in_all) found.2 in
              let clash : true ≡ false = sym again ∙ gone in cc))
            where
              passes : (rs : List Row) (r : Row) → Contains rs r → is_same_path r.path.steps row.path.steps ≡ true → has_row rs row.path.steps ≡ true
              passes [] r there same = absurd (omega (arith, there.1))
              passes (x ∷ rs) r (zero, within, here) same = ap (λ y. is_same_path y.path.steps row.path.steps || has_row rs row.path.steps) here ∙ ap (λ b. b || has_row rs row.path.steps) same
              passes (x ∷ rs) r (suc k, within, here) same = or_true (is_same_path x.path.steps row.path.steps) (has_row rs row.path.steps) (passes rs r (k, omega (arith, within), here) same)

      by : (b : Bool) → gives_way tables block row ≡ b → ((rights row.path MayDelete).permit ≡ true) ⊎ ((other : Row) × Contains left other × (excludes tables other.path.steps row.path.steps ≡ true))
      by false e = inl (by_place e (is_at_or_below edit.path.steps row.path) refl)
      by true e =
          let found = some_passes (λ other. excludes tables other.path.steps row.path.steps) block e in
          inr (found.0, subst (λ (rs : List Row). Contains rs found.0) after_is (in_left tables rows edit fits found.0 found.1), found.2)

pub edit_asks : EditAsks
edit_asks = record {
  created = λ tables rights rows left edit made row. created tables rights rows left edit made.fits made.is row;
  changed = λ tables rights rows left edit made row old has at. changed_value tables rights rows left edit made.fits made.is row old has at;
  moved = λ tables rights rows left edit made row old has at. moved tables rights rows left edit made.fits made.is row old has at;
  dropped = λ tables rights rows left edit made row. dropped tables rights rows left edit made.fits made.is row;
}
