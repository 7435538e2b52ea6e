-- A row that comes after all rows before it is the first at its path: it is updated only where the user moved it.
use Rattle.std.proofs.Common.{◌≡◌, ◌&&◌, ◌||◌, ◌<◌, ◌≤◌, ◌+◌, ◌∙◌, ℕ, Bool, true, false, cond, not, List, [], ◌∷◌, ◌++◌, Option, Some, None, length, get_or, take, refl, sym, ap, subst, Bor}
use Rattle.std.specs.Prelude.{option_and_then, slice_get}
use Rattle.std.specs.Cmp.{IsTotalOrder}
use Rattle.std.specs.List.{filter, last_or}
use Rattle.std.specs.Option.{option_map_or}
use Rattle.std.specs.Ordering.{is_lt}
use Rattle.std.specs.declared.cmp.Ordering.{Ordering}
use Rattle.std.specs.declared.cmp.Ordering.TheVariants.{Less, Equal, Greater}
use Rattle.std.proofs.lemmas.Cmp.{lists_total, nat_cmp_total, nat_list_cmp_total, on_total, then_total, tied_itself}
use Rattle.std.proofs.lemmas.List.{append_assoc, append-nil, take_all, take_more}
use Rattle.std.proofs.lemmas.List.Elements.{filter-append}
use Rattle.std.proofs.lemmas.List.Folds.{list_all-append}
use Rattle.nc_names.proofs.SameLemmas.{value_decide}
use Rattle.nc_names.proofs.StepOrder.{same_itself, same_path}
use Rattle.nc_names.specs.Same.{is_same_path, is_same_value}
use Rattle.nc_names.specs.declared.path.Row.{Row}
use Rattle.nc_names.specs.declared.path.Step.{Step}
use Rattle.nc_schema.specs.Blocks.{entries_beside, row_at}
use Rattle.nc_schema.specs.Standing.{is_by_user}
use Rattle.nc_schema.specs.Tables.{Tables}
use Rattle.nc_protocol.specs.Changes.{has_moved, is_updated, moves_between}
use Rattle.nc_changes.specs.inner.Asked.{AddsAsked, AreAsked, are_below, is_above, is_ordered, order}
use Rattle.nc_changes.specs.inner.Common.{rows_of}

pub order_total : IsTotalOrder order
order_total = lists_total (then_total (on_total (λ (s : Step). s.node) nat_cmp_total) (on_total (λ (s : Step). s.keys) (lists_total nat_list_cmp_total)))

first_true : (a b : Bool) → (a && b) ≡ true → a ≡ true
first_true true b e = refl
first_true false b e = e

second_true : (a b : Bool) → (a && b) ≡ true → b ≡ true
second_true true b e = e
second_true false b e = absurd (cc e)

less_is : (o : Ordering) → is_lt o ≡ true → o ≡ Less
less_is Less e = refl
less_is Equal e = absurd (cc e)
less_is Greater e = absurd (cc e)

not_true : (b : Bool) → not b ≡ true → b ≡ false
not_true true e = absurd (cc e)
not_true false e = refl

-- ---- rows below steps
-- what is below steps is below higher ones
higher : (low high : List Step) (rows : List Row) → is_lt (order low high) ≡ true → are_below low rows ≡ true → are_below high rows ≡ true
higher low high [] above is = refl
higher low high (row ∷ rows) above is =
    (λ i. not (here (is_above high row) refl i) && higher low high rows above (second_true (not (is_above low row)) (are_below low rows) is) i)
  where
    here : (b : Bool) → is_above high row ≡ b → is_above high row ≡ false
    here false e = e
    here true e =
        let over : is_above low row ≡ true =
        ap is_lt (order_total.trans low high row.path.steps (less_is (order low high) above) (less_is (order high row.path.steps) e)) in
        let under : is_above low row ≡ false = not_true (is_above low row) (first_true (not (is_above low row)) (are_below low rows) is) in
        absurd (cc (over, under))

below_push : (highest : List Step) (rows : List Row) (row : Row) → is_above highest row ≡ false → are_below highest rows ≡ true →
    are_below highest (rows ++ row ∷ []) ≡ true
below_push highest rows row under is =
    list_all-append (λ one. not (is_above highest one)) rows (row ∷ []) ∙ (λ i. is i && (not (under i) && true))

-- a row is not above its own steps
itself : (row : Row) → is_above row.path.steps row ≡ false
itself row = ap is_lt (tied_itself order_total row.path.steps)

pub below_kept : (highest : List Step) (before rows : List Row) (row : Row) → is_above highest row ≡ false → are_below highest (before ++ rows) ≡ true →
    are_below highest (before ++ (rows ++ row ∷ [])) ≡ true
below_kept highest before rows row under is =
    ap (are_below highest) (sym (append_assoc before rows (row ∷ []))) ∙ below_push highest (before ++ rows) row under is

pub below_raised : (highest : List Step) (before rows : List Row) (row : Row) → is_above highest row ≡ true → are_below highest (before ++ rows) ≡ true →
    are_below row.path.steps (before ++ (rows ++ row ∷ [])) ≡ true
below_raised highest before rows row above is =
    below_kept row.path.steps before rows row (itself row) (higher highest row.path.steps (before ++ rows) above is)

-- ---- a row above all before it
-- no row before it has its path
apart : (highest : List Step) (row other : Row) → is_above highest row ≡ true → is_above highest other ≡ false → is_same_path other.path.steps row.path.steps ≡ false
apart highest row other above under = by (is_same_path other.path.steps row.path.steps) refl
  where
    by : (b : Bool) → is_same_path other.path.steps row.path.steps ≡ b → b ≡ false
    by false e = refl
    by true e =
        let over : is_above highest other ≡ true = ap (λ (steps : List Step). is_lt (order highest steps)) (same_path other.path.steps row.path.steps e) ∙ above in
        absurd (cc (over, under))

found_first : (highest : List Step) (before after : List Row) (row : Row) → is_above highest row ≡ true → are_below highest before ≡ true →
    row_at (before ++ row ∷ after) row.path.steps ≡ Some row
found_first highest [] after row above is = ap (λ b. cond b (Some row) (row_at after row.path.steps)) (same_itself row.path.steps row.path.steps refl)
found_first highest (first ∷ before) after row above is =
    ap (λ b. cond b (Some first) (row_at (before ++ row ∷ after) row.path.steps))
    (apart highest row first above (not_true (is_above highest first) (first_true (not (is_above highest first)) (are_below highest before) is)))
    ∙ found_first highest before after row above (second_true (not (is_above highest first)) (are_below highest before) is)

pub unmoved : (tables : Tables) (old new : List Row) (steps : List Step) → is_ordered tables steps ≡ false → has_moved tables old new steps ≡ false
unmoved tables old new steps none = by (last_or None steps) none
  where
    by : (last : Option Step) → option_map_or (λ node. node.by_user) (option_and_then (λ step. slice_get tables.nodes step.node) last) false ≡ false →
        option_map_or (λ step. is_by_user tables step.node && moves_between (entries_beside old steps) (entries_beside new steps) step.keys) last false ≡ false
    by None e = refl
    by (Some step) e = ap (λ b. b && moves_between (entries_beside old steps) (entries_beside new steps) step.keys) e

not_updated : (tables : Tables) (highest : List Step) (old new before after : List Row) (row : Row) → old ≡ before ++ row ∷ after → is_above highest row ≡ true →
    are_below highest before ≡ true → is_ordered tables row.path.steps ≡ false → is_updated tables old new row ≡ false
not_updated tables highest old new before after row cut above is none =
    ap (λ (stood : Option Row). option_map_or (λ (one : Row). not (is_same_value one.value row.value) || has_moved tables old new row.path.steps) stood false)
    (ap (λ (rows : List Row). row_at rows row.path.steps) cut ∙ found_first highest before after row above is)
    ∙ (λ i. not ((value_decide row.value row.value).1 refl i) || unmoved tables old new row.path.steps none i)

-- ---- one row more
module _ (tables : Tables) (highest : List Step) (rows asked more : List Row) (last : List Step) (row : Row) where
  cut_on : (old before after : List Row) → old ≡ before ++ ((rows ++ row ∷ []) ++ after) → old ≡ before ++ (rows ++ row ∷ after)
  cut_on old before after cut = cut ∙ ap (λ (list : List Row). before ++ list) (append_assoc rows (row ∷ []) after)

  with_row : (old new : List Row) → filter (is_updated tables old new) more ≡ filter (is_updated tables old new) (asked ++ rows) →
      filter (is_updated tables old new) (more ++ row ∷ []) ≡ filter (is_updated tables old new) (asked ++ (rows ++ row ∷ []))
  with_row old new is =
      filter-append (is_updated tables old new) more (row ∷ []) ∙ ap (λ (list : List Row). list ++ filter (is_updated tables old new) (row ∷ [])) is
      ∙ sym (filter-append (is_updated tables old new) (asked ++ rows) (row ∷ []))
      ∙ ap (filter (is_updated tables old new)) (append_assoc asked rows (row ∷ []))

  pub asked_below : is_above last row ≡ false → AddsAsked tables highest rows asked more last → AddsAsked tables highest (rows ++ row ∷ []) asked (more ++ row ∷ []) last
  asked_below under adds old new before after cut is =
      let so_far = adds old new before (row ∷ after) (cut_on old before after cut) is in (
        below_kept last before rows row under so_far.0,
        with_row old new so_far.1,
      )

  pub asked_above : is_above last row ≡ true → AddsAsked tables highest rows asked more last →
      AddsAsked tables highest (rows ++ row ∷ []) asked (more ++ row ∷ []) row.path.steps
  asked_above above adds old new before after cut is =
      let so_far = adds old new before (row ∷ after) (cut_on old before after cut) is in (
        below_raised last before rows row above so_far.0,
        with_row old new so_far.1,
      )

  pub not_asked : is_above last row ≡ true → is_ordered tables row.path.steps ≡ false → AddsAsked tables highest rows asked more last →
      AddsAsked tables highest (rows ++ row ∷ []) asked more row.path.steps
  not_asked above none adds old new before after cut is =
      let so_far = adds old new before (row ∷ after) (cut_on old before after cut) is in (
        below_raised last before rows row above so_far.0,
        so_far.1 ∙ sym (append-nil (filter (is_updated tables old new) (asked ++ rows)))
            ∙ ap (λ (b : Bool). filter (is_updated tables old new) (asked ++ rows) ++ cond b (row ∷ []) [])
            (sym (not_updated tables last old new (before ++ rows) after row (cut_on old before after cut ∙ sym (append_assoc before rows (row ∷ after))) above so_far.0 none))
            ∙ sym (filter-append (is_updated tables old new) (asked ++ rows) (row ∷ []))
            ∙ ap (filter (is_updated tables old new)) (append_assoc asked rows (row ∷ [])),
      )

pub none_asked : (tables : Tables) (highest : List Step) (asked : List Row) → AddsAsked tables highest [] asked asked highest
none_asked tables highest asked old new before after cut is = (
  ap (are_below highest) (append-nil before) ∙ is,
  ap (filter (is_updated tables old new)) (sym (append-nil asked)),
)

-- ---- all of them
pub all_taken : (tables : Tables) (highest : List Step) (rows : List (Bor Row)) (at : ℕ) (asked more : List Row) (last : List Step) → length rows ≤ at →
    AddsAsked tables highest (rows_of (take at rows)) asked more last → AddsAsked tables highest (rows_of rows) asked more last
all_taken tables highest rows at asked more last past =
    subst (λ (list : List (Bor Row)). AddsAsked tables highest (rows_of list) asked more last) (take_all at rows past)

pub all_asked : (tables : Tables) (front gone come back none one two three : List Row) (low middle high : List Step) → none ≡ [] →
    AddsAsked tables [] front none one low → ((before : List Row) → are_below low before ≡ true → are_below middle (before ++ gone) ≡ true) →
    two ≡ one ++ come → AddsAsked tables middle back two three high → AreAsked tables front gone come back three
all_asked tables front gone come back none one two three low middle high empty first raises joined last =
    (last old new (front ++ gone) [] (sym (append_assoc front gone back) ∙ ap (λ (list : List Row). front ++ gone ++ list) (sym (append-nil back)))
    (raises front so_far.0)).1
    ∙ filter-append p two back
    ∙ ap (λ (list : List Row). list ++ filter p back) (ap (filter p) joined ∙ filter-append p one come)
    ∙ ap (λ (list : List Row). list ++ filter p come ++ filter p back) (so_far.1 ∙ ap (λ (list : List Row). filter p (list ++ front)) empty)
    ∙ append_assoc (filter p front) (filter p come) (filter p back)
    ∙ ap (λ (list : List Row). filter p front ++ list) (sym (filter-append p come back))
    ∙ sym (filter-append p front (come ++ back))
  where
    old : List Row
    old = front ++ (gone ++ back)

    new : List Row
    new = front ++ (come ++ back)

    p : Row → Bool
    p = is_updated tables old new

    so_far : (are_below low front ≡ true) × (filter p one ≡ filter p (none ++ front))
    so_far = first old new [] (gone ++ back) refl refl

-- ---- lists of references
pub rows_push : (rows : List (Bor Row)) (row : Bor Row) → rows_of (rows ++ row ∷ []) ≡ rows_of rows ++ row.now ∷ []
rows_push [] row = refl
rows_push (first ∷ rows) row = ap (λ more. first.now ∷ more) (rows_push rows row)

pub rows_more : (rows : List (Bor Row)) (at : ℕ) (row : Bor Row) → at < length rows → row ≡ get_or rows at row →
    rows_of (take at rows) ++ row.now ∷ [] ≡ rows_of (take (at + 1) rows)
rows_more rows at row within is =
    sym (rows_push (take at rows) row) ∙ ap rows_of (ap (λ one. take at rows ++ one ∷ []) is ∙ sym (take_more rows at row within))

-- ---- one turn of the walk
module _ (tables : Tables) (highest last : List Step) (rows asked more : List (Bor Row)) (at : ℕ) (row : Bor Row) (steps : List Step) (within : at < length rows) (is : row ≡ get_or rows at row)
    (steps_are : steps ≡ row.now.path.steps) (so_far : AddsAsked tables highest (rows_of (take at rows)) (rows_of asked) (rows_of more) last) where
  with_next : (now : List Row) (high : List Step) → AddsAsked tables highest (rows_of (take at rows) ++ row.now ∷ []) (rows_of asked) now high →
      AddsAsked tables highest (rows_of (take (at + 1) rows)) (rows_of asked) now high
  with_next now high = subst (λ (list : List Row). AddsAsked tables highest list (rows_of asked) now high) (rows_more rows at row within is)

  pushed : (now : List (Bor Row)) → now ≡ more ++ row ∷ [] → rows_of more ++ row.now ∷ [] ≡ rows_of now
  pushed now push = sym (rows_push more row) ∙ ap rows_of (sym push)

  pub turn_below : (now : List (Bor Row)) → now ≡ more ++ row ∷ [] → is_lt (order last steps) ≡ false →
      AddsAsked tables highest (rows_of (take (at + 1) rows)) (rows_of asked) (rows_of now) last
  turn_below now push under =
      subst (λ (list : List Row). AddsAsked tables highest (rows_of (take (at + 1) rows)) (rows_of asked) list last) (pushed now push)
      (with_next (rows_of more ++ row.now ∷ []) last
      (asked_below tables highest (rows_of (take at rows)) (rows_of asked) (rows_of more) last row.now
      (ap (λ (one : List Step). is_lt (order last one)) (sym steps_are) ∙ under) so_far))

  pub turn_above : (now : List (Bor Row)) → now ≡ more ++ row ∷ [] → is_lt (order last steps) ≡ true →
      AddsAsked tables highest (rows_of (take (at + 1) rows)) (rows_of asked) (rows_of now) steps
  turn_above now push above =
      subst (λ (high : List Step). AddsAsked tables highest (rows_of (take (at + 1) rows)) (rows_of asked) (rows_of now) high) (sym steps_are)
      (subst (λ (list : List Row). AddsAsked tables highest (rows_of (take (at + 1) rows)) (rows_of asked) list row.now.path.steps) (pushed now push)
      (with_next (rows_of more ++ row.now ∷ []) row.now.path.steps
      (asked_above tables highest (rows_of (take at rows)) (rows_of asked) (rows_of more) last row.now
      (ap (λ (one : List Step). is_lt (order last one)) (sym steps_are) ∙ above) so_far)))

  pub turn_passed : is_lt (order last steps) ≡ true → is_ordered tables steps ≡ false →
      AddsAsked tables highest (rows_of (take (at + 1) rows)) (rows_of asked) (rows_of more) steps
  turn_passed above none =
      subst (λ (high : List Step). AddsAsked tables highest (rows_of (take (at + 1) rows)) (rows_of asked) (rows_of more) high) (sym steps_are)
      (with_next (rows_of more) row.now.path.steps
      (not_asked tables highest (rows_of (take at rows)) (rows_of asked) (rows_of more) last row.now
      (ap (λ (one : List Step). is_lt (order last one)) (sym steps_are) ∙ above) (ap (is_ordered tables) (sym steps_are) ∙ none) so_far))

-- ---- the highest steps alone
module _ (rows : List (Bor Row)) (at : ℕ) (row : Bor Row) (last steps : List Step) (within : at < length rows) (is : row ≡ get_or rows at row) (steps_are : steps ≡ row.now.path.steps)
    (before : List Row) (so_far : are_below last (before ++ rows_of (take at rows)) ≡ true) where
  pub stays_highest : is_lt (order last steps) ≡ false → are_below last (before ++ rows_of (take (at + 1) rows)) ≡ true
  stays_highest under =
      ap (λ (list : List Row). are_below last (before ++ list)) (sym (rows_more rows at row within is))
      ∙ below_kept last before (rows_of (take at rows)) row.now (ap (λ (one : List Step). is_lt (order last one)) (sym steps_are) ∙ under) so_far

  pub gets_highest : is_lt (order last steps) ≡ true → are_below steps (before ++ rows_of (take (at + 1) rows)) ≡ true
  gets_highest above =
      (λ i. are_below (steps_are i) (before ++ sym (rows_more rows at row within is) i))
      ∙ below_raised last before (rows_of (take at rows)) row.now (ap (λ (one : List Step). is_lt (order last one)) (sym steps_are) ∙ above) so_far
