-- What a merge leaves is the rows before with the new ones in their places.
use Rattle.std.proofs.Common.{◌≡◌, ◌≢◌, ◌⊎◌, ◌||◌, ◌&&◌, ◌<◌, ◌≤◌, ◌+◌, ℕ, suc, Bool, true, false, cond, not, List, [], ◌∷◌, ◌++◌, length, take, drop, drop-cons, get_or, map, Option, Some, None, refl, sym, ap, subst, ◌∙◌, inl, inr, arith, append_assoc}
use Rattle.std.proofs.lemmas.Bool.{false_from_ne_true}
use Rattle.std.proofs.lemmas.List.{append-nil, take_more}
use Rattle.std.proofs.lemmas.Cmp.{tied_itself}
use Rattle.std.proofs.lemmas.List.Elements.{All-append, filter-append}
use Rattle.std.specs.List.{All, Contains, filter, list_any}
use Rattle.std.specs.List.Sorted.{IsStrictlySortedBy}
use Rattle.std.specs.BTreeMap.{insert_entry, is_at}
use Rattle.std.specs.Map.{keys_of, lookup, values_of}
use Rattle.std.specs.Ordering.{is_lt, ordering_reverse}
use Rattle.std.specs.Prelude.{fold}
use Rattle.std.specs.declared.cmp.Ordering.{Ordering}
use Rattle.std.specs.declared.cmp.Ordering.TheVariants.{Less, Equal, Greater}
use Rattle.nc_names.specs.Same.{is_at_or_below, is_same_path}
use Rattle.nc_names.specs.declared.path.Path.{Path}
use Rattle.nc_names.specs.declared.path.Place.TheVariants.{Kept}
use Rattle.nc_names.specs.declared.path.Row.{Row}
use Rattle.nc_names.specs.declared.path.Step.{Step}
use Rattle.nc_names.proofs.StepOrder.{same_itself, same_path}
use Rattle.nc_schema.specs.Blocks.{at_node, rows_of_node, with_block}
use Rattle.nc_schema.specs.Kinds.{has_value}
use Rattle.nc_schema.specs.Standing.{block_at, excludes, exists, has_row, is_by_user, is_less, steps_before}
use Rattle.nc_schema.specs.Tables.{Tables}
use Rattle.nc_protocol.specs.Edited.{left_by}
use Rattle.nc_protocol.specs.declared.edit.Action.TheVariants.{Merge}
use Rattle.nc_protocol.specs.declared.edit.Edit.{Edit}
use Rattle.nc_protocol.proofs.ListLemmas.{all_one, contains_behind, contains_split, fold_join, last_cut, same_before, some_same, too_long}
use Rattle.nc_protocol.proofs.Parts.{all_at, all_from, contains_kept}
use Rattle.nc_protocol.proofs.PathViews.{IsLower}
use Rattle.nc_protocol.proofs.PlaceLemmas.{below_is_below, less_is}
use Rattle.nc_payload.proofs.HeldLemmas.{AreBeside, IsApart, is_apart, known_at, none_excludes, row_seen}
use Rattle.nc_payload.proofs.MarkLemmas.{marks_total}
use Rattle.nc_payload.proofs.PutLemmas.{all_kept, climbs_all, contains_either, cut_rows, first_before, first_or_behind, is_first, kept_true, none_in, none_kept, put_all, put_entry, same_kept, sorted_behind}
use Rattle.nc_payload.specs.declared.gather.Gathered.{Gathered}
use Rattle.nc_payload.specs.declared.marks.Mark.{Mark}
use Rattle.nc_payload.specs.declared.marks.Turns.{Turns}
use Rattle.nc_payload.specs.inner.Gathered.{AreBelow, AreKnown, Climbs, Gathers, Holds, IsFresh, IsHeld, IsKnown, Stands, TakesBlock, TakesPlace, TakesRow, TakesRows, goes_before, has_seen, put, row_marks, with_marks}
use Rattle.nc_payload.specs.inner.Marks.{in_marks, marks, turn_of}
use Rattle.nc_payload.specs.inner.Places.{order}

either : (a b : Bool) → (a || b) ≡ true → (a ≡ true) ⊎ (b ≡ true)
either true b e = inl refl
either false b e = inr e

or_first : (a b : Bool) → a ≡ true → (a || b) ≡ true
or_first a b e = ap (λ (x : Bool). x || b) e

or_second : (a b : Bool) → b ≡ true → (a || b) ≡ true
or_second true b e = refl
or_second false b e = e

none_of : {X : Type 0} (p : X → Bool) (xs : List X) → ((x : X) → Contains xs x → p x ≡ false) → list_any p xs ≡ false
none_of p [] all = refl
none_of p (x ∷ xs) all = (λ i. all x (is_first x xs) i || list_any p xs) ∙ none_of p xs (λ y has. all y (contains_behind x xs y has))

in_left : {X : Type 0} (xs ys : List X) (x : X) → Contains xs x → Contains (xs ++ ys) x
in_left [] ys x has = absurd (none_in x has)
in_left (y ∷ xs) ys x has = by (first_or_behind y xs x has) (in_left xs ys x)
  where
    by : (y ≡ x) ⊎ Contains xs x → (Contains xs x → Contains (xs ++ ys) x) → Contains (y ∷ (xs ++ ys)) x
    by (inl same) rest = subst (λ z. Contains (y ∷ (xs ++ ys)) z) same (is_first y (xs ++ ys))
    by (inr more) rest = contains_behind y (xs ++ ys) x (rest more)

in_right : {X : Type 0} (xs ys : List X) (x : X) → Contains ys x → Contains (xs ++ ys) x
in_right [] ys x has = has
in_right (y ∷ xs) ys x has = contains_behind y (xs ++ ys) x (in_right xs ys x has)

sorted_none : IsStrictlySortedBy in_marks []
unfolding IsStrictlySortedBy
sorted_none = tt

pub all_more : {X : Type 0} (P : X → Type 0) (items : List X) (i : ℕ) (d : X) → i < length items → P (get_or items i d) → All P (take i items) → All P (take (i + 1) items)
all_more P items i d within p all =
    subst (All P) (sym (take_more items i d within)) (All-append P (take i items) (get_or items i d ∷ []) all (all_one P (get_or items i d) p))

module _ (tables : Tables) (turns : Turns) where
  -- ---- what grows keeps what is known
  pub record Grows (before after : Gathered) (rows more : List Row) (steps : List Step) : Type 0 where
    pub same : after.base ≡ before.base
    pub added : (key : List Step) → has_seen after key ≡ (has_seen before key || is_same_path steps key)
    pub stays : (key : List Step) → has_row rows key ≡ true → has_row more key ≡ true
    pub later : before.next ≤ after.next

  seen_more : (before after : Gathered) (rows more : List Row) (steps key : List Step) → Grows before after rows more steps → has_seen before key ≡ true → has_seen after key ≡ true
  seen_more before after rows more steps key grows seen = grows.added key ∙ or_first (has_seen before key) (is_same_path steps key) seen

  known_more : (before after : Gathered) (rows more : List Row) (new above steps : List Step) → Grows before after rows more new → AreKnown tables turns before rows above steps → AreKnown tables turns after more above steps
  known_more before after rows more new above [] grows known = tt
  known_more before after rows more new above (step ∷ rest) grows known = (
    record {
      seen = seen_more before after rows more new (above ++ step ∷ []) grows known.0.seen;
      stands = λ user. let stood = known.0.stands user in (grows.stays (above ++ step ∷ []) stood.0, later stood.1);
      chosen = known.0.chosen;
      inner = known.0.inner;
    },
    known_more before after rows more new (above ++ step ∷ []) rest grows known.1,
  )
    where
      later : turn_of turns (above ++ step ∷ []) < before.next → turn_of turns (above ++ step ∷ []) < after.next
      later less = omega (arith, less, grows.later)

  known_last : (so_far : Gathered) (rows : List Row) (above xs : List Step) (step : Step) → AreKnown tables turns so_far rows above xs → IsKnown tables turns so_far rows (above ++ xs) step → AreKnown tables turns so_far rows above (xs ++ step ∷ [])
  known_last so_far rows above [] step known last = (subst (λ (a : List Step). IsKnown tables turns so_far rows a step) (append-nil above) last, tt)
  known_last so_far rows above (x ∷ xs) step known last =
      (known.0, known_last so_far rows (above ++ x ∷ []) xs step known.1 (subst (λ (a : List Step). IsKnown tables turns so_far rows a step) (sym (append_assoc above (x ∷ []) xs)) last))

  -- a fresh node's step is known afterwards
  abbrev pub IsTaken : Gathered → List Row → (before : Gathered) → (steps : List Step) → IsFresh tables turns before steps → Type 0
  IsTaken after more before steps fresh = is_by_user tables fresh.step.node ≡ true → (has_row more steps ≡ true) × (turn_of turns steps < after.next)

  -- what a fresh node is in is the base, or known
  parent_held : (so_far : Gathered) (rows : List Row) (steps : List Step) → Holds tables turns so_far rows → (fresh : IsFresh tables turns so_far steps) → IsHeld tables turns so_far rows fresh.above
  parent_held so_far rows steps holds fresh = by fresh.free.parent
    where
      by : (fresh.above ≡ so_far.base) ⊎ (has_seen so_far fresh.above ≡ true) → IsHeld tables turns so_far rows fresh.above
      by (inl same) = record { rest = []; is = same ∙ sym (append-nil so_far.base); known = tt }
      by (inr there) = holds.known fresh.above there

  held_more : (before after : Gathered) (rows more : List Row) (new steps : List Step) → Grows before after rows more new → IsHeld tables turns before rows steps → IsHeld tables turns after more steps
  held_more before after rows more new steps grows held = record {
    rest = held.rest;
    is = held.is ∙ ap (λ (b : List Step). b ++ held.rest) (sym grows.same);
    known = subst (λ (b : List Step). AreKnown tables turns after more b held.rest) (sym grows.same) (known_more before after rows more new before.base held.rest grows held.known);
  }

  held_last : (so_far : Gathered) (rows : List Row) (above : List Step) (step : Step) → IsHeld tables turns so_far rows above → IsKnown tables turns so_far rows above step → IsHeld tables turns so_far rows (above ++ step ∷ [])
  held_last so_far rows above step held last = record {
    rest = held.rest ++ step ∷ [];
    is = ap (λ (a : List Step). a ++ step ∷ []) held.is ∙ append_assoc so_far.base held.rest (step ∷ []);
    known = known_last so_far rows so_far.base held.rest step held.known (subst (λ (a : List Step). IsKnown tables turns so_far rows a step) held.is last);
  }

  all_known : (before after : Gathered) (rows more : List Row) (new : List Step) (fresh : IsFresh tables turns before new) → Holds tables turns before rows → Grows before after rows more new → IsTaken after more before new fresh →
      (steps : List Step) → has_seen after steps ≡ true → IsHeld tables turns after more steps
  all_known before after rows more new fresh holds grows taken steps seen = by (either (has_seen before steps) (is_same_path new steps) (sym (grows.added steps) ∙ seen))
    where
      last : IsKnown tables turns after more fresh.above fresh.step
      last = record {
        seen = ap (has_seen after) (sym fresh.is) ∙ grows.added new ∙ or_second (has_seen before new) (is_same_path new new) (same_itself new new refl);
        stands = λ user. subst (λ (s : List Step). (has_row more s ≡ true) × (turn_of turns s < after.next)) fresh.is (taken user);
        chosen = fresh.free.chosen;
        inner = fresh.free.inner;
      }

      by : (has_seen before steps ≡ true) ⊎ (is_same_path new steps ≡ true) → IsHeld tables turns after more steps
      by (inl there) = held_more before after rows more new steps grows (holds.known steps there)
      by (inr here) =
          subst (λ (s : List Step). IsHeld tables turns after more s) (sym fresh.is ∙ same_path new steps here)
          (held_last after more fresh.above fresh.step (held_more before after rows more new fresh.above grows (parent_held before rows new holds fresh)) last)

  -- ---- where a fresh node stands
  pub not_below : (so_far : Gathered) (rows : List Row) (steps : List Step) (row : Row) → Holds tables turns so_far rows → IsFresh tables turns so_far steps → Contains rows row → ¬ IsLower row.path.steps steps
  not_below so_far rows steps row holds fresh has (rest, is) =
      let held = parent_held so_far rows steps holds fresh in
      let known = known_at tables turns so_far rows row.path.steps fresh.above held.rest fresh.step rest holds (row_seen tables turns so_far rows row holds has)
      (is ∙ ap (λ (s : List Step). s ++ rest) fresh.is ∙ append_assoc fresh.above (fresh.step ∷ []) rest) held.is in
      let clash : true ≡ false = sym known.seen ∙ ap (has_seen so_far) (sym fresh.is) ∙ fresh.free.new in
      cc

  longer : (base inner : List Step) (step : Step) (more : List Step) → ¬ (base ≡ ((base ++ inner) ++ step ∷ []) ++ more)
  longer base [] step more e = too_long base step [] more (e ∙ ap (λ (b : List Step). (b ++ step ∷ []) ++ more) (append-nil base))
  longer base (y ∷ ys) step more e = too_long base y (ys ++ step ∷ []) more (e ∙ ap (λ (s : List Step). s ++ more) (append_assoc base (y ∷ ys) (step ∷ [])))

  pub fresh_beside : (so_far : Gathered) (rows : List Row) (steps : List Step) → Holds tables turns so_far rows → IsFresh tables turns so_far steps → AreBeside tables turns so_far rows steps
  fresh_beside so_far rows steps holds fresh xs inner step ys is below user = by (last_cut fresh.above (xs ++ step ∷ []) ys fresh.step (sym fresh.is ∙ is ∙ sym (append_assoc xs (step ∷ []) ys)))
    where
      known : (fresh.above ≡ so_far.base) ⊎ (has_seen so_far fresh.above ≡ true) → (more : List Step) → fresh.above ≡ (xs ++ step ∷ []) ++ more → has_row rows (xs ++ step ∷ []) ≡ true
      known (inl none) more cut = absurd (longer so_far.base inner step more (sym none ∙ cut ∙ ap (λ (a : List Step). (a ++ step ∷ []) ++ more) below))
      known (inr there) more cut = ((known_at tables turns so_far rows fresh.above xs inner step more holds there (cut ∙ append_assoc xs (step ∷ []) more) below).stands user).0

      by : (ys ≡ []) ⊎ ((more : List Step) × (fresh.above ≡ (xs ++ step ∷ []) ++ more)) → (has_row rows (xs ++ step ∷ []) ≡ true) ⊎ (so_far.next ≤ turn_of turns (xs ++ step ∷ []))
      by (inr (more, cut)) = inl (known fresh.free.parent more cut)
      by (inl none) =
          let whole : steps ≡ xs ++ step ∷ [] = is ∙ ap (λ (more : List Step). xs ++ step ∷ more) none in
          let same = same_before fresh.above xs fresh.step step (sym fresh.is ∙ whole) in
          inr (subst (λ (s : List Step). so_far.next ≤ turn_of turns s) whole (fresh.turn (ap (λ (s : Step). is_by_user tables s.node) same.1 ∙ user)))

  fresh_apart : (so_far : Gathered) (rows : List Row) (steps : List Step) (row : Row) → Holds tables turns so_far rows → IsFresh tables turns so_far steps → Contains rows row → IsApart tables turns rows row steps
  fresh_apart so_far rows steps row holds fresh has =
      let held = parent_held so_far rows steps holds fresh in
      is_apart tables turns so_far rows row steps (held.rest ++ fresh.step ∷ []) (fresh.is ∙ ap (λ (a : List Step). a ++ fresh.step ∷ []) held.is ∙ append_assoc so_far.base held.rest (fresh.step ∷ [])) holds has (fresh_beside so_far rows steps holds fresh) (not_below so_far rows steps row holds fresh has)

  -- the marks of what is at or below a fresh node are on one side of a row
  side_of : (so_far : Gathered) (rows : List Row) (steps rest : List Step) (row other : Row) (holds : Holds tables turns so_far rows) (fresh : IsFresh tables turns so_far steps) (has : Contains rows other) →
      row.path.steps ≡ steps ++ rest → in_marks (row_marks tables turns other) (row_marks tables turns row) ≡ (fresh_apart so_far rows steps other holds fresh has).side
  side_of so_far rows steps rest row other holds fresh has is =
      ap (λ (s : List Step). in_marks (row_marks tables turns other) (marks tables (turn_of turns) s)) is ∙ (fresh_apart so_far rows steps other holds fresh has).each rest

  row_apart : (so_far : Gathered) (rows : List Row) (row other : Row) → Holds tables turns so_far rows → IsFresh tables turns so_far row.path.steps → Contains rows other → in_marks (row_marks tables turns other) (row_marks tables turns row) ≢ Equal
  row_apart so_far rows row other holds fresh has tied =
      (fresh_apart so_far rows row.path.steps other holds fresh has).differs (sym (side_of so_far rows row.path.steps [] row other holds fresh has (sym (append-nil row.path.steps))) ∙ tied)

  -- ---- a row more
  in_put : (rows : List Row) (row other : Row) → Contains rows other → Contains (put tables turns rows row) other
  in_put rows row other has = by (goes_before tables turns other row) refl
    where
      before : Row → Bool
      before one = goes_before tables turns one row

      by : (b : Bool) → before other ≡ b → Contains (put tables turns rows row) other
      by true e = in_left (filter before rows) (row ∷ filter (λ one. not (before one)) rows) other (contains_kept before other rows has e)
      by false e = in_right (filter before rows) (row ∷ filter (λ one. not (before one)) rows) other
          (contains_behind row (filter (λ one. not (before one)) rows) other (contains_kept (λ one. not (before one)) other rows has (ap not e)))

  row_in_put : (rows : List Row) (row : Row) → Contains (put tables turns rows row) row
  row_in_put rows row = in_right (filter (λ one. goes_before tables turns one row) rows) (row ∷ filter (λ one. not (goes_before tables turns one row)) rows) row (is_first row (filter (λ one. not (goes_before tables turns one row)) rows))

  some_there : (p : Row → Bool) (rows : List Row) (row : Row) → Contains rows row → p row ≡ true → list_any p rows ≡ true
  some_there p [] row has is = absurd (none_in row has)
  some_there p (first ∷ rows) row has is = by (first_or_behind first rows row has) (λ more. some_there p rows row more is)
    where
      by : (first ≡ row) ⊎ Contains rows row → (Contains rows row → list_any p rows ≡ true) → (p first || list_any p rows) ≡ true
      by (inl same) rest = or_first (p first) (list_any p rows) (ap p same ∙ is)
      by (inr more) rest = or_second (p first) (list_any p rows) (rest more)

  there_is : (p : Row → Bool) (rows : List Row) → list_any p rows ≡ true → (row : Row) × Contains rows row × (p row ≡ true)
  there_is p [] e = absurd (let clash : false ≡ true = e in cc)
  there_is p (first ∷ rows) e = by (either (p first) (list_any p rows) e) (there_is p rows)
    where
      by : (p first ≡ true) ⊎ (list_any p rows ≡ true) → (list_any p rows ≡ true → (row : Row) × Contains rows row × (p row ≡ true)) → (row : Row) × Contains (first ∷ rows) row × (p row ≡ true)
      by (inl here) rest = (first, is_first first rows, here)
      by (inr more) rest = let found = rest more in (found.0, contains_behind first rows found.0 found.1, found.2)

  put_stays : (rows : List Row) (row : Row) (key : List Step) → has_row rows key ≡ true → has_row (put tables turns rows row) key ≡ true
  put_stays rows row key has =
      let found = there_is (λ (r : Row). is_same_path r.path.steps key) rows has in
      some_there (λ (r : Row). is_same_path r.path.steps key) (put tables turns rows row) found.0 (in_put rows row found.0 found.1) found.2

  from_put : (rows : List Row) (row other : Row) → Contains (put tables turns rows row) other → (row ≡ other) ⊎ Contains rows other
  from_put rows row other has = by (contains_either tables turns (filter before rows) (row ∷ filter (λ one. not (before one)) rows) other has)
    where
      before : Row → Bool
      before one = goes_before tables turns one row

      back : (row ≡ other) ⊎ Contains (filter (λ one. not (before one)) rows) other → (row ≡ other) ⊎ Contains rows other
      back (inl same) = inl same
      back (inr more) = inr (kept_true (λ one. not (before one)) rows other more).1

      by : Contains (filter before rows) other ⊎ Contains (row ∷ filter (λ one. not (before one)) rows) other → (row ≡ other) ⊎ Contains rows other
      by (inl front) = inr (kept_true before rows other front).1
      by (inr rest) = back (first_or_behind row (filter (λ one. not (before one)) rows) other rest)

  keys_are : (rows : List Row) → keys_of (map (with_marks tables turns) rows) ≡ map (row_marks tables turns) rows
  keys_are [] = refl
  keys_are (row ∷ rows) = ap (λ more. row_marks tables turns row ∷ more) (keys_are rows)

  pub put_holds : (before after : Gathered) (rows : List Row) (row : Row) (fresh : IsFresh tables turns before row.path.steps) → Holds tables turns before rows → after.base ≡ before.base →
      after.rows.entries ≡ insert_entry in_marks before.rows.entries (row_marks tables turns row) row → IsStrictlySortedBy in_marks (keys_of after.rows.entries) →
      ((key : List Step) → has_seen after key ≡ (has_seen before key || is_same_path row.path.steps key)) → before.next ≤ after.next →
      (is_by_user tables fresh.step.node ≡ true → turn_of turns row.path.steps < after.next) → Holds tables turns after (put tables turns rows row)
  put_holds before after rows row fresh holds same entries sorted added later turn = record {
    entries = whole;
    ordered = subst (IsStrictlySortedBy in_marks) (ap keys_of whole ∙ keys_are (put tables turns rows row)) sorted;
    each = all_from (λ (r : Row). has_seen after r.path.steps ≡ true) (put tables turns rows row) (λ other has. seen other (from_put rows row other has));
    known = all_known before after rows (put tables turns rows row) row.path.steps fresh holds grows
        (λ user. (some_there (λ (r : Row). is_same_path r.path.steps row.path.steps) (put tables turns rows row) row (row_in_put rows row) (same_itself row.path.steps row.path.steps refl), turn user));
  }
    where
      whole : after.rows.entries ≡ map (with_marks tables turns) (put tables turns rows row)
      whole = entries ∙ ap (λ es. insert_entry in_marks es (row_marks tables turns row) row) holds.entries
          ∙ put_entry tables turns rows row holds.ordered (λ other has. row_apart before rows row other holds fresh has)

      grows : Grows before after rows (put tables turns rows row) row.path.steps
      grows = record { same = same; added = added; stays = put_stays rows row; later = later }

      seen : (other : Row) → (row ≡ other) ⊎ Contains rows other → has_seen after other.path.steps ≡ true
      seen other (inl it) = subst (λ (r : Row). has_seen after r.path.steps ≡ true) it (added row.path.steps ∙ or_second (has_seen before row.path.steps) (is_same_path row.path.steps row.path.steps) (same_itself row.path.steps row.path.steps refl))
      seen other (inr has) = added other.path.steps ∙ or_first (has_seen before other.path.steps) (is_same_path row.path.steps other.path.steps) (row_seen tables turns before rows other holds has)

  -- ---- a node without a row
  pub place_holds : (before after : Gathered) (rows : List Row) (steps : List Step) (fresh : IsFresh tables turns before steps) → Holds tables turns before rows → after.base ≡ before.base → after.rows ≡ before.rows → after.next ≡ before.next →
      ((key : List Step) → has_seen after key ≡ (has_seen before key || is_same_path steps key)) → is_by_user tables fresh.step.node ≡ false → Holds tables turns after rows
  place_holds before after rows steps fresh holds base same next added system = record {
    entries = ap (λ m. m.entries) same ∙ holds.entries;
    ordered = holds.ordered;
    each = all_from (λ (r : Row). has_seen after r.path.steps ≡ true) rows (λ other has. added other.path.steps ∙ or_first (has_seen before other.path.steps) (is_same_path steps other.path.steps) (row_seen tables turns before rows other holds has));
    known = all_known before after rows rows steps fresh holds (record { same = base; added = added; stays = λ key has. has; later = omega (arith, next) })
        (λ user. absurd (let clash : true ≡ false = sym user ∙ system in cc));
  }

  -- ---- a merge's rows
  nothing_at : (so_far : Gathered) (rows : List Row) (path : Path) (row : Row) → Holds tables turns so_far rows → IsFresh tables turns so_far path.steps → Contains rows row → is_at_or_below path.steps row.path ≡ false
  nothing_at so_far rows path row holds fresh has =
      false_from_ne_true (is_at_or_below path.steps row.path) (λ e. not_below so_far rows path.steps row holds fresh has ((below_is_below path.steps row.path).0 e))

  -- what a merge leaves at a fresh node whose rows exclude no other row
  merged_at : (so_far : Gathered) (rows block : List Row) (path : Path) (value : Option (List ℕ)) (row : Row) → Holds tables turns so_far rows → IsFresh tables turns so_far path.steps → rows_of_node tables path value ≡ block → row.path.steps ≡ path.steps →
      ((added other : Row) → Contains block added → Contains rows other → excludes tables added.path.steps other.path.steps ≡ false) →
      left_by tables rows (record { path = path; action = Merge value; place = Kept })
      ≡ filter (λ other. goes_before tables turns other row) rows ++ block ++ filter (λ other. not (goes_before tables turns other row)) rows
  merged_at so_far rows block path value row holds fresh is_block at none =
      (λ i. with_block tables rows path Kept (cond (gone i && not (at_node tables path has_value)) (block_at rows path.steps) (is_block i)))
      ∙ (λ i. filter (λ other. steps_before tables rows Kept [] other.path.steps path.steps) (stay i) ++ block ++ filter (λ other. not (steps_before tables rows Kept [] other.path.steps path.steps)) (stay i))
      ∙ (λ i. same_kept (λ other. steps_before tables rows Kept [] other.path.steps path.steps) (λ other. goes_before tables turns other row) rows same i ++ block ++
      same_kept (λ other. not (steps_before tables rows Kept [] other.path.steps path.steps)) (λ other. not (goes_before tables turns other row)) rows (λ other has. ap not (same other has)) i)
    where
      gone : exists rows path.steps ≡ false
      gone = none_of (λ (other : Row). is_at_or_below path.steps other.path) rows (λ other has. nothing_at so_far rows path other holds fresh has)

      stay : filter (λ other. not (is_at_or_below path.steps other.path || list_any (λ added. excludes tables added.path.steps other.path.steps) block)) rows ≡ rows
      stay = all_kept (λ other. not (is_at_or_below path.steps other.path || list_any (λ added. excludes tables added.path.steps other.path.steps) block)) rows
          (λ other has i. not (nothing_at so_far rows path other holds fresh has i || none_of (λ (added : Row). excludes tables added.path.steps other.path.steps) block (λ added in_block. none added other in_block has) i))

      same : (other : Row) → Contains rows other → steps_before tables rows Kept [] other.path.steps path.steps ≡ goes_before tables turns other row
      same other has = (fresh_apart so_far rows path.steps other holds fresh has).test
          ∙ sym (ap is_lt (side_of so_far rows path.steps [] row other holds fresh has (at ∙ sym (append-nil path.steps))))

  pub nothing_merged : (so_far : Gathered) (rows : List Row) (path : Path) (value : Option (List ℕ)) → Holds tables turns so_far rows → IsFresh tables turns so_far path.steps → rows_of_node tables path value ≡ [] →
      left_by tables rows (record { path = path; action = Merge value; place = Kept }) ≡ rows
  nothing_merged so_far rows path value holds fresh is_block =
      merged_at so_far rows [] path value row holds fresh is_block refl (λ added other in_block has. absurd (none_in added in_block))
      ∙ ap (λ front. front ++ filter (λ other. not (goes_before tables turns other row)) rows) (append-nil (filter (λ other. goes_before tables turns other row) rows))
      ∙ cut_rows tables turns rows row holds.ordered (λ other has. row_apart so_far rows row other holds fresh has)
    where
      row : Row
      row = record { path = path; value = None }

  pub rows_merged_at : (before after : Gathered) (rows rest : List Row) (path : Path) (value : Option (List ℕ)) (first : Row) → Holds tables turns before rows → IsFresh tables turns before path.steps → rows_of_node tables path value ≡ first ∷ rest → first.path.steps ≡ path.steps →
      All (λ row. is_at_or_below path.steps row.path ≡ true) rest → Climbs tables turns (row_marks tables turns first) rest → Holds tables turns after (fold (put tables turns) (put tables turns rows first) rest) →
      fold (put tables turns) (put tables turns rows first) rest ≡ left_by tables rows (record { path = path; action = Merge value; place = Kept })
  rows_merged_at before after rows rest path value first holds fresh is_block at below climbs done =
      folded ∙ sym (merged_at before rows (first ∷ rest) path value first holds fresh is_block at none)
    where
      in_front : Row → Bool
      in_front other = goes_before tables turns other first

      front : List Row
      front = filter in_front rows

      back : List Row
      back = filter (λ other. not (in_front other)) rows

      same_side : (other row : Row) → Contains rows other → Contains rest row → goes_before tables turns other row ≡ in_front other
      same_side other row has in_rest =
          let lower = (below_is_below path.steps row.path).0 (all_at (λ (r : Row). is_at_or_below path.steps r.path ≡ true) rest row below in_rest) in
          ap is_lt (side_of before rows path.steps lower.0 row other holds fresh has lower.1 ∙ sym (side_of before rows path.steps [] first other holds fresh has (at ∙ sym (append-nil path.steps))))

      not_true : (b : Bool) → not b ≡ true → b ≡ false
      not_true true e = absurd (let clash : false ≡ true = e in cc)
      not_true false e = refl

      folded : fold (put tables turns) (put tables turns rows first) rest ≡ front ++ (first ∷ rest) ++ back
      folded = ap (λ rs. fold (put tables turns) rs rest) (sym (append_assoc front (first ∷ []) back))
          ∙ put_all tables turns front (first ∷ []) back rest (row_marks tables turns first)
          (λ other row has in_rest. let kept = kept_true in_front rows other has in same_side other row kept.1 in_rest ∙ kept.0)
          (λ other row has in_rest. by other row in_rest (first_or_behind first [] other has))
          (λ other row has in_rest. let kept = kept_true (λ one. not (in_front one)) rows other has in same_side other row kept.1 in_rest ∙ not_true (in_front other) kept.0) climbs
        where
          by : (other row : Row) → Contains rest row → (first ≡ other) ⊎ Contains [] other → goes_before tables turns other row ≡ true
          by other row in_rest (inl same) = subst (λ (r : Row). goes_before tables turns r row ≡ true) same (ap is_lt (climbs_all tables turns (row_marks tables turns first) rest row climbs in_rest))
          by other row in_rest (inr none_is) = absurd (none_in other none_is)

      held : Holds tables turns after (front ++ (first ∷ rest) ++ back)
      held = subst (Holds tables turns after) folded done

      other_in : (other : Row) → Contains rows other → Contains (front ++ (first ∷ rest) ++ back) other
      other_in other has = by (in_front other) refl
        where
          by : (b : Bool) → in_front other ≡ b → Contains (front ++ (first ∷ rest) ++ back) other
          by true e = in_left (front ++ (first ∷ rest)) back other (in_left front (first ∷ rest) other (contains_kept in_front other rows has e))
          by false e = in_right (front ++ (first ∷ rest)) back other (contains_kept (λ one. not (in_front one)) other rows has (ap not e))

      none : (added other : Row) → Contains (first ∷ rest) added → Contains rows other → excludes tables added.path.steps other.path.steps ≡ false
      none added other in_block has =
          none_excludes tables turns after (front ++ (first ∷ rest) ++ back) added other held (in_left (front ++ (first ∷ rest)) back added (in_right front (first ∷ rest) added in_block)) (other_in other has)

  -- ---- a leaf that stands, with its value
  sorted_parts : (front back : List Row) (row : Row) → IsStrictlySortedBy in_marks (map (row_marks tables turns) (front ++ row ∷ back)) →
      ((other : Row) → Contains front other → in_marks (row_marks tables turns other) (row_marks tables turns row) ≡ Less) ×
      ((other : Row) → Contains back other → in_marks (row_marks tables turns row) (row_marks tables turns other) ≡ Less)
  sorted_parts [] back row sorted = ((λ other has. absurd (none_in other has)), (λ other has. first_before tables turns row back other sorted has))
  sorted_parts (first ∷ front) back row sorted =
      let rest = sorted_parts front back row (sorted_behind tables turns first (front ++ row ∷ back) sorted) in
      ((λ other has. by other (first_or_behind first front other has) rest.0), rest.1)
    where
      by : (other : Row) → (first ≡ other) ⊎ Contains front other → ((one : Row) → Contains front one → in_marks (row_marks tables turns one) (row_marks tables turns row) ≡ Less) →
          in_marks (row_marks tables turns other) (row_marks tables turns row) ≡ Less
      by other (inl same) rest = subst (λ (r : Row). in_marks (row_marks tables turns r) (row_marks tables turns row) ≡ Less) same
          (first_before tables turns first (front ++ row ∷ back) row sorted (in_right front (row ∷ back) row (is_first row back)))
      by other (inr more) rest = rest other more

  looked_up : (test : List Mark → Bool) (rows : List Row) (row : Row) → lookup test (map (with_marks tables turns) rows) ≡ Some row → Contains rows row
  looked_up test [] row e = absurd (let clash : None ≡ Some row = e in cc)
  looked_up test (first ∷ rows) row e = by (test (row_marks tables turns first)) e (looked_up test rows row)
    where
      by : (b : Bool) → cond b (Some first) (lookup test (map (with_marks tables turns) rows)) ≡ Some row → (lookup test (map (with_marks tables turns) rows) ≡ Some row → Contains rows row) → Contains (first ∷ rows) row
      by true is rest = subst (λ (r : Row). Contains (first ∷ rows) r) (some_same first row is) (is_first first rows)
      by false is rest = contains_behind first rows row (rest is)

  pub nothing_new : (so_far : Gathered) (rows : List Row) (path : Path) (value : Option (List ℕ)) (block : List Row) → Holds tables turns so_far rows → has_seen so_far path.steps ≡ true → Stands tables turns so_far path block → rows_of_node tables path value ≡ block →
      left_by tables rows (record { path = path; action = Merge value; place = Kept }) ≡ rows
  nothing_new so_far rows path value block holds seen stands is_block =
      (λ i. with_block tables rows path Kept (cond (exists rows path.steps && not (stands.leaf i)) (block_at rows path.steps) ((is_block ∙ stands.only) i)))
      ∙ ap (λ b. with_block tables rows path Kept (cond b (block_at rows path.steps) (row ∷ []))) (and_false (exists rows path.steps))
      ∙ (λ i. filter before (stay i) ++ (row ∷ []) ++ filter (λ other. not (before other)) (stay i))
      ∙ (λ i. kept i ++ (row ∷ []) ++ dropped i)
      ∙ append_assoc front (row ∷ []) back
      ∙ sym whole
    where
      held : IsHeld tables turns so_far rows path.steps
      held = holds.known path.steps seen

      row : Row
      row = stands.row

      at : row.path.steps ≡ path.steps
      at = stands.at

      and_false : (b : Bool) → (b && false) ≡ false
      and_false true = refl
      and_false false = refl

      has : Contains rows row
      has = looked_up (is_at (in_marks (marks tables (turn_of turns) path.steps))) rows row (ap (lookup (is_at (in_marks (marks tables (turn_of turns) path.steps)))) (sym holds.entries) ∙ stands.found)

      cut : (front : List Row) × (back : List Row) × (rows ≡ front ++ row ∷ back)
      cut = contains_split rows row has

      front : List Row
      front = cut.0

      back : List Row
      back = cut.1

      whole : rows ≡ front ++ row ∷ back
      whole = cut.2

      parts : ((other : Row) → Contains front other → in_marks (row_marks tables turns other) (row_marks tables turns row) ≡ Less) ×
          ((other : Row) → Contains back other → in_marks (row_marks tables turns row) (row_marks tables turns other) ≡ Less)
      parts = sorted_parts front back row (subst (λ (rs : List Row). IsStrictlySortedBy in_marks (map (row_marks tables turns) rs)) whole holds.ordered)

      back_order : (other : Row) → Contains back other → in_marks (row_marks tables turns other) (row_marks tables turns row) ≡ Greater
      back_order other in_back = marks_total.antisymm (row_marks tables turns other) (row_marks tables turns row) ∙ ap ordering_reverse (parts.1 other in_back)

      in_rows : (other : Row) → Contains front other ⊎ Contains back other → Contains rows other
      in_rows other (inl it) = subst (λ (rs : List Row). Contains rs other) (sym whole) (in_left front (row ∷ back) other it)
      in_rows other (inr it) = subst (λ (rs : List Row). Contains rs other) (sym whole) (in_right front (row ∷ back) other (contains_behind row back other it))

      not_tied : (other : Row) → Contains front other ⊎ Contains back other → in_marks (row_marks tables turns other) (row_marks tables turns row) ≢ Equal
      not_tied other (inl it) tied = let clash : Less ≡ Equal = sym (parts.0 other it) ∙ tied in cc
      not_tied other (inr it) tied = let clash : Greater ≡ Equal = sym (back_order other it) ∙ tied in cc

      not_lower : (other : Row) → Contains front other ⊎ Contains back other → ¬ IsLower other.path.steps path.steps
      not_lower other it ([], is) =
          not_tied other it (ap (λ (s : List Step). in_marks (marks tables (turn_of turns) s) (row_marks tables turns row)) (is ∙ append-nil path.steps ∙ sym at) ∙ tied_itself marks_total (row_marks tables turns row))
      not_lower other it (step ∷ rest, is) =
          let known = known_at tables turns so_far rows other.path.steps path.steps held.rest step rest holds (row_seen tables turns so_far rows other holds (in_rows other it)) is held.is in
          let clash : true ≡ false = sym stands.leaf ∙ known.inner in
          cc

      beside : AreBeside tables turns so_far rows path.steps
      beside common inner step ys is below user = inl ((known_at tables turns so_far rows path.steps common inner step ys holds seen is below).stands user).0

      before : Row → Bool
      before other = steps_before tables rows Kept [] other.path.steps path.steps

      test_is : (other : Row) (o : Ordering) → Contains front other ⊎ Contains back other → in_marks (row_marks tables turns other) (row_marks tables turns row) ≡ o → before other ≡ is_lt o
      test_is other o it is =
          let apart = is_apart tables turns so_far rows other path.steps held.rest held.is holds (in_rows other it) beside (not_lower other it) in
          apart.test ∙ ap is_lt (sym (apart.each []) ∙ ap (λ (s : List Step). in_marks (row_marks tables turns other) (marks tables (turn_of turns) s)) (append-nil path.steps ∙ sym at) ∙ is)

      stays : Row → Bool
      stays other = not (is_at_or_below path.steps other.path || list_any (λ added. excludes tables added.path.steps other.path.steps) (row ∷ []))

      keeps : (other : Row) → Contains front other ⊎ Contains back other → stays other ≡ true
      keeps other it =
          λ i. not (false_from_ne_true (is_at_or_below path.steps other.path) (λ e. not_lower other it ((below_is_below path.steps other.path).0 e)) i
          || (none_excludes tables turns so_far rows row other holds has (in_rows other it) i || false))

      drops : stays row ≡ false
      drops = ap (λ b. not (b || list_any (λ added. excludes tables added.path.steps row.path.steps) (row ∷ []))) ((below_is_below path.steps row.path).1 ([], at ∙ sym (append-nil path.steps)))

      stay : filter stays rows ≡ front ++ back
      stay = ap (filter stays) whole ∙ filter-append stays front (row ∷ back)
          ∙ (λ i. all_kept stays front (λ other it. keeps other (inl it)) i ++ cond (drops i) (row ∷ filter stays back) (filter stays back))
          ∙ ap (λ more. front ++ more) (all_kept stays back (λ other it. keeps other (inr it)))

      kept : filter before (front ++ back) ≡ front
      kept = filter-append before front back
          ∙ (λ i. all_kept before front (λ other it. test_is other Less (inl it) (parts.0 other it)) i ++ none_kept before back (λ other it. test_is other Greater (inr it) (back_order other it)) i)
          ∙ append-nil front

      dropped : filter (λ other. not (before other)) (front ++ back) ≡ back
      dropped = filter-append (λ other. not (before other)) front back
          ∙ (λ i. none_kept (λ other. not (before other)) front (λ other it. ap not (test_is other Less (inl it) (parts.0 other it))) i
          ++ all_kept (λ other. not (before other)) back (λ other it. ap not (test_is other Greater (inr it) (back_order other it))) i)

  -- ---- the code's steps
  pub nothing_held : (so_far : Gathered) → so_far.rows.entries ≡ [] → so_far.seen.keys ≡ [] → Holds tables turns so_far []
  nothing_held so_far none unseen = record {
    entries = none;
    ordered = sorted_none;
    each = λ k d within. absurd (omega (arith, within));
    known = λ steps seen. absurd (let clash : true ≡ false = sym seen ∙ ap (list_any (is_at (order steps))) unseen in cc);
  }

  pub climb_more : (W : Type 0) (last next : List Mark) (items : List Row) (i : ℕ) (row : Row) → i < length items → row ≡ get_or items i row → next ≡ row_marks tables turns row → is_less (in_marks last next) ≡ true →
      (Climbs tables turns last (drop i items) → W) → Climbs tables turns next (drop (i + 1) items) → W
  climb_more W last next items i row within item next_is less before climbs =
      before (subst (Climbs tables turns last) (sym (drop-cons items i row within ∙ (λ j. sym item j ∷ drop (suc i) items)))
      (ap (in_marks last) (sym next_is) ∙ less_is (in_marks last next) less, by next_is (omega arith) climbs))
    where
      by : next ≡ row_marks tables turns row → i + 1 ≡ suc i → Climbs tables turns next (drop (i + 1) items) → Climbs tables turns (row_marks tables turns row) (drop (suc i) items)
      by same up it = subst (λ (m : List Mark). Climbs tables turns m (drop (suc i) items)) same (subst (λ (n : ℕ). Climbs tables turns next (drop n items)) up it)

  pub place_taken : (before after : Gathered) (steps : List Step) → (fresh : IsFresh tables turns before steps) → after.base ≡ before.base → after.rows ≡ before.rows → after.next ≡ before.next →
      ((key : List Step) → has_seen after key ≡ (has_seen before key || is_same_path steps key)) → is_by_user tables fresh.step.node ≡ false → TakesPlace tables turns before steps after
  place_taken before after steps fresh base same next added system = (fresh, λ rows holds. place_holds before after rows steps fresh holds base same next added system)

  pub row_taken : (before after : Gathered) (row : Row) (fresh : IsFresh tables turns before row.path.steps) → after.base ≡ before.base →
      after.rows.entries ≡ insert_entry in_marks before.rows.entries (row_marks tables turns row) row → IsStrictlySortedBy in_marks (keys_of after.rows.entries) →
      ((key : List Step) → has_seen after key ≡ (has_seen before key || is_same_path row.path.steps key)) → before.next ≤ after.next →
      (is_by_user tables fresh.step.node ≡ true → turn_of turns row.path.steps < after.next) → TakesRow tables turns before row after
  row_taken before after row fresh same entries sorted added later turn = (fresh, λ rows holds. put_holds before after rows row fresh holds same entries sorted added later turn)

  pub rows_more : (first before after : Gathered) (items : List Row) (i : ℕ) (row : Row) → i < length items → row ≡ get_or items i row → TakesRow tables turns before row after →
      TakesRows tables turns first (take i items) before → TakesRows tables turns first (take (i + 1) items) after
  rows_more first before after items i row within item taken so_far rows holds =
      subst (Holds tables turns after)
      (sym ((λ k. fold (put tables turns) rows (take_more items i row within k)) ∙ fold_join (put tables turns) rows (take i items) (get_or items i row ∷ []) ∙ (λ k. put tables turns (fold (put tables turns) rows (take i items)) (sym item k))))
      (taken.1 (fold (put tables turns) rows (take i items)) (so_far rows holds))

  pub edit_more : (before after : Gathered) (items : List Edit) (i : ℕ) (edit : Edit) → i < length items → edit ≡ get_or items i edit → Gathers tables turns before edit after →
      Holds tables turns before (fold (left_by tables) [] (take i items)) → Holds tables turns after (fold (left_by tables) [] (take (i + 1) items))
  edit_more before after items i edit within item gathers holds =
      subst (Holds tables turns after)
      (sym ((λ k. fold (left_by tables) [] (take_more items i edit within k)) ∙ fold_join (left_by tables) [] (take i items) (get_or items i edit ∷ []) ∙ (λ k. left_by tables (fold (left_by tables) [] (take i items)) (sym item k))))
      (gathers (fold (left_by tables) [] (take i items)) holds)

  pub block_taken : (before middle after : Gathered) (path : Path) (block rest : List Row) (first : Row) → block ≡ first ∷ rest → first.path.steps ≡ path.steps → AreBelow path rest → Climbs tables turns (row_marks tables turns first) rest →
      TakesRow tables turns before first middle → TakesRows tables turns middle rest after → TakesBlock tables turns before path block after
  block_taken before middle after path block rest first is at below climbs one more = λ rows value holds is_block.
      let done = more (put tables turns rows first) (one.1 rows holds) in
      subst (Holds tables turns after)
      (rows_merged_at before after rows rest path value first holds (subst (IsFresh tables turns before) at one.0) (sym is_block ∙ is) at below climbs done) done

  pub no_rows_taken : (before after : Gathered) (path : Path) (block : List Row) → block ≡ [] → TakesPlace tables turns before path.steps after → TakesBlock tables turns before path block after
  no_rows_taken before after path block none taken = λ rows value holds is_block.
      subst (Holds tables turns after) (sym (nothing_merged before rows path value holds taken.0 (sym is_block ∙ none))) (taken.1 rows holds)

  pub block_merged : (before after : Gathered) (path : Path) (value : Option (List ℕ)) (block : List Row) → block ≡ rows_of_node tables path value → TakesBlock tables turns before path block after →
      Gathers tables turns before (record { path = path; action = Merge value; place = Kept }) after
  block_merged before after path value block is_block taken = λ rows holds. taken rows value holds is_block

  pub leaf_stands : (so_far : Gathered) (path : Path) (value : Option (List ℕ)) (block : List Row) → has_seen so_far path.steps ≡ true → Stands tables turns so_far path block → block ≡ rows_of_node tables path value →
      Gathers tables turns so_far (record { path = path; action = Merge value; place = Kept }) so_far
  leaf_stands so_far path value block seen stands is_block rows holds =
      subst (Holds tables turns so_far) (sym (nothing_new so_far rows path value block holds seen stands (sym is_block))) holds

  pub rows_are : (so_far : Gathered) (rows : List Row) → Holds tables turns so_far rows → values_of so_far.rows.entries ≡ rows
  rows_are so_far rows holds = ap values_of holds.entries ∙ by rows
    where
      by : (them : List Row) → values_of (map (with_marks tables turns) them) ≡ them
      by [] = refl
      by (row ∷ them) = ap (λ more. row ∷ more) (by them)
