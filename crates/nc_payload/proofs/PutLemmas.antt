-- A row in its place among rows in the order of their marks.
use Rattle.std.proofs.Common.{◌≡◌, ◌≢◌, ◌⊎◌, zero, suc, Bool, true, false, cond, not, List, [], ◌∷◌, ◌++◌, map, refl, sym, ap, subst, ◌∙◌, inl, inr, arith, append_assoc}
use Rattle.std.proofs.lemmas.List.{append-nil}
use Rattle.std.proofs.lemmas.List.Elements.{filter-append}
use Rattle.std.proofs.lemmas.Map.Keys.{sorted_head, sorted_tail}
use Rattle.std.specs.BTreeMap.{insert_entry}
use Rattle.std.specs.List.{AllByRecursion, Contains, filter}
use Rattle.std.specs.List.Sorted.{IsStrictlySortedBy}
use Rattle.std.specs.Ordering.{is_lt, match_ordering, ordering_reverse}
use Rattle.std.specs.Prelude.{fold}
use Rattle.std.specs.declared.cmp.Ordering.{Ordering}
use Rattle.std.specs.declared.cmp.Ordering.TheVariants.{Less, Equal, Greater}
use Rattle.nc_names.specs.declared.path.Row.{Row}
use Rattle.nc_schema.specs.Tables.{Tables}
use Rattle.nc_protocol.proofs.ListLemmas.{contains_behind}
use Rattle.nc_payload.proofs.MarkLemmas.{marks_total}
use Rattle.nc_payload.specs.declared.marks.Mark.{Mark}
use Rattle.nc_payload.specs.declared.marks.Turns.{Turns}
use Rattle.nc_payload.specs.inner.Gathered.{Climbs, goes_before, put, row_marks, with_marks}
use Rattle.nc_payload.specs.inner.Marks.{in_marks}

-- ---- lists
pub is_first : {X : Type 0} (x : X) (xs : List X) → Contains (x ∷ xs) x
is_first x xs = (0, omega arith, refl)

pub none_in : {X : Type 0} (x : X) → ¬ Contains [] x
none_in x (k, within, here) = omega (arith, within)

pub first_or_behind : {X : Type 0} (y : X) (xs : List X) (x : X) → Contains (y ∷ xs) x → (y ≡ x) ⊎ Contains xs x
first_or_behind y xs x (zero, within, here) = inl here
first_or_behind y xs x (suc k, within, here) = inr (k, omega (arith, within), here)

pub all_kept : {X : Type 0} (p : X → Bool) (xs : List X) → ((x : X) → Contains xs x → p x ≡ true) → filter p xs ≡ xs
all_kept p [] all = refl
all_kept p (x ∷ xs) all =
    ap (λ b. cond b (x ∷ filter p xs) (filter p xs)) (all x (is_first x xs)) ∙ ap (λ more. x ∷ more) (all_kept p xs (λ y has. all y (contains_behind x xs y has)))

pub none_kept : {X : Type 0} (p : X → Bool) (xs : List X) → ((x : X) → Contains xs x → p x ≡ false) → filter p xs ≡ []
none_kept p [] all = refl
none_kept p (x ∷ xs) all =
    ap (λ b. cond b (x ∷ filter p xs) (filter p xs)) (all x (is_first x xs)) ∙ none_kept p xs (λ y has. all y (contains_behind x xs y has))

pub same_kept : {X : Type 0} (p q : X → Bool) (xs : List X) → ((x : X) → Contains xs x → p x ≡ q x) → filter p xs ≡ filter q xs
same_kept p q [] all = refl
same_kept p q (x ∷ xs) all =
    λ i. cond (all x (is_first x xs) i) (x ∷ same_kept p q xs (λ y has. all y (contains_behind x xs y has)) i) (same_kept p q xs (λ y has. all y (contains_behind x xs y has)) i)

pub kept_true : {X : Type 0} (p : X → Bool) (xs : List X) (x : X) → Contains (filter p xs) x → (p x ≡ true) × Contains xs x
kept_true p [] x has = absurd (none_in x has)
kept_true p (y ∷ xs) x has = by (p y) refl has (kept_true p xs x)
  where
    by : (b : Bool) → p y ≡ b → Contains (cond b (y ∷ filter p xs) (filter p xs)) x → (Contains (filter p xs) x → (p x ≡ true) × Contains xs x) → (p x ≡ true) × Contains (y ∷ xs) x
    by true e found rest = go (first_or_behind y (filter p xs) x found)
      where
        go : (y ≡ x) ⊎ Contains (filter p xs) x → (p x ≡ true) × Contains (y ∷ xs) x
        go (inl same) = (subst (λ z. p z ≡ true) same e, subst (λ z. Contains (y ∷ xs) z) same (is_first y xs))
        go (inr more) = ((rest more).0, contains_behind y xs x (rest more).1)
    by false e found rest = ((rest found).0, contains_behind y xs x (rest found).1)

module _ (tables : Tables) (turns : Turns) where
  abbrev key_of : Row → List Mark
  key_of row = row_marks tables turns row

  abbrev Sorted : List Row → Type 0
  Sorted rows = IsStrictlySortedBy in_marks (map key_of rows)

  each_later : (m : List Mark) (rows : List Row) (row : Row) → AllByRecursion (λ other. in_marks m other ≡ Less) (map key_of rows) → Contains rows row → in_marks m (key_of row) ≡ Less
  each_later m [] row all has = absurd (none_in row has)
  each_later m (first ∷ rows) row all has = by (first_or_behind first rows row has) (each_later m rows row all.1)
    where
      by : (first ≡ row) ⊎ Contains rows row → (Contains rows row → in_marks m (key_of row) ≡ Less) → in_marks m (key_of row) ≡ Less
      by (inl same) rest = subst (λ (r : Row). in_marks m (key_of r) ≡ Less) same all.0
      by (inr more) rest = rest more

  pub first_before : (first : Row) (rows : List Row) (row : Row) → Sorted (first ∷ rows) → Contains rows row → in_marks (key_of first) (key_of row) ≡ Less
  first_before first rows row sorted has = each_later (key_of first) rows row (sorted_head in_marks (key_of first) (map key_of rows) sorted) has

  pub sorted_behind : (first : Row) (rows : List Row) → Sorted (first ∷ rows) → Sorted rows
  sorted_behind first rows sorted = sorted_tail in_marks (key_of first) (map key_of rows) sorted

  -- a row that comes after another comes after all before that
  after_all : (first : Row) (rows : List Row) (row : Row) (other : Row) → Sorted (first ∷ rows) → in_marks (key_of first) (key_of row) ≡ Greater → Contains rows other → in_marks (key_of other) (key_of row) ≡ Greater
  after_all first rows row other sorted greater has =
      marks_total.antisymm (key_of other) (key_of row)
      ∙ ap ordering_reverse
      (marks_total.trans (key_of row) (key_of first) (key_of other) (marks_total.antisymm (key_of row) (key_of first) ∙ ap ordering_reverse greater) (first_before first rows other sorted has))

  -- no row is the new one
  abbrev AreApart : List Row → Row → Type 0
  AreApart rows row = (other : Row) → Contains rows other → in_marks (key_of other) (key_of row) ≢ Equal

  pub put_entry : (rows : List Row) (row : Row) → Sorted rows → AreApart rows row → insert_entry in_marks (map (with_marks tables turns) rows) (key_of row) row ≡ map (with_marks tables turns) (put tables turns rows row)
  put_entry [] row sorted apart = refl
  put_entry (first ∷ rows) row sorted apart = by (in_marks (key_of first) (key_of row)) refl (put_entry rows row (sorted_behind first rows sorted) (λ other has. apart other (contains_behind first rows other has)))
    where
      before : Row → Bool
      before other = goes_before tables turns other row

      back : (o : Ordering) → in_marks (key_of first) (key_of row) ≡ o → in_marks (key_of row) (key_of first) ≡ ordering_reverse o
      back o e = marks_total.antisymm (key_of row) (key_of first) ∙ ap ordering_reverse e

      whole : Ordering → List (List Mark × Row)
      whole o = match_ordering o ((key_of row, row) ∷ with_marks tables turns first ∷ map (with_marks tables turns) rows) ((key_of first, row) ∷ map (with_marks tables turns) rows)
          (with_marks tables turns first ∷ insert_entry in_marks (map (with_marks tables turns) rows) (key_of row) row)

      split_by : Bool → List Row
      split_by b = cond b (first ∷ filter before rows) (filter before rows) ++ row ∷ cond (not b) (first ∷ filter (λ other. not (before other)) rows) (filter (λ other. not (before other)) rows)

      by : (o : Ordering) → in_marks (key_of first) (key_of row) ≡ o → insert_entry in_marks (map (with_marks tables turns) rows) (key_of row) row ≡ map (with_marks tables turns) (put tables turns rows row) →
          insert_entry in_marks (map (with_marks tables turns) (first ∷ rows)) (key_of row) row ≡ map (with_marks tables turns) (put tables turns (first ∷ rows) row)
      by Less e more_put =
          ap whole (back Less e)
          ∙ ap (λ more. with_marks tables turns first ∷ more) more_put
          ∙ sym (ap (λ b. map (with_marks tables turns) (split_by b)) (ap is_lt e))
      by Equal e more_put = absurd (apart first (is_first first rows) e)
      by Greater e more_put =
          ap whole (back Greater e)
          ∙ (λ i. map (with_marks tables turns) (sym none i ++ row ∷ first ∷ sym rest i))
          ∙ sym (ap (λ b. map (with_marks tables turns) (split_by b)) (ap is_lt e))
        where
          none : filter before rows ≡ []
          none = none_kept before rows (λ other has. ap is_lt (after_all first rows row other sorted e has))

          rest : filter (λ other. not (before other)) rows ≡ rows
          rest = all_kept (λ other. not (before other)) rows (λ other has. ap (λ o. not (is_lt o)) (after_all first rows row other sorted e has))

  -- rows are cut by a row that is none of them
  pub cut_rows : (rows : List Row) (row : Row) → Sorted rows → AreApart rows row → filter (λ other. goes_before tables turns other row) rows ++ filter (λ other. not (goes_before tables turns other row)) rows ≡ rows
  cut_rows [] row sorted apart = refl
  cut_rows (first ∷ rows) row sorted apart = by (in_marks (key_of first) (key_of row)) refl (cut_rows rows row (sorted_behind first rows sorted) (λ other has. apart other (contains_behind first rows other has)))
    where
      before : Row → Bool
      before other = goes_before tables turns other row

      split_by : Bool → List Row
      split_by b = cond b (first ∷ filter before rows) (filter before rows) ++ cond (not b) (first ∷ filter (λ other. not (before other)) rows) (filter (λ other. not (before other)) rows)

      by : (o : Ordering) → in_marks (key_of first) (key_of row) ≡ o → filter before rows ++ filter (λ other. not (before other)) rows ≡ rows → split_by (before first) ≡ first ∷ rows
      by Less e more_cut = ap (λ b. split_by b) (ap is_lt e) ∙ ap (λ more. first ∷ more) more_cut
      by Equal e more_cut = absurd (apart first (is_first first rows) e)
      by Greater e more_cut =
          ap (λ b. split_by b) (ap is_lt e)
          ∙ (λ i. none_kept before rows (λ other has. ap is_lt (after_all first rows row other sorted e has)) i ++ first ∷ all_kept (λ other. not (before other)) rows (λ other has. ap (λ o. not (is_lt o)) (after_all first rows row other sorted e has)) i)

  -- ---- one row after another, at one cut
  put_between : (front done back : List Row) (row : Row) → ((other : Row) → Contains front other → goes_before tables turns other row ≡ true) → ((other : Row) → Contains done other → goes_before tables turns other row ≡ true) →
      ((other : Row) → Contains back other → goes_before tables turns other row ≡ false) → put tables turns (front ++ done ++ back) row ≡ front ++ (done ++ row ∷ []) ++ back
  put_between front done back row in_front in_done in_back =
      (λ i. kept i ++ row ∷ dropped i)
      ∙ sym (append_assoc front (done ++ row ∷ []) back ∙ ap (λ more. front ++ more) (append_assoc done (row ∷ []) back) ∙ sym (append_assoc front done (row ∷ back)))
    where
      before : Row → Bool
      before other = goes_before tables turns other row

      kept : filter before ((front ++ done) ++ back) ≡ front ++ done
      kept = filter-append before (front ++ done) back
          ∙ (λ i. (filter-append before front done ∙ (λ j. all_kept before front in_front j ++ all_kept before done in_done j)) i ++ none_kept before back in_back i)
          ∙ append-nil (front ++ done)

      dropped : filter (λ other. not (before other)) ((front ++ done) ++ back) ≡ back
      dropped = filter-append (λ other. not (before other)) (front ++ done) back
          ∙ (λ i. (filter-append (λ other. not (before other)) front done
          ∙ (λ j. none_kept (λ other. not (before other)) front (λ other has. ap not (in_front other has)) j ++ none_kept (λ other. not (before other)) done (λ other has. ap not (in_done other has)) j)) i
          ++ all_kept (λ other. not (before other)) back (λ other has. ap not (in_back other has)) i)

  pub climbs_all : (m : List Mark) (rows : List Row) (row : Row) → Climbs tables turns m rows → Contains rows row → in_marks m (key_of row) ≡ Less
  climbs_all m [] row climbs has = absurd (none_in row has)
  climbs_all m (first ∷ rows) row climbs has = by (first_or_behind first rows row has) (climbs_all (key_of first) rows row climbs.1)
    where
      by : (first ≡ row) ⊎ Contains rows row → (Contains rows row → in_marks (key_of first) (key_of row) ≡ Less) → in_marks m (key_of row) ≡ Less
      by (inl same) rest = subst (λ (r : Row). in_marks m (key_of r) ≡ Less) same climbs.0
      by (inr more) rest = marks_total.trans m (key_of first) (key_of row) climbs.0 (rest more)

  pub contains_either : (xs ys : List Row) (x : Row) → Contains (xs ++ ys) x → Contains xs x ⊎ Contains ys x
  contains_either [] ys x has = inr has
  contains_either (y ∷ xs) ys x has = by (first_or_behind y (xs ++ ys) x has) (contains_either xs ys x)
    where
      by : (y ≡ x) ⊎ Contains (xs ++ ys) x → (Contains (xs ++ ys) x → Contains xs x ⊎ Contains ys x) → Contains (y ∷ xs) x ⊎ Contains ys x
      by (inl same) rest = inl (subst (λ (z : Row). Contains (y ∷ xs) z) same (is_first y xs))
      by (inr more) rest = go (rest more)
        where
          go : Contains xs x ⊎ Contains ys x → Contains (y ∷ xs) x ⊎ Contains ys x
          go (inl it) = inl (contains_behind y xs x it)
          go (inr it) = inr it

  pub put_all : (front done back block : List Row) (m : List Mark) → ((other row : Row) → Contains front other → Contains block row → goes_before tables turns other row ≡ true) →
      ((other row : Row) → Contains done other → Contains block row → goes_before tables turns other row ≡ true) →
      ((other row : Row) → Contains back other → Contains block row → goes_before tables turns other row ≡ false) → Climbs tables turns m block →
      fold (put tables turns) (front ++ done ++ back) block ≡ front ++ (done ++ block) ++ back
  put_all front done back [] m in_front in_done in_back climbs = ap (λ more. front ++ more ++ back) (sym (append-nil done))
  put_all front done back (row ∷ block) m in_front in_done in_back climbs =
      ap (λ rows. fold (put tables turns) rows block)
      (put_between front done back row (λ other has. in_front other row has (is_first row block)) (λ other has. in_done other row has (is_first row block)) (λ other has. in_back other row has (is_first row block)))
      ∙ put_all front (done ++ row ∷ []) back block (key_of row)
      (λ other next has in_block. in_front other next has (contains_behind row block next in_block))
      (λ other next has in_block. by other next in_block (contains_either done (row ∷ []) other has))
      (λ other next has in_block. in_back other next has (contains_behind row block next in_block)) climbs.1
      ∙ ap (λ more. front ++ more ++ back) (append_assoc done (row ∷ []) block)
    where
      by : (other next : Row) → Contains block next → Contains done other ⊎ Contains (row ∷ []) other → goes_before tables turns other next ≡ true
      by other next in_block (inl it) = in_done other next it (contains_behind row block next in_block)
      by other next in_block (inr it) = go (first_or_behind row [] other it)
        where
          go : (row ≡ other) ⊎ Contains [] other → goes_before tables turns other next ≡ true
          go (inl same) = subst (λ (r : Row). goes_before tables turns r next ≡ true) same (ap is_lt (climbs_all (key_of row) block next climbs.1 in_block))
          go (inr none) = absurd (none_in other none)
