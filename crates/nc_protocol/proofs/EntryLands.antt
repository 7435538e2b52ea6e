-- The entries of a list that the user orders, once an edit is made at one of them.
use Rattle.std.proofs.Common.{◌≡◌, ◌≢◌, ◌==◌, ◌&&◌, ◌||◌, ℕ, zero, suc, Bool, true, false, cond, not, List, [], ◌∷◌, ◌++◌, Option, Some, None, refl, sym, ap, subst, ◌∙◌, arith, append_assoc}
use Rattle.std.proofs.lemmas.Bool.Decides.{Decides-eqb}
use Rattle.std.proofs.lemmas.Bool.{le-ltb, not-false}
use Rattle.std.proofs.lemmas.List.{append-nil}
use Rattle.std.proofs.lemmas.List.Elements.{Contains-append_left, Contains-append_right, filter-append, filter_map-append}
use Rattle.std.proofs.lemmas.List.Folds.{list_any_none}
use Rattle.std.specs.Cmp.Lexicographic.{pointwise_decides, slice_cmp}
use Rattle.std.specs.Ordering.{nat_cmp}
use Rattle.std.specs.List.{All, AllPairs, Contains, cons_option, filter, filter_map, list_any}
use Rattle.std.specs.Option.{option_map_or}
use Rattle.std.specs.Prelude.{ltb}
use Rattle.nc_names.specs.Same.{is_at_or_below, is_same_keys, is_same_path}
use Rattle.nc_names.specs.declared.path.Path.{Path}
use Rattle.nc_names.specs.declared.path.Place.{Place}
use Rattle.nc_names.specs.declared.path.Place.TheVariants.{Kept, First, Last, Before, After}
use Rattle.nc_names.specs.declared.path.Right.{Right}
use Rattle.nc_names.specs.declared.path.Row.{Row}
use Rattle.nc_names.specs.declared.path.Step.{Step}
use Rattle.nc_names.proofs.SameLemmas.{keys_decide, step_decide}
use Rattle.nc_schema.specs.Blocks.{above_from, above_last, entries_beside}
use Rattle.nc_schema.specs.Configuration.{IsAtOrBelow, IsDataTree}
use Rattle.nc_schema.specs.Order.{keys_above, sibling_place}
use Rattle.nc_schema.proofs.ProperLemmas.{proper_nodes}
use Rattle.nc_schema.specs.Proper.{IsProperSchema}
use Rattle.nc_schema.specs.Standing.{block_at, cases_of, cases_differ, entries, excludes, has_entry, has_row, is_by_user, is_less, keys_in, placed, stands_before, steps_before, without_entry}
use Rattle.nc_schema.specs.Tables.{Tables}
use Rattle.nc_protocol.specs.Edited.{anchor_of, cause_where, lacks_anchor, left_by, missed, new_block, place_by, refusal}
use Rattle.nc_protocol.specs.Laws.{IsMade, EntryLands}
use Rattle.nc_protocol.specs.declared.access.Decision.{Decision}
use Rattle.nc_protocol.specs.declared.edit.Edit.{Edit}
use Rattle.nc_protocol.proofs.AboveLemmas.{path_decide_to, some_passes}
use Rattle.nc_protocol.proofs.Building.{row_is_there}
use Rattle.nc_protocol.proofs.BoolLemmas.{is_false}
use Rattle.nc_protocol.proofs.CaseLemmas.{cases_agree, from_cases, one_case}
use Rattle.nc_protocol.proofs.EditedRows.{below_of, block_is_there, left_is}
use Rattle.nc_protocol.proofs.EditLemmas.{edit_keeps_tree, no_cause, no_first}
use Rattle.nc_protocol.proofs.EditRights.{not_refused}
use Rattle.nc_protocol.proofs.EntryLemmas.{keys_back, keys_of_row}
use Rattle.nc_protocol.proofs.EntryPlace.{Keys, IsNone, AreApart, HasAnchor, IsCutAt, placed_cut, in_front, behind, apart_behind, without_none}
use Rattle.nc_protocol.proofs.KeyLemmas.{filter_takes, filter_leaves, filter_whole, filter_none}
use Rattle.nc_protocol.proofs.ListLemmas.{contains_behind, pairs_cons, pairs_filter, same_before, tails_same}
use Rattle.nc_protocol.proofs.Parts.{all_at, all_from, contains_kept, kept_contains, kept_true}
use Rattle.nc_protocol.proofs.PathViews.{IsLower, node_after, parting_excludes, parting_test}
use Rattle.nc_protocol.proofs.PlaceLemmas.{below_is_below, last_of}

-- ---- lists
-- a filter of rows is one of what is made of them
made_filter : {A B : Type 0} (f : A → Option B) (t : A → Bool) (s : B → Bool) (xs : List A) → ((x : A) (y : B) → Contains xs x → f x ≡ Some y → t x ≡ s y) →
    filter_map f (filter t xs) ≡ filter s (filter_map f xs)
made_filter f t s [] agree = refl
made_filter {A} {B} f t s (x ∷ xs) agree = by (f x) refl (t x) refl (made_filter f t s xs (λ z y has. agree z y (contains_behind x xs z has)))
  where
    by : (o : Option B) → f x ≡ o → (b : Bool) → t x ≡ b → filter_map f (filter t xs) ≡ filter s (filter_map f xs) → filter_map f (filter t (x ∷ xs)) ≡ filter s (cons_option (f x) (filter_map f xs))
    by None is true takes rest = ap (filter_map f) (filter_takes t x xs takes) ∙ ap (λ o. cons_option o (filter_map f (filter t xs))) is ∙ rest ∙ sym (ap (λ o. filter s (cons_option o (filter_map f xs))) is)
    by None is false leaves rest = ap (filter_map f) (filter_leaves t x xs leaves) ∙ rest ∙ sym (ap (λ o. filter s (cons_option o (filter_map f xs))) is)
    by (Some y) is true takes rest =
        ap (filter_map f) (filter_takes t x xs takes) ∙ ap (λ o. cons_option o (filter_map f (filter t xs))) is ∙ ap (λ ys. y ∷ ys) rest
        ∙ sym (ap (λ o. filter s (cons_option o (filter_map f xs))) is ∙ filter_takes s y (filter_map f xs) (sym (agree x y (0, omega arith, refl) is) ∙ takes))
    by (Some y) is false leaves rest =
        ap (filter_map f) (filter_leaves t x xs leaves) ∙ rest
        ∙ sym (ap (λ o. filter s (cons_option o (filter_map f xs))) is ∙ filter_leaves s y (filter_map f xs) (sym (agree x y (0, omega arith, refl) is) ∙ leaves))

-- elements of two lists that are joined, and apart
parted : (xs ys : List Keys) (a b : Keys) → AreApart (xs ++ ys) → Contains xs a → Contains ys b → a ≢ b
parted [] ys a b apart (k, within, here) there same = absurd (omega (arith, within))
parted (x ∷ xs) ys a b apart (zero, within, here) there same =
    let found = Contains-append_right xs ys b there in
    apart 0 (suc found.0) b (omega arith) (let inside = found.1 in omega (arith, inside)) (here ∙ same ∙ sym found.2)
parted (x ∷ xs) ys a b apart (suc k, within, here) there same =
    parted xs ys a b (apart_behind x (xs ++ ys) apart) (k, omega (arith, within), here) there same

above_last_is : (above : List Step) (step : Step) → above_last (above ++ step ∷ []) ≡ above
above_last_is [] step = refl
above_last_is (over ∷ above) step = from over above
  where
    from : (first : Step) (more : List Step) → above_from first (more ++ step ∷ []) ≡ first ∷ more
    from first [] = refl
    from first (next ∷ more) = ap (λ ss. first ∷ ss) (from next more)

longer : (xs more : List Step) (a b c : Step) → ¬ (xs ++ a ∷ [] ≡ (xs ++ b ∷ []) ++ c ∷ more)
longer [] more a b c e = cc
longer (x ∷ xs) more a b c e = longer xs more a b c (tails_same x x _ _ e)

-- an entry at or below another of its list is that
lower_same : (above : List Step) (one other : Step) → IsLower (above ++ one ∷ []) (above ++ other ∷ []) → one ≡ other
lower_same above one other ([], e) = (same_before above above one other (e ∙ append-nil (above ++ other ∷ []))).1
lower_same above one other (next ∷ rest, e) = absurd (longer above rest one other next e)

module _ (above : List Step) (number : ℕ) where
  -- entries of rows with paths of their own are apart
  entries_of_one : (rows : List Row) (keys : Keys) (row : Row) → row.path.steps ≡ above ++ record { node = number; keys = keys } ∷ [] → All (λ (later : Row). row.path ≢ later.path) rows →
      (entry : Keys) → Contains (entries rows above number) entry → keys ≢ entry
  entries_of_one [] keys row is apart entry has = absurd (omega (arith, has.1))
  entries_of_one (other ∷ rows) keys row is apart entry has =
      by (keys_in above number other.path.steps) refl has (entries_of_one rows keys row is (λ k d within. apart (suc k) d (omega (arith, within))) entry)
    where
      by : (o : Option Keys) → keys_in above number other.path.steps ≡ o → Contains (cons_option o (entries rows above number)) entry → (Contains (entries rows above number) entry → keys ≢ entry) → keys ≢ entry
      by None e has rest same = rest has same
      by (Some found) e (zero, within, here) rest same =
          let steps : other.path.steps ≡ row.path.steps = keys_back above number found other.path.steps e ∙ ap (λ k. above ++ record { node = number; keys = k } ∷ []) (here ∙ sym same) ∙ sym is in
          apart 0 other (omega arith) (λ i. record { steps = sym steps i })
      by (Some found) e (suc k, within, here) rest same = rest (k, omega (arith, within), here) same

  entries_apart : (rows : List Row) → AllPairs (λ (row later : Row). row.path ≢ later.path) rows → AreApart (entries rows above number)
  entries_apart [] apart = λ i j d less within. absurd (omega (arith, within))
  entries_apart (row ∷ rows) apart = by (keys_in above number row.path.steps) refl (entries_apart rows (λ i j d less within. apart (suc i) (suc j) d (omega (arith, less)) (omega (arith, within))))
    where
      by : (o : Option Keys) → keys_in above number row.path.steps ≡ o → AreApart (entries rows above number) → AreApart (cons_option o (entries rows above number))
      by None e rest = rest
      by (Some keys) e rest =
          pairs_cons (λ (one later : Keys). one ≢ later) keys (entries rows above number)
          (all_from (λ later. keys ≢ later) (entries rows above number) (entries_of_one rows keys row (keys_back above number keys row.path.steps e)
          (λ k d within. apart 0 (suc k) d (omega arith) (omega (arith, within))))) rest

  -- rows at and below one entry have that entry alone
  one_entry : (rows : List Row) (keys : Keys) → AllPairs (λ (row later : Row). row.path ≢ later.path) rows →
      ((row : Row) → Contains rows row → IsLower row.path.steps (above ++ record { node = number; keys = keys } ∷ [])) →
      has_row rows (above ++ record { node = number; keys = keys } ∷ []) ≡ true → entries rows above number ≡ keys ∷ []
  one_entry [] keys apart lower has = let clash : false ≡ true = has in cc
  one_entry (row ∷ rows) keys apart lower has =
      by (keys_in above number row.path.steps) refl (is_same_path row.path.steps (above ++ record { node = number; keys = keys } ∷ [])) refl has
      (one_entry rows keys (λ i j d less within. apart (suc i) (suc j) d (omega (arith, less)) (omega (arith, within))) (λ r there. lower r (contains_behind row rows r there)))
    where
      none_more : row.path.steps ≡ above ++ record { node = number; keys = keys } ∷ [] → (rs : List Row) → ((r : Row) → Contains rs r → Contains rows r) → entries rs above number ≡ []
      none_more is [] within = refl
      none_more is (r ∷ rs) within = go (keys_in above number r.path.steps) refl ∙ none_more is rs (λ x there. within x (contains_behind r rs x there))
        where
          go : (o : Option Keys) → keys_in above number r.path.steps ≡ o → cons_option o (entries rs above number) ≡ entries rs above number
          go None e = refl
          go (Some found) e =
              let there = within r (0, omega arith, refl) in
              let steps = keys_back above number found r.path.steps e in
              let low = lower r (contains_behind row rows r there) in
              let same : r.path.steps ≡ row.path.steps = steps ∙ ap (λ x. above ++ x ∷ []) (lower_same above _ _ (subst (λ ss. IsLower ss (above ++ record { node = number; keys = keys } ∷ [])) steps low)) ∙ sym is in
              absurd (all_at (λ (later : Row). row.path ≢ later.path) rows r (λ k d inside. apart 0 (suc k) d (omega arith) (omega (arith, inside))) there (λ i. record { steps = sym same i }))

      by : (o : Option Keys) → keys_in above number row.path.steps ≡ o → (b : Bool) → is_same_path row.path.steps (above ++ record { node = number; keys = keys } ∷ []) ≡ b →
          (b || has_row rows (above ++ record { node = number; keys = keys } ∷ [])) ≡ true →
          (has_row rows (above ++ record { node = number; keys = keys } ∷ []) ≡ true → entries rows above number ≡ keys ∷ []) → cons_option o (entries rows above number) ≡ keys ∷ []
      by o e true same has rest =
          let is = path_decide_to row.path.steps (above ++ record { node = number; keys = keys } ∷ []) same in
          ap (λ p. cons_option p (entries rows above number)) (sym e ∙ keys_of_row above number keys row.path.steps is)
          ∙ ap (λ es. keys ∷ es) (none_more is rows (λ r there. there))
      by None e false other has rest = rest has
      by (Some found) e false other has rest =
          let steps = keys_back above number found row.path.steps e in
          let low = lower row (0, omega arith, refl) in
          let is : row.path.steps ≡ above ++ record { node = number; keys = keys } ∷ [] =
          steps ∙ ap (λ x. above ++ x ∷ []) (lower_same above _ _ (subst (λ ss. IsLower ss (above ++ record { node = number; keys = keys } ∷ [])) steps low)) in
          let clash : true ≡ false = sym ((pointwise_decides step_decide row.path.steps (above ++ record { node = number; keys = keys } ∷ [])).1 is) ∙ other in cc

-- ---- an edit at an entry that the user orders
module _ (tables : Tables) (rights : Path → Right → Decision) (rows left : List Row) (edit : Edit) (proper : IsProperSchema tables) (tree : IsDataTree tables rows) (made : IsMade tables rights rows left edit)
    (above : List Step) (step : Step) (path_is : edit.path.steps ≡ above ++ step ∷ []) (user : is_by_user tables step.node ≡ true) (stands : has_row left edit.path.steps ≡ true) where
  abbrev place : Place
  place = place_by edit.action edit.place

  abbrev block : List Row
  block = new_block tables rows edit.path edit.action

  abbrev order : List Keys
  order = entries rows above step.node

  abbrev now : List Keys
  now = placed place step.keys order

  abbrev stays : Row → Bool
  stays row = not (is_at_or_below edit.path.steps row.path || list_any (λ added. excludes tables added.path.steps row.path.steps) block)

  abbrev before : Row → Bool
  before row = steps_before tables rows place [] row.path.steps edit.path.steps

  abbrev others : List Row
  others = filter stays rows

  left_same : left_by tables rows edit ≡ left
  left_same = left_is tables rows left edit (refusal tables rights rows edit) made.is

  below : All (λ row. IsAtOrBelow edit.path.steps row.path) block
  below = below_of tables rows edit.path edit.action made.fits.action

  abbrev entry_of : Keys → Step
  entry_of keys = record { node = step.node; keys = keys }

  -- the entry itself
  own_entry : entries block above step.node ≡ step.keys ∷ []
  own_entry =
      let left_tree = edit_keeps_tree tables rights rows left edit proper tree made.fits made.is in
      let is : block_at left edit.path.steps ≡ block = ap (λ rs. block_at rs edit.path.steps) (sym left_same) ∙ block_is_there tables rows edit.path place block below in
      one_entry above step.node block step.keys
      (subst (λ (rs : List Row). AllPairs (λ (row later : Row). row.path ≢ later.path) rs) is
      (pairs_filter (λ (row later : Row). row.path ≢ later.path) (λ row. is_at_or_below edit.path.steps row.path) left left_tree.distinct))
      (λ row has. (let low = all_at (λ (r : Row). IsAtOrBelow edit.path.steps r.path) block row below has in (low.0, low.1 ∙ ap (λ ss. ss ++ low.0) path_is)))
      (ap (has_row block) (sym path_is) ∙ there is)
    where
      there : block_at left edit.path.steps ≡ block → has_row block edit.path.steps ≡ true
      there is =
          let found = some_passes (λ row. is_same_path row.path.steps edit.path.steps) left stands in
          let same = path_decide_to found.0.path.steps edit.path.steps found.2 in
          ap (has_row block) (sym same)
          ∙ row_is_there block found.0 (subst (λ (rs : List Row). Contains rs found.0) is (contains_kept (λ row. is_at_or_below edit.path.steps row.path) found.0 left found.1 ((below_is_below edit.path.steps found.0.path).1 ([], same ∙ sym (append-nil edit.path.steps)))))

  -- the others: no case of theirs is given up
  same_cases : cases_differ (cases_of tables step.node) (cases_of tables step.node) ≡ false
  same_cases =
      cases_agree (cases_of tables step.node) (cases_of tables step.node)
      (λ choice case another has there. one_case tables (proper_nodes tables proper) step.node choice case another (from_cases tables step.node choice case has) (from_cases tables step.node choice another there))

  apart_step : (keys : Keys) → is_same_keys keys step.keys ≡ false → entry_of keys ≢ step
  apart_step keys other same = let clash : true ≡ false = sym ((keys_decide keys step.keys).1 (λ i. (same i).keys)) ∙ other in cc

  stays_is : (row : Row) (keys : Keys) → Contains rows row → keys_in above step.node row.path.steps ≡ Some keys → stays row ≡ not (is_same_keys keys step.keys)
  stays_is row keys has e = by (is_same_keys keys step.keys) refl
    where
      steps : row.path.steps ≡ above ++ entry_of keys ∷ []
      steps = keys_back above step.node keys row.path.steps e

      by : (b : Bool) → is_same_keys keys step.keys ≡ b → stays row ≡ not b
      by true same =
          let at : row.path.steps ≡ edit.path.steps = steps ∙ (λ i. above ++ record { node = step.node; keys = (keys_decide keys step.keys).0 same i } ∷ []) ∙ sym path_is in
          ap (λ b. not (b || list_any (λ added. excludes tables added.path.steps row.path.steps) block)) ((below_is_below edit.path.steps row.path).1 ([], at ∙ sym (append-nil edit.path.steps)))
      by false other =
          let outside : is_at_or_below edit.path.steps row.path ≡ false =
          is_false (is_at_or_below edit.path.steps row.path) (λ low.
          (let under = (below_is_below edit.path.steps row.path).0 low in
          apart_step keys other (lower_same above (entry_of keys) step (under.0, sym steps ∙ under.1 ∙ ap (λ ss. ss ++ under.0) path_is)))) in
          let free : list_any (λ added. excludes tables added.path.steps row.path.steps) block ≡ false =
          list_any_none (λ added. excludes tables added.path.steps row.path.steps) block
          (all_from (λ added. excludes tables added.path.steps row.path.steps ≡ false) block (λ added there.
          (let under = all_at (λ (r : Row). IsAtOrBelow edit.path.steps r.path) block added below there in
          (λ i. excludes tables ((under.1 ∙ ap (λ ss. ss ++ under.0) path_is ∙ append_assoc above (step ∷ []) under.0) i) (steps i))
          ∙ parting_excludes tables above step (entry_of keys) under.0 [] (λ same. apart_step keys other (sym same)) ∙ same_cases))) in
          λ i. not (outside i || free i)

  entries_others : entries others above step.node ≡ without_entry step.keys order
  entries_others = made_filter (λ row. keys_in above step.node row.path.steps) stays (λ keys. not (is_same_keys keys step.keys)) rows stays_is

  -- which of them come before
  before_is : (row : Row) (keys : Keys) → Contains others row → keys_in above step.node row.path.steps ≡ Some keys → before row ≡ stands_before now keys step.keys
  before_is row keys has e =
      (λ i. steps_before tables rows place [] (steps i) (path_is i))
      ∙ parting_test tables rows place [] above (entry_of keys) step [] [] differ
      ∙ (λ i. less i || (itself i && cond (user i) (stands_before now keys step.keys) (is_less (slice_cmp (slice_cmp nat_cmp) keys step.keys))))
    where
      steps : row.path.steps ≡ above ++ entry_of keys ∷ []
      steps = keys_back above step.node keys row.path.steps e

      differ : entry_of keys ≢ step
      differ = by (is_same_keys keys step.keys) refl
        where
          by : (b : Bool) → is_same_keys keys step.keys ≡ b → entry_of keys ≢ step
          by false other = apart_step keys other
          by true same = let clash : true ≡ false = sym (kept_true stays row rows has) ∙ stays_is row keys (kept_contains stays row rows has) e ∙ ap not same in cc

      less : ltb (sibling_place (keys_above tables (node_after None above)) step.node) (sibling_place (keys_above tables (node_after None above)) step.node) ≡ false
      less = le-ltb (sibling_place (keys_above tables (node_after None above)) step.node) (sibling_place (keys_above tables (node_after None above)) step.node) (omega arith)

      itself : (step.node == step.node) ≡ true
      itself = (Decides-eqb step.node step.node).1 refl

  -- the anchor is there
  beside : entries_beside rows edit.path.steps ≡ order
  beside =
      ap (entries_beside rows) path_is ∙ ap (λ o. option_map_or (λ s. entries rows (above_last (above ++ step ∷ [])) s.node) o []) (last_of None above step)
      ∙ ap (λ ss. entries rows ss step.node) (above_last_is above step)

  anchored : HasAnchor place order
  anchored = by place (no_cause (lacks_anchor rows edit) _ (no_first (cause_where (lacks_anchor rows edit) _) _ (no_first (missed tables rows edit.path edit.action) _ (not_refused tables rights rows left edit made.fits made.is)).1).0)
    where
      is_there : (anchor : Keys) → not (has_entry anchor (entries_beside rows edit.path.steps)) ≡ false → has_entry anchor order ≡ true
      is_there anchor e = ap (has_entry anchor) (sym beside) ∙ not-false (has_entry anchor (entries_beside rows edit.path.steps)) e

      by : (p : Place) → option_map_or (λ anchor. not (has_entry anchor (entries_beside rows edit.path.steps))) (anchor_of p) false ≡ false → HasAnchor p order
      by Kept e = tt
      by First e = tt
      by Last e = tt
      by (Before anchor) e = is_there anchor e
      by (After anchor) e = is_there anchor e

  pub lands : entries left above step.node ≡ now
  lands =
      ap (λ rs. entries rs above step.node) (sym left_same)
      ∙ filter_map-append k (filter before others ++ block) (filter (λ row. not (before row)) others)
      ∙ ap (λ ks. ks ++ entries (filter (λ row. not (before row)) others) above step.node) (filter_map-append k (filter before others) block)
      ∙ (λ i. (front_is i ++ own_entry i) ++ back_is i) ∙ append_assoc cut.front (step.keys ∷ []) cut.back ∙ sym cut.whole
    where
      k : Row → Option Keys
      k row = keys_in above step.node row.path.steps

      apart : AreApart order
      apart = entries_apart above step.node rows tree.distinct

      cut : IsCutAt step.keys now (without_entry step.keys order)
      cut = placed_cut place step.keys order apart anchored

      first : Keys → Bool
      first keys = stands_before now keys step.keys

      apart_others : AreApart (cut.front ++ cut.back)
      apart_others = subst AreApart cut.rest (pairs_filter (λ (one later : Keys). one ≢ later) (λ keys. not (is_same_keys keys step.keys)) order apart)

      no_own : IsNone step.keys (cut.front ++ cut.back)
      no_own = subst (IsNone step.keys) cut.rest (without_none step.keys order)

      in_first : (keys : Keys) → Contains cut.front keys → first keys ≡ true
      in_first keys has =
          ap (λ os. stands_before os keys step.keys) cut.whole
          ∙ in_front step.keys cut.front cut.back keys (λ entry there. no_own entry (Contains-append_left cut.front cut.back entry there)) has

      in_last : (keys : Keys) → Contains cut.back keys → first keys ≡ false
      in_last keys has =
          ap (λ os. stands_before os keys step.keys) cut.whole
          ∙ behind step.keys cut.front cut.back keys (λ entry there. is_false (is_same_keys entry keys) (λ same. parted cut.front cut.back entry keys apart_others there has ((keys_decide entry keys).0 same)))

      front_is : entries (filter before others) above step.node ≡ cut.front
      front_is =
          made_filter k before first others before_is ∙ ap (filter first) (entries_others ∙ cut.rest) ∙ filter-append first cut.front cut.back
          ∙ (λ i. filter_whole first cut.front in_first i ++ filter_none first cut.back in_last i) ∙ append-nil cut.front

      back_is : entries (filter (λ row. not (before row)) others) above step.node ≡ cut.back
      back_is =
          made_filter k (λ row. not (before row)) (λ keys. not (first keys)) others (λ row keys has e. ap not (before_is row keys has e)) ∙ ap (filter (λ keys. not (first keys))) (entries_others ∙ cut.rest)
          ∙ filter-append (λ keys. not (first keys)) cut.front cut.back
          ∙ (λ i. filter_none (λ keys. not (first keys)) cut.front (λ keys has. ap not (in_first keys has)) i ++ filter_whole (λ keys. not (first keys)) cut.back (λ keys has. ap not (in_last keys has)) i)

pub entry_lands : EntryLands
entry_lands tables rights rows left edit proper tree made above step path_is user stands = lands tables rights rows left edit proper tree made above step path_is user stands
