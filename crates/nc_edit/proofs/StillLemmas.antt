-- A node that is put back as it stood changes nothing.
use Rattle.std.proofs.Common.{Bor, ◌≡◌, ◌≢◌, ◌&&◌, ◌||◌, ◌++◌, ℕ, Bool, true, false, cond, not, List, [], ◌∷◌, Option, Some, None, drop, map, refl, sym, ap, subst, ◌∙◌}
use Rattle.std.specs.Prelude.{Err, IfOk, Ok, Result}
use Rattle.std.specs.Cmp.{IsTotalOrder}
use Rattle.std.specs.List.{AllByRecursion as Each, cons_option, filter, filter_map, last_or, list_all, list_any, reduce}
use Rattle.std.specs.Option.{is_none, option_map_or}
use Rattle.std.specs.Ordering.{is_lt}
use Rattle.std.specs.declared.cmp.Ordering.{Ordering}
use Rattle.std.specs.declared.cmp.Ordering.TheVariants.{Less, Equal, Greater}
use Rattle.std.proofs.lemmas.Cmp.{lists_total, nat_cmp_total, nat_list_cmp_total, on_total, then_total, tied_itself}
use Rattle.std.proofs.lemmas.List.{append-nil}
use Rattle.std.proofs.lemmas.List.Elements.{filter_map-append, filter_passes, recursion_from_All}
use Rattle.nc_names.proofs.SameLemmas.{keys_decide, value_decide}
use Rattle.nc_names.proofs.StepOrder.{same_itself, same_path}
use Rattle.nc_names.specs.Same.{is_at_or_below, is_same_path, is_same_step, is_same_value}
use Rattle.nc_names.specs.declared.path.Path.{Path}
use Rattle.nc_names.specs.declared.path.Place.{Place}
use Rattle.nc_names.specs.declared.path.Right.{Right}
use Rattle.nc_names.specs.declared.path.Right.TheVariants.{Delete as MayDelete, Update as MayUpdate}
use Rattle.nc_names.specs.declared.path.Row.{Row}
use Rattle.nc_names.specs.declared.path.Step.{Step}
use Rattle.nc_schema.specs.Blocks.{above_from, above_last, entries_beside, row_at, with_block}
use Rattle.nc_schema.specs.Standing.{block_at, entries, excludes, is_by_user, keys_in, steps_before}
use Rattle.nc_schema.specs.Tables.{Tables}
use Rattle.nc_protocol.specs.Changes.{entries_among, entry_above, has_moved, is_missing, is_same_entry, moves_between}
use Rattle.nc_protocol.specs.Edited.{Change, change_at, changes_by, earlier, first_denied, gives_way, new_block, place_by}
use Rattle.nc_protocol.specs.declared.access.Decision.{Decision}
use Rattle.nc_protocol.specs.declared.edit.Edit.{Edit}
use Rattle.nc_branches.specs.Singles.{AreSingle}
use Rattle.nc_changes.proofs.FoundLemmas.{missing_is}
use Rattle.nc_edit.specs.inner.Denied.{is_ordered}
use Rattle.nc_edit.specs.inner.Single.{has_its_value, rises, rises_from, steps_order}
use Rattle.nc_edit.proofs.FirstDenied.{unmoved}
use Rattle.nc_edit.proofs.StoodLemmas.{change_some, found_below}
use Rattle.nc_protocol.proofs.PlaceLemmas.{below_is_below}

steps_total : IsTotalOrder steps_order
steps_total = lists_total (then_total (on_total (λ (s : Step). s.node) nat_cmp_total) (on_total (λ (s : Step). s.keys) (lists_total nat_list_cmp_total)))

first_true : (a b : Bool) → (a && b) ≡ true → a ≡ true
first_true true b e = refl
first_true false b e = e

second_true : (a b : Bool) → (a && b) ≡ true → b ≡ true
second_true true b e = e
second_true false b e = absurd (cc e)

less_is : (o : Ordering) → is_lt o ≡ true → o ≡ Less
less_is Less e = refl
less_is Equal e = absurd (cc e)
less_is Greater e = absurd (cc e)

-- what is so of each in two ways is so in a third
both : {X : Type 0} (P Q R : X → Type 0) → ((x : X) → P x → Q x → R x) → (xs : List X) → Each P xs → Each Q xs → Each R xs
both P Q R joins [] p q = tt
both P Q R joins (x ∷ xs) p q = (joins x p.0 q.0, both P Q R joins xs p.1 q.1)

weaker : {X : Type 0} (P R : X → Type 0) → ((x : X) → P x → R x) → (xs : List X) → Each P xs → Each R xs
weaker P R more [] p = tt
weaker P R more (x ∷ xs) p = (more x p.0, weaker P R more xs p.1)

all_each : {X : Type 0} (p : X → Bool) (xs : List X) → Each (λ x. p x ≡ true) xs → list_all p xs ≡ true
all_each p [] each = refl
all_each p (x ∷ xs) each = (λ i. each.0 i && all_each p xs each.1 i)

-- rows that rise come after what is before the first of them
later : (depth : ℕ) (steps : List Step) (rows : List Row) → rises_from depth steps rows ≡ true → Each (λ row. steps_order steps (drop depth row.path.steps) ≡ Less) rows
later depth steps [] is = tt
later depth steps (row ∷ rows) is =
    let here : steps_order steps (drop depth row.path.steps) ≡ Less = less_is _ (first_true _ (rises_from depth (drop depth row.path.steps) rows) is) in (
      here,
      weaker (λ (one : Row). steps_order (drop depth row.path.steps) (drop depth one.path.steps) ≡ Less) (λ (one : Row). steps_order steps (drop depth one.path.steps) ≡ Less)
          (λ one after. steps_total.trans steps (drop depth row.path.steps) (drop depth one.path.steps) here after) rows
          (later depth (drop depth row.path.steps) rows (second_true (is_lt (steps_order steps (drop depth row.path.steps))) _ is)),
    )

-- so they have other paths
apart : (depth : ℕ) (steps others : List Step) → steps_order (drop depth steps) (drop depth others) ≡ Less → is_same_path steps others ≡ false
apart depth steps others less = by (is_same_path steps others) refl
  where
    by : (b : Bool) → is_same_path steps others ≡ b → b ≡ false
    by false e = refl
    by true e =
        let tied : steps_order (drop depth steps) (drop depth others) ≡ Equal =
        ap (λ (one : List Step). steps_order (drop depth one) (drop depth others)) (same_path steps others e) ∙ tied_itself steps_total (drop depth others) in
        absurd (cc (tied, less))

tail_rises : (depth : ℕ) (steps : List Step) (rows : List Row) → rises_from depth steps rows ≡ true → rises depth rows ≡ true
tail_rises depth steps [] is = refl
tail_rises depth steps (row ∷ rows) is = second_true (is_lt (steps_order steps (drop depth row.path.steps))) _ is

itself : (depth : ℕ) (rows : List Row) → rises depth rows ≡ true → Each (λ (row : Row). row_at rows row.path.steps ≡ Some row) rows
itself depth [] is = tt
itself depth (row ∷ rows) is = (
  ap (λ b. cond b (Some row) (row_at rows row.path.steps)) (same_itself row.path.steps row.path.steps refl),
  both (λ (one : Row). steps_order (drop depth row.path.steps) (drop depth one.path.steps) ≡ Less) (λ (one : Row). row_at rows one.path.steps ≡ Some one)
      (λ (one : Row). row_at (row ∷ rows) one.path.steps ≡ Some one)
      (λ one after found. ap (λ b. cond b (Some row) (row_at rows one.path.steps)) (apart depth row.path.steps one.path.steps after) ∙ found)
      rows (later depth (drop depth row.path.steps) rows is) (itself depth rows (tail_rises depth (drop depth row.path.steps) rows is)),
)

-- rows that rise have the values that stand at their paths
risen : (depth : ℕ) (rows : List Row) → rises depth rows ≡ true → Each (λ (row : Row). has_its_value rows row ≡ true) rows
risen depth rows is =
    weaker (λ (row : Row). row_at rows row.path.steps ≡ Some row) (λ (row : Row). has_its_value rows row ≡ true)
    (λ row found. ap (λ (one : Option Row). option_map_or (λ (first : Row). is_same_value first.value row.value) one false) found ∙ (value_decide row.value row.value).1 refl)
    rows (itself depth rows is)

pub risen_all : (depth : ℕ) (rows : List Row) → rises depth rows ≡ true → list_all (has_its_value rows) rows ≡ true
risen_all depth rows is = all_each (has_its_value rows) rows (risen depth rows is)

-- ---- entries below a node
-- a row elsewhere is no entry below a node
elsewhere : (top more : List Step) (number : ℕ) (steps : List Step) → is_at_or_below top (record { steps = steps }) ≡ false → keys_in (top ++ more) number steps ≡ None
elsewhere [] more number steps other = absurd (cc other)
elsewhere (over ∷ top) more number [] other = refl
elsewhere (over ∷ top) more number (step ∷ steps) other = by (is_same_step over step) other (elsewhere top more number steps)
  where
    by : (b : Bool) → (b && is_at_or_below top (record { steps = steps })) ≡ false → (is_at_or_below top (record { steps = steps }) ≡ false → keys_in (top ++ more) number steps ≡ None) →
        cond b (keys_in (top ++ more) number steps) None ≡ None
    by true e more_there = more_there e
    by false e more_there = refl

entries_cut : (rows : List Row) (top more : List Step) (number : ℕ) → entries (block_at rows top) (top ++ more) number ≡ entries rows (top ++ more) number
entries_cut [] top more number = refl
entries_cut (row ∷ rows) top more number = by (is_at_or_below top row.path) refl (entries_cut rows top more number)
  where
    by : (b : Bool) → is_at_or_below top row.path ≡ b → entries (block_at rows top) (top ++ more) number ≡ entries rows (top ++ more) number →
        entries (cond b (row ∷ block_at rows top) (block_at rows top)) (top ++ more) number ≡ cons_option (keys_in (top ++ more) number row.path.steps) (entries rows (top ++ more) number)
    by true e rest = ap (cons_option (keys_in (top ++ more) number row.path.steps)) rest
    by false e rest = rest ∙ ap (λ o. cons_option o (entries rows (top ++ more) number)) (sym (elsewhere top more number row.path.steps e))

-- rows of which none is at or below a node have no entries below it
no_entries : (rows : List Row) (top more : List Step) (number : ℕ) (p q : Row → Bool) → ((row : Row) → p row ≡ true → is_at_or_below top row.path ≡ false) →
    entries (filter q (filter p rows)) (top ++ more) number ≡ []
no_entries [] top more number p q apart_from = refl
no_entries (row ∷ rows) top more number p q apart_from = by (p row) (q row) refl (no_entries rows top more number p q apart_from)
  where
    by : (b c : Bool) → p row ≡ b → entries (filter q (filter p rows)) (top ++ more) number ≡ [] →
        entries (filter q (cond b (row ∷ filter p rows) (filter p rows))) (top ++ more) number ≡ []
    by false c e rest = rest
    by true c e rest = here (q row) rest
      where
        here : (d : Bool) → entries (filter q (filter p rows)) (top ++ more) number ≡ [] → entries (cond d (row ∷ filter q (filter p rows)) (filter q (filter p rows))) (top ++ more) number ≡ []
        here false rest = rest
        here true rest = ap (λ o. cons_option o (entries (filter q (filter p rows)) (top ++ more) number)) (elsewhere top more number row.path.steps (apart_from row e)) ∙ rest

not_or : (a b : Bool) → not (a || b) ≡ true → a ≡ false
not_or true b e = absurd (cc e)
not_or false b e = refl

-- the entries of a list below a node that is put back are those that stood
entries_back : (tables : Tables) (rows : List Row) (path : Path) (place : Place) (more : List Step) (number : ℕ) →
    entries (with_block tables rows path place (block_at rows path.steps)) (path.steps ++ more) number ≡ entries rows (path.steps ++ more) number
entries_back tables rows path place more number =
    filter_map-append key (filter front others ++ block) (filter (λ row. not (front row)) others)
    ∙ (λ i. (filter_map-append key (filter front others) block ∙ (λ j. none front j ++ entries_cut rows path.steps more number j)) i ++ none (λ row. not (front row)) i)
    ∙ append-nil (entries rows (path.steps ++ more) number)
  where
    key : Row → Option (List (List ℕ))
    key row = keys_in (path.steps ++ more) number row.path.steps

    block : List Row
    block = block_at rows path.steps

    stays : Row → Bool
    stays row = not (is_at_or_below path.steps row.path || list_any (λ added. excludes tables added.path.steps row.path.steps) block)

    others : List Row
    others = filter stays rows

    front : Row → Bool
    front row = steps_before tables rows place [] row.path.steps path.steps

    none : (q : Row → Bool) → filter_map key (filter q others) ≡ []
    none q = no_entries rows path.steps more number stays q (λ row is. not_or _ _ is)

-- ---- what stands is put back
-- an order has no moves to itself
none_moves : (order : List (List (List ℕ))) (keys : List (List ℕ)) → moves_between order order keys ≡ false
none_moves order keys = ap not (same (entry_above keys (entries_among order order)))
  where
    same : (entry : Option (List (List ℕ))) → is_same_entry entry entry ≡ true
    same None = refl
    same (Some one) = (keys_decide one one).1 refl

over_from : (step : Step) (path : List Step) (next : Step) (more : List Step) → above_from step (path ++ next ∷ more) ≡ step ∷ (path ++ above_from next more)
over_from step [] next more = refl
over_from step (one ∷ path) next more = ap (λ rest. step ∷ rest) (over_from one path next more)

above_below : (path : List Step) (step : Step) (more : List Step) → above_last (path ++ step ∷ more) ≡ path ++ above_from step more
above_below [] step more = refl
above_below (one ∷ path) step more = over_from one path step more

module _ (tables : Tables) (rows : List Row) (path : Path) (place : Place) where
  abbrev after : List Row
  after = with_block tables rows path place (block_at rows path.steps)

  beside_below : (step : Step) (more : List Step) → entries_beside after (path.steps ++ step ∷ more) ≡ entries_beside rows (path.steps ++ step ∷ more)
  beside_below step more =
      (λ i. option_map_or (λ (last : Step). same last.node i) (last_or None (path.steps ++ step ∷ more)) [])
    where
      same : (number : ℕ) → entries after (above_last (path.steps ++ step ∷ more)) number ≡ entries rows (above_last (path.steps ++ step ∷ more)) number
      same number =
          ap (λ (above : List Step). entries after above number) (above_below path.steps step more)
          ∙ entries_back tables rows path place (above_from step more) number
          ∙ sym (ap (λ (above : List Step). entries rows above number) (above_below path.steps step more))

  -- no entry below the node has moved
  unmoved_below : (step : Step) (more : List Step) → has_moved tables rows after (path.steps ++ step ∷ more) ≡ false
  unmoved_below step more =
      (λ i. option_map_or (λ (last : Step). is_by_user tables last.node
      && moves_between (entries_beside rows (path.steps ++ step ∷ more)) (beside_below step more i) last.keys) (last_or None (path.steps ++ step ∷ more)) false)
      ∙ by (last_or None (path.steps ++ step ∷ more))
    where
      by : (o : Option Step) → option_map_or (λ (last : Step). is_by_user tables last.node
          && moves_between (entries_beside rows (path.steps ++ step ∷ more)) (entries_beside rows (path.steps ++ step ∷ more)) last.keys) o false ≡ false
      by None = refl
      by (Some last) = here (is_by_user tables last.node) (none_moves (entries_beside rows (path.steps ++ step ∷ more)) last.keys)
        where
          here : (b : Bool) → moves_between (entries_beside rows (path.steps ++ step ∷ more)) (entries_beside rows (path.steps ++ step ∷ more)) last.keys ≡ false →
              (b && moves_between (entries_beside rows (path.steps ++ step ∷ more)) (entries_beside rows (path.steps ++ step ∷ more)) last.keys) ≡ false
          here true e = e
          here false e = refl

  module _ (none : is_ordered tables path.steps ≡ false) where
    unmoved_here : (row : Row) → is_at_or_below path.steps row.path ≡ true → has_moved tables rows after row.path.steps ≡ false
    unmoved_here row below = by ((below_is_below path.steps row.path).0 below)
      where
        by : ((more : List Step) × (row.path.steps ≡ path.steps ++ more)) → has_moved tables rows after row.path.steps ≡ false
        by ([], is) = ap (has_moved tables rows after) (is ∙ append-nil path.steps) ∙ unmoved tables rows after path.steps none
        by (step ∷ more, is) = ap (has_moved tables rows after) is ∙ unmoved_below step more

    no_change : (row : Row) → is_at_or_below path.steps row.path ≡ true → has_its_value (block_at rows path.steps) row ≡ true → change_at tables rows after row ≡ None
    no_change row below its = by (row_at rows row.path.steps) refl (sym (ap (λ (found : Option Row). option_map_or (λ (first : Row). is_same_value first.value row.value) found false) (found_below rows path.steps row.path below)) ∙ its)
      where
        by : (found : Option Row) → row_at rows row.path.steps ≡ found → option_map_or (λ (first : Row). is_same_value first.value row.value) (row_at rows row.path.steps) false ≡ true →
            change_at tables rows after row ≡ None
        by None e it = let clash : false ≡ true = sym (ap (λ (found : Option Row). option_map_or (λ (first : Row). is_same_value first.value row.value) found false) e) ∙ it in absurd (cc clash)
        by (Some first) e it =
            let value : is_same_value first.value row.value ≡ true = sym (ap (λ (found : Option Row). option_map_or (λ (one : Row). is_same_value one.value row.value) found false) e) ∙ it in
            sym (change_some tables rows after row first (sym e))
            ∙ (λ i. cond (not (value i) || unmoved_here row below i) (Some (record { path = row.path; right = MayUpdate })) None)

-- a row that has its value there is not missing
there : (rows : List Row) (row : Row) → has_its_value rows row ≡ true → is_missing rows row ≡ false
there rows row its = by (row_at rows row.path.steps) refl its
  where
    by : (found : Option Row) → row_at rows row.path.steps ≡ found → option_map_or (λ (first : Row). is_same_value first.value row.value) found false ≡ true → is_missing rows row ≡ false
    by None e it = absurd (cc it)
    by (Some first) e it = sym (missing_is rows row) ∙ ap is_none e

none_kept : {X : Type 0} (p : X → Bool) (xs : List X) → Each (λ x. p x ≡ false) xs → filter p xs ≡ []
none_kept p [] none = refl
none_kept p (x ∷ xs) none = ap (λ b. cond b (x ∷ filter p xs) (filter p xs)) none.0 ∙ none_kept p xs none.1

none_made : {X Y : Type 0} (f : X → Option Y) (xs : List X) → Each (λ x. f x ≡ None) xs → filter_map f xs ≡ []
none_made f [] none = refl
none_made f (x ∷ xs) none = ap (λ o. cons_option o (filter_map f xs)) none.0 ∙ none_made f xs none.1

each_all : {X : Type 0} (p : X → Bool) (xs : List X) → list_all p xs ≡ true → Each (λ x. p x ≡ true) xs
each_all p [] all = tt
each_all p (x ∷ xs) all = (first_true (p x) (list_all p xs) all, each_all p xs (second_true (p x) (list_all p xs) all))

-- so the edit changes nothing, and nothing is denied
still_none : (tables : Tables) (rights : Path → Right → Decision) (rows : List Row) (edit : Edit) →
    new_block tables rows edit.path edit.action ≡ block_at rows edit.path.steps → is_ordered tables edit.path.steps ≡ false →
    list_all (has_its_value (block_at rows edit.path.steps)) (block_at rows edit.path.steps) ≡ true →
    None ≡ first_denied tables rights rows edit
still_none tables rights rows edit stays none all =
    sym (ap (λ (changes : List Change). reduce (earlier tables rows) (filter (λ change. not (rights change.path change.right).permit) changes)) nothing)
  where
    block : List Row
    block = block_at rows edit.path.steps

    place : Place
    place = place_by edit.action edit.place

    its : Each (λ (row : Row). has_its_value block row ≡ true) block
    its = each_all (has_its_value block) block all

    below : Each (λ (row : Row). is_at_or_below edit.path.steps row.path ≡ true) block
    below = recursion_from_All (λ (row : Row). is_at_or_below edit.path.steps row.path ≡ true) block (filter_passes (λ (row : Row). is_at_or_below edit.path.steps row.path) rows)

    dropped_none : filter (λ row. is_missing block row && not (gives_way tables block row)) block ≡ []
    dropped_none = none_kept (λ row. is_missing block row && not (gives_way tables block row)) block
        (weaker (λ (row : Row). has_its_value block row ≡ true) (λ (row : Row). (is_missing block row && not (gives_way tables block row)) ≡ false)
        (λ row is. ap (λ b. b && not (gives_way tables block row)) (there block row is)) block its)

    made_none : filter_map (change_at tables rows (with_block tables rows edit.path place block)) block ≡ []
    made_none = none_made (change_at tables rows (with_block tables rows edit.path place block)) block
        (both (λ (row : Row). is_at_or_below edit.path.steps row.path ≡ true) (λ (row : Row). has_its_value block row ≡ true)
        (λ (row : Row). change_at tables rows (with_block tables rows edit.path place block) row ≡ None)
        (λ row is value. no_change tables rows edit.path place none row is value) block below its)

    nothing : changes_by tables rows edit ≡ []
    nothing =
        ap (λ (new : List Row). map (λ row. record { path = row.path; right = MayDelete }) (filter (λ row. is_missing new row && not (gives_way tables new row)) block)
        ++ filter_map (change_at tables rows (with_block tables rows edit.path place new)) new) stays
        ∙ (λ i. map (λ row. record { path = row.path; right = MayDelete }) (dropped_none i) ++ made_none i)

-- so it is where rows are found to have one value at each path
pub single_none : {E : Type 0} (result : Result Bool E) (tables : Tables) (rows : List Row) (edit : Edit) (found listed : List (Bor Row)) →
    new_block tables rows edit.path edit.action ≡ block_at rows edit.path.steps → is_ordered tables edit.path.steps ≡ false →
    listed ≡ found → map (λ row. row.now) found ≡ block_at rows edit.path.steps →
    IfOk result (λ it. it ≡ true → list_all (has_its_value (map (λ row. row.now) listed)) (map (λ row. row.now) listed) ≡ true) →
    IfOk result (λ it. it ≡ true → (rights : Path → Right → Decision) → None ≡ first_denied tables rights rows edit)
single_none (Err e) tables rows edit found listed stays none listed_is found_is single = tt
single_none (Ok it) tables rows edit found listed stays none listed_is found_is single = λ is rights.
    still_none tables rights rows edit stays none
    (subst (λ (block : List Row). list_all (has_its_value block) block ≡ true) (ap (map (λ (row : Bor Row). row.now)) listed_is ∙ found_is) (single is))

-- ---- rows of which no two have one path
not_same : (steps others : List Step) → steps ≢ others → is_same_path steps others ≡ false
not_same steps others differ = by (is_same_path steps others) refl
  where
    by : (b : Bool) → is_same_path steps others ≡ b → b ≡ false
    by false e = refl
    by true e = absurd (differ (same_path steps others e))

each_itself : (rows : List Row) → AreSingle rows → Each (λ (row : Row). row_at rows row.path.steps ≡ Some row) rows
unfolding AreSingle
each_itself [] single = tt
each_itself (row ∷ rows) single = (
  ap (λ b. cond b (Some row) (row_at rows row.path.steps)) (same_itself row.path.steps row.path.steps refl),
  both (λ (one : Row). row.path.steps ≢ one.path.steps) (λ (one : Row). row_at rows one.path.steps ≡ Some one)
      (λ (one : Row). row_at (row ∷ rows) one.path.steps ≡ Some one)
      (λ one differ found. ap (λ b. cond b (Some row) (row_at rows one.path.steps)) (not_same row.path.steps one.path.steps differ) ∙ found)
      rows (recursion_from_All (λ (one : Row). row.path.steps ≢ one.path.steps) rows single.0) (each_itself rows single.1),
)

single_all : (rows : List Row) → AreSingle rows → list_all (has_its_value rows) rows ≡ true
single_all rows single = all_each (has_its_value rows) rows
    (weaker (λ (row : Row). row_at rows row.path.steps ≡ Some row) (λ (row : Row). has_its_value rows row ≡ true)
    (λ row found. ap (λ (one : Option Row). option_map_or (λ (first : Row). is_same_value first.value row.value) one false) found ∙ (value_decide row.value row.value).1 refl)
    rows (each_itself rows single))

-- so an edit that leaves them changes nothing
pub single_marked : (tables : Tables) (rows : List Row) (edit : Edit) →
    new_block tables rows edit.path edit.action ≡ block_at rows edit.path.steps → is_ordered tables edit.path.steps ≡ false →
    AreSingle (block_at rows edit.path.steps) → (rights : Path → Right → Decision) → None ≡ first_denied tables rights rows edit
single_marked tables rows edit stays none single = λ rights. still_none tables rights rows edit stays none (single_all (block_at rows edit.path.steps) single)
