-- A node that comes after all rows so far is put behind them.
use Rattle.std.proofs.Common.{◌≡◌, ◌≢◌, ◌⊎◌, ◌||◌, ◌&&◌, not, cond, ℕ, suc, Bool, true, false, List, [], ◌∷◌, ◌++◌, length, Option, None, refl, sym, ap, subst, ◌∙◌, inl, inr, arith}
use Rattle.std.proofs.lemmas.List.{append_assoc, append-nil}
use Rattle.std.proofs.lemmas.List.Elements.{Contains-append_left, filter_map-append}
use Rattle.std.proofs.lemmas.List.Folds.{list_any_none}
use Rattle.std.specs.Prelude.{slice_get}
use Rattle.std.specs.List.{All, AllPairs, Contains, filter, list_any}
use Rattle.nc_names.specs.Same.{is_at_or_below, is_same_keys}
use Rattle.nc_names.specs.declared.path.Path.{Path}
use Rattle.nc_names.specs.declared.path.Place.TheVariants.{Kept}
use Rattle.nc_names.specs.declared.path.Row.{Row}
use Rattle.nc_names.specs.declared.path.Step.{Step}
use Rattle.nc_schema.specs.Blocks.{at_node, rows_of_node, with_block}
use Rattle.nc_schema.specs.Configuration.{HasItsValue, IsAtOrBelow, IsDataTree, KeysFollow}
use Rattle.nc_schema.specs.Kinds.{has_value}
use Rattle.nc_schema.specs.Order.{IsBefore, keys_above}
use Rattle.nc_schema.specs.Paths.{IsPathOf, key_count}
use Rattle.nc_schema.specs.Standing.{block_at, cases_of, entries, excludes, exists, has_entry, place_at, placed, sibling_before, stands_before, steps_before}
use Rattle.nc_schema.specs.Tables.{Tables}
use Rattle.nc_schema.specs.declared.node.Node.{Node}
use Rattle.nc_schema.proofs.ProperLemmas.{HasProperNodes}
use Rattle.nc_protocol.proofs.BoolLemmas.{is_false, neither}
use Rattle.nc_protocol.proofs.CaseLemmas.{cases_agree, from_cases}
use Rattle.nc_protocol.proofs.EntryLemmas.{has_its_entry}
use Rattle.nc_protocol.proofs.KeyLemmas.{filter_none, filter_whole}
use Rattle.nc_protocol.proofs.ListLemmas.{contains_here, some_same}
use Rattle.nc_protocol.proofs.Parts.{IsPartOf, all_at, all_from, pair_at, pairs_from, part_at, part_first, part_front, part_of_part, part_three}
use Rattle.nc_protocol.proofs.PathViews.{IsHigher, IsLower, IsParting, below_parting, before_higher, before_parting, excludes_higher, excludes_lower, excludes_parting, node_after, view}
use Rattle.nc_protocol.proofs.PlaceLemmas.{below_is_below, sibling_from}
use Rattle.nc_protocol.proofs.RiseLemmas.{user_true}
use Rattle.nc_protocol.proofs.SiblingLemmas.{GoesBefore, IsEntryOf, IsStepAt, entry_of, path_step, siblings, together_at}
use Rattle.nc_protocol.specs.Edited.{new_block}
use Rattle.nc_protocol.specs.declared.edit.Action.TheVariants.{Merge}
use Rattle.nc_print.proofs.StartLemmas.{Fresh}

-- ---- an entry that stands before another in a list stands so where the list is cut, or the other put last
before_in_front : (order more : List (List (List ℕ))) (x y : List (List ℕ)) → stands_before (order ++ more) x y ≡ true → has_entry x order ≡ true → stands_before order x y ≡ true
before_in_front [] more x y before has = let clash : false ≡ true = has in cc
before_in_front (entry ∷ order) more x y before has = by (is_same_keys entry y) (is_same_keys entry x) (before_in_front order more x y) before has
  where
    by : (a b : Bool) → (stands_before (order ++ more) x y ≡ true → has_entry x order ≡ true → stands_before order x y ≡ true) → cond a false (cond b true (stands_before (order ++ more) x y)) ≡ true → (b || has_entry x order) ≡ true → cond a false (cond b true (stands_before order x y)) ≡ true
    by true b rest e h = e
    by false true rest e h = refl
    by false false rest e h = rest e h

before_last : (order : List (List (List ℕ))) (x y : List (List ℕ)) → stands_before order x y ≡ true → stands_before (order ++ y ∷ []) x y ≡ true
before_last [] x y before = let clash : false ≡ true = before in cc
before_last (entry ∷ order) x y before = by (is_same_keys entry y) (is_same_keys entry x) (before_last order x y) before
  where
    by : (a b : Bool) → (stands_before order x y ≡ true → stands_before (order ++ y ∷ []) x y ≡ true) → cond a false (cond b true (stands_before order x y)) ≡ true → cond a false (cond b true (stands_before (order ++ y ∷ []) x y)) ≡ true
    by true b rest e = e
    by false true rest e = refl
    by false false rest e = rest e

before_kept : (order : List (List (List ℕ))) (x y : List (List ℕ)) → stands_before order x y ≡ true → stands_before (placed Kept y order) x y ≡ true
before_kept order x y before = by (has_entry y order)
  where
    by : (b : Bool) → stands_before (cond b order (order ++ y ∷ [])) x y ≡ true
    by true = before
    by false = before_last order x y before

-- a place beside other steps
kept_there : (steps : List Step) → place_at Kept steps ≡ Kept
kept_there [] = refl
kept_there (step ∷ steps) = refl

some_keys : (x y : Step) → x.node ≡ y.node → length x.keys ≡ length y.keys → x ≢ y → (count : ℕ) × (length x.keys ≡ suc count)
some_keys x y same lengths differ = by x.keys y.keys refl refl lengths
  where
    by : (some others : List (List ℕ)) → x.keys ≡ some → y.keys ≡ others → length some ≡ length others → (count : ℕ) × (length some ≡ suc count)
    by [] [] none none' e = absurd (differ (λ i. record { node = same i; keys = (none ∙ sym none') i }))
    by [] (k ∷ ks) none some e = absurd (omega (arith, e))
    by (k ∷ ks) others some others_are e = (length ks, refl)

module _ (tables : Tables) (proper : HasProperNodes tables) (rows : List Row) (tree : IsDataTree tables rows) where
  -- the first rows of a data tree are one, where the keys of their entries are among them
  pub front_is_tree : (front rest : List Row) → rows ≡ front ++ rest → KeysFollow tables front → IsDataTree tables front
  front_is_tree front rest whole keys = record {
    below = each (λ row. IsAtOrBelow [] row.path) tree.below;
    paths = each (λ row. IsPathOf tables row.path) tree.paths;
    distinct = pairs (λ row later. row.path ≢ later.path) tree.distinct;
    ordered = pairs (λ row later. ¬ IsBefore tables later.path row.path) tree.ordered;
    together = λ first between last row other steps is below beside.
        all_from (λ (inner : Row). IsAtOrBelow steps inner.path) between (λ inner has.
        together_at rows row inner other steps tree.together
        (wider (row ∷ inner ∷ other ∷ []) (subst (λ (rs : List Row). IsPartOf (row ∷ inner ∷ other ∷ []) rs) (sym is) (part_three first between last row inner other has))) below beside);
    values = each (HasItsValue tables) tree.values;
    keys = keys;
    ancestors = λ before after row above step next more node is. tree.ancestors before (after ++ rest) row above step next more node (longer before after row is);
    cases = λ row other above more others step beside choice case another has has_other.
        tree.cases row other above more others step beside choice case another (within row has) (within other has_other);
  }
    where
      within : (row : Row) → Contains front row → Contains rows row
      within row has = subst (λ (rs : List Row). Contains rs row) (sym whole) (Contains-append_left front rest row has)

      wider : (some : List Row) → IsPartOf some front → IsPartOf some rows
      wider some part = part_of_part some front rows part (subst (λ (rs : List Row). IsPartOf front rs) (sym whole) (part_front front rest))

      each : (P : Row → Type 0) → All P rows → All P front
      each P all = all_from P front (λ row has. all_at P rows row all (within row has))

      pairs : (R : Row → Row → Type 0) → AllPairs R rows → AllPairs R front
      pairs R all = pairs_from R front (λ a b part. pair_at R rows a b all (wider (a ∷ b ∷ []) part))

      longer : (before after : List Row) (row : Row) → front ≡ before ++ row ∷ after → rows ≡ before ++ row ∷ (after ++ rest)
      longer before after row is = whole ∙ ap (λ rs. rs ++ rest) is ∙ append_assoc before (row ∷ after) rest

  -- rows of one data tree do not exclude each other
  pub none_excluded : (one other : Row) → Contains rows one → Contains rows other → excludes tables one.path.steps other.path.steps ≡ false
  none_excluded one other has there = by (view one.path.steps other.path.steps)
    where
      by : IsParting one.path.steps other.path.steps ⊎ IsHigher one.path.steps other.path.steps ⊎ IsLower one.path.steps other.path.steps → excludes tables one.path.steps other.path.steps ≡ false
      by (inl p) =
          excludes_parting tables one.path.steps other.path.steps p
          ∙ cases_agree (cases_of tables p.x.node) (cases_of tables p.y.node)
          (λ choice case another a b. tree.cases one other p.common p.more p.others p.x p.y choice case another has there p.one p.other (from_cases tables p.x.node choice case a) (from_cases tables p.y.node choice another b))
      by (inr (inl h)) = excludes_higher tables one.path.steps other.path.steps h
      by (inr (inr lower)) = excludes_lower tables one.path.steps other.path.steps lower

  -- rows so far, and the first row behind them, which is at or below the node
  module _ (front rest : List Row) (row : Row) (path : Path) (whole : rows ≡ front ++ row ∷ rest) (keys : KeysFollow tables front) (lower : IsLower row.path.steps path.steps) (fresh : Fresh path.steps front) where
    in_rows : (r : Row) → Contains front r → Contains rows r
    in_rows r has = subst (λ (rs : List Row). Contains rs r) (sym whole) (Contains-append_left front (row ∷ rest) r has)

    all_before : (r : Row) → Contains front r → steps_before tables front Kept [] r.path.steps path.steps ≡ true
    all_before r has = by (view r.path.steps path.steps)
      where
        part : IsPartOf (r ∷ row ∷ []) rows
        part = subst (λ (rs : List Row). IsPartOf (r ∷ row ∷ []) rs) (sym whole) (part_at front rest r row has)

        by : IsParting r.path.steps path.steps ⊎ IsHigher r.path.steps path.steps ⊎ IsLower r.path.steps path.steps → steps_before tables front Kept [] r.path.steps path.steps ≡ true
        by (inr (inl h)) = before_higher tables front Kept r.path.steps path.steps h
        by (inr (inr low)) = absurd (fresh r has low)
        by (inl p) =
            before_parting tables front Kept r.path.steps path.steps p
            ∙ ap (λ place. sibling_before tables (keys_above tables (node_after None p.common)) (placed place p.y.keys (entries front p.common p.y.node)) p.x p.y) (kept_there p.others)
            ∙ go (siblings tables rows r row p.common p.x p.y p.more (p.others ++ lower.0) proper tree part p.one row_is p.differ)
          where
            row_is : row.path.steps ≡ p.common ++ p.y ∷ (p.others ++ lower.0)
            row_is = below_parting r.path.steps path.steps row.path.steps p lower

            order : List (List (List ℕ))
            order = entries front p.common p.y.node

            go : GoesBefore tables rows p.common p.x p.y →
                sibling_before tables (keys_above tables (node_after None p.common)) (placed Kept p.y.keys (entries front p.common p.y.node)) p.x p.y ≡ true
            go (inl before) = sibling_from tables (node_after None p.common) (placed Kept p.y.keys order) p.x p.y before
            go (inr u) = user_true tables (keys_above tables (node_after None p.common)) (placed Kept p.y.keys order) p.x p.y (record { same = u.same; user = u.user; before = before_kept order p.x.keys p.y.keys in_front })
              where
                x_at : IsStepAt tables p.common p.x
                x_at = path_step tables r.path p.common p.x p.more (all_at (λ (q : Row). IsPathOf tables q.path) rows r tree.paths (in_rows r has)) p.one

                y_at : IsStepAt tables p.common p.y
                y_at = path_step tables row.path p.common p.y (p.others ++ lower.0)
                    (all_at (λ (q : Row). IsPathOf tables q.path) rows row tree.paths (subst (λ (rs : List Row). Contains rs row) (sym whole) (contains_here front rest row))) row_is

                node_same : x_at.node ≡ y_at.node
                node_same = some_same _ _ (sym x_at.node_is ∙ ap (slice_get tables.nodes) u.same ∙ y_at.node_is)

                lengths : length p.x.keys ≡ length p.y.keys
                lengths = x_at.keys ∙ ap (λ (n : Node). key_count n.kind (length n.keys)) node_same ∙ sym y_at.keys

                count : (count : ℕ) × (length p.x.keys ≡ suc count)
                count = some_keys p.x p.y u.same lengths p.differ

                entry : IsEntryOf front (p.common ++ p.x ∷ []) r
                entry = entry_of tables front r p.common p.x p.more count.0 proper (front_is_tree front (row ∷ rest) whole keys) has p.one count.1

                there : Contains front entry.entry
                there = at entry.place
                  where
                    at : (entry.entry ≡ r) ⊎ IsPartOf (entry.entry ∷ r ∷ []) front → Contains front entry.entry
                    at (inl is) = subst (λ (q : Row). Contains front q) (sym is) has
                    at (inr before) = part_first entry.entry r front before

                has_it : has_entry p.x.keys (entries front p.common p.y.node) ≡ true
                has_it = has_its_entry front p.common p.y.node p.x.keys entry.entry (entry.path ∙ (λ i. p.common ++ record { node = u.same i; keys = p.x.keys } ∷ [])) there

                in_front : stands_before (entries front p.common p.y.node) p.x.keys p.y.keys ≡ true
                in_front =
                    before_in_front (entries front p.common p.y.node) (entries (row ∷ rest) p.common p.y.node) p.x.keys p.y.keys
                    (ap (λ es. stands_before es p.x.keys p.y.keys) (sym (ap (λ rs. entries rs p.common p.y.node) whole ∙ filter_map-append _ front (row ∷ rest))) ∙ u.before) has_it

    -- a block of rows of the data tree goes behind the rows so far
    pub put_last : (block : List Row) → ((r : Row) → Contains block r → Contains rows r) → with_block tables front path Kept block ≡ front ++ block
    put_last block inside =
        (λ i. filter before (others_are i) ++ block ++ filter (λ r. not (before r)) (others_are i))
        ∙ (λ i. filter_whole before front all_before i ++ block ++ filter_none (λ r. not (before r)) front (λ r has. ap not (all_before r has)) i)
        ∙ append-nil (front ++ block)
      where
        before : Row → Bool
        before r = steps_before tables front Kept [] r.path.steps path.steps

        stays : Row → Bool
        stays r = not (is_at_or_below path.steps r.path || list_any (λ added. excludes tables added.path.steps r.path.steps) block)

        others_are : filter (λ r. not (is_at_or_below path.steps r.path || list_any (λ added. excludes tables added.path.steps r.path.steps) block)) front ≡ front
        others_are = filter_whole stays front (λ r has. neither _ _
            (is_false (is_at_or_below path.steps r.path) (λ e. fresh r has ((below_is_below path.steps r.path).0 e)))
            (list_any_none (λ added. excludes tables added.path.steps r.path.steps) block
            (all_from (λ added. excludes tables added.path.steps r.path.steps ≡ false) block (λ added there. none_excluded added r (inside added there) (in_rows r has)))))

    -- there is nothing at or below the node
    pub none_there : exists front path.steps ≡ false
    none_there = list_any_none (λ r. is_at_or_below path.steps r.path) front
        (all_from (λ r. is_at_or_below path.steps r.path ≡ false) front (λ r has. is_false (is_at_or_below path.steps r.path) (λ e. fresh r has ((below_is_below path.steps r.path).0 e))))

    pub new_there : (value : Option (List ℕ)) → new_block tables front path (Merge value) ≡ rows_of_node tables path value
    new_there value = ap (λ b. cond (b && not (at_node tables path has_value)) (block_at front path.steps) (rows_of_node tables path value)) none_there
