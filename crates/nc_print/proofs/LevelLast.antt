-- The merges of one level after another leave the rows.
use Rattle.std.proofs.Common.{◌≡◌, ◌≢◌, ◌+◌, ◌≤◌, cond, ℕ, zero, suc, List, [], ◌∷◌, ◌++◌, length, Option, Some, None, refl, sym, ap, subst, ◌∙◌, arith}
use Rattle.std.proofs.lemmas.List.{append_assoc, append-nil}
use Rattle.std.proofs.lemmas.List.Elements.{Contains-append_left, Contains-append_right}
use Rattle.std.specs.Prelude.{fold, slice_get, take}
use Rattle.std.specs.List.{Contains, flat_map}
use Rattle.nc_names.specs.declared.path.Row.{Row}
use Rattle.nc_names.specs.declared.path.Step.{Step}
use Rattle.nc_schema.specs.Configuration.{IsDataTree}
use Rattle.nc_schema.specs.Paths.{IsPathOf}
use Rattle.nc_schema.specs.Tables.{Tables}
use Rattle.nc_schema.proofs.ProperLemmas.{HasProperNodes}
use Rattle.nc_protocol.proofs.ListLemmas.{contains_behind, contains_here, fold_join, heads_same, no_element, tails_same, too_long}
use Rattle.nc_protocol.proofs.Parts.{IsPartOf, all_at, contains_part, part_join}
use Rattle.nc_protocol.proofs.PathViews.{IsLower}
use Rattle.nc_protocol.proofs.SiblingLemmas.{IsStepAt, path_step}
use Rattle.nc_protocol.specs.Edited.{left_by}
use Rattle.nc_protocol.specs.declared.edit.Edit.{Edit}
use Rattle.nc_protocol.specs.Printed.{cut, goes_on, longest, own_value}
use Rattle.nc_print.specs.Laws.{merge_at}
use Rattle.nc_print.specs.Laws.{merges_at, merges_of, run_merges, step_merges}
use Rattle.nc_print.proofs.ConfigBack.{longest_covers}
use Rattle.nc_print.proofs.CutLemmas.{WellCut, joined, cut_is_well, cut_is_whole}
use Rattle.nc_print.proofs.KeysFirst.{own_alone}
use Rattle.nc_print.proofs.LevelBack.{BeginsCut, begins_cut, fresh_begins, taken}
use Rattle.nc_print.proofs.MergeLast.{IsBuilt, row_is_merged}
use Rattle.nc_print.proofs.MergesLast.{container_is_merged, none_own}
use Rattle.nc_print.proofs.StartLemmas.{Fresh, run_lower, starts_fresh}
use Rattle.nc_print.proofs.StepLemmas.{ends_there, goes_further, length_there, lower_is_later, path_of, step_lower, step_past, step_there}

-- the row of the node itself, if it has one
abbrev pub IsOwnOf : List Step → List Row → Type 0
IsOwnOf above [] = Unit {0}
IsOwnOf above (row ∷ []) = row.path.steps ≡ above
IsOwnOf above (row ∷ next ∷ more) = ⊥

module _ (tables : Tables) (proper : HasProperNodes tables) (rows : List Row) (tree : IsDataTree tables rows) where
  abbrev merged : List Row → List Edit → List Row
  merged state edits = fold (left_by tables) state edits

  -- the rows below one node, so many levels deep, are what their merges leave
  abbrev pub LevelIsMerged : ℕ → Type 0
  LevelIsMerged levels =
      (above : List Step) (depth : ℕ) (before own others after state : List Row) → rows ≡ before ++ ((own ++ others) ++ after) → length above ≡ depth →
      ((r : Row) → Contains (own ++ others) r → IsLower r.path.steps above) → Fresh above before →
      ((r : Row) → Contains (own ++ others) r → length r.path.steps ≤ depth + levels) → IsOwnOf above own → ((r : Row) → Contains others r → r.path.steps ≢ above) →
      IsBuilt tables rows (before ++ own) state → IsBuilt tables rows (before ++ (own ++ others)) (merged state (merges_at levels depth (own ++ others)))

  module _ (levels depth : ℕ) (inner : LevelIsMerged levels) (above : List Step) (same : length above ≡ depth) where
    abbrev g : List Row → List Edit
    g = run_merges (merges_at levels (depth + 1)) depth

    -- one run
    run_is_merged : (before : List Row) (row : Row) (more rest : List Row) (state : List Row) (step : Step) (further : List Step) → rows ≡ before ++ row ∷ (more ++ rest) → row.path.steps ≡ above ++ step ∷ further →
        ((r : Row) → Contains (row ∷ more) r → IsLower r.path.steps (above ++ step ∷ [])) → Fresh (above ++ step ∷ []) before →
        ((r : Row) → Contains (row ∷ more) r → length r.path.steps ≤ depth + suc levels) →
        IsBuilt tables rows before state → IsBuilt tables rows (before ++ row ∷ more) (merged state (g (row ∷ more)))
    run_is_merged before row more rest state step further rows_are row_is lower fresh deep built = by further row_is
      where
        at_step : IsStepAt tables above step
        at_step = path_step tables row.path above step further (path_of tables proper rows tree row (subst (λ (rs : List Row). Contains rs row) (sym rows_are) (contains_here before (more ++ rest) row))) row_is

        below : List Edit
        below = merges_at levels (depth + 1) (row ∷ more)

        found : slice_get row.path.steps depth ≡ Some step
        found = ap (λ (ss : List Step). slice_get ss depth) row_is ∙ step_there above step further depth same

        merges_are : (value : Option (List ℕ)) → own_value depth row ≡ value → g (row ∷ more) ≡ merge_at above step value ∷ below
        merges_are value value_is =
            ap (step_merges (take depth row.path.steps) (own_value depth row) (merges_at levels (depth + 1) (row ∷ more))) found
            ∙ (λ i. merge_at ((ap (take depth) row_is ∙ taken above depth (step ∷ further) same) i) step (value_is i) ∷ below)

        deeper : length (above ++ step ∷ []) ≡ depth + 1
        deeper = let long = length_there above step [] depth same in omega (arith, long)

        deep_in : (r : Row) → Contains (row ∷ more) r → length r.path.steps ≤ (depth + 1) + levels
        deep_in r has = let long = deep r has in omega (arith, long)

        by : (further : List Step) → row.path.steps ≡ above ++ step ∷ further → IsBuilt tables rows (before ++ row ∷ more) (merged state (g (row ∷ more)))
        by [] is =
            subst (λ (es : List Edit). IsBuilt tables rows (before ++ row ∷ more) (merged state es)) (sym (merges_are row.value (ap (λ b. cond b row.value None) (ends_there above step depth same row is))))
            (inner (above ++ step ∷ []) (depth + 1) before (row ∷ []) more rest (left_by tables state (merge_at above step row.value)) rows_are deeper lower fresh deep_in is apart
            (row_is_merged tables proper rows tree before (more ++ rest) row above step at_step.node rows_are (record { path = is; node_is = at_step.node_is }) state built))
          where
            apart : (r : Row) → Contains more r → r.path.steps ≢ above ++ step ∷ []
            apart r has there =
                lower_is_later tables proper rows tree row r
                (subst (λ (rs : List Row). IsPartOf (row ∷ r ∷ []) rs) (sym (rows_are ∙ sym (append_assoc before (row ∷ []) (more ++ rest))))
                (part_join (row ∷ []) (r ∷ []) (before ++ row ∷ []) (more ++ rest) (contains_part row (before ++ row ∷ []) (contains_here before [] row))
                (contains_part r (more ++ rest) (Contains-append_left more rest r has))))
                ([], is ∙ sym there ∙ sym (append-nil r.path.steps))
        by (next ∷ beyond) is =
            subst (λ (es : List Edit). IsBuilt tables rows (before ++ row ∷ more) (merged state es)) (sym (merges_are None (ap (λ b. cond b row.value None) (goes_further above step next beyond depth same row is))))
            (inner (above ++ step ∷ []) (depth + 1) before [] (row ∷ more) rest (left_by tables state (merge_at above step None)) rows_are deeper lower fresh deep_in tt
            (λ r has. none_own tables proper rows tree before (more ++ rest) row above step next beyond at_step.node rows_are is at_step.node_is fresh r (there r has))
            (subst (λ (bs : List Row). IsBuilt tables rows bs (left_by tables state (merge_at above step None))) (sym (append-nil before))
            (subst (λ (s : List Row). IsBuilt tables rows before s)
            (sym (container_is_merged tables proper rows tree before (more ++ rest) row above step next beyond at_step.node rows_are is at_step.node_is fresh state built)) built)))
          where
            there : (r : Row) → Contains (row ∷ more) r → Contains rows r
            there r has = subst (λ (rs : List Row). Contains rs r) (sym rows_are) (Contains-append_right before (row ∷ (more ++ rest)) r (Contains-append_left (row ∷ more) rest r has))

    -- the runs of a level, each with a step there
    runs_are_merged : (runs : List (List Row)) (before after state : List Row) → WellCut (goes_on depth) runs → rows ≡ before ++ (joined runs ++ after) →
        ((r : Row) → Contains (joined runs) r → IsLower r.path.steps above) → ((r : Row) → Contains (joined runs) r → length r.path.steps ≤ depth + suc levels) →
        ((r : Row) → Contains (joined runs) r → r.path.steps ≢ above) → BeginsCut above depth before runs →
        IsBuilt tables rows before state → IsBuilt tables rows (before ++ joined runs) (merged state (flat_map g runs))
    runs_are_merged [] before after state well rows_are below deep none begins built = subst (λ (bs : List Row). IsBuilt tables rows bs state) (sym (append-nil before)) built
    runs_are_merged ([] ∷ later) before after state well rows_are below deep none begins built = absurd well
    runs_are_merged ((row ∷ more) ∷ later) before after state well rows_are below deep none begins built =
        subst (λ (s : List Row). IsBuilt tables rows (before ++ ((row ∷ more) ++ joined later)) s) (sym (fold_join (left_by tables) state (g (row ∷ more)) (flat_map g later)))
        (subst (λ (bs : List Row). IsBuilt tables rows bs (merged (merged state (g (row ∷ more))) (flat_map g later))) (append_assoc before (row ∷ more) (joined later))
        (runs_are_merged later (before ++ row ∷ more) after (merged state (g (row ∷ more))) well.2 (whole ∙ sym (append_assoc before (row ∷ more) (joined later ++ after)))
        (λ r has. below r (Contains-append_right (row ∷ more) (joined later) r has))
        (λ r has. deep r (Contains-append_right (row ∷ more) (joined later) r has))
        (λ r has. none r (Contains-append_right (row ∷ more) (joined later) r has))
        (begins_cut above depth before row more later well.1)
        (by (below row (0, omega arith, refl)))))
      where
        whole : rows ≡ before ++ row ∷ (more ++ (joined later ++ after))
        whole = rows_are ∙ ap (λ rs. before ++ row ∷ rs) (append_assoc more (joined later) after)

        by : IsLower row.path.steps above → IsBuilt tables rows (before ++ row ∷ more) (merged state (g (row ∷ more)))
        by ([], is) = absurd (none row (0, omega arith, refl) (is ∙ append-nil above))
        by (step ∷ further, is) =
            run_is_merged before row more (joined later ++ after) state step further whole is
            (run_lower tables proper rows tree before (joined later ++ after) row more above depth step whole same
            (λ r has. below r (Contains-append_left (row ∷ more) (joined later) r has)) well.0 (step_lower above step further row.path.steps is))
            (starts_fresh tables proper rows tree before (more ++ (joined later ++ after)) row above depth step whole same (step_lower above step further row.path.steps is) begins)
            (λ r has. deep r (Contains-append_left (row ∷ more) (joined later) r has)) built

  -- the rows of one level, with the row of the node itself first
  pub level_is_merged : (levels : ℕ) → LevelIsMerged levels
  level_is_merged zero above depth before own others after state rows_are same below fresh deep own_is none built = by others refl
    where
      by : (rs : List Row) → others ≡ rs → IsBuilt tables rows (before ++ (own ++ others)) state
      by [] is = subst (λ (bs : List Row). IsBuilt tables rows (before ++ bs) state) (sym (ap (λ rs. own ++ rs) is ∙ append-nil own)) built
      by (r ∷ rs) is = absurd (ends (below r in_both))
        where
          in_others : Contains others r
          in_others = subst (λ (xs : List Row). Contains xs r) (sym is) (0, omega arith, refl)

          in_both : Contains (own ++ others) r
          in_both = Contains-append_right own others r in_others

          ends : IsLower r.path.steps above → ⊥
          ends ([], lower) = none r in_others (lower ∙ append-nil above)
          ends (step ∷ rest, lower) =
              let small = deep r in_both in
              let long = length_there above step rest depth same in
              let here = ap (λ (ss : List Step). length ss) lower in
              omega (arith, small, long, here)
  level_is_merged (suc levels) above depth before [] others after state rows_are same below fresh deep own_is none built =
      let whole = cut_is_whole (goes_on depth) others in
      let back : (r : Row) → Contains (joined (cut (goes_on depth) others)) r → Contains others r = λ r has. subst (λ (rs : List Row). Contains rs r) whole has in
      subst (λ (rs : List Row). IsBuilt tables rows (before ++ rs) (merged state (merges_at (suc levels) depth others))) whole
      (runs_are_merged levels depth (level_is_merged levels) above same (cut (goes_on depth) others) before after state (cut_is_well (goes_on depth) others)
      (rows_are ∙ ap (λ rs. before ++ (rs ++ after)) (sym whole)) (λ r has. below r (back r has)) (λ r has. deep r (back r has)) (λ r has. none r (back r has))
      (fresh_begins above depth before (cut (goes_on depth) others) fresh)
      (subst (λ (bs : List Row). IsBuilt tables rows bs state) (append-nil before) built))
  level_is_merged (suc levels) above depth before (own ∷ next ∷ more) others after state rows_are same below fresh deep own_is none built = absurd own_is
  level_is_merged (suc levels) above depth before (own ∷ []) others after state rows_are same below fresh deep own_is none built =
      go (cut (goes_on depth) (own ∷ others)) (cut_is_well (goes_on depth) (own ∷ others)) (cut_is_whole (goes_on depth) (own ∷ others)) (level_is_merged levels)
    where
      go : (runs : List (List Row)) → WellCut (goes_on depth) runs → joined runs ≡ own ∷ others → LevelIsMerged levels →
          IsBuilt tables rows (before ++ own ∷ others) (merged state (flat_map (run_merges (merges_at levels (depth + 1)) depth) runs))
      go [] well whole inner = absurd (no_element [] others own whole)
      go ([] ∷ later) well whole inner = absurd well
      go ((first ∷ ns) ∷ later) well whole inner =
          subst (λ (es : List Edit). IsBuilt tables rows (before ++ own ∷ others) (merged state (es ++ flat_map (run_merges (merges_at levels (depth + 1)) depth) later))) (sym (nothing (first ∷ ns) run_is))
          (subst (λ (bs : List Row). IsBuilt tables rows bs (merged state (flat_map (run_merges (merges_at levels (depth + 1)) depth) later)))
          (append_assoc before (own ∷ []) (joined later) ∙ ap (λ rs. before ++ own ∷ rs) later_is)
          (runs_are_merged levels depth inner above same later (before ++ own ∷ []) after state well.2
          (rows_are ∙ (λ i. before ++ own ∷ (sym later_is i ++ after)) ∙ sym (append_assoc before (own ∷ []) (joined later ++ after)))
          (λ r has. below r (contains_behind own others r (back r has))) (λ r has. deep r (contains_behind own others r (back r has))) (λ r has. none r (back r has))
          (subst (λ (rs : List Row). BeginsCut above depth (before ++ rs) later) run_is (begins_cut above depth before first ns later well.1)) built))
        where
          first_is : first ≡ own
          first_is = heads_same first own _ _ whole

          rest_is : ns ++ joined later ≡ others
          rest_is = tails_same first own _ _ whole

          split_is : rows ≡ before ++ first ∷ (ns ++ (joined later ++ after))
          split_is = rows_are ∙ (λ i. before ++ sym first_is i ∷ (sym rest_is i ++ after)) ∙ ap (λ rs. before ++ first ∷ rs) (append_assoc ns (joined later) after)

          lower : (r : Row) → Contains (first ∷ (ns ++ joined later)) r → IsLower r.path.steps above
          lower r has = below r (subst (λ (rs : List Row). Contains rs r) whole has)

          alone : ns ≡ []
          alone = own_alone tables proper rows tree before (joined later ++ after) first ns above depth split_is same (ap (λ (r : Row). r.path.steps) first_is ∙ own_is)
              (λ r has. lower r (Contains-append_left (first ∷ ns) (joined later) r has)) well.0

          run_is : first ∷ ns ≡ own ∷ []
          run_is i = first_is i ∷ alone i

          later_is : joined later ≡ others
          later_is = ap (λ rs. rs ++ joined later) (sym alone) ∙ rest_is

          back : (r : Row) → Contains (joined later) r → Contains others r
          back r has = subst (λ (rs : List Row). Contains rs r) later_is has

          nothing : (run : List Row) → run ≡ own ∷ [] → run_merges (merges_at levels (depth + 1)) depth run ≡ []
          nothing run is =
              ap (run_merges (merges_at levels (depth + 1)) depth) is
              ∙ ap (step_merges (take depth own.path.steps) (own_value depth own) (merges_at levels (depth + 1) (own ∷ [])))
              (ap (λ (ss : List Step). slice_get ss depth) (own_is ∙ sym (append-nil above)) ∙ step_past above depth same)

  -- the merges of all rows leave them
  pub merges_leave_rows : fold (left_by tables) [] (merges_of rows) ≡ rows
  merges_leave_rows = by done.ahead refl
    where
      none_at_root : (r : Row) → Contains rows r → r.path.steps ≢ []
      none_at_root r has = (all_at (λ (x : Row). IsPathOf tables x.path) rows r tree.paths has).names.steps

      start : IsBuilt tables rows [] []
      start = record {
        ahead = [];
        rest = rows;
        whole = refl;
        state_is = refl;
        keys = λ front behind row above step node is leads list. absurd (no_element front behind row is);
        own = λ row has. absurd (omega (arith, has.1));
      }

      done : IsBuilt tables rows rows (fold (left_by tables) [] (merges_of rows))
      done = level_is_merged (longest rows) [] 0 [] [] rows [] [] (sym (append-nil rows)) refl (λ r has. (r.path.steps, refl)) (λ r has. absurd (omega (arith, has.1)))
          (λ r has. let long = longest_covers rows r has in omega (arith, long)) tt none_at_root start

      by : (ahead : List Row) → done.ahead ≡ ahead → fold (left_by tables) [] (merges_of rows) ≡ rows
      by [] is = done.state_is ∙ ap (λ rs. rows ++ rs) is ∙ append-nil rows
      by (row ∷ more) is = absurd (too_long rows row more done.rest (done.whole ∙ ap (λ rs. rows ++ (rs ++ done.rest)) is ∙ sym (append_assoc rows (row ∷ more) done.rest)))
