-- The elements of one level, one after another, as they are read: the merges of their rows.
use Rattle.std.proofs.Common.{◌≡◌, ◌⊎◌, ◌+◌, ◌≤◌, ℕ, zero, suc, false, List, [], ◌∷◌, ◌++◌, length, Option, Some, None, refl, sym, ap, subst, ◌∙◌, inl, inr, arith}
use Rattle.std.proofs.lemmas.List.{append_assoc}
use Rattle.std.proofs.lemmas.List.Elements.{Contains-append_left, Contains-append_right, Contains-push_cases}
use Rattle.std.specs.Prelude.{Ok, slice_get, take}
use Rattle.std.specs.List.{Contains, flat_map}
use Rattle.std.specs.Option.{option_map_or}
use Rattle.nc_names.specs.declared.path.Row.{Row}
use Rattle.nc_names.specs.declared.path.Step.{Step}
use Rattle.nc_message.specs.declared.tree.Part.{Part}
use Rattle.nc_schema.specs.Configuration.{IsDataTree}
use Rattle.nc_schema.specs.Proper.{IsProperSchema}
use Rattle.nc_schema.specs.declared.node.Node.{Node}
use Rattle.nc_schema.proofs.ProperLemmas.{HasProperNodes, proper_nodes}
use Rattle.nc_protocol.proofs.ListLemmas.{contains_here, last_same}
use Rattle.nc_protocol.proofs.Parts.{IsPartOf, contains_part, part_join}
use Rattle.nc_protocol.proofs.PathViews.{IsLower, node_after}
use Rattle.nc_protocol.proofs.SiblingLemmas.{IsStepAt, path_step, together_at}
use Rattle.nc_protocol.specs.declared.edit.Edit.{Edit}
use Rattle.nc_protocol.specs.declared.position.Position.{Position}
use Rattle.nc_protocol.specs.Elements.{Reading, with_step}
use Rattle.nc_protocol.specs.Payload.{list_edits, part_edits, with_more}
use Rattle.nc_protocol.specs.Printed.{cut, goes_on, node_part, own_value, parts_at, run_parts, step_parts}
use Rattle.nc_print.specs.Laws.{inline_at, merge_at}
use Rattle.nc_print.specs.Laws.{merges_at, run_merges, step_merges}
use Rattle.nc_print.specs.Laws.{AreReadAsThemselves}
use Rattle.nc_print.proofs.CutLemmas.{Apart, WellCut, joined, last_in, cut_is_well, cut_is_whole}
use Rattle.nc_print.proofs.ElementsBack.{IsElement}
use Rattle.nc_print.proofs.RunBack.{AreBefore, LevelIsRead, element_is}
use Rattle.nc_print.proofs.StartLemmas.{Begins, Fresh, run_lower, starts_fresh}
use Rattle.nc_print.proofs.StepLemmas.{path_of, step_lower, step_past, step_there}

-- the rows up to the end of a run end in its last row
pub run_ends : (before : List Row) (row : Row) (more : List Row) → (front : List Row) × (before ++ row ∷ more ≡ front ++ last_in row more ∷ [])
run_ends before row [] = (before, refl)
run_ends before row (next ∷ more) =
    let rest = run_ends (before ++ row ∷ []) next more in
    (rest.0, sym (append_assoc before (row ∷ []) (next ∷ more)) ∙ rest.1)

-- the next run begins after it
pub begins_next : (above : List Step) (depth : ℕ) (before : List Row) (row : Row) (more : List Row) (next : Row) → goes_on depth (last_in row more) next ≡ false →
    Begins above depth (before ++ row ∷ more) next
begins_next above depth before row more next apart front last is lower =
    let ends = run_ends before row more in
    ap (λ (r : Row). goes_on depth r next) (sym (last_same ends.0 front (last_in row more) last (sym ends.1 ∙ is))) ∙ apart

abbrev pub BeginsCut : List Step → ℕ → List Row → List (List Row) → Type 0
BeginsCut above depth before [] = Unit {0}
BeginsCut above depth before ([] ∷ later) = Unit {0}
BeginsCut above depth before ((row ∷ more) ∷ later) = Begins above depth before row

pub begins_cut : (above : List Step) (depth : ℕ) (before : List Row) (row : Row) (more : List Row) (later : List (List Row)) → Apart (goes_on depth) (last_in row more) later →
    BeginsCut above depth (before ++ row ∷ more) later
begins_cut above depth before row more [] apart = tt
begins_cut above depth before row more ([] ∷ later) apart = tt
begins_cut above depth before row more ((next ∷ others) ∷ later) apart = begins_next above depth before row more next apart

pub fresh_begins : (above : List Step) (depth : ℕ) (before : List Row) (runs : List (List Row)) → Fresh above before → BeginsCut above depth before runs
fresh_begins above depth before [] fresh = tt
fresh_begins above depth before ([] ∷ later) fresh = tt
fresh_begins above depth before ((row ∷ more) ∷ later) fresh = λ front last is lower. absurd (fresh last (subst (λ (rs : List Row). Contains rs last) (sym is) (contains_here front [] last)) lower)

pub taken : (above : List Step) (depth : ℕ) (rest : List Step) → length above ≡ depth → take depth (above ++ rest) ≡ above
taken [] zero rest same = refl
taken [] (suc depth) rest same = absurd (omega (arith, same))
taken (x ∷ above) zero rest same = absurd (omega (arith, same))
taken (x ∷ above) (suc depth) rest same = ap (λ ss. x ∷ ss) (taken above depth rest (omega (arith, same)))

module _ (reading : Reading) (schema : IsProperSchema reading.tables) (rows : List Row) (tree : IsDataTree reading.tables rows) where
  abbrev proper : HasProperNodes reading.tables
  proper = proper_nodes reading.tables schema

  -- behind a run no row is at or below its node
  pub past_run : (before after : List Row) (row : Row) (more : List Row) (later : List (List Row)) (above : List Step) (depth : ℕ) (step : Step) →
      rows ≡ before ++ row ∷ (more ++ (joined later ++ after)) → length above ≡ depth → WellCut (goes_on depth) later → Apart (goes_on depth) (last_in row more) later →
      IsLower row.path.steps (above ++ step ∷ []) → Fresh above after → Fresh (above ++ step ∷ []) (joined later ++ after)
  past_run before after row more [] above depth step rows_are same well apart lower past r has below =
      past r has (step ∷ below.0, below.1 ∙ append_assoc above (step ∷ []) below.0)
  past_run before after row more ([] ∷ later) above depth step rows_are same well apart lower past r has below = absurd well
  past_run before after row more ((next ∷ others) ∷ later) above depth step rows_are same well apart lower past r has below =
      starts_fresh reading.tables proper rows tree (before ++ row ∷ more) (others ++ joined later ++ after) next above depth step whole same (next_lower has)
      (begins_next above depth before row more next apart) row (contains_here before more row) lower
    where
      whole : rows ≡ (before ++ row ∷ more) ++ next ∷ (others ++ joined later ++ after)
      whole = rows_are ∙ sym (append_assoc before (row ∷ more) (next ∷ (others ++ joined later ++ after)))

      next_lower : Contains (next ∷ (others ++ joined later ++ after)) r → IsLower next.path.steps (above ++ step ∷ [])
      next_lower (zero, within, here) = subst (λ (x : Row). IsLower x.path.steps (above ++ step ∷ [])) (sym here) below
      next_lower (suc k, within, here) =
          together_at rows row next r (above ++ step ∷ []) tree.together
          (subst (λ (rs : List Row). IsPartOf (row ∷ next ∷ r ∷ []) rs) (sym whole)
          (part_join (row ∷ []) (next ∷ r ∷ []) (before ++ row ∷ more) (next ∷ (others ++ joined later ++ after)) (contains_part row (before ++ row ∷ more) (contains_here before more row))
          (inl (refl, contains_part r (others ++ joined later ++ after) (k, omega (arith, within), here)))))
          lower below

module _ (reading : Reading) (schema : IsProperSchema reading.tables) (rows : List Row) (tree : IsDataTree reading.tables rows) (read : AreReadAsThemselves reading rows) where
  abbrev Inner : ℕ → Type 0
  Inner levels = LevelIsRead reading schema rows tree read levels

  -- the runs of one level
  module _ (levels depth : ℕ) (inner : Inner levels) (above : List Step) (same : length above ≡ depth) (after : List Row) (past : Fresh above after) where
    abbrev at : Position
    at = inline_at above (node_after None above)

    abbrev f : List Row → List Part
    f = run_parts reading.tables (parts_at reading.tables levels (depth + 1)) depth

    abbrev g : List Row → List Edit
    g = run_merges (merges_at levels (depth + 1)) depth

    abbrev AreRead : List Step → List (List Row) → Type 0
    AreRead earlier runs = list_edits reading at earlier (flat_map f runs) ≡ Ok (flat_map g runs)

    -- one run with a step there
    step_read : (before : List Row) (earlier : List Step) (row : Row) (more : List Row) (later : List (List Row)) (step : Step) (rest : List Step) → row.path.steps ≡ above ++ step ∷ rest →
        (at_step : IsStepAt reading.tables above step) →
        IsElement reading above earlier step at_step.node (own_value depth row) (parts_at reading.tables levels (depth + 1) (row ∷ more)) (merges_at levels (depth + 1) (row ∷ more)) →
        AreRead (earlier ++ step ∷ []) later → AreRead earlier ((row ∷ more) ∷ later)
    step_read before earlier row more later step rest is at_step element next =
        ap (λ ps. list_edits reading at earlier (ps ++ flat_map f later)) parts_are
        ∙ (λ i. with_more (edits i) (list_edits reading at (steps i) (flat_map f later)))
        ∙ ap (with_more (Ok (merge_at above step (own_value depth row) ∷ merged))) next
        ∙ ap (λ es. Ok (es ++ flat_map g later)) (sym merges_are)
      where
        merged : List Edit
        merged = merges_at levels (depth + 1) (row ∷ more)

        part : Part
        part = node_part reading.tables step.node (own_value depth row) (parts_at reading.tables levels (depth + 1) (row ∷ more)) at_step.node

        edits : part_edits reading at earlier part ≡ Ok (merge_at above step (own_value depth row) ∷ merged)
        edits = subst (λ (parent : Option ℕ). part_edits reading (inline_at above parent) earlier part ≡ Ok (merge_at above step (own_value depth row) ∷ merged)) at_step.parent element.edits

        steps : with_step reading at earlier part ≡ earlier ++ step ∷ []
        steps = subst (λ (parent : Option ℕ). with_step reading (inline_at above parent) earlier part ≡ earlier ++ step ∷ []) at_step.parent element.steps

        found : slice_get row.path.steps depth ≡ Some step
        found = ap (λ (ss : List Step). slice_get ss depth) is ∙ step_there above step rest depth same

        parts_are : f (row ∷ more) ≡ node_part reading.tables step.node (own_value depth row) (parts_at reading.tables levels (depth + 1) (row ∷ more)) at_step.node ∷ []
        parts_are =
            ap (step_parts reading.tables (own_value depth row) (parts_at reading.tables levels (depth + 1) (row ∷ more))) found
            ∙ ap (λ o. option_map_or (λ (n : Node). node_part reading.tables step.node (own_value depth row) (parts_at reading.tables levels (depth + 1) (row ∷ more)) n ∷ []) o []) at_step.node_is

        merges_are : g (row ∷ more) ≡ merge_at above step (own_value depth row) ∷ merges_at levels (depth + 1) (row ∷ more)
        merges_are =
            ap (step_merges (take depth row.path.steps) (own_value depth row) (merges_at levels (depth + 1) (row ∷ more))) found
            ∙ ap (λ ss. merge_at ss step (own_value depth row) ∷ merges_at levels (depth + 1) (row ∷ more)) (ap (take depth) is ∙ taken above depth (step ∷ rest) same)

    -- one run without a step there
    none_read : (earlier : List Step) (row : Row) (more : List Row) (later : List (List Row)) → row.path.steps ≡ above ++ [] → AreRead earlier later → AreRead earlier ((row ∷ more) ∷ later)
    none_read earlier row more later is next =
        ap (λ ps. list_edits reading at earlier (ps ++ flat_map f later))
        (ap (step_parts reading.tables (own_value depth row) (parts_at reading.tables levels (depth + 1) (row ∷ more))) none)
        ∙ next
        ∙ ap (λ es. Ok (es ++ flat_map g later)) (sym (ap (step_merges (take depth row.path.steps) (own_value depth row) (merges_at levels (depth + 1) (row ∷ more))) none))
      where
        none : slice_get row.path.steps depth ≡ None
        none = ap (λ (ss : List Step). slice_get ss depth) is ∙ step_past above depth same

    more_before : (earlier : List Step) (before : List Row) (row : Row) (more : List Row) → AreBefore above earlier before → AreBefore above earlier (before ++ row ∷ more)
    more_before earlier before row more stand other has =
        let there = stand other has in
        (there.0, Contains-append_left before (row ∷ more) there.0 there.1, there.2)

    one_before : (earlier : List Step) (before : List Row) (row : Row) (more : List Row) (step : Step) → IsLower row.path.steps (above ++ step ∷ []) → AreBefore above earlier before →
        AreBefore above (earlier ++ step ∷ []) (before ++ row ∷ more)
    one_before earlier before row more step lower stand other has = by (Contains-push_cases earlier step other has)
      where
        by : Contains earlier other ⊎ (step ≡ other) → (r : Row) × Contains (before ++ row ∷ more) r × IsLower r.path.steps (above ++ other ∷ [])
        by (inl there) = more_before earlier before row more stand other there
        by (inr same_step) = (row, contains_here before more row, subst (λ (s : Step). IsLower row.path.steps (above ++ s ∷ [])) same_step lower)

    runs_read : (runs : List (List Row)) (before : List Row) (earlier : List Step) → WellCut (goes_on depth) runs → rows ≡ before ++ (joined runs ++ after) →
        ((r : Row) → Contains (joined runs) r → IsLower r.path.steps above) → ((r : Row) → Contains (joined runs) r → length r.path.steps ≤ depth + suc levels) →
        BeginsCut above depth before runs → AreBefore above earlier before → AreRead earlier runs
    runs_read [] before earlier well rows_are below deep begins stand = refl
    runs_read ([] ∷ later) before earlier well rows_are below deep begins stand = absurd well
    runs_read ((row ∷ more) ∷ later) before earlier well rows_are below deep begins stand =
        by (below row (0, omega arith, refl)) (λ earlier stand. runs_read later (before ++ row ∷ more) earlier well.2
        (whole ∙ sym (append_assoc before (row ∷ more) (joined later ++ after)))
        (λ r has. below r (Contains-append_right (row ∷ more) (joined later) r has))
        (λ r has. deep r (Contains-append_right (row ∷ more) (joined later) r has))
        (begins_cut above depth before row more later well.1) stand)
      where
        whole : rows ≡ before ++ row ∷ (more ++ (joined later ++ after))
        whole = rows_are ∙ ap (λ rs. before ++ row ∷ rs) (append_assoc more (joined later) after)

        has_row : Contains rows row
        has_row = subst (λ (rs : List Row). Contains rs row) (sym whole) (contains_here before (more ++ (joined later ++ after)) row)

        by : IsLower row.path.steps above → ((earlier : List Step) → AreBefore above earlier (before ++ row ∷ more) → AreRead earlier later) → AreRead earlier ((row ∷ more) ∷ later)
        by ([], is) next = none_read earlier row more later is (next earlier (more_before earlier before row more stand))
        by (step ∷ rest, is) next =
            step_read before earlier row more later step rest is at_step
            (element_is reading schema rows tree read levels depth above earlier before row more (joined later ++ after) step at_step same whole inside
            (starts_fresh reading.tables (proper_nodes reading.tables schema) rows tree before (more ++ (joined later ++ after)) row above depth step whole same lower begins)
            (past_run reading schema rows tree before after row more later above depth step whole same well.2 well.1 lower past)
            (λ r has. deep r (Contains-append_left (row ∷ more) (joined later) r has)) stand inner)
            (next (earlier ++ step ∷ []) (one_before earlier before row more step lower stand))
          where
            lower : IsLower row.path.steps (above ++ step ∷ [])
            lower = step_lower above step rest row.path.steps is

            at_step : IsStepAt reading.tables above step
            at_step = path_step reading.tables row.path above step rest (path_of reading.tables (proper_nodes reading.tables schema) rows tree row has_row) is

            inside : (r : Row) → Contains (row ∷ more) r → IsLower r.path.steps (above ++ step ∷ [])
            inside = run_lower reading.tables (proper_nodes reading.tables schema) rows tree before (joined later ++ after) row more above depth step whole same
                (λ r has. below r (Contains-append_left (row ∷ more) (joined later) r has)) well.0 lower

  -- the rows below one node are read as their merges
  pub level_is_read : (levels : ℕ) → LevelIsRead reading schema rows tree read levels
  level_is_read zero above depth before some after rows_are same below fresh past deep = refl
  level_is_read (suc levels) above depth before some after rows_are same below fresh past deep =
      let whole = cut_is_whole (goes_on depth) some in
      let back : (r : Row) → Contains (joined (cut (goes_on depth) some)) r → Contains some r = λ r has. subst (λ (rs : List Row). Contains rs r) whole has in
      runs_read levels depth (level_is_read levels) above same after past (cut (goes_on depth) some) before [] (cut_is_well (goes_on depth) some)
      (rows_are ∙ ap (λ rs. before ++ (rs ++ after)) (sym whole)) (λ r has. below r (back r has)) (λ r has. deep r (back r has))
      (fresh_begins above depth before (cut (goes_on depth) some) fresh) (λ step has. absurd (omega (arith, has.1)))
