-- Edits below a node, made in its rows alone, are made as in the configuration.
use Rattle.std.proofs.Common.{◌≡◌, ◌&&◌, ◌||◌, ◌++◌, ◌+◌, ℕ, suc, Bool, true, false, cond, not, List, [], ◌∷◌, Option, Some, None, refl, sym, ap, subst, ◌∙◌, take, drop, length, arith}
use Rattle.std.proofs.lemmas.List.{append_assoc, append-nil}
use Rattle.std.specs.List.{last_or, list_any}
use Rattle.std.specs.Option.{option_map_or}
use Rattle.std.specs.Prelude.{fold}
use Rattle.nc_names.proofs.SameLemmas.{path_decide}
use Rattle.nc_names.specs.Same.{is_at_or_below, is_same_path}
use Rattle.nc_names.specs.declared.cause.CauseKind.TheVariants.{Exists, Absent, MissingInstance}
use Rattle.nc_names.specs.declared.path.Path.{Path}
use Rattle.nc_names.specs.declared.path.Place.{Place}
use Rattle.nc_names.specs.declared.path.Row.{Row}
use Rattle.nc_names.specs.declared.path.Step.{Step}
use Rattle.nc_schema.specs.Blocks.{at_node, entries_beside, own_rows, rows_of_node, with_block}
use Rattle.nc_schema.specs.Configuration.{key_rows}
use Rattle.nc_schema.specs.Kinds.{has_value, is_plain_container, stands_for_itself}
use Rattle.nc_schema.specs.Standing.{block_at, exists, has_entry, has_row, lacks_above, node_of}
use Rattle.nc_schema.specs.Tables.{Tables}
use Rattle.nc_schema.specs.declared.node.Kind.{Kind}
use Rattle.nc_schema.specs.declared.node.Kind.TheVariants.{Container, Leaf, LeafList, List as ListKind}
use Rattle.nc_schema.specs.declared.node.Node.{Node}
use Rattle.nc_protocol.specs.Applied.{Applied, is_empty, with_result}
use Rattle.nc_protocol.specs.Edited.{anchor_names, anchor_of, cause_at, cause_where, denied_cause, first_cause, first_denied, lacks_anchor, left_by, missed, new_block, place_by, refusal, unless_refused}
use Rattle.nc_protocol.specs.Unchecked.{every_right}
use Rattle.nc_protocol.specs.declared.edit.Action.{Action}
use Rattle.nc_protocol.specs.declared.edit.Action.TheVariants.{Nothing, Merge, Create, Replace, Delete, Remove}
use Rattle.nc_protocol.specs.declared.edit.Edit.{Edit}
use Rattle.nc_protocol.specs.declared.request.Cause.{Cause}
use Rattle.nc_edit.specs.inner.Turns.{turn}
use Rattle.nc_edit.proofs.FreeLemmas.{none_denied}
use Rattle.nc_tree.proofs.LookLemmas.{beside_is, lacks_is}
use Rattle.nc_tree.specs.inner.Lacking.{lacks, lacks_from}
use Rattle.nc_edit.specs.inner.Alone.{AreBelow, AreFree, AreUnder, BringsUnder, GoesBelow, is_there_at, lacks_at, missed_at, refusal_at, turn_at}
use Rattle.nc_edit.proofs.BelowRows.{ahead, behind, beside_ahead, beside_behind, block_below, entries_below, exists_below, three_parts, under_longer, under_with}
use Rattle.nc_edit.proofs.BelowLacks.{has_apart, lacks_below, lacks_same}
use Rattle.nc_edit.proofs.BelowBlocks.{made_below}
use Rattle.nc_edit.proofs.BelowPaths.{goes_further, goes_on, rest_of, starts_on}

-- some steps, of which the last is taken apart
last_apart : (first : Step) (steps : List Step) → (above : List Step) × (last : Step) × (first ∷ steps ≡ above ++ last ∷ [])
last_apart first [] = ([], first, refl)
last_apart first (next ∷ steps) =
    let rest = last_apart next steps in
    (first ∷ rest.0, rest.1, (λ i. first ∷ rest.2 i))

-- where a place is below a node, the steps above the place are at the node or below it
above_place : (steps : List Step) (next : Step) (more : List Step) → (rest : List Step) × (last : Step) × (steps ++ next ∷ more ≡ (steps ++ rest) ++ last ∷ [])
above_place steps next more =
    let cut = last_apart next more in
    (cut.0, cut.1, ap (λ ss. steps ++ ss) cut.2 ∙ sym (append_assoc steps cut.0 (cut.1 ∷ [])))

taken : (above : List Step) (first : Step) (way : List Step) → take (suc (length above)) (above ++ first ∷ way) ≡ above ++ first ∷ []
taken [] first way = refl
taken (a ∷ above) first way = ap (λ ss. a ∷ ss) (taken above first way)

dropped : (above : List Step) (first : Step) (way : List Step) → drop (suc (length above)) (above ++ first ∷ way) ≡ way
dropped [] first way = refl
dropped (a ∷ above) first way = dropped above first way

lacks_there : (tables : Tables) (rows : List Row) (above : List Step) (first : Step) (way : List Step) (steps : List Step) → steps ≡ above ++ first ∷ way →
    lacks_at tables rows (length above + 1) steps ≡ lacks_from tables rows (above ++ first ∷ []) way
lacks_there tables rows above first way steps is =
    let one : length above + 1 ≡ suc (length above) = omega arith in
    ap (lacks_at tables rows (length above + 1)) is
    ∙ ap (λ n. lacks_from tables rows (take n (above ++ first ∷ way)) (drop n (above ++ first ∷ way))) one
    ∙ (λ i. lacks_from tables rows (taken above first way i) (dropped above first way i))

-- nothing is asked of the top
pub lacks_top : (tables : Tables) (rows : List Row) (steps : List Step) → lacks_above tables rows steps ≡ lacks_at tables rows 1 steps
unfolding lacks
lacks_top tables rows [] = lacks_is tables rows []
lacks_top tables rows (step ∷ steps) = lacks_is tables rows (step ∷ steps)

without_denied : (missed anchor denied : Option Cause) → denied ≡ None → first_cause (missed ∷ anchor ∷ denied ∷ []) ≡ first_cause (missed ∷ anchor ∷ [])
without_denied (Some cause) anchor denied none = refl
without_denied None (Some cause) denied none = refl
without_denied None None denied none = ap (λ d. first_cause (None ∷ None ∷ d ∷ [])) none

missed_top : (tables : Tables) (rows : List Row) (path : Path) (action : Action) → missed tables rows path action ≡ missed_at tables 1 rows path action
missed_top tables rows path Nothing = ap (λ b. cause_where (not (cond (at_node tables path is_plain_container) (not b) (exists rows path.steps))) (cause_at Absent path [])) (lacks_top tables rows path.steps)
missed_top tables rows path (Merge value) = ap (λ b. cause_where b (cause_at Absent path [])) (lacks_top tables rows path.steps)
missed_top tables rows path (Create new) =
    ap (λ b. first_cause (cause_where (exists rows path.steps) (cause_at Exists path []) ∷ cause_where b (cause_at Absent path []) ∷ [])) (lacks_top tables rows path.steps)
missed_top tables rows path (Replace new) = ap (λ b. cause_where b (cause_at Absent path [])) (lacks_top tables rows path.steps)
missed_top tables rows path Delete = refl
missed_top tables rows path Remove = refl

refusal_top : (tables : Tables) (rows : List Row) (edit : Edit) → refusal tables every_right rows edit ≡ refusal_at tables 1 rows edit
refusal_top tables rows edit =
    without_denied (missed tables rows edit.path edit.action) (cause_where (lacks_anchor rows edit) (cause_at MissingInstance edit.path (anchor_names tables edit.path)))
    (denied_cause every_right (first_denied tables every_right rows edit)) (sym (none_denied tables rows edit))
    ∙ ap (λ o. first_cause (o ∷ cause_where (lacks_anchor rows edit) (cause_at MissingInstance edit.path (anchor_names tables edit.path)) ∷ [])) (missed_top tables rows edit.path edit.action)

-- at the top all is asked
pub turn_top : (tables : Tables) (goes_on : Bool) (so_far : Applied) (edit : Edit) → turn tables every_right goes_on so_far edit ≡ turn_at tables 1 goes_on so_far edit
turn_top tables goes_on so_far edit =
    ap (λ o. cond (goes_on || is_empty so_far.causes) (with_result so_far (unless_refused o (left_by tables so_far.rows edit))) so_far) (refusal_top tables so_far.rows edit)

pub run_top : (tables : Tables) (goes_on : Bool) (start : Applied) (edits : List Edit) → fold (turn tables every_right goes_on) start edits ≡ fold (turn_at tables 1 goes_on) start edits
run_top tables goes_on start edits = λ i. fold (λ so_far edit. turn_top tables goes_on so_far edit i) start edits

-- rows at or below a place are so by the test
block_under : (rows : List Row) (steps : List Step) → AreUnder steps (block_at rows steps)
block_under [] steps = tt
block_under (row ∷ rows) steps = by (is_at_or_below steps row.path) refl (block_under rows steps)
  where
    by : (b : Bool) → is_at_or_below steps row.path ≡ b → AreUnder steps (block_at rows steps) → AreUnder steps (cond b (row ∷ block_at rows steps) (block_at rows steps))
    by true e rest = (rest_of steps row.path.steps (sym (starts_on row.path.steps steps) ∙ e), rest)
    by false e rest = rest

keys_under : (steps : List Step) (keys : List ℕ) (values : List (List ℕ)) → AreUnder steps (key_rows steps keys values)
keys_under steps [] values = tt
keys_under steps (key ∷ keys) [] = tt
keys_under steps (key ∷ keys) (value ∷ values) = ((record { node = key; keys = [] } ∷ [], refl), keys_under steps keys values)

own_under : (kind : Kind) (keys : List ℕ) (path : Path) (values : List (List ℕ)) (value : Option (List ℕ)) → AreUnder path.steps (own_rows kind keys path values value)
own_under (Container true) keys path values value = (([], sym (append-nil path.steps)), tt)
own_under (Container false) keys path values value = tt
own_under Leaf keys path values value = (([], sym (append-nil path.steps)), tt)
own_under LeafList keys path values value = (([], sym (append-nil path.steps)), tt)
own_under ListKind keys path values value = (([], sym (append-nil path.steps)), keys_under path.steps keys values)

-- so are the rows that a node has by itself
pub node_under : (tables : Tables) (path : Path) (value : Option (List ℕ)) → AreUnder path.steps (rows_of_node tables path value)
node_under tables path value = by (node_of tables path.steps)
  where
    by : (o : Option Node) → AreUnder path.steps (option_map_or (λ node. own_rows node.kind node.keys path (option_map_or (λ step. step.keys) (last_or None path.steps) []) value) o [])
    by None = tt
    by (Some node) = own_under node.kind node.keys path (option_map_or (λ step. step.keys) (last_or None path.steps) []) value

-- among them is its own row, where it has one
own_there : (kind : Kind) (keys : List ℕ) (path : Path) (values : List (List ℕ)) (value : Option (List ℕ)) → stands_for_itself kind ≡ true → has_row (own_rows kind keys path values value) path.steps ≡ true
own_there (Container true) keys path values value e = ap (λ b. b || false) ((path_decide path.steps path.steps).1 refl)
own_there (Container false) keys path values value e = cc
own_there Leaf keys path values value e = cc
own_there LeafList keys path values value e = cc
own_there ListKind keys path values value e = ap (λ b. b || list_any (λ row. is_same_path row.path.steps path.steps) (key_rows path.steps keys values)) ((path_decide path.steps path.steps).1 refl)

abbrev keys_of_last : Path → List (List ℕ)
keys_of_last path = option_map_or (λ step. step.keys) (last_or None path.steps) []

pub node_stands : (tables : Tables) (path : Path) (value : Option (List ℕ)) → lacks tables (rows_of_node tables path value) path.steps ≡ false
unfolding lacks
node_stands tables path value = by (node_of tables path.steps)
  where
    own : (node : Node) (b : Bool) → stands_for_itself node.kind ≡ b → (b && not (has_row (own_rows node.kind node.keys path (keys_of_last path) value) path.steps)) ≡ false
    own node true e = ap not (own_there node.kind node.keys path (keys_of_last path) value e)
    own node false e = refl

    by : (o : Option Node) →
        (option_map_or (λ node. stands_for_itself node.kind) o false && not (has_row (option_map_or (λ node. own_rows node.kind node.keys path (keys_of_last path) value) o []) path.steps)) ≡ false
    by None = refl
    by (Some node) = own node (stands_for_itself node.kind) refl

-- what an edit leaves at and below its path is there
pub brought_under : (tables : Tables) (rows : List Row) (path : Path) (action : Action) → BringsUnder path action → AreUnder path.steps (new_block tables rows path action)
brought_under tables rows path Nothing brings = block_under rows path.steps
brought_under tables rows path (Merge value) brings = by (exists rows path.steps && not (at_node tables path has_value))
  where
    by : (b : Bool) → AreUnder path.steps (cond b (block_at rows path.steps) (rows_of_node tables path value))
    by true = block_under rows path.steps
    by false = node_under tables path value
brought_under tables rows path (Create new) brings = brings
brought_under tables rows path (Replace new) brings = brings
brought_under tables rows path Delete brings = tt
brought_under tables rows path Remove brings = tt

-- rows below a node, and an edit below it
module _ (tables : Tables) (block : List Row) (steps : List Step) (under : AreUnder steps block) (edit : Edit) (goes : GoesBelow steps edit.path.steps) (brings : BringsUnder edit.path edit.action) where
  -- what it leaves is below the node
  pub left_under : AreUnder steps (left_by tables block edit)
  left_under =
      let new = new_block tables block edit.path edit.action in
      under_with tables block edit.path (place_by edit.action edit.place) new steps under
      (under_longer steps (goes.0 ∷ goes.1) new (subst (λ ss. AreUnder ss new) goes.2 (brought_under tables block edit.path edit.action brings)))

  -- and the row of the node stands as it stood
  pub left_stands : lacks tables (left_by tables block edit) steps ≡ lacks tables block steps
  left_stands =
      let new = new_block tables block edit.path edit.action in
      lacks_same tables (left_by tables block edit) block steps
      (has_apart tables block edit.path (place_by edit.action edit.place) new steps goes.0 goes.1 goes.2 (brought_under tables block edit.path edit.action brings))

  abbrev Both : List Row → Type 0
  Both rows = AreUnder steps rows × (lacks tables rows steps ≡ lacks tables block steps)

  abbrev started : List Cause → Applied
  started causes = record { rows = block; causes = causes }

  turn_both : (from : ℕ) (goes_on : Bool) (causes : List Cause) → Both (turn_at tables from goes_on (started causes) edit).rows
  turn_both from goes_on causes = by (goes_on || is_empty causes)
    where
      result : (o : Option Cause) → Both (with_result (started causes) (unless_refused o (left_by tables block edit))).rows
      result None = (left_under, left_stands)
      result (Some cause) = (under, refl)

      by : (b : Bool) → Both (cond b (with_result (started causes) (unless_refused (refusal_at tables from block edit) (left_by tables block edit))) (started causes)).rows
      by true = result (refusal_at tables from block edit)
      by false = (under, refl)

-- a block stands at a node below some steps; above it nothing lacks, and its own row stands
module _ (tables : Tables) (rows : List Row) (path : Path) (place : Place) (above : List Step) (first : Step) (way : List Step) (path_is : path.steps ≡ above ++ first ∷ way)
    (free : AreFree tables path.steps) (none : lacks_at tables rows (length above + 1) path.steps ≡ false) where
  abbrev pub whole : List Row → List Row
  whole block = with_block tables rows path place block

  abbrev front : List Row
  front = ahead tables rows place path.steps

  abbrev back : List Row
  back = behind tables rows place path.steps

  module _ (block : List Row) (under : AreUnder path.steps block) (stands : lacks tables block path.steps ≡ false) where
    parts : whole block ≡ front ++ block ++ back
    parts = three_parts tables rows path place block free under

    module _ (lower : Path) (goes : GoesBelow path.steps lower.steps) where
      exists_is : exists (whole block) lower.steps ≡ exists block lower.steps
      exists_is =
          (λ i. exists (parts i) (goes.2 i))
          ∙ exists_below path.steps front [] block back (beside_ahead tables rows place path.steps) tt (beside_behind tables rows place path.steps) goes.0 goes.1
          ∙ ap (exists block) (sym goes.2)

      block_is : block_at (whole block) lower.steps ≡ block_at block lower.steps
      block_is =
          (λ i. block_at (parts i) (goes.2 i))
          ∙ block_below path.steps front [] block back (beside_ahead tables rows place path.steps) tt (beside_behind tables rows place path.steps) goes.0 goes.1
          ∙ ap (block_at block) (sym goes.2)

      beside_same : entries_beside (whole block) lower.steps ≡ entries_beside block lower.steps
      beside_same =
          let cut = above_place path.steps goes.0 goes.1 in
          let lower_is = goes.2 ∙ cut.2 in
          ap (λ some. entries_beside some lower.steps) parts
          ∙ sym (beside_is (front ++ block ++ back) lower.steps (path.steps ++ cut.0) cut.1 lower_is)
          ∙ entries_below path.steps front [] block back (beside_ahead tables rows place path.steps) tt (beside_behind tables rows place path.steps) cut.0 (cut.1).node
          ∙ beside_is block lower.steps (path.steps ++ cut.0) cut.1 lower_is

      lacks_is_below : lacks_at tables (whole block) (length above + 1) lower.steps ≡ lacks_at tables block (length path.steps + 1) lower.steps
      lacks_is_below =
          let lower_is : lower.steps ≡ above ++ first ∷ (way ++ goes.0 ∷ goes.1) =
          goes.2 ∙ ap (λ ss. ss ++ goes.0 ∷ goes.1) path_is ∙ append_assoc above (first ∷ way) (goes.0 ∷ goes.1) in
          lacks_there tables (whole block) above first (way ++ goes.0 ∷ goes.1) lower.steps lower_is
          ∙ ap (λ some. lacks_from tables some (above ++ first ∷ []) (way ++ goes.0 ∷ goes.1)) parts
          ∙ lacks_below tables rows path place [] block above first way goes.0 goes.1 path_is free tt under (sym (lacks_there tables rows above first way path.steps path_is) ∙ none) stands
          ∙ sym (lacks_there tables block path.steps goes.0 goes.1 lower.steps goes.2)

      there_is : is_there_at tables (length above + 1) (whole block) lower ≡ is_there_at tables (length path.steps + 1) block lower
      there_is = λ i. cond (at_node tables lower is_plain_container) (not (lacks_is_below i)) (exists_is i)

      missed_is : (action : Action) → missed_at tables (length above + 1) (whole block) lower action ≡ missed_at tables (length path.steps + 1) block lower action
      missed_is Nothing = ap (λ b. cause_where (not b) (cause_at Absent lower [])) there_is
      missed_is (Merge value) = ap (λ b. cause_where b (cause_at Absent lower [])) lacks_is_below
      missed_is (Create new) = λ i. first_cause (cause_where (exists_is i) (cause_at Exists lower []) ∷ cause_where (lacks_is_below i) (cause_at Absent lower []) ∷ [])
      missed_is (Replace new) = ap (λ b. cause_where b (cause_at Absent lower [])) lacks_is_below
      missed_is Delete = ap (λ b. cause_where (not b) (cause_at Absent lower [])) exists_is
      missed_is Remove = refl

      new_is : (action : Action) → new_block tables (whole block) lower action ≡ new_block tables block lower action
      new_is Nothing = block_is
      new_is (Merge value) = λ i. cond (exists_is i && not (at_node tables lower has_value)) (block_is i) (rows_of_node tables lower value)
      new_is (Create new) = refl
      new_is (Replace new) = refl
      new_is Delete = refl
      new_is Remove = refl

    module _ (edit : Edit) (goes : GoesBelow path.steps edit.path.steps) (brings : BringsUnder edit.path edit.action) where
      anchor_is : lacks_anchor (whole block) edit ≡ lacks_anchor block edit
      anchor_is = ap (λ order. option_map_or (λ anchor. not (has_entry anchor order)) (anchor_of (place_by edit.action edit.place)) false) (beside_same edit.path goes)

      refusal_is : refusal_at tables (length above + 1) (whole block) edit ≡ refusal_at tables (length path.steps + 1) block edit
      refusal_is = λ i. first_cause (missed_is edit.path goes edit.action i ∷ cause_where (anchor_is i) (cause_at MissingInstance edit.path (anchor_names tables edit.path)) ∷ [])

      left_is : left_by tables (whole block) edit ≡ whole (left_by tables block edit)
      left_is =
          let new = new_block tables block edit.path edit.action in
          ap (with_block tables (whole block) edit.path (place_by edit.action edit.place)) (new_is edit.path goes edit.action)
          ∙ made_below tables rows path place [] block free tt under edit.path goes.0 goes.1 goes.2 (place_by edit.action edit.place) new (brought_under tables block edit.path edit.action brings)

      abbrev outer : List Cause → Applied
      outer causes = record { rows = whole block; causes = causes }

      abbrev inner : List Cause → Applied
      inner causes = record { rows = block; causes = causes }

      abbrev back_in : Applied → Applied
      back_in after = record { rows = whole after.rows; causes = after.causes }

      one_more : (goes_on : Bool) (causes : List Cause) →
          let after = turn_at tables (length path.steps + 1) goes_on (record { rows = block; causes = causes }) edit in
          turn_at tables (length above + 1) goes_on (record { rows = whole block; causes = causes }) edit ≡ record { rows = whole after.rows; causes = after.causes }
      one_more goes_on causes = by (goes_on || is_empty causes)
        where
          result : (o : Option Cause) → with_result (outer causes) (unless_refused o (left_by tables (whole block) edit)) ≡ back_in (with_result (inner causes) (unless_refused o (left_by tables block edit)))
          result None = ap (λ some. record { rows = some; causes = causes }) left_is
          result (Some cause) = refl

          by : (b : Bool) →
              cond b (with_result (outer causes) (unless_refused (refusal_at tables (length above + 1) (whole block) edit) (left_by tables (whole block) edit))) (outer causes)
              ≡ back_in (cond b (with_result (inner causes) (unless_refused (refusal_at tables (length path.steps + 1) block edit) (left_by tables block edit))) (inner causes))
          by true = ap (λ o. with_result (outer causes) (unless_refused o (left_by tables (whole block) edit))) refusal_is ∙ result (refusal_at tables (length path.steps + 1) block edit)
          by false = refl

  -- edits below the node, one after another: they are made in its block, which is put back at last
  pub run_alone : (goes_on : Bool) (so_far : Applied) (edits : List Edit) → AreUnder path.steps so_far.rows → lacks tables so_far.rows path.steps ≡ false → AreBelow path.steps edits →
      let after = fold (turn_at tables (length path.steps + 1) goes_on) so_far edits in
      fold (turn_at tables (length above + 1) goes_on) (record { rows = whole so_far.rows; causes = so_far.causes }) edits ≡ record { rows = whole after.rows; causes = after.causes }
  run_alone goes_on so_far [] under stands below = refl
  run_alone goes_on so_far (edit ∷ edits) under stands below =
      let both = turn_both tables so_far.rows path.steps under edit below.0 below.1 (length path.steps + 1) goes_on so_far.causes in
      ap (λ after. fold (turn_at tables (length above + 1) goes_on) after edits) (one_more so_far.rows under stands edit below.0 below.1 goes_on so_far.causes)
      ∙ run_alone goes_on (turn_at tables (length path.steps + 1) goes_on so_far edit) edits both.0 (both.1 ∙ stands) below.2

-- all that stands below the node at last is below it
pub run_under : (tables : Tables) (from : ℕ) (goes_on : Bool) (steps : List Step) (so_far : Applied) (edits : List Edit) → AreUnder steps so_far.rows → AreBelow steps edits →
    AreUnder steps (fold (turn_at tables from goes_on) so_far edits).rows
run_under tables from goes_on steps so_far [] under below = under
run_under tables from goes_on steps so_far (edit ∷ edits) under below =
    run_under tables from goes_on steps (turn_at tables from goes_on so_far edit) edits
    (turn_both tables so_far.rows steps under edit below.0 below.1 from goes_on so_far.causes).0 below.2

-- rows that are all below the node are all of its block
pub block_all : (rows : List Row) (steps : List Step) → AreUnder steps rows → block_at rows steps ≡ rows
block_all [] steps under = refl
block_all (row ∷ rows) steps under =
    let there : is_at_or_below steps row.path ≡ true = starts_on row.path.steps steps ∙ ap (goes_on steps) (under.0).1 ∙ goes_further steps (under.0).0 in
    rw there (ap (λ some. row ∷ some) (block_all rows steps under.1))
