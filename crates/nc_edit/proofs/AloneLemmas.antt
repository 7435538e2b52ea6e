-- What the code finds of the edits that are made alone.
use Rattle.std.proofs.Common.{◌≡◌, ◌≢◌, ◌&&◌, ◌||◌, ◌++◌, ◌+◌, ◌<◌, ◌≤◌, ℕ, Bool, true, false, cond, not, List, [], ◌∷◌, Option, Some, None, refl, sym, ap, subst, ◌∙◌, take, drop, get_or, length, arith}
use Rattle.std.proofs.lemmas.List.{append-nil, drop-take, drop_all, drop_more, length-take, take-append-drop, take-append-le, take_more}
use Rattle.std.proofs.lemmas.List.Sums.{fold-append}
use Rattle.std.proofs.lemmas.List.Elements.{All-head, All-tail}
use Rattle.std.specs.List.{All, starts_with}
use Rattle.std.specs.Option.{option_map_or}
use Rattle.std.specs.Prelude.{Err, Ok, OnOk, Result, fold, is_some, slice_get}
use Rattle.nc_names.specs.Same.{is_at_or_below, is_same_step}
use Rattle.nc_names.specs.declared.path.Path.{Path}
use Rattle.nc_names.specs.declared.cause.CauseKind.TheVariants.{Absent, MissingInstance}
use Rattle.nc_names.specs.declared.path.Place.{Place}
use Rattle.nc_names.specs.declared.path.Place.TheVariants.{Kept}
use Rattle.nc_names.specs.declared.path.Row.{Row}
use Rattle.nc_names.specs.declared.path.Step.{Step}
use Rattle.nc_schema.specs.Blocks.{at_node, entries_beside, rows_of_node, with_block}
use Rattle.nc_schema.specs.Kinds.{has_value}
use Rattle.nc_schema.specs.Standing.{block_at, cases_of, exists, has_entry, is_by_user}
use Rattle.nc_schema.specs.Tables.{Tables}
use Rattle.nc_schema.specs.declared.node.Case.{Case}
use Rattle.nc_schema.specs.declared.node.Node.{Node}
use Rattle.nc_protocol.specs.Applied.{Applied, is_empty, with_result}
use Rattle.nc_protocol.specs.Edited.{anchor_names, anchor_of, cause_at, cause_where, first_cause, left_by, new_block, place_by, unless_refused}
use Rattle.nc_protocol.specs.Unchecked.{every_right}
use Rattle.nc_protocol.specs.declared.edit.Action.{Action}
use Rattle.nc_protocol.specs.declared.edit.Action.TheVariants.{Nothing, Merge, Create, Replace, Delete, Remove}
use Rattle.nc_protocol.specs.declared.edit.Edit.{Edit}
use Rattle.nc_protocol.specs.declared.request.Cause.{Cause}
use Rattle.nc_tree.specs.inner.Lacking.{lacks, lacks_from}
use Rattle.nc_edit.specs.inner.Alone.{AreBelow, AreFree, AreUnder, BringsUnder, GoesBelow, IsNew, is_free, is_merge, lacks_at, missed_at, refusal_at, turn_at}
use Rattle.nc_edit.specs.inner.Denied.{has_case}
use Rattle.nc_made.specs.Own.{own_block}
use Rattle.nc_edit.specs.inner.Turns.{turn}
use Rattle.nc_edit.proofs.BelowPaths.{rest_of, starts_on}
use Rattle.nc_edit.proofs.TurnsAlone.{block_all, lacks_top, node_stands, node_under, run_alone, run_top, run_under, turn_top}

-- rows that are found at a path or below it
pub under_all : (rows : List Row) (steps : List Step) → All (λ row. is_at_or_below steps row.path ≡ true) rows → AreUnder steps rows
under_all [] steps all = tt
under_all (row ∷ rows) steps all =
    let P : Row → Type 0 = λ row. is_at_or_below steps row.path ≡ true in
    (rest_of steps row.path.steps (sym (starts_on row.path.steps steps) ∙ All-head P row rows all), under_all rows steps (All-tail P row rows all))

pub created_under : (path : Path) (action : Action) (new : List Row) → action ≡ Create new → All (λ row. is_at_or_below path.steps row.path ≡ true) new → BringsUnder path action
created_under path action new is all = subst (BringsUnder path) (sym is) (under_all new path.steps all)

pub replaced_under : (path : Path) (action : Action) (new : List Row) → action ≡ Replace new → All (λ row. is_at_or_below path.steps row.path ≡ true) new → BringsUnder path action
replaced_under path action new is all = subst (BringsUnder path) (sym is) (under_all new path.steps all)

-- a path that is longer than some steps and begins with them
pub longer_goes : (steps path : List Step) → length steps < length path → starts_with is_same_step path steps ≡ true → GoesBelow steps path
longer_goes steps path longer starts = by (rest_of steps path (sym (starts_on path steps) ∙ starts))
  where
    by : (rest : List Step) × (path ≡ steps ++ rest) → GoesBelow steps path
    by ([], is) =
        let same : length path ≡ length steps = ap length (is ∙ append-nil steps) in
        absurd (omega (arith, same, longer))
    by (next ∷ more, is) = (next, more, is)

-- steps that are found to be free
no_cases : (tables : Tables) (number : ℕ) → has_case tables number ≡ false → cases_of tables number ≡ []
no_cases tables number none = by (slice_get tables.nodes number) none
  where
    own : (cases : List Case) → is_some (slice_get cases 0) ≡ false → cases ≡ []
    own [] e = refl
    own (one ∷ cases) e = cc

    by : (o : Option Node) → option_map_or (λ node. is_some (slice_get node.cases 0)) o false ≡ false → option_map_or (λ node. node.cases) o [] ≡ []
    by None e = refl
    by (Some node) e = own node.cases e

neither : (a b : Bool) → (not a && not b) ≡ true → (a ≡ false) × (b ≡ false)
neither true b e = cc
neither false true e = cc
neither false false e = (refl, refl)

pub free_all : (tables : Tables) (steps : List Step) → All (λ step. is_free tables step ≡ true) steps → AreFree tables steps
free_all tables [] all = tt
free_all tables (step ∷ steps) all =
    let P : Step → Type 0 = λ step. is_free tables step ≡ true in
    let two = neither (is_by_user tables step.node) (has_case tables step.node) (All-head P step steps all) in
    (record { system = two.0; cases = no_cases tables step.node two.1 }, free_all tables steps (All-tail P step steps all))

-- one more edit that is below a node
below_push : (steps : List Step) (edits : List Edit) (edit : Edit) → AreBelow steps edits → GoesBelow steps edit.path.steps → BringsUnder edit.path edit.action → AreBelow steps (edits ++ edit ∷ [])
below_push steps [] edit below goes brings = (goes, brings, tt)
below_push steps (first ∷ edits) edit below goes brings = (below.0, below.1, below_push steps edits edit below.2 goes brings)

pub below_more : (steps : List Step) (edits : List Edit) (i : ℕ) (edit : Edit) → i < length edits → edit ≡ get_or edits i edit → AreBelow steps (take i edits) → GoesBelow steps edit.path.steps → BringsUnder edit.path edit.action →
    AreBelow steps (take (i + 1) edits)
below_more steps edits i edit within here below goes brings =
    subst (AreBelow steps) (ap (λ x. take i edits ++ x ∷ []) here ∙ sym (take_more edits i edit within)) (below_push steps (take i edits) edit below goes brings)

-- what lacks from a step on lacks there or further on
lacks_next : (tables : Tables) (rows : List Row) (steps : List Step) (at : ℕ) → at < length steps →
    lacks_from tables rows (take at steps) (drop at steps) ≡ (lacks tables rows (take at steps) || lacks_from tables rows (take (at + 1) steps) (drop (at + 1) steps))
lacks_next tables rows steps at within =
    let none : Step = record { node = 0; keys = [] } in
    ap (lacks_from tables rows (take at steps)) (drop_more steps at none within)
    ∙ ap (λ ss. lacks tables rows (take at steps) || lacks_from tables rows ss (drop (at + 1) steps)) (sym (take_more steps at none within))

pub lacks_found : (tables : Tables) (rows : List Row) (steps : List Step) (from at : ℕ) → at < length steps → lacks_from tables rows (take at steps) (drop at steps) ≡ lacks_at tables rows from steps →
    lacks tables rows (take at steps) ≡ true → true ≡ lacks_at tables rows from steps
lacks_found tables rows steps from at within is there =
    sym (ap (λ b. b || lacks_from tables rows (take (at + 1) steps) (drop (at + 1) steps)) there) ∙ sym (lacks_next tables rows steps at within) ∙ is

pub lacks_more : (tables : Tables) (rows : List Row) (steps : List Step) (from at : ℕ) → at < length steps → lacks_from tables rows (take at steps) (drop at steps) ≡ lacks_at tables rows from steps →
    lacks tables rows (take at steps) ≡ false → lacks_from tables rows (take (at + 1) steps) (drop (at + 1) steps) ≡ lacks_at tables rows from steps
lacks_more tables rows steps from at within is there =
    sym (ap (λ b. b || lacks_from tables rows (take (at + 1) steps) (drop (at + 1) steps)) there) ∙ sym (lacks_next tables rows steps at within) ∙ is

pub lacks_end : (tables : Tables) (rows : List Row) (steps : List Step) (from at : ℕ) → length steps ≤ at → lacks_from tables rows (take at steps) (drop at steps) ≡ lacks_at tables rows from steps →
    false ≡ lacks_at tables rows from steps
lacks_end tables rows steps from at all is = sym (ap (lacks_from tables rows (take at steps)) (drop_all at steps all)) ∙ is

-- some edits more, of all
taken_more : (edits : List Edit) (done n : ℕ) → done ≤ length edits → take (done + n) edits ≡ take done edits ++ take n (drop done edits)
taken_more edits done n within =
    let all = take (done + n) edits in
    let long : done ≤ length all = omega (arith, within, length-take (done + n) edits) in
    let first : take done all ≡ take done edits = sym (take-append-le done all (drop (done + n) edits) long) ∙ ap (take done) (take-append-drop (done + n) edits) in
    sym (take-append-drop done all) ∙ (λ i. first i ++ drop-take done n edits i)

pub run_more : (f : Applied → Edit → Applied) (start so_far next : Applied) (edits : List Edit) (done n : ℕ) → done ≤ length edits → so_far ≡ fold f start (take done edits) →
    next ≡ fold f so_far (take n (drop done edits)) → next ≡ fold f start (take (done + n) edits)
run_more f start so_far next edits done n within before made =
    made ∙ ap (λ s. fold f s (take n (drop done edits))) before ∙ sym (fold-append f start (take done edits) (take n (drop done edits))) ∙ ap (fold f start) (sym (taken_more edits done n within))

pub some_goes : (path : List Step) → length path ≢ 0 → GoesBelow [] path
some_goes [] some = absurd (some refl)
some_goes (step ∷ path) some = (step, path, refl)

-- a merge goes to its place
merge_place : (action : Action) (place : Place) → is_merge action ≡ true → place ≡ Kept → place_by action place ≡ Kept
merge_place Nothing place e kept = cc
merge_place (Merge value) place e kept = kept
merge_place (Create new) place e kept = cc
merge_place (Replace new) place e kept = cc
merge_place Delete place e kept = cc
merge_place Remove place e kept = cc

-- the rows that a merge of what does not exist leaves
pub merged_rows : (tables : Tables) (rows : List Row) (edit : Edit) → is_merge edit.action ≡ true → edit.place ≡ Kept → exists rows edit.path.steps ≡ false →
    left_by tables rows edit ≡ with_block tables rows edit.path Kept (own_block tables edit.path edit.action)
merged_rows tables rows edit merges kept new =
    (λ i. with_block tables rows edit.path (merge_place edit.action edit.place merges kept i) (new_block tables rows edit.path edit.action))
    ∙ ap (with_block tables rows edit.path Kept) (block edit.action merges)
  where
    block : (action : Action) → is_merge action ≡ true → new_block tables rows edit.path action ≡ own_block tables edit.path action
    block Nothing e = cc
    block (Merge value) e = ap (λ b. cond (b && not (at_node tables edit.path has_value)) (block_at rows edit.path.steps) (rows_of_node tables edit.path value)) new
    block (Create new) e = cc
    block (Replace new) e = cc
    block Delete e = cc
    block Remove e = cc

-- and where what it brings stands there already
pub merged_again : (tables : Tables) (rows : List Row) (edit : Edit) → is_merge edit.action ≡ true → edit.place ≡ Kept → block_at rows edit.path.steps ≡ own_block tables edit.path edit.action →
    left_by tables rows edit ≡ with_block tables rows edit.path Kept (own_block tables edit.path edit.action)
merged_again tables rows edit merges kept same =
    (λ i. with_block tables rows edit.path (merge_place edit.action edit.place merges kept i) (new_block tables rows edit.path edit.action))
    ∙ ap (with_block tables rows edit.path Kept) (block edit.action merges same)
  where
    either : (b : Bool) (some others : List Row) → some ≡ others → cond b some others ≡ others
    either true some others e = e
    either false some others e = refl

    block : (action : Action) → is_merge action ≡ true → block_at rows edit.path.steps ≡ own_block tables edit.path action → new_block tables rows edit.path action ≡ own_block tables edit.path action
    block Nothing e f = cc
    block (Merge value) e f = either (exists rows edit.path.steps && not (at_node tables edit.path has_value)) (block_at rows edit.path.steps) (rows_of_node tables edit.path value) f
    block (Create new) e f = cc
    block (Replace new) e f = cc
    block Delete e f = cc
    block Remove e f = cc

-- the rows of a new node
pub new_rows : (tables : Tables) (rows : List Row) (edit : Edit) → IsNew tables rows edit → left_by tables rows edit ≡ with_block tables rows edit.path Kept (own_block tables edit.path edit.action)
new_rows tables rows edit is = merged_rows tables rows edit is.merges is.kept is.new

pub merge_under : (tables : Tables) (path : Path) (action : Action) → is_merge action ≡ true → AreUnder path.steps (own_block tables path action)
merge_under tables path Nothing e = cc
merge_under tables path (Merge value) e = node_under tables path value
merge_under tables path (Create new) e = cc
merge_under tables path (Replace new) e = cc
merge_under tables path Delete e = cc
merge_under tables path Remove e = cc

own_stands : (tables : Tables) (path : Path) (action : Action) → is_merge action ≡ true → lacks tables (own_block tables path action) path.steps ≡ false
own_stands tables path Nothing e = cc
own_stands tables path (Merge value) e = node_stands tables path value
own_stands tables path (Create new) e = cc
own_stands tables path (Replace new) e = cc
own_stands tables path Delete e = cc
own_stands tables path Remove e = cc

-- a new node with the edits below it, which were made in its rows alone
pub made_alone : (tables : Tables) (goes_on : Bool) (rows new : List Row) (edit : Edit) (edits : List Edit) (causes after : List Cause) (small part : List Row) (from : ℕ) → IsNew tables rows edit → AreBelow edit.path.steps edits →
    from ≡ length edit.path.steps + 1 →
    record { rows = small; causes = after } ≡ fold (turn_at tables from goes_on) (record { rows = own_block tables edit.path edit.action; causes = causes }) edits →
    part ≡ block_at small edit.path.steps → new ≡ with_block tables rows edit.path Kept part →
    record { rows = new; causes = after } ≡ fold (turn_at tables 1 goes_on) (record { rows = left_by tables rows edit; causes = causes }) edits
made_alone tables goes_on rows new edit edits causes after small part from is below from_is run part_is new_is =
    let path = edit.path in
    let block = own_block tables path edit.action in
    let start : Applied = record { rows = block; causes = causes } in
    let under : AreUnder path.steps block = merge_under tables path edit.action is.merges in
    let end : Applied = fold (turn_at tables (length path.steps + 1) goes_on) start edits in
    let run_is : record { rows = small; causes = after } ≡ end = run ∙ ap (λ n. fold (turn_at tables n goes_on) start edits) from_is in
    let below_it : AreUnder path.steps end.rows = run_under tables (length path.steps + 1) goes_on path.steps start edits under below in
    let small_is : small ≡ end.rows = ap (λ (a : Applied). a.rows) run_is in
    let part_end : part ≡ end.rows = part_is ∙ ap (λ some. block_at some path.steps) small_is ∙ block_all end.rows path.steps below_it in
    let after_is : after ≡ end.causes = ap (λ (a : Applied). a.causes) run_is in
    let none : lacks_at tables rows 1 path.steps ≡ false = sym (lacks_top tables rows path.steps) ∙ is.none in
    (λ i. record { rows = (new_is ∙ ap (with_block tables rows path Kept) part_end) i; causes = after_is i })
    ∙ sym (run_alone tables rows path Kept [] (is.goes).0 (is.goes).1 (is.goes).2 is.free none goes_on start edits under (own_stands tables path edit.action is.merges) below)
    ∙ ap (λ some. fold (turn_at tables 1 goes_on) (record { rows = some; causes = causes }) edits) (sym (new_rows tables rows edit is))

-- the same where its rows are put as they are
pub made_listed : (tables : Tables) (goes_on : Bool) (rows new : List Row) (edit : Edit) (edits : List Edit) (causes after : List Cause) (small : List Row) (from : ℕ) → IsNew tables rows edit →
    AreBelow edit.path.steps edits → from ≡ length edit.path.steps + 1 →
    record { rows = small; causes = after } ≡ fold (turn_at tables from goes_on) (record { rows = own_block tables edit.path edit.action; causes = causes }) edits →
    new ≡ with_block tables rows edit.path Kept small →
    record { rows = new; causes = after } ≡ fold (turn_at tables 1 goes_on) (record { rows = left_by tables rows edit; causes = causes }) edits
made_listed tables goes_on rows new edit edits causes after small from is below from_is run new_is =
    let start : Applied = record { rows = own_block tables edit.path edit.action; causes = causes } in
    let small_is : small ≡ (fold (turn_at tables from goes_on) start edits).rows = ap (λ (a : Applied). a.rows) run in
    let under : AreUnder edit.path.steps small =
    subst (AreUnder edit.path.steps) (sym small_is)
    (run_under tables from goes_on edit.path.steps start edits (merge_under tables edit.path edit.action is.merges) below) in
    made_alone tables goes_on rows new edit edits causes after small small from is below from_is run (sym (block_all small edit.path.steps under)) new_is

-- what follows of a call that went well
pub on_ok_by : {A E : Type 0} (result : Result A E) (P Q : Type 0) → (P → Q) → OnOk result P → OnOk result Q
on_ok_by (Ok value) P Q by p = by p
on_ok_by (Err fault) P Q by p = tt

-- a merge is not refused where what stands above is there
merge_missed : (tables : Tables) (from : ℕ) (rows : List Row) (path : Path) (action : Action) → is_merge action ≡ true → lacks_at tables rows from path.steps ≡ false → missed_at tables from rows path action ≡ None
merge_missed tables from rows path Nothing e none = cc
merge_missed tables from rows path (Merge value) e none = ap (λ b. cause_where b (cause_at Absent path [])) none
merge_missed tables from rows path (Create new) e none = cc
merge_missed tables from rows path (Replace new) e none = cc
merge_missed tables from rows path Delete e none = cc
merge_missed tables from rows path Remove e none = cc

pub not_refused_at : (tables : Tables) (from : ℕ) (rows : List Row) (edit : Edit) → is_merge edit.action ≡ true → edit.place ≡ Kept → lacks_at tables rows from edit.path.steps ≡ false →
    refusal_at tables from rows edit ≡ None
not_refused_at tables from rows edit merges kept none =
    let missed = merge_missed tables from rows edit.path edit.action merges none in
    let place = merge_place edit.action edit.place merges kept in
    λ i. first_cause (missed i
    ∷ cause_where (option_map_or (λ anchor. not (has_entry anchor (entries_beside rows edit.path.steps))) (anchor_of (place i)) false) (cause_at MissingInstance edit.path (anchor_names tables edit.path)) ∷ [])

not_refused : (tables : Tables) (rows : List Row) (edit : Edit) → IsNew tables rows edit → refusal_at tables 1 rows edit ≡ None
not_refused tables rows edit is =
    let none : lacks_at tables rows 1 edit.path.steps ≡ false = sym (lacks_top tables rows edit.path.steps) ∙ is.none in
    not_refused_at tables 1 rows edit is.merges is.kept none

-- it is one turn more
pub stretched : (tables : Tables) (goes_on : Bool) (rows : List Row) (causes : List Cause) (edit : Edit) (edits : List Edit) → IsNew tables rows edit → (goes_on || is_empty causes) ≡ true →
    fold (turn tables every_right goes_on) (record { rows = rows; causes = causes }) (edit ∷ edits)
    ≡ fold (turn_at tables 1 goes_on) (record { rows = left_by tables rows edit; causes = causes }) edits
stretched tables goes_on rows causes edit edits is goes =
    let start : Applied = record { rows = rows; causes = causes } in
    let made : turn tables every_right goes_on start edit ≡ record { rows = left_by tables rows edit; causes = causes } =
    turn_top tables goes_on start edit
    ∙ (λ i. cond (goes i) (with_result start (unless_refused (not_refused tables rows edit is i) (left_by tables rows edit))) start) in
    run_top tables goes_on (turn tables every_right goes_on start edit) edits ∙ ap (λ some. fold (turn_at tables 1 goes_on) some edits) made
