-- The causes that payloads, edits and configurations give.
use Rattle.std.proofs.Common.{◌&&◌, ◌||◌, ◌++◌, ℕ, Bool, true, false, List, [], ◌∷◌, arith, Option, Some, None, Result, Ok, Err, suc}
use Rattle.std.specs.Prelude.{fold, if◌then◌else◌, option_map, option_and_then, IfSome}
use Rattle.std.specs.List.{All, find, list_any}
use Rattle.std.specs.Option.{option_or}
use Rattle.nc_names.specs.declared.cause.CauseKind.TheVariants.{UnknownElement, UnknownNamespace, UnknownAttribute, BadAttribute, MissingKey, BadElement, BadValue, Exists, Absent, MissingInstance, DataDenied}
use Rattle.nc_names.specs.declared.path.Path.{Path}
use Rattle.nc_names.specs.declared.path.Right.{Right}
use Rattle.nc_names.specs.declared.path.Row.{Row}
use Rattle.nc_names.specs.declared.path.Step.{Step}
use Rattle.nc_names.specs.declared.name.QName.{QName}
use Rattle.nc_message.specs.declared.tree.Attr.{Attr}
use Rattle.nc_message.specs.declared.tree.Elem.{Elem}
use Rattle.nc_message.specs.declared.tree.Part.{Part, Child', Chars, Row_of-Part, end_of-Part, more_of-Part}
use Rattle.nc_message.specs.declared.tree.Part.TheBlock.{Row_of-Elem, end_of-Elem, more_of-Elem, items-the_row-Part}
use Rattle.nc_schema.specs.Tables.{Tables}
use Rattle.nc_protocol.specs.declared.access.Decision.{Decision}
use Rattle.nc_protocol.specs.declared.asked.Default3.{Default3}
use Rattle.nc_protocol.specs.declared.asked.ErrorOption.{ErrorOption}
use Rattle.nc_protocol.specs.declared.asked.ErrorOption.TheVariants.{Stop, Continue, Rollback}
use Rattle.nc_protocol.specs.declared.edit.Action.{Action}
use Rattle.nc_protocol.specs.declared.edit.Action.TheVariants.{Nothing, Merge, Create, Replace, Delete, Remove}
use Rattle.nc_protocol.specs.declared.edit.Edit.{Edit}
use Rattle.nc_protocol.specs.declared.position.Under.{Under}
use Rattle.nc_protocol.specs.declared.position.Position.{Position}
use Rattle.nc_protocol.specs.declared.request.Cause.{Cause}
use Rattle.nc_protocol.specs.Applied.{Applied, applied, continued, stopped, with_result, is_empty}
use Rattle.nc_protocol.specs.Attributes.{cause_in, attribute_fault, attribute_cause, attributes_fault, kind_unless, is_operation, has_operation, is_insertion, is_placed, reads_operation, reads_insertion}
use Rattle.nc_protocol.specs.Edited.{Change, cause_at, cause_where, first_cause, missed, refusal, lacks_anchor, anchor_names, denied_cause, first_denied, decision_names, unless_refused, edited, left_by}
use Rattle.nc_protocol.specs.Elements.{Reading, Named, named, named_part, has_text, is_key, step_of, steps_to, with_step}
use Rattle.nc_protocol.specs.Faults.{unknown_cause, shape_fault, value_fault, element_fault, missing_key, key_fault, keys_fault, entry_fault, unknown_or, inside, local_name}
use Rattle.nc_protocol.specs.Payload.{part_edits, child_edits, parts_edits, list_edits, element_edits, node_edits, config_edits, edits_of, rows_of, with_more, if_read, unless_fault, made_of, rows_merged, reading_of}
use Rattle.nc_protocol.proofs.ListLemmas.{all_append, all_one}
use Rattle.nc_names.specs.Same.{is_same_text}
use Rattle.nc_schema.specs.Kinds.{is_list}
use Rattle.nc_schema.specs.Standing.{exists, lacks_above}

-- a result whose cause, if it is one, is so
abbrev pub ErrIs : {A : Type 0} → (Cause → Type 0) → Result A Cause → Type 0
ErrIs P (Ok it) = Unit {0}
ErrIs P (Err cause) = P cause

-- the causes of a payload, of whatever each of them says
module _ (P : Cause → Type 0)
    (unknown_element : (steps : List Step) (name : List ℕ) → P (cause_in UnknownElement steps (name ∷ [])))
    (unknown_namespace : (steps : List Step) (name space : List ℕ) → P (cause_in UnknownNamespace steps (name ∷ space ∷ [])))
    (unknown_attribute : (above : List Step) (step : Step) (attr name : List ℕ) → P (cause_in UnknownAttribute (above ++ step ∷ []) (attr ∷ name ∷ [])))
    (bad_attribute : (above : List Step) (step : Step) (attr name : List ℕ) → P (cause_in BadAttribute (above ++ step ∷ []) (attr ∷ name ∷ [])))
    (no_key : (steps : List Step) (key : List ℕ) → P (cause_in MissingKey steps (key ∷ [])))
    (bad_element : (steps : List Step) (name : List ℕ) → P (cause_in BadElement steps (name ∷ [])))
    (bad_value : (above : List Step) (step : Step) → P (cause_in BadValue (above ++ step ∷ []) [])) where
  where_is : (b : Bool) (cause : Cause) → P cause → IfSome (cause_where b cause) P
  where_is true cause is = is
  where_is false cause is = tt

  or_is : (a b : Option Cause) → IfSome a P → IfSome b P → IfSome (option_or a b) P
  or_is None b first second = second
  or_is (Some cause) b first second = first

  unknown_is : (tables : Tables) (above : List Step) (name : QName) → P (unknown_cause tables above name)
  unknown_is tables above name = by (list_any (λ found. is_same_text found.space name.space) tables.modules)
    where
      by : (known : Bool) → P (if known then cause_in UnknownElement above (name.name ∷ []) else cause_in UnknownNamespace above (name.name ∷ name.space ∷ []))
      by true = unknown_element above name.name
      by false = unknown_namespace above name.name name.space

  attribute_is : (reading : Reading) (at : Position) (it : Named) (given : Bool) (attr : Attr) → IfSome (option_map (attribute_cause reading at it attr) (attribute_fault reading at it given attr)) P
  attribute_is reading at it given attr =
      by (is_operation attr && has_operation at.under) (reads_operation reading at it given attr) (is_insertion attr && is_placed at.under it.node) (reads_insertion reading it attr)
    where
      bad : (reads : Bool) → IfSome (option_map (attribute_cause reading at it attr) (kind_unless reads BadAttribute)) P
      bad true = tt
      bad false = bad_attribute at.above (step_of reading at.under it) attr.name.name it.elem.name.name

      by : (operation reads insertion places : Bool) →
          IfSome (option_map (attribute_cause reading at it attr)
          (if operation then kind_unless reads BadAttribute else (if insertion then kind_unless places BadAttribute else Some UnknownAttribute))) P
      by true reads insertion places = bad reads
      by false reads true places = bad places
      by false reads false places = unknown_attribute at.above (step_of reading at.under it) attr.name.name it.elem.name.name

  attributes_are : (reading : Reading) (at : Position) (it : Named) (given : Bool) (attrs : List Attr) → IfSome (attributes_fault reading at it given attrs) P
  attributes_are reading at it given [] = tt
  attributes_are reading at it given (attr ∷ more) =
      or_is (option_map (attribute_cause reading at it attr) (attribute_fault reading at it given attr)) (attributes_fault reading at it (given || is_operation attr) more)
      (attribute_is reading at it given attr) (attributes_are reading at it (given || is_operation attr) more)

  element_is : (reading : Reading) (at : Position) (earlier : List Step) (it : Named) → IfSome (element_fault reading at earlier it) P
  element_is reading at earlier it =
      or_is (shape_fault reading at earlier it) (option_or (attributes_fault reading at it false it.elem.attrs) (value_fault reading at it))
      (where_is _ (cause_in BadElement at.above (it.elem.name.name ∷ [])) (bad_element at.above it.elem.name.name))
      (or_is (attributes_fault reading at it false it.elem.attrs) (value_fault reading at it) (attributes_are reading at it false it.elem.attrs)
      (where_is _ (cause_in BadValue (steps_to reading at it) []) (bad_value at.above (step_of reading at.under it))))

  missing_is : (reading : Reading) (at : Position) (it : Named) → IfSome (missing_key reading at it) P
  missing_is reading at it = by (find _ it.node.keys)
    where
      by : (found : Option ℕ) → IfSome (option_map (λ key. cause_in MissingKey (steps_to reading at it) (local_name reading.tables key ∷ [])) found) P
      by None = tt
      by (Some key) = no_key (steps_to reading at it) (local_name reading.tables key)

  key_is : (reading : Reading) (at : Position) (earlier : List Step) (part : Part) → IfSome (key_fault reading at earlier part) P
  key_is reading at earlier part = by (named_part reading at.parent part)
    where
      chosen : (child : Named) (key : Bool) → IfSome (if key then element_fault reading at earlier child else None) P
      chosen child true = element_is reading at earlier child
      chosen child false = tt

      by : (found : Option Named) → IfSome (option_and_then (λ child. if is_key reading at child then element_fault reading at earlier child else None) found) P
      by None = tt
      by (Some child) = chosen child (is_key reading at child)

  keys_are : (reading : Reading) (at : Position) (earlier : List Step) (parts : List Part) → IfSome (keys_fault reading at earlier parts) P
  keys_are reading at earlier [] = tt
  keys_are reading at earlier (part ∷ more) =
      or_is (key_fault reading at earlier part) (keys_fault reading at (with_step reading at earlier part) more)
      (key_is reading at earlier part) (keys_are reading at (with_step reading at earlier part) more)

  entry_is : (reading : Reading) (at : Position) (it : Named) → IfSome (entry_fault reading at it) P
  entry_is reading at it = by (is_list it.node.kind)
    where
      keys : Option Cause
      keys = keys_fault reading (inside reading at it) [] it.elem.parts

      by : (list : Bool) → IfSome (if list then option_or (missing_key reading at it) (keys_fault reading (inside reading at it) [] it.elem.parts) else None) P
      by true = or_is (missing_key reading at it) (keys_fault reading (inside reading at it) [] it.elem.parts) (missing_is reading at it) (keys_are reading (inside reading at it) [] it.elem.parts)
      by false = tt

  unknown_or_is : (reading : Reading) (at : Position) (earlier : List Step) (elem : Elem) (found : Option Named) → IfSome (unknown_or reading at earlier elem found) P
  unknown_or_is reading at earlier elem None = unknown_is reading.tables at.above elem.name
  unknown_or_is reading at earlier elem (Some it) =
      or_is (element_fault reading at earlier it) (entry_fault reading at it) (element_is reading at earlier it) (entry_is reading at it)

  more_is : (first more : Result (List Edit) Cause) → ErrIs P first → ErrIs P more → ErrIs P (with_more first more)
  more_is (Err cause) more is also = is
  more_is (Ok edits) (Err cause) is also = also
  more_is (Ok edits) (Ok others) is also = tt

  read_is : {A B : Type 0} (make : A → B) (result : Result A Cause) → ErrIs P result → ErrIs P (if_read make result)
  read_is make (Ok a) is = tt
  read_is make (Err cause) is = is

  unless_is : (fault : Option Cause) (result : Result (List Edit) Cause) → IfSome fault P → ErrIs P result → ErrIs P (unless_fault fault result)
  unless_is None result each is = is
  unless_is (Some cause) result each is = each

  element_edits_are : (reading : Reading) (at : Position) (earlier : List Step) (elem : Elem) (children : Position → Result (List Edit) Cause) →
      ((within : Position) → ErrIs P (children within)) → ErrIs P (element_edits reading at earlier elem children)
  element_edits_are reading at earlier elem children each = by (named reading at.parent elem)
    where
      by : (found : Option Named) → ErrIs P (unless_fault (unknown_or reading at earlier elem found) (node_edits reading at found children))
      by None = unknown_is reading.tables at.above elem.name
      by (Some it) = unless_is (unknown_or reading at earlier elem (Some it)) (node_edits reading at (Some it) children) (unknown_or_is reading at earlier elem (Some it))
          (read_is (made_of reading at it) (children (inside reading at it)) (each (inside reading at it)))

  mutual
    part_is : (reading : Reading) (at : Position) (earlier : List Step) (part : Part) → ErrIs P (part_edits reading at earlier part)
    part_is reading at earlier (Chars text) = tt
    part_is reading at earlier (Child' _ child) = child_is reading at earlier child

    child_is : (reading : Reading) (at : Position) (earlier : List Step) {n : _} (child : Row_of-Elem n) → ErrIs P (child_edits reading at earlier child)
    child_is reading at earlier end_of-Elem = tt
    child_is reading at earlier (more_of-Elem name bounds attrs shape parts none) =
        element_edits_are reading at earlier (record { name = name; bounds = bounds; attrs = attrs; parts = items-the_row-Part _ parts })
        (λ within. parts_edits reading within [] parts) (λ within. parts_are reading within [] parts)

    parts_are : (reading : Reading) (at : Position) (earlier : List Step) {n : _} (parts : Row_of-Part n) → ErrIs P (parts_edits reading at earlier parts)
    parts_are reading at earlier end_of-Part = tt
    parts_are reading at earlier (more_of-Part part more) =
        more_is (part_edits reading at earlier part) (parts_edits reading at (with_step reading at earlier part) more)
        (part_is reading at earlier part) (parts_are reading at (with_step reading at earlier part) more)

  list_is : (reading : Reading) (at : Position) (earlier : List Step) (parts : List Part) → ErrIs P (list_edits reading at earlier parts)
  list_is reading at earlier [] = tt
  list_is reading at earlier (part ∷ more) =
      more_is (part_edits reading at earlier part) (list_edits reading at (with_step reading at earlier part) more)
      (part_is reading at earlier part) (list_is reading at (with_step reading at earlier part) more)

  config_is : (reading : Reading) (under : Under) (config : Elem) → ErrIs P (config_edits reading under config)
  config_is reading under config = by (has_text config.parts)
    where
      by : (text : Bool) → ErrIs P (if text then Err (cause_in BadElement [] (config.name.name ∷ [])) else list_edits reading (record { above = []; parent = None; under = under }) [] config.parts)
      by true = bad_element [] config.name.name
      by false = list_is reading (record { above = []; parent = None; under = under }) [] config.parts

  pub edits_cause : (tables : Tables) (default_operation : Default3) (config : Elem) → ErrIs P (edits_of tables default_operation config)
  edits_cause tables default_operation config = config_is (reading_of tables) _ config

  pub rows_cause : (tables : Tables) (config : Elem) → ErrIs P (rows_of tables config)
  rows_cause tables config = read_is (rows_merged tables) (config_edits (reading_of tables) _ config) (config_is (reading_of tables) _ config)

-- the causes of edits
module _ (P : Cause → Type 0) (tables : Tables) (rights : Path → Right → Decision)
    (found : (path : Path) → P (cause_at Exists path []))
    (absent : (path : Path) → P (cause_at Absent path []))
    (denied : (path : Path) (right : Right) → P (cause_at DataDenied path (decision_names right (rights path right).by))) where
  where_so : (b : Bool) (cause : Cause) → P cause → IfSome (cause_where b cause) P
  where_so true cause is = is
  where_so false cause is = tt

  first_so : (first : Option Cause) (more : List (Option Cause)) → IfSome first P → IfSome (first_cause more) P → IfSome (first_cause (first ∷ more)) P
  first_so None more is rest = rest
  first_so (Some cause) more is rest = is

  missed_so : (rows : List Row) (path : Path) (action : Action) → IfSome (missed tables rows path action) P
  missed_so rows path Nothing = where_so _ (cause_at Absent path []) (absent path)
  missed_so rows path (Merge value) = where_so _ (cause_at Absent path []) (absent path)
  missed_so rows path (Create new) =
      let there = cause_where (exists rows path.steps) (cause_at Exists path []) in
      let above = cause_where (lacks_above tables rows path.steps) (cause_at Absent path []) in
      first_so there (above ∷ []) (where_so (exists rows path.steps) (cause_at Exists path []) (found path))
      (first_so above [] (where_so (lacks_above tables rows path.steps) (cause_at Absent path []) (absent path)) tt)
  missed_so rows path (Replace new) = where_so _ (cause_at Absent path []) (absent path)
  missed_so rows path Delete = where_so _ (cause_at Absent path []) (absent path)
  missed_so rows path Remove = tt

  denied_so : (change : Option Change) → IfSome (denied_cause rights change) P
  denied_so None = tt
  denied_so (Some change) = denied change.path change.right

  -- what is said of the cause for which the edit's anchor is missing
  abbrev pub IfUnanchored : Edit → Type 0
  IfUnanchored edit = P (cause_at MissingInstance edit.path (anchor_names tables edit.path))

  refusal_so : (rows : List Row) (edit : Edit) → IfUnanchored edit → IfSome (refusal tables rights rows edit) P
  refusal_so rows edit no_anchor =
      let lacks = cause_where (lacks_anchor rows edit) (cause_at MissingInstance edit.path (anchor_names tables edit.path)) in
      let denied = denied_cause rights (first_denied tables rights rows edit) in
      first_so (missed tables rows edit.path edit.action) (lacks ∷ denied ∷ []) (missed_so rows edit.path edit.action)
      (first_so lacks (denied ∷ []) (where_so (lacks_anchor rows edit) (cause_at MissingInstance edit.path (anchor_names tables edit.path)) no_anchor)
      (first_so denied [] (denied_so (first_denied tables rights rows edit)) tt))

  edited_so : (rows : List Row) (edit : Edit) → IfUnanchored edit → ErrIs P (edited tables rights rows edit)
  edited_so rows edit no_anchor = by (refusal tables rights rows edit) (refusal_so rows edit no_anchor)
    where
      by : (refused : Option Cause) → IfSome refused P → ErrIs P (unless_refused refused (left_by tables rows edit))
      by None is = tt
      by (Some cause) is = is

  none_so : All P []
  none_so k d within = absurd (omega (arith, within))

  with_so : (so_far : Applied) (result : Result (List Row) Cause) → All P so_far.causes → ErrIs P result → All P (with_result so_far result).causes
  with_so so_far (Ok rows) each is = each
  with_so so_far (Err cause) each is = all_append P so_far.causes (cause ∷ []) each (all_one P cause is)

  continued_so : (so_far : Applied) (edit : Edit) → IfUnanchored edit → All P so_far.causes → All P (continued tables rights so_far edit).causes
  continued_so so_far edit no_anchor each = with_so so_far (edited tables rights so_far.rows edit) each (edited_so so_far.rows edit no_anchor)

  stopped_so : (so_far : Applied) (edit : Edit) → IfUnanchored edit → All P so_far.causes → All P (stopped tables rights so_far edit).causes
  stopped_so so_far edit no_anchor each = by (is_empty so_far.causes)
    where
      by : (none : Bool) → All P (if none then continued tables rights so_far edit else so_far).causes
      by true = continued_so so_far edit no_anchor each
      by false = each

  fold_so : (step : Applied → Edit → Applied) →
      ((so_far : Applied) (edit : Edit) → IfUnanchored edit → All P so_far.causes → All P (step so_far edit).causes) →
      (so_far : Applied) (edits : List Edit) → All IfUnanchored edits → All P so_far.causes → All P (fold step so_far edits).causes
  fold_so step each so_far [] no_anchor is = is
  fold_so step each so_far (edit ∷ edits) no_anchor is =
      fold_so step each (step so_far edit) edits (λ k d within. no_anchor (suc k) d (omega (arith, within)))
      (each so_far edit (no_anchor 0 edit (omega arith)) is)

  pub applied_causes : (on_error : ErrorOption) (rows : List Row) (edits : List Edit) → All IfUnanchored edits →
      All P (applied tables rights on_error rows edits).causes
  applied_causes Stop rows edits no_anchor = fold_so (stopped tables rights) stopped_so (record { rows = rows; causes = [] }) edits no_anchor none_so
  applied_causes Continue rows edits no_anchor =
      fold_so (continued tables rights) continued_so (record { rows = rows; causes = [] }) edits no_anchor none_so
  applied_causes Rollback rows edits no_anchor = by (is_empty made.causes)
    where
      made : Applied
      made = fold (stopped tables rights) (record { rows = rows; causes = [] }) edits

      by : (none : Bool) → All P (if none then made else record made { rows = rows }).causes
      by true = fold_so (stopped tables rights) stopped_so (record { rows = rows; causes = [] }) edits no_anchor none_so
      by false = fold_so (stopped tables rights) stopped_so (record { rows = rows; causes = [] }) edits no_anchor none_so
