-- One edit of a configuration: what it leaves, or why it is refused (RFC 6241 7.2; RFC 7950 7.5.8,
-- 7.6.6, 7.7.9 and 7.8.6; RFC 8341 3.4.5).
use Rattle.std.specs.Prelude.{◌&&◌, ℕ, Bool, true, false, not, if◌then◌else◌, List, [], ◌∷◌, ◌++◌, map, Option, Some, None, Result, Ok, Err}
use Rattle.std.specs.List.{filter, filter_map, list_any, reduce}
use Rattle.std.specs.Option.{option_map_or}
use Rattle.nc_names.specs.declared.cause.CauseKind.{CauseKind}
use Rattle.nc_names.specs.declared.cause.CauseKind.TheVariants.{Exists, Absent, MissingInstance, DataDenied}
use Rattle.nc_names.specs.declared.path.Path.{Path}
use Rattle.nc_names.specs.declared.path.Place.{Place}
use Rattle.nc_names.specs.declared.path.Place.TheVariants.{Kept, Before, After}
use Rattle.nc_names.specs.declared.path.Right.{Right}
use Rattle.nc_names.specs.declared.path.Right.TheVariants.{Read, Create as MayCreate, Update as MayUpdate, Delete as MayDelete, Exec}
use Rattle.nc_names.specs.declared.path.Row.{Row}
use Rattle.nc_schema.specs.declared.node.Node.{Node}
use Rattle.nc_schema.specs.Tables.{Tables}
use Rattle.nc_protocol.specs.declared.access.By.{By}
use Rattle.nc_protocol.specs.declared.access.By.TheVariants.{Rule, DenyAll, DenyWrite, OperationDefault}
use Rattle.nc_protocol.specs.declared.access.Decision.{Decision}
use Rattle.nc_protocol.specs.declared.edit.Action.{Action}
use Rattle.nc_protocol.specs.declared.edit.Action.TheVariants.{Nothing, Merge, Create, Replace, Delete, Remove}
use Rattle.nc_protocol.specs.declared.edit.Edit.{Edit}
use Rattle.nc_protocol.specs.declared.request.Cause.{Cause}
use Rattle.nc_schema.specs.Standing.{node_of, block_at, exists, lacks_above, has_entry, steps_before, excludes}
use Rattle.nc_protocol.specs.Changes.{is_missing, is_updated}
use Rattle.nc_protocol.specs.Words.{key_word, value_word, rule_word, default_word, read_word, write_word, exec_word, operation_word, deny_all_word, deny_write_word}
use Rattle.nc_schema.specs.Blocks.{at_node, entries_beside, rows_of_node, with_block}
use Rattle.nc_schema.specs.Kinds.{has_value, is_plain_container}

-- the rows at and below the node once the edit is made
abbrev pub new_block : Tables → List Row → Path → Action → List Row
new_block tables rows path Nothing = block_at rows path.steps
new_block tables rows path (Merge value) =
    if exists rows path.steps && not (at_node tables path has_value) then block_at rows path.steps
    else rows_of_node tables path value
new_block tables rows path (Create new) = new
new_block tables rows path (Replace new) = new
new_block tables rows path Delete = []
new_block tables rows path Remove = []

-- an edit that does nothing, or that takes away, puts nothing in a place
abbrev pub place_by : Action → Place → Place
place_by Nothing place = Kept
place_by Delete place = Kept
place_by Remove place = Kept
place_by action place = place

-- the configuration that an edit leaves
abbrev pub left_by : Tables → List Row → Edit → List Row
left_by tables rows edit =
    with_block tables rows edit.path (place_by edit.action edit.place) (new_block tables rows edit.path edit.action)

-- what an edit changes at one path (RFC 8341 3.2.2, 3.4.5)
pub record Change : Type 0 where
  pub path : Path
  pub right : Right

-- what becomes of a row that stands afterwards: it is new, or its value or its place has changed
abbrev pub change_at : Tables → List Row → List Row → Row → Option Change
change_at tables old new row =
    if is_missing old row then Some (record { path = row.path; right = MayCreate })
    else (if is_updated tables old new row then Some (record { path = row.path; right = MayUpdate }) else None)

-- rows of other cases of their choices take a row's place (RFC 7950 7.9)
abbrev pub gives_way : Tables → List Row → Row → Bool
gives_way tables rows row = list_any (λ other. excludes tables other.path.steps row.path.steps) rows

-- what an edit changes at and below its node: what it deletes, and then what it creates and updates. What gives way
-- to another case is not deleted by the user
abbrev pub changes_by : Tables → List Row → Edit → List Change
changes_by tables rows edit =
    let block = new_block tables rows edit.path edit.action in
    map (λ row. record { path = row.path; right = MayDelete })
    (filter (λ row. is_missing block row && not (gives_way tables block row)) (block_at rows edit.path.steps))
    ++ filter_map (change_at tables rows (left_by tables rows edit)) block

-- the earlier of two changes in document order. Entries that the user orders come as they stand before the edit, and
-- new ones after them
abbrev pub earlier : Tables → List Row → Change → Change → Change
earlier tables rows change other =
    if steps_before tables rows Kept [] other.path.steps change.path.steps then other else change

-- the first change in document order that is denied
abbrev pub first_denied : Tables → (Path → Right → Decision) → List Row → Edit → Option Change
first_denied tables rights rows edit =
    reduce (earlier tables rows)
    (filter (λ change. not (rights change.path change.right).permit) (changes_by tables rows edit))

-- the default that denied (RFC 8341 3.4.5, steps 9 to 12)
abbrev pub default_name : Right → List ℕ
default_name Read = read_word
default_name Exec = exec_word
default_name right = write_word

-- what decided, as a cause names it
abbrev pub decision_names : Right → By → List (List ℕ)
decision_names right (Rule list rule) = rule_word ∷ list ∷ rule ∷ []
decision_names right DenyAll = default_word ∷ deny_all_word ∷ []
decision_names right DenyWrite = default_word ∷ deny_write_word ∷ []
decision_names right OperationDefault = default_word ∷ operation_word ∷ []
decision_names right by = default_word ∷ default_name right ∷ []

-- a cause about the node at a path
abbrev pub cause_at : CauseKind → Path → List (List ℕ) → Cause
cause_at kind path names = record { kind = kind; path = Some path; names = names }

-- access to the data was denied for the change (RFC 8341 3.4.5)
abbrev pub denied_cause : (Path → Right → Decision) → Option Change → Option Cause
denied_cause rights None = None
denied_cause rights (Some change) =
    Some (cause_at DataDenied change.path (decision_names change.right (rights change.path change.right).by))

-- the anchor of a place
abbrev pub anchor_of : Place → Option (List (List ℕ))
anchor_of (Before anchor) = Some anchor
anchor_of (After anchor) = Some anchor
anchor_of place = None

-- the attribute that names an anchor
abbrev pub anchor_word : Node → List ℕ
anchor_word node = if has_value node.kind then value_word else key_word

-- the place has an anchor that is no entry beside the node (RFC 7950 7.7.9, 7.8.6)
abbrev pub lacks_anchor : List Row → Edit → Bool
lacks_anchor rows edit =
    option_map_or (λ anchor. not (has_entry anchor (entries_beside rows edit.path.steps)))
    (anchor_of (place_by edit.action edit.place)) false

-- the attribute that names the anchor, and the element that has the attribute (RFC 6241 appendix A)
abbrev pub anchor_names : Tables → Path → List (List ℕ)
anchor_names tables path =
    option_map_or (λ node. anchor_word node ∷ node.name.name ∷ []) (node_of tables path.steps) []

-- the first of several causes
abbrev pub first_cause : List (Option Cause) → Option Cause
first_cause [] = None
first_cause (None ∷ more) = first_cause more
first_cause (Some cause ∷ more) = Some cause

-- the cause, where it applies
abbrev pub cause_where : Bool → Cause → Option Cause
cause_where true cause = Some cause
cause_where false cause = None

-- the node is there; a container without presence is where its parent is
abbrev pub is_there : Tables → List Row → Path → Bool
is_there tables rows path =
    if at_node tables path is_plain_container then not (lacks_above tables rows path.steps)
    else exists rows path.steps

-- the node is there though it is created, or is not though it has to be (RFC 6241 7.2)
abbrev pub missed : Tables → List Row → Path → Action → Option Cause
missed tables rows path Nothing = cause_where (not (is_there tables rows path)) (cause_at Absent path [])
missed tables rows path (Merge value) = cause_where (lacks_above tables rows path.steps) (cause_at Absent path [])
missed tables rows path (Create new) =
    first_cause (cause_where (exists rows path.steps) (cause_at Exists path [])
    ∷ cause_where (lacks_above tables rows path.steps) (cause_at Absent path []) ∷ [])
missed tables rows path (Replace new) = cause_where (lacks_above tables rows path.steps) (cause_at Absent path [])
missed tables rows path Delete = cause_where (not (exists rows path.steps)) (cause_at Absent path [])
missed tables rows path Remove = None

-- why an edit is refused
abbrev pub refusal : Tables → (Path → Right → Decision) → List Row → Edit → Option Cause
refusal tables rights rows edit =
    first_cause (missed tables rows edit.path edit.action
    ∷ cause_where (lacks_anchor rows edit) (cause_at MissingInstance edit.path (anchor_names tables edit.path))
    ∷ denied_cause rights (first_denied tables rights rows edit) ∷ [])

-- the rows, unless there is a cause
abbrev pub unless_refused : Option Cause → List Row → Result (List Row) Cause
unless_refused None rows = Ok rows
unless_refused (Some cause) rows = Err cause

-- what one edit leaves, or its cause
abbrev pub edited : Tables → (Path → Right → Decision) → List Row → Edit → Result (List Row) Cause
edited tables rights rows edit = unless_refused (refusal tables rights rows edit) (left_by tables rows edit)
