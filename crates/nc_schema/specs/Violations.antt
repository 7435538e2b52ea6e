-- What makes a configuration invalid (RFC 7950 8.1): first the constraints on which nodes stand, place
-- by place, and then the references, in document order.
use Rattle.std.specs.Prelude.{◌≡◌, ◌==◌, ◌&&◌, ◌++◌, ℕ, Bool, false, not, if◌then◌else◌, ltb, length}
use Rattle.std.specs.Prelude.{List, [], ◌∷◌, map, take, Option, Some, None, slice_get, option_and_then}
use Rattle.std.specs.List.{enumerate_from, filter, flat_map, list_all, list_any}
use Rattle.std.specs.Option.{option_map_or}
use Rattle.nc_names.specs.Same.{is_same_text}
use Rattle.nc_names.specs.declared.cause.CauseKind.{CauseKind}
use Rattle.nc_names.specs.declared.cause.CauseKind.TheVariants.{Mandatory, MandatoryChoice, TooFew, TooMany, NotUnique}
use Rattle.nc_names.specs.declared.cause.CauseKind.TheVariants.{DeadLeafref, DeadInstance}
use Rattle.nc_names.specs.declared.path.Row.{Row}
use Rattle.nc_names.specs.declared.path.Step.{Step}
use Rattle.nc_schema.specs.InUse.{stands_in, values_below}
use Rattle.nc_schema.specs.Kinds.{has_entries, is_leaf}
use Rattle.nc_schema.specs.PathTexts.{path_text_of}
use Rattle.nc_schema.specs.Places.{Place, is_chosen, is_made, parts_of, place_at, places_from, places_of, top_place}
use Rattle.nc_schema.specs.Standing.{above_of, node_of}
use Rattle.nc_schema.specs.Tables.{Tables}
use Rattle.nc_schema.specs.declared.node.Case.{Case}
use Rattle.nc_schema.specs.declared.node.Choice.{Choice}
use Rattle.nc_schema.specs.declared.node.Node.{Node}
use Rattle.nc_schema.specs.declared.value_type.ValueType.{ValueType}
use Rattle.nc_schema.specs.declared.value_type.ValueType.TheVariants.{Leafref, Instance}
use Rattle.nc_schema.specs.declared.violation.Violation.{Violation}

-- the one violation of that kind there, where the constraint is broken
abbrev pub violated : Bool → CauseKind → List Step → List Violation
violated broken kind steps = if broken then record { kind = kind; path = record { steps = steps } } ∷ [] else []

-- Constraints on which nodes stand.

-- nodes of those cases have to stand in a place: a node of each case exists there (RFC 7950 7.6.5,
-- 7.7.5, 7.9.4)
abbrev pub is_required : Tables → Place → List Case → Bool
is_required tables place cases = place.required && list_all (is_chosen tables place) cases

-- the text is one of these
abbrev pub has_text : List ℕ → List (List ℕ) → Bool
has_text text texts = list_any (is_same_text text) texts

-- two entries of a list agree: each of the leafs has a value in use in both, and it is the same
-- (RFC 7950 7.8.3)
abbrev pub agree_in : Tables → List ℕ → Place → Place → Bool
agree_in tables leafs entry other =
    let shares : ℕ → List ℕ → Bool = λ leaf value. has_text value (values_below tables other leaf) in
    list_all (λ leaf. list_any (shares leaf) (values_below tables entry leaf)) leafs

-- the entries that agree with one before them
abbrev pub repeated : (Place → Place → Bool) → List Place → List Place → List Place
repeated agree before [] = []
repeated agree before (entry ∷ later) =
    (if list_any (agree entry) before then entry ∷ [] else []) ++ repeated agree (before ++ entry ∷ []) later

-- those of one `unique` statement
abbrev pub unique_violations : Tables → List Place → List ℕ → List Violation
unique_violations tables entries leafs =
    map (λ entry. record { kind = NotUnique; path = record { steps = entry.steps } })
    (repeated (agree_in tables leafs) [] entries)

-- `mandatory` at a leaf (RFC 7950 7.6.5); `min-elements`, `max-elements` and `unique` at a list or a
-- leaf-list (RFC 7950 7.7.5, 7.7.6, 7.8.3)
abbrev pub node_violations : Tables → Place → ℕ → Node → List Violation
node_violations tables place number node =
    let count = length (parts_of place number) in
    let child = place.steps ++ record { node = number; keys = [] } ∷ [] in
    let required = is_required tables place node.cases in
    violated (is_leaf node.kind && node.mandatory && count == 0 && required) Mandatory child
    ++ violated (has_entries node.kind && ltb count node.least && required) TooFew child
    ++ violated (has_entries node.kind && option_map_or (λ most. ltb most count) node.most false) TooMany child
    ++ flat_map (unique_violations tables (places_of tables place number node)) node.uniques

-- a mandatory choice of which no node exists in its place, which is the path (RFC 7950 7.9.4)
abbrev pub choice_violations : Tables → Place → ℕ → List Violation
choice_violations tables place number =
    let is_open = not (is_made tables place number) in
    let lacks : Choice → Bool = λ choice. choice.mandatory && is_open && is_required tables place choice.within in
    violated (option_map_or lacks (slice_get tables.choices number) false) MandatoryChoice place.steps

-- a data node of the choice is among the first so many
abbrev pub is_choice_before : Tables → ℕ → ℕ → Bool
is_choice_before tables number choice =
    list_any (λ node. list_any (λ one. one.choice == choice) node.cases) (take number tables.nodes)

-- those of a data node of a place. A choice stands where the first of its data nodes does
abbrev pub child_violations : Tables → Place → ℕ → Node → List Violation
child_violations tables place number node =
    let begun = filter (λ one. not (is_choice_before tables number one.choice)) node.cases in
    flat_map (λ one. choice_violations tables place one.choice) begun
    ++ node_violations tables place number node

-- those of a choice without data nodes
abbrev pub bare_violations : Tables → Place → ℕ → List Violation
bare_violations tables place number =
    if is_choice_before tables (length tables.nodes) number then [] else choice_violations tables place number

-- those of a place, in the order of the schema; choices without data nodes come last
abbrev pub violations_at : Tables → Place → List Violation
violations_at tables place =
    flat_map (λ one. if stands_in one.1.parent place then child_violations tables place one.0 one.1 else [])
    (enumerate_from 0 tables.nodes)
    ++ flat_map (λ one. if stands_in one.1.parent place then bare_violations tables place one.0 else [])
    (enumerate_from 0 tables.choices)

-- place by place
abbrev pub structural_violations : Tables → List Row → List Violation
structural_violations tables rows = flat_map (violations_at tables) (places_from tables (top_place rows))

-- References.

-- the steps down to that data node
abbrev pub down_to : ℕ → List Step → List Step
down_to number [] = []
down_to number (step ∷ rest) = step ∷ (if step.node == number then [] else down_to number rest)

-- the steps to the place at which the path of a leafref turns down: the ancestor that is an instance of
-- that data node, or the top
abbrev pub turning_steps : Option ℕ → List Step → List Step
turning_steps None steps = []
turning_steps (Some number) steps = down_to number steps

-- the values in use that a leafref may have
abbrev pub values_referred : Tables → List Row → List Step → ℕ → List (List ℕ)
values_referred tables rows turning target =
    option_map_or (λ place. values_below tables place target) (place_at tables (top_place rows) turning) []

-- the node that a path text names exists: a row stands at it or below it (RFC 7950 9.13)
abbrev pub is_named_node : Tables → List Row → List ℕ → Bool
is_named_node tables rows text =
    let is_named : List Step → Bool = λ steps. is_same_text (path_text_of tables (record { steps = steps })) text in
    list_any (λ row. list_any is_named (row.path.steps ∷ above_of row.path.steps)) rows

-- a leafref whose value is in use at no instance of its target, and an instance-identifier whose node
-- does not exist, where `require-instance` is true (RFC 7950 9.9.3, 9.13.2). A value of a union is no
-- reference
abbrev pub reference_violation : Tables → List Row → List Step → List ℕ → ValueType → List Violation
reference_violation tables rows steps text (Leafref target above required) =
    let values = values_referred tables rows (turning_steps above steps) target in
    violated (required && not (has_text text values)) DeadLeafref steps
reference_violation tables rows steps text (Instance required) =
    violated (required && not (is_named_node tables rows text)) DeadInstance steps
reference_violation tables rows steps text other = []

-- the type of the node to which the steps lead
abbrev pub type_there : Tables → List Step → Option ValueType
type_there tables steps = option_and_then (λ node. slice_get tables.types node.kind_of_value) (node_of tables steps)

-- that of a leaf or a leaf-list entry
abbrev pub row_violation : Tables → List Row → Row → List Violation
row_violation tables rows row = option_map_or
    (λ text. option_map_or (reference_violation tables rows row.path.steps text) (type_there tables row.path.steps) [])
    row.value []

-- those of all leafs and leaf-list entries, in document order
abbrev pub reference_violations : Tables → List Row → List Violation
reference_violations tables rows = flat_map (row_violation tables rows) rows

-- all violations, structural ones first
abbrev pub violations : Tables → List Row → List Violation
violations tables rows = structural_violations tables rows ++ reference_violations tables rows

-- a configuration that breaks no constraint (RFC 7950 8.1)
abbrev pub IsValid : Tables → List Row → Type 0
IsValid tables rows = violations tables rows ≡ []
