-- The names of modules that stand as prefixes in canonical texts, and their namespaces (RFC 7950 9.10, 9.13).
use Rattle.std.specs.Prelude.{◌==◌, ◌||◌, ℕ, zero, suc, Bool, true, false, not, if◌then◌else◌, List, [], ◌∷◌, ◌++◌, length, fold, Option, Some, None, slice_get}
use Rattle.std.specs.List.{before_first, find, list_any, slice_split, zip}
use Rattle.std.specs.Option.{option_map_or}
use Rattle.nc_names.specs.declared.name.Bound.{Bound}
use Rattle.nc_names.specs.declared.name.Module.{Module}
use Rattle.nc_names.specs.declared.path.Path.{Path}
use Rattle.nc_names.specs.declared.path.Step.{Step}
use Rattle.nc_names.specs.Same.{is_same_text}
use Rattle.nc_names.specs.Signs.{colon, is_in_identifier}
use Rattle.nc_schema.specs.PathTexts.{module_name}
use Rattle.nc_schema.specs.Tables.{Tables}
use Rattle.nc_schema.specs.Values.{type_of}
use Rattle.nc_schema.specs.declared.node.Kind.{Kind}
use Rattle.nc_schema.specs.declared.node.Kind.TheVariants.{Container, Leaf, LeafList, List as ListKind}
use Rattle.nc_schema.specs.declared.value_type.ValueType.{ValueType}
use Rattle.nc_schema.specs.declared.value_type.ValueType.TheVariants.{Union, Identity, Leafref, Instance, NodeInstance}

-- the sign between a prefix and a name
abbrev pub is_colon : ℕ → Bool
is_colon sign = sign == colon

-- a sign that stands between names: none of an identifier (RFC 7950 6.2), and no colon
abbrev pub is_apart : ℕ → Bool
is_apart sign = not (is_in_identifier sign || is_colon sign)

-- the name is bound as a prefix
abbrev pub is_bound : List Bound → List ℕ → Bool
is_bound bounds name = list_any (λ bound. is_same_text bound.prefix name) bounds

-- bindings with that of a module's name, unless it is there or no module has the name
abbrev pub with_module : List Bound → Option Module → List Bound
with_module bounds None = bounds
with_module bounds (Some found) = bounds ++ record { prefix = found.name; space = found.space } ∷ []

-- with that of the module of that name
abbrev pub with_name : Tables → List Bound → List ℕ → List Bound
with_name tables bounds name =
    if is_bound bounds name then bounds
    else with_module bounds (find (λ found. is_same_text found.name name) tables.modules)

-- with that of the name that a piece of a text has before its first colon
abbrev pub with_piece : Tables → List Bound → List ℕ → List Bound
with_piece tables bounds piece =
    if list_any is_colon piece then with_name tables bounds (before_first is_colon piece) else bounds

-- with those of all pieces of a text, which stand between other signs
abbrev pub with_names : Tables → List Bound → List ℕ → List Bound
with_names tables bounds text = fold (with_piece tables) bounds (slice_split is_apart text)

-- a value of the type may have a module's name as a prefix: one of an identity or of a path, also as a member of a
-- union or as the target of a leafref. `holds` is this of the types by which it is given
abbrev pub may_hold_names : Tables → (holds : ℕ → Bool) → ValueType → Bool
may_hold_names tables holds (Union members) = list_any holds members
may_hold_names tables holds (Leafref target above required) = option_map_or holds (type_of tables target) false
may_hold_names tables holds (Identity among) = true
may_hold_names tables holds (Instance required) = true
may_hold_names tables holds NodeInstance = true
may_hold_names tables holds type = false

-- the same by the type's number, looking through at most so many types
abbrev pub holds_names : Tables → (most : ℕ) → ℕ → Bool
holds_names tables zero number = false
holds_names tables (suc most) number =
    option_map_or (may_hold_names tables (holds_names tables most)) (slice_get tables.types number) false

-- a value of that data node may have a module's name as a prefix, by its type
abbrev pub value_holds_names : Tables → ℕ → Bool
value_holds_names tables number = option_map_or (holds_names tables (length tables.types)) (type_of tables number) false

-- bindings with those of the module names in a value of that data node
abbrev pub with_value : Tables → List Bound → ℕ → List ℕ → List Bound
with_value tables bounds number text =
    if value_holds_names tables number then with_names tables bounds text else bounds

-- the bindings of the module names in a value of that data node
abbrev pub value_bounds : Tables → ℕ → List ℕ → List Bound
value_bounds tables number text = with_value tables [] number text

-- with that of the module of a data node, which is its prefix in a path text
abbrev pub with_node : Tables → List Bound → ℕ → List Bound
with_node tables bounds number =
    option_map_or (λ node. with_name tables bounds (module_name tables node.module))
    (slice_get tables.nodes number) bounds

-- with those of a key and its value
abbrev pub with_key : Tables → List Bound → ℕ × List ℕ → List Bound
with_key tables bounds key = with_value tables (with_node tables bounds key.0) key.0 key.1

-- with those of the predicates of a step to that data node
abbrev pub with_predicates : Tables → List Bound → (number : ℕ) → Kind → (keys : List ℕ) → List (List ℕ) → List Bound
with_predicates tables bounds number (Container presence) keys values = bounds
with_predicates tables bounds number Leaf keys values = bounds
with_predicates tables bounds number LeafList keys values =
    fold (λ before value. with_value tables before number value) bounds values
with_predicates tables bounds number ListKind keys values = fold (with_key tables) bounds (zip keys values)

-- with those of a step
abbrev pub with_step_names : Tables → List Bound → Step → List Bound
with_step_names tables bounds step =
    option_map_or (λ node. with_predicates tables
    (with_node tables bounds step.node) step.node node.kind node.keys step.keys)
    (slice_get tables.nodes step.node) bounds

-- the bindings of the module names that the text of a path has as prefixes, each once, in the order of first use: those
-- of its steps and keys, and of the values in it whose types have names. A plain string that holds a colon declares
-- nothing
abbrev pub path_bounds : Tables → Path → List Bound
path_bounds tables path = fold (with_step_names tables) [] path.steps
