-- The text of a path: an instance identifier whose prefixes are module names (RFC 7950 9.13),
-- every step and every key with its prefix.
use Rattle.std.specs.Prelude.{◌⊎◌, ℕ, List, [], ◌∷◌, ◌++◌, ◌==◌, slice_get, if◌then◌else◌, IsFalse}
use Rattle.std.specs.List.{flat_map, list_any, zip, All}
use Rattle.std.specs.Option.{option_map_or}
use Rattle.nc_names.specs.declared.path.Step.{Step}
use Rattle.nc_names.specs.declared.path.Path.{Path}
use Rattle.nc_names.specs.Signs.{quote, apostrophe, dot, slash, colon, equals, opening_bracket, closing_bracket}
use Rattle.nc_schema.specs.declared.node.Kind.{Kind}
use Rattle.nc_schema.specs.declared.node.Kind.TheVariants.{Container, Leaf, LeafList, List as ListKind}
use Rattle.nc_schema.specs.Tables.{Tables}

-- the name of a module, or the empty text where the schema has no module of that number
abbrev pub module_name : Tables → ℕ → List ℕ
module_name tables number = option_map_or (λ found. found.name) (slice_get tables.modules number) []

-- `module:name`
abbrev pub prefixed_name : Tables → ℕ → List ℕ
prefixed_name tables number =
    option_map_or (λ node. module_name tables node.module ++ colon ∷ node.name.name) (slice_get tables.nodes number) []

-- the mark round a value: an apostrophe, unless the value holds one
abbrev pub mark_round : List ℕ → ℕ
mark_round value = if list_any (λ sign. sign == apostrophe) value then quote else apostrophe

-- the value between two of its marks
abbrev pub quoted : List ℕ → List ℕ
quoted value = mark_round value ∷ value ++ mark_round value ∷ []

-- `[module:key=`
abbrev pub key_name : Tables → ℕ → List ℕ
key_name tables key = opening_bracket ∷ prefixed_name tables key ++ equals ∷ []

-- `[module:key='value']`
abbrev pub key_predicate : Tables → ℕ → List ℕ → List ℕ
key_predicate tables key value = key_name tables key ++ quoted value ++ closing_bracket ∷ []

-- that of each key of a list entry, in the order of the `key` statement
abbrev pub key_predicates : Tables → List ℕ → List (List ℕ) → List ℕ
key_predicates tables keys values = flat_map (λ pair. key_predicate tables pair.0 pair.1) (zip keys values)

-- `[.='value']`
abbrev pub value_predicate : List ℕ → List ℕ
value_predicate value = opening_bracket ∷ dot ∷ equals ∷ quoted value ++ closing_bracket ∷ []

-- the predicates of a step to a node of that kind
abbrev pub predicates : Tables → Kind → List ℕ → List (List ℕ) → List ℕ
predicates tables (Container presence) keys values = []
predicates tables Leaf keys values = []
predicates tables LeafList keys values = flat_map value_predicate values
predicates tables ListKind keys values = key_predicates tables keys values

-- those of a step
abbrev pub step_predicates : Tables → Step → List ℕ
step_predicates tables step =
    option_map_or (λ node. predicates tables node.kind node.keys step.keys) (slice_get tables.nodes step.node) []

-- `/module:name` and the predicates
abbrev pub step_text : Tables → Step → List ℕ
step_text tables step = slash ∷ prefixed_name tables step.node ++ step_predicates tables step

-- the text of a path. The value of a key or of a leaf-list entry that holds both kinds of quotation
-- mark has no canonical text, so no configuration has a path with one; its text here is no instance
-- identifier
abbrev pub path_text_of : Tables → Path → List ℕ
path_text_of tables path = flat_map (step_text tables) path.steps

-- a value can stand between quotation marks: it lacks one of the two kinds
abbrev pub CanBeQuoted : List ℕ → Type 0
CanBeQuoted value =
    IsFalse (list_any (λ sign. sign == apostrophe) value) ⊎ IsFalse (list_any (λ sign. sign == quote) value)

-- so can each key of the path
abbrev pub HasQuotableKeys : Path → Type 0
HasQuotableKeys path = All (λ step. All CanBeQuoted step.keys) path.steps
