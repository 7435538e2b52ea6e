-- What an instance identifier names in a schema (RFC 7950 9.13), and its kin: a node-instance
-- identifier (RFC 8341 3.5.2), the keys of an anchor (RFC 7950 7.8.6) and the path of a leafref
-- (RFC 7950 9.9.2). Keys are as they are written.
use Rattle.std.specs.Prelude.{◌==◌, ◌&&◌, ◌+◌, ◌<◌, ◌≤◌, ℕ, Bool, false, not, if◌then◌else◌, List, [], ◌∷◌, ◌++◌, map, length, take, count_by, find, Option, Some, None, is_some, IsTrue, IsFalse, slice_get, option_map, option_and_then}
use Rattle.std.specs.List.{slice_split}
use Rattle.std.specs.Option.{option_map_or}
use Rattle.nc_names.specs.declared.name.Bound.{Bound}
use Rattle.nc_names.specs.declared.name.Module.{Module}
use Rattle.nc_names.specs.declared.name.QName.{QName}
use Rattle.nc_names.specs.declared.path.Path.{Path}
use Rattle.nc_names.specs.declared.path.Step.{Step}
use Rattle.nc_names.specs.Same.{is_same_name, is_same_text}
use Rattle.nc_names.specs.Bindings.{space_of}
use Rattle.nc_names.specs.Signs.{dot, slash}
use Rattle.nc_names.specs.Identifiers.{is_identifier}
use Rattle.nc_schema.specs.Bindings.{module_of}
use Rattle.nc_schema.specs.Children.{child_number}
use Rattle.nc_schema.specs.Kinds.{has_value, is_list}
use Rattle.nc_schema.specs.PathWords.{◌>>=◌, written_name, written_steps, only_predicates}
use Rattle.nc_schema.specs.Tables.{Tables}
use Rattle.nc_schema.specs.declared.node.Kind.{Kind}
use Rattle.nc_schema.specs.declared.node.Kind.TheVariants.{LeafList, List as ListKind}
use Rattle.nc_schema.specs.declared.pattern.LeafrefEnd.{LeafrefEnd}
use Rattle.nc_schema.specs.declared.pattern.Pattern.{Pattern}
use Rattle.nc_schema.specs.declared.pattern.PatternStep.{PatternStep}
use Rattle.nc_schema.specs.declared.written.WrittenName.{WrittenName}
use Rattle.nc_schema.specs.declared.written.WrittenPredicate.{WrittenPredicate}
use Rattle.nc_schema.specs.declared.written.WrittenStep.{WrittenStep}

-- the module for whose namespace the prefix of a name stands
abbrev pub module_named : Tables → List Bound → WrittenName → Option Module
module_named tables bounds written = space_of written.prefix bounds >>= module_of tables

-- the qualified name for which a written one stands
abbrev pub qualified : Tables → List Bound → WrittenName → Option QName
qualified tables bounds written =
    option_map (λ found. record { space = found.space; name = written.name }) (module_named tables bounds written)

-- the data nodes whose values name an entry of a node of that number and kind: the keys of a list in
-- their order (RFC 7950 7.8.2); a leaf-list itself (RFC 7950 7.7)
abbrev pub keys_of_kind : Kind → ℕ → List ℕ → List ℕ
keys_of_kind LeafList number keys = number ∷ []
keys_of_kind ListKind number keys = keys
keys_of_kind kind number keys = []

-- those of the data node of a number
abbrev pub key_nodes : Tables → ℕ → List ℕ
key_nodes tables number =
    option_map_or (λ node. keys_of_kind node.kind number node.keys) (slice_get tables.nodes number) []

-- the data node of a number has that name
abbrev pub has_name : Tables → ℕ → QName → Bool
has_name tables number name =
    option_map_or (λ node. is_same_name node.name name) (slice_get tables.nodes number) false

-- a predicate of an entry of the node is that of the key: it has the key's name; `.` is the value of a
-- leaf-list entry
abbrev pub is_of_key : Tables → List Bound → ℕ → ℕ → Option WrittenName → Bool
is_of_key tables bounds number key None = key == number
is_of_key tables bounds number key (Some written) =
    not (key == number) && option_map_or (has_name tables key) (qualified tables bounds written) false

-- the value of a key, where a predicate gives it
abbrev pub key_given : Tables → List Bound → ℕ → List WrittenPredicate → ℕ → Option (List ℕ)
key_given tables bounds number written key =
    option_map (λ one. one.value) (find (λ one. is_of_key tables bounds number key one.key) written)

-- the values of the keys in their order
abbrev pub values_given : Tables → List Bound → ℕ → List WrittenPredicate → List (Option (List ℕ))
values_given tables bounds number written = map (key_given tables bounds number written) (key_nodes tables number)

-- the same, where each predicate gives a value of its own: there are as many predicates as keys with a
-- value
abbrev pub keys_given : Tables → List Bound → ℕ → List WrittenPredicate → Option (List (Option (List ℕ)))
keys_given tables bounds number written =
    let values = values_given tables bounds number written in
    if count_by is_some values == length written then Some values else None

-- a step to a child of the node above, or to a node at the top
unfoldable pub pattern_step : Tables → List Bound → Option ℕ → WrittenStep → Option PatternStep
pattern_step tables bounds above step = do
  name ← qualified tables bounds step.name
  number ← child_number tables above name
  keys ← keys_given tables bounds number step.predicates
  Some (record { node = number; keys = keys })

-- the pattern to which steps lead from there
abbrev pub pattern_steps : Tables → List Bound → Option ℕ → List WrittenStep → Option (List PatternStep)
pattern_steps tables bounds above [] = Some []
pattern_steps tables bounds above (step ∷ rest) = do
  first ← pattern_step tables bounds above step
  more ← pattern_steps tables bounds (Some first.node) rest
  Some (first ∷ more)

-- no key is left out
abbrev pub all_given : List (Option (List ℕ)) → Option (List (List ℕ))
all_given [] = Some []
all_given (None ∷ keys) = None
all_given (Some key ∷ keys) = option_map (λ more. key ∷ more) (all_given keys)

-- the step to an instance: each key has its value (RFC 7950 9.13)
abbrev pub instance_step : PatternStep → Option Step
instance_step step = option_map (λ keys. record { node = step.node; keys = keys }) (all_given step.keys)

-- the steps to an instance, where each key in each of them has its value
abbrev pub instance_steps : List PatternStep → Option (List Step)
instance_steps [] = Some []
instance_steps (step ∷ rest) = do
  first ← instance_step step
  more ← instance_steps rest
  Some (first ∷ more)

-- the path that an instance identifier names
unfoldable pub instance_path : Tables → List ℕ → List Bound → Option Path
instance_path tables text bounds = do
  written ← written_steps text
  pattern ← pattern_steps tables bounds None written
  steps ← instance_steps pattern
  Some (record { steps = steps })

-- the pattern that a node-instance identifier names; `/` is the root
unfoldable pub node_pattern : Tables → List ℕ → List Bound → Option Pattern
node_pattern tables text bounds =
    if is_same_text text (slash ∷ []) then Some (record { steps = [] })
    else option_map (λ steps. record { steps = steps }) (written_steps text >>= pattern_steps tables bounds None)

-- the data node of a number is a list
abbrev pub is_list_there : Tables → ℕ → Bool
is_list_there tables number = option_map_or (λ node. is_list node.kind) (slice_get tables.nodes number) false

-- the keys of an entry of a list, as the value of `key` of an insertion has them
unfoldable pub entry_keys : Tables → ℕ → List ℕ → List Bound → Option (List (List ℕ))
entry_keys tables number text bounds = do
  written ← only_predicates text
  keys ← keys_given tables bounds number written
  if is_list_there tables number then all_given keys else None

-- the name of a step of a leafref path: `prefix:name`, or `name` in the namespace of the leaf
-- (RFC 7950 6.4.1)
abbrev pub leafref_name : Tables → List ℕ → List Bound → List ℕ → Option QName
leafref_name tables space bounds part =
    if is_identifier part then Some (record { space = space; name = part })
    else (written_name part >>= (λ found. if length found.1 == 0 then qualified tables bounds found.0 else None))

-- the node to which names lead down
abbrev pub leads_down : Tables → List ℕ → List Bound → Option ℕ → List (List ℕ) → Option ℕ
leads_down tables space bounds above [] = above
leads_down tables space bounds above (part ∷ parts) = do
  name ← leafref_name tables space bounds part
  number ← child_number tables above name
  leads_down tables space bounds (Some number) parts

-- the end of a path that turns down at a node, or at the top: a leaf or leaf-list
abbrev pub leafref_below : Tables → List ℕ → List Bound → Option ℕ → List (List ℕ) → Option LeafrefEnd
leafref_below tables space bounds above parts = do
  target ← leads_down tables space bounds above parts
  node ← slice_get tables.nodes target
  if has_value node.kind then Some (record { target = target; above = above }) else None

-- the data node in which one stands; none at the top
abbrev pub parent_of : Tables → ℕ → Option ℕ
parent_of tables number = option_and_then (λ node. node.parent) (slice_get tables.nodes number)

-- each `..` leads from a node to the one above; above the top there is none
abbrev pub leafref_from : Tables → List ℕ → List Bound → Option ℕ → List (List ℕ) → Option LeafrefEnd
leafref_from tables space bounds above [] = None
leafref_from tables space bounds above (part ∷ parts) =
    if is_same_text part (dot ∷ dot ∷ [])
    then (above >>= (λ number. leafref_from tables space bounds (parent_of tables number) parts))
    else leafref_below tables space bounds above (part ∷ parts)

-- an absolute path begins with `/`, a relative one with `..`
abbrev pub leafref_parts : Tables → ℕ → List ℕ → List Bound → List (List ℕ) → Option LeafrefEnd
leafref_parts tables leaf space bounds [] = None
leafref_parts tables leaf space bounds ([] ∷ parts) = leafref_below tables space bounds None parts
leafref_parts tables leaf space bounds ((c ∷ cs) ∷ parts) =
    if is_same_text (c ∷ cs) (dot ∷ dot ∷ []) then leafref_from tables space bounds (parent_of tables leaf) parts
    else None

-- where the path of a leafref ends, from the leaf of that number
unfoldable pub leafref_end : Tables → ℕ → List ℕ → List Bound → Option LeafrefEnd
leafref_end tables leaf text bounds = do
  node ← slice_get tables.nodes leaf
  leafref_parts tables leaf node.name.space bounds (slice_split (λ c. c == slash) text)

-- some text that begins so passes
abbrev pub IsBegun : (List ℕ → Bool) → List ℕ → Type 0
IsBegun passes text = (more : List ℕ) × IsTrue (passes (text ++ more))

-- the place of the fault of a text: the first byte that no text which passes has there, or the length
pub record IsFaultAt (passes : List ℕ → Bool) (text : List ℕ) (place : ℕ) : Type 0 where
  pub refused : IsFalse (passes text)
  pub within : place ≤ length text
  pub before : 0 < place → IsBegun passes (take place text)
  pub there : place < length text → ¬ IsBegun passes (take (place + 1) text)
