-- Names with texts as keys: what a row is found by, and what a content match asks for (RFC 6241 6.2.5).
use Rattle.std.specs.Prelude.{ℕ, Bool, not, if◌then◌else◌, List, Option, [], ◌∷◌, ◌++◌, None, map}
use Rattle.std.specs.Prelude.{option_and_then, slice_get}
use Rattle.std.specs.List.{filter, flat_map, last_or, list_any}
use Rattle.std.specs.Option.{option_map_or}
use Rattle.nc_names.specs.Ends.{trimmed}
use Rattle.nc_names.specs.Same.{is_same_text}
use Rattle.nc_names.specs.declared.path.Row.{Row}
use Rattle.nc_names.specs.declared.path.Step.{Step}
use Rattle.nc_message.specs.declared.tree.Elem.{Elem}
use Rattle.nc_schema.specs.Tables.{Tables}
use Rattle.nc_schema.specs.declared.node.Node.{Node}
use Rattle.nc_protocol.specs.Elements.{whole_text}
use Rattle.nc_protocol.specs.Filter.{has_no_attribute, is_content_match, level_of}
use Rattle.nc_filter.specs.inner.Levels.{children}

-- a name with its end: a 1 before each byte and a 0 after all, so that it is read in one way where more follows
abbrev pub marked : List ℕ → List ℕ
marked [] = 0 ∷ []
marked (x ∷ xs) = 1 ∷ x ∷ marked xs

-- a namespace and a name, each with its end, and the text after them
abbrev pub key : List ℕ → List ℕ → List ℕ → List ℕ
key space name text = marked space ++ marked name ++ text

-- what a content match asks for; one with an attribute asks for what no row has
abbrev pub elem_key : Elem → List ℕ
elem_key elem =
    if has_no_attribute elem.attrs then key elem.name.space elem.name.name (trimmed (whole_text elem.parts)) else []

-- the keys of a value of a data node: with its namespace, and without one
abbrev pub value_keys : Node → List ℕ → List (List ℕ)
value_keys node value =
    key node.name.space node.name.name (trimmed value) ∷ key [] node.name.name (trimmed value) ∷ []

-- the data node at which a row is
abbrev pub row_node : Tables → Row → Option Node
row_node tables row = option_and_then (λ step. slice_get tables.nodes step.node) (last_or None row.path.steps)

-- the keys of the value of a row; a row without a value has none
abbrev pub row_keys : Tables → Row → List (List ℕ)
row_keys tables row =
    option_map_or (λ node. option_map_or (value_keys node) row.value []) (row_node tables row) []

-- the keys of the rows directly in an instance
abbrev pub keys_in : Tables → List Row → List Step → List (List ℕ)
keys_in tables all above = flat_map (row_keys tables) (children all above)

-- a text is one of some keys
abbrev pub among : List (List ℕ) → List ℕ → Bool
among keys wanted = list_any (λ key. is_same_text key wanted) keys

-- what the content matches at the level of an element ask for
abbrev pub asked : Elem → List (List ℕ)
asked elem = map elem_key (filter is_content_match (level_of elem))

-- each of some keys is there
abbrev pub has_all : (List ℕ → Bool) → List (List ℕ) → Bool
has_all has keys = not (list_any (λ key. not (has key)) keys)

-- the key of an element's name; one with an attribute names nothing
abbrev pub name_key : Elem → List ℕ
name_key elem = if has_no_attribute elem.attrs then key elem.name.space elem.name.name [] else []

-- the labels of a data node's name: with its namespace, and without one
abbrev pub node_labels : Node → List (List ℕ)
node_labels node = (0 ∷ key node.name.space node.name.name []) ∷ (0 ∷ key [] node.name.name []) ∷ []
