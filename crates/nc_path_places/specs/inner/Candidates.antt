-- The names that can be written at a place of a path, and how far a text is one of them.
use Rattle.std.specs.Prelude.{◌==◌, ◌&&◌, ◌||◌, ℕ, zero, suc, max, Bool, false, not, if◌then◌else◌, List, [], ◌∷◌, ◌++◌, length, Option, Some, None, filter, is_some, slice_get, option_map}
use Rattle.std.specs.Option.{option_map_or}
use Rattle.std.specs.List.{list_all, list_any}
use Rattle.nc_names.specs.declared.name.Bound.{Bound}
use Rattle.nc_names.specs.Bindings.{space_of}
use Rattle.nc_names.specs.Identifiers.{is_identifier}
use Rattle.nc_names.specs.Same.{is_same_text}
use Rattle.nc_names.specs.Signs.{apostrophe, quote, colon, slash}
use Rattle.nc_schema.specs.Bindings.{module_of}
use Rattle.nc_schema.specs.Children.{child_number, is_same_number}
use Rattle.nc_schema.specs.InstancePaths.{has_name, key_nodes, qualified}
use Rattle.nc_schema.specs.PathWords.{◌>>=◌, begins_with, predicate_key, written_name}
use Rattle.nc_schema.specs.Tables.{Tables}
use Rattle.nc_schema.specs.declared.node.Node.{Node}
use Rattle.nc_schema.specs.declared.written.WrittenName.{WrittenName}
use Rattle.nc_path_places.specs.inner.Going.{Reading, child_named, key_named}

-- the binding is the one that counts, of a prefix that can be written, to a module of the schema
abbrev pub counts : Tables → List Bound → Bound → Bool
counts tables bounds bound =
    is_identifier bound.prefix &&
    option_map_or (λ space. is_same_text space bound.space && is_some (module_of tables space))
    (space_of bound.prefix bounds) false

-- by the binding the name of the node can be written
abbrev pub spells : Reading → Node → Bound → Bool
spells s node bound =
    counts s.tables s.bounds bound && (is_same_text bound.space node.name.space && is_identifier node.name.name)

-- the name, so written
abbrev pub spelling : Node → Bound → List ℕ
spelling node bound = bound.prefix ++ colon ∷ node.name.name

-- the name of the data node of a number can be written, by one of the bindings
abbrev pub is_nameable : Reading → ℕ → Bool
is_nameable s number = option_map_or (λ node. list_any (spells s node) s.bounds) (slice_get s.tables.nodes number) false

-- the written name is that of the node
abbrev pub is_named : Reading → ℕ → WrittenName → Bool
is_named s number written = option_map_or (has_name s.tables number) (qualified s.tables s.bounds written) false

-- a predicate of an entry of the node can give the key
abbrev pub is_giveable : Reading → ℕ → ℕ → Bool
is_giveable s number key = key == number || is_nameable s key

-- where no key may be left out each can be given
abbrev pub can_be_given : Reading → ℕ → List ℕ → Bool
can_be_given s number left = not s.all || list_all (is_giveable s number) left

-- the name of the node, from there, is that of the node itself
abbrev pub stands : Tables → Option ℕ → ℕ → Bool
stands tables above number =
    option_map_or (λ node. is_same_number (child_number tables above node.name) (Some number))
    (slice_get tables.nodes number) false

-- the node stands there, and a path can end at it
abbrev pub can_end : Reading → Option ℕ → ℕ → Bool
can_end s above number =
    stands s.tables above number && (is_nameable s number && can_be_given s number (key_nodes s.tables number))

-- the numbers below one
abbrev pub numbers : ℕ → List ℕ
numbers zero = []
numbers (suc n) = numbers n ++ n ∷ []

-- the data nodes there at which a path can end
abbrev pub ends_at : Reading → Option ℕ → List ℕ
ends_at s above = filter (can_end s above) (numbers (length s.tables.nodes))

-- how many signs two texts have in common from the front
abbrev pub common : List ℕ → List ℕ → ℕ
common [] ys = 0
common (x ∷ xs) [] = 0
common (x ∷ xs) (y ∷ ys) = if x == y then suc (common xs ys) else 0

-- the binding is to the namespace of the node, whose name can be written
abbrev pub fits : Node → Bound → Bool
fits node bound = is_same_text bound.space node.name.space && is_identifier node.name.name

-- how far the text is the name of the node, by one of these bindings
abbrev pub far_among : Node → List ℕ → List Bound → ℕ
far_among node text [] = 0
far_among node text (bound ∷ bounds) =
    max (if fits node bound then common text (bound.prefix ++ colon ∷ node.name.name) else 0)
    (far_among node text bounds)

-- how far the text is the name of the node, by one of the bindings that count
abbrev pub far_of_node : Reading → Node → List ℕ → List Bound → ℕ
far_of_node s node text [] = 0
far_of_node s node text (bound ∷ bounds) =
    max (if spells s node bound then common text (spelling node bound) else 0) (far_of_node s node text bounds)

-- the same of the data node of a number, by all the bindings
abbrev pub far_of : Reading → List ℕ → ℕ → ℕ
far_of s text number = option_map_or (λ node. far_of_node s node text s.bounds) (slice_get s.tables.nodes number) 0

-- of one of the nodes
abbrev pub farthest : Reading → List ℕ → List ℕ → ℕ
farthest s text [] = 0
farthest s text (number ∷ among) = max (far_of s text number) (farthest s text among)

-- the key of a predicate whose name stands first, and the text after the name
abbrev pub key_first : Reading → ℕ → List ℕ → List ℕ → Option (ℕ × List ℕ)
key_first s number left text =
    predicate_key text >>= (λ found. option_map (λ key. (key, found.1)) (key_named s number left found.0))

-- the child whose name stands first and at which a path can end, and the text after the name
abbrev pub child_first : Reading → Option ℕ → List ℕ → Option (ℕ × List ℕ)
child_first s above text =
    written_name text >>= (λ found. child_named s above found.0 >>=
    (λ number. if can_end s above number then Some (number, found.1) else None))

-- a quotation mark stands first
abbrev pub is_marked : List ℕ → Bool
is_marked [] = false
is_marked (c ∷ cs) = c == apostrophe || c == quote

-- how many signs are left where a value is not read: all, or none where it is open
abbrev pub value_left : List ℕ → ℕ
value_left text = if is_marked text then 0 else length text

-- the place in a node-instance identifier: `/` alone is one
abbrev pub after_root : List ℕ → ℕ → ℕ
after_root text at = if at == 0 then (if begins_with slash text then 1 else at) else at
