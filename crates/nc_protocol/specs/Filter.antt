-- Subtree filters (RFC 6241 6): which rows of a configuration one keeps.
use Rattle.std.specs.Prelude.{◌==◌, ◌&&◌, ◌||◌, Bool, true, false, not, if◌then◌else◌, List, [], ◌∷◌, ◌++◌, None, option_map, slice_get}
use Rattle.std.specs.List.{filter, filter_map, last_or, list_all, list_any}
use Rattle.std.specs.Option.{option_map_or}
use Rattle.nc_names.specs.Ends.{trimmed}
use Rattle.nc_names.specs.Same.{is_same_path, is_same_text, is_at_or_below}
use Rattle.nc_names.specs.declared.path.Row.{Row}
use Rattle.nc_names.specs.declared.path.Step.{Step}
use Rattle.nc_message.specs.declared.tree.Attr.{Attr}
use Rattle.nc_message.specs.declared.tree.Elem.{Elem}
use Rattle.nc_schema.specs.Blocks.{above_last}
use Rattle.nc_schema.specs.Order.{keys_above}
use Rattle.nc_schema.specs.Tables.{Tables}
use Rattle.nc_schema.specs.declared.node.Node.{Node}
use Rattle.nc_protocol.specs.Elements.{elem_of, has_child, has_text, whole_text}

-- the elements of one level: the child elements of the filter, or of a containment node
abbrev pub level_of : Elem → List Elem
level_of elem = filter_map elem_of elem.parts

-- a content match node has a text (RFC 6241 6.2.5)
abbrev pub is_content_match : Elem → Bool
is_content_match elem = has_text elem.parts

-- a containment node has child elements (RFC 6241 6.2.3); what is neither is a selection node (6.2.4)
abbrev pub is_containment : Elem → Bool
is_containment elem = has_child elem.parts && not (has_text elem.parts)

-- there is no attribute
abbrev pub has_no_attribute : List Attr → Bool
has_no_attribute [] = true
has_no_attribute (attr ∷ attrs) = false

-- an element has the name of a data node, by its namespace, or by its local name alone where it has no namespace
-- (RFC 6241 6.2.1). The attributes that one names have no match, since data nodes have no attributes (6.2.2)
abbrev pub is_of_name : Elem → Node → Bool
is_of_name elem node =
    has_no_attribute elem.attrs && is_same_text elem.name.name node.name.name &&
    (is_same_text elem.name.space [] || is_same_text elem.name.space node.name.space)

-- an element has the name of the data node to which a step leads
abbrev pub is_of_node : Tables → Elem → Step → Bool
is_of_node tables elem step = option_map_or (is_of_name elem) (slice_get tables.nodes step.node) false

-- a leaf or a leaf-list entry has the text of an element, white space at both ends aside
abbrev pub is_of_text : Elem → Row → Bool
is_of_text elem row =
    option_map_or (λ value. is_same_text (trimmed value) (trimmed (whole_text elem.parts))) row.value false

-- a row in an instance, which is the root or a container or a list entry, meets a content match there
abbrev pub meets : Tables → Elem → List Step → Row → Bool
meets tables elem above row =
    is_same_path (above_last row.path.steps) above &&
    option_map_or (is_of_node tables elem) (last_or None row.path.steps) false && is_of_text elem row

-- each content match of a level is met in the instance (RFC 6241 6.2.5)
abbrev pub holds : Tables → List Row → List Step → List Elem → Bool
holds tables rows above level =
    list_all (λ elem. not (is_content_match elem) || list_any (meets tables elem above) rows) level

-- nothing but content matches stands at the level: the whole instance is selected
abbrev pub is_of_matches : List Elem → Bool
is_of_matches [] = false
is_of_matches (elem ∷ more) = list_all is_content_match (elem ∷ more)

-- a level, in an instance, selects a row. `steps` are those from the instance to the row's node. Where its content
-- matches hold it selects the whole instance, or what its elements select: a content match the nodes that meet it, a
-- selection node whatever is at and below the nodes of its name, and a containment node what its own level selects
-- in each instance of its name
abbrev pub selects : Tables → List Row → Row → List Elem → List Step → List Step → Bool
selects tables rows row level above [] = holds tables rows above level && is_of_matches level
selects tables rows row level above (step ∷ steps) =
    holds tables rows above level && (is_of_matches level || list_any
    (λ elem. is_of_node tables elem step &&
    (if is_content_match elem then meets tables elem above row
    else (if is_containment elem then selects tables rows row (level_of elem) (above ++ step ∷ []) steps else true)))
    level)

-- a node is a key of the list entry in which it stands
abbrev pub is_key_of_entry : Tables → List Step → Bool
is_key_of_entry tables steps =
    option_map_or (λ step. list_any (λ key. key == step.node)
    (keys_above tables (option_map (λ over. over.node) (last_or None (above_last steps))))) (last_or None steps) false

-- with what is selected come the entries and containers above it, and the keys of the entry that it is and of those
-- above it (RFC 6241 6.3)
abbrev pub comes_with : Tables → Row → Row → Bool
comes_with tables other row =
    is_at_or_below row.path.steps other.path ||
    (is_key_of_entry tables row.path.steps && is_at_or_below (above_last row.path.steps) other.path)

-- the rows that a filter selects by itself
abbrev pub chosen : Tables → Elem → List Row → List Row
chosen tables elem rows = filter (λ row. selects tables rows row (level_of elem) [] row.path.steps) rows

-- the rows that a filter keeps
abbrev pub selected : Tables → Elem → List Row → List Row
selected tables elem rows =
    filter (λ row. list_any (λ other. comes_with tables other row) (chosen tables elem rows)) rows
