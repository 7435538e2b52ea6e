-- The elements of a payload: the data nodes that they name, and the texts in them (RFC 7950 7.5.7, 7.6.5, 7.7.8
-- and 7.8.5).
use Rattle.std.specs.Prelude.{◌==◌, ◌&&◌, ℕ, Bool, true, false, not, if◌then◌else◌, List, [], ◌∷◌, ◌++◌, Option, Some, None, option_and_then, option_map, option_to_list, slice_get}
use Rattle.std.specs.List.{filter_map, find, flat_map, list_any}
use Rattle.std.specs.Option.{option_map_or}
use Rattle.nc_names.specs.Signs.{is_white}
use Rattle.nc_names.specs.declared.name.Bound.{Bound}
use Rattle.nc_names.specs.declared.path.Step.{Step}
use Rattle.nc_message.specs.declared.tree.Elem.{Elem}
use Rattle.nc_message.specs.declared.tree.Part.{Part, Child', Chars}
use Rattle.nc_message.specs.declared.tree.Part.TheBlock.{Row_of-Elem, end_of-Elem, more_of-Elem, items-the_row-Part}
use Rattle.nc_schema.specs.Children.{child_number}
use Rattle.nc_schema.specs.Kinds.{has_value}
use Rattle.nc_schema.specs.Order.{keys_above}
use Rattle.nc_schema.specs.Tables.{Tables}
use Rattle.nc_schema.specs.declared.node.Kind.{Kind}
use Rattle.nc_schema.specs.declared.node.Kind.TheVariants.{Container, Leaf, LeafList, List as ListKind}
use Rattle.nc_schema.specs.declared.node.Node.{Node}
use Rattle.nc_protocol.specs.declared.position.Position.{Position}
use Rattle.nc_protocol.specs.declared.position.Under.{Under}
use Rattle.nc_protocol.specs.declared.position.Under.TheVariants.{Dropped, BelowDropped}

-- a schema, and how texts are read by it under the prefixes that are bound: as the canonical text of a value of
-- that data node (RFC 7950 9.1), and as the canonical keys in the predicates of an entry of that list (9.13)
pub record Reading : Type 0 where
  pub tables : Tables
  pub value : ℕ → List ℕ → List Bound → Option (List ℕ)
  pub keys : ℕ → List ℕ → List Bound → Option (List (List ℕ))

-- the text of a part; a child element has none of its own
abbrev pub text_of : Part → List ℕ
text_of (Chars text) = text
text_of (Child' _ child) = []

-- the text of an element without child elements
abbrev pub whole_text : List Part → List ℕ
whole_text parts = flat_map text_of parts

-- a part that is a child element
abbrev pub is_child : Part → Bool
is_child (Chars text) = false
is_child (Child' _ child) = true

-- there are child elements
abbrev pub has_child : List Part → Bool
has_child parts = list_any is_child parts

-- there is text that is not white space
abbrev pub has_text : List Part → Bool
has_text parts = list_any (λ part. list_any (λ sign. not (is_white sign)) (text_of part)) parts

-- the child element that a part is
abbrev pub elem_in : {n : _} → Row_of-Elem n → Option Elem
elem_in end_of-Elem = None
elem_in (more_of-Elem name bounds attrs shape parts none) =
    Some (record { name = name; bounds = bounds; attrs = attrs; parts = items-the_row-Part _ parts })

-- the child element that a part is, where it is one
abbrev pub elem_of : Part → Option Elem
elem_of (Chars text) = None
elem_of (Child' _ child) = elem_in child

-- an element that is a data node of the schema
pub record Named : Type 0 where
  pub number : ℕ
  pub node : Node
  pub elem : Elem

-- what an element names among the children of a data node, or at the top
abbrev pub named : Reading → Option ℕ → Elem → Option Named
named reading parent elem =
    option_and_then
    (λ number. option_map (λ node. record { number = number; node = node; elem = elem })
    (slice_get reading.tables.nodes number))
    (child_number reading.tables parent elem.name)

-- what a part of an element names among the children of a data node, or at the top
abbrev pub named_part : Reading → Option ℕ → Part → Option Named
named_part reading parent part = option_and_then (named reading parent) (elem_of part)

-- the value of a leaf or of a leaf-list entry
abbrev pub value_in : Reading → Named → Option (List ℕ)
value_in reading named =
    if has_child named.elem.parts then None
    else reading.value named.number (whole_text named.elem.parts) named.elem.bounds

-- the first child that is the data node of that number
abbrev pub first_child : Reading → Named → ℕ → Option Named
first_child reading entry number =
    find (λ child. child.number == number) (filter_map (named_part reading (Some entry.number)) entry.elem.parts)

-- one value before others, or none where either is missing
abbrev pub with_key : Option (List ℕ) → Option (List (List ℕ)) → Option (List (List ℕ))
with_key (Some value) (Some values) = Some (value ∷ values)
with_key value values = None

-- the values of these keys in an element of an entry, or none where one is missing or has no reading
abbrev pub key_values : Reading → Named → List ℕ → Option (List (List ℕ))
key_values reading entry [] = Some []
key_values reading entry (key ∷ keys) =
    with_key (option_and_then (value_in reading) (first_child reading entry key)) (key_values reading entry keys)

-- the keys of an entry, or a leaf-list entry's value, which name it among its siblings; none where they have no
-- reading. Other nodes have none
abbrev pub keys_read : Reading → Kind → Named → Option (List (List ℕ))
keys_read reading (Container presence) named = Some []
keys_read reading Leaf named = Some []
keys_read reading LeafList named = option_map (λ value. value ∷ []) (value_in reading named)
keys_read reading ListKind named = key_values reading named named.node.keys

-- elements below `delete` and `remove` are read for the keys of lists alone
abbrev pub is_dropped : Under → Bool
is_dropped (Dropped operation) = true
is_dropped BelowDropped = true
is_dropped under = false

-- the keys in the path to an element's node, none where they are not read or have no reading
abbrev pub keys_of : Reading → Under → Named → List (List ℕ)
keys_of reading under named =
    if is_dropped under && has_value named.node.kind then []
    else option_map_or (λ keys. keys) (keys_read reading named.node.kind named) []

-- the last step of the path to an element's node
abbrev pub step_of : Reading → Under → Named → Step
step_of reading under named = record { node = named.number; keys = keys_of reading under named }

-- the steps to an element's node
abbrev pub steps_to : Reading → Position → Named → List Step
steps_to reading at named = at.above ++ step_of reading at.under named ∷ []

-- the steps of the elements of one parent, so far
abbrev pub with_step : Reading → Position → List Step → Part → List Step
with_step reading at earlier part =
    earlier ++ option_to_list (option_map (step_of reading at.under) (named_part reading at.parent part))

-- the element is a key of the entry in which it stands
abbrev pub is_key : Reading → Position → Named → Bool
is_key reading at named = list_any (λ key. key == named.number) (keys_above reading.tables at.parent)
