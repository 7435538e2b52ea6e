-- The faults of one element of a payload, in their order: its name, its shape, its attributes, its value; an entry's
-- keys after its attributes (RFC 6241 7.2, appendix A; RFC 7950 8.3.1).
use Rattle.std.specs.Prelude.{◌&&◌, ◌||◌, ℕ, Bool, true, false, not, if◌then◌else◌, List, [], ◌∷◌, Option, Some, None, is_some, option_and_then, option_map, slice_get}
use Rattle.std.specs.List.{find, list_any}
use Rattle.std.specs.Option.{option_map_or, option_or}
use Rattle.nc_names.specs.Same.{is_same_step, is_same_text}
use Rattle.nc_names.specs.declared.cause.CauseKind.TheVariants.{UnknownElement, UnknownNamespace, MissingKey, BadElement, BadValue}
use Rattle.nc_names.specs.declared.name.QName.{QName}
use Rattle.nc_names.specs.declared.path.Step.{Step}
use Rattle.nc_message.specs.declared.tree.Attr.{Attr}
use Rattle.nc_message.specs.declared.tree.Elem.{Elem}
use Rattle.nc_message.specs.declared.tree.Part.{Part}
use Rattle.nc_schema.specs.Kinds.{has_value, is_leaf, is_list}
use Rattle.nc_schema.specs.Standing.{cases_of, cases_differ}
use Rattle.nc_schema.specs.Tables.{Tables}
use Rattle.nc_schema.specs.declared.node.Kind.{Kind}
use Rattle.nc_schema.specs.declared.node.Kind.TheVariants.{Container, Leaf, LeafList, List as ListKind}
use Rattle.nc_schema.specs.declared.node.Node.{Node}
use Rattle.nc_protocol.specs.Attributes.{cause_in, operation_of, attributes_fault}
use Rattle.nc_protocol.specs.Edited.{cause_where}
use Rattle.nc_protocol.specs.Elements.{Reading, Named, has_child, has_text, value_in, first_child, named_part, is_dropped, is_key, step_of, steps_to, with_step}
use Rattle.nc_protocol.specs.declared.position.EditOperation.{EditOperation}
use Rattle.nc_protocol.specs.declared.position.EditOperation.TheVariants.{Merge, Replace, Create, Delete, Remove, Nothing}
use Rattle.nc_protocol.specs.declared.position.Position.{Position}
use Rattle.nc_protocol.specs.declared.position.Under.{Under}
use Rattle.nc_protocol.specs.declared.position.Under.TheVariants.{Edited, Rows, Inline, Dropped, BelowDropped}
use Rattle.nc_protocol.specs.declared.request.Cause.{Cause}

-- ---- its name

-- an element that is no data node of the schema there, in a namespace of a module or in another (`unknown-element`,
-- `unknown-namespace`, RFC 6241 appendix A)
abbrev pub unknown_cause : Tables → List Step → QName → Cause
unknown_cause tables above name =
    if list_any (λ found. is_same_text found.space name.space) tables.modules
    then cause_in UnknownElement above (name.name ∷ [])
    else cause_in UnknownNamespace above (name.name ∷ name.space ∷ [])

-- ---- its shape

-- content that a node of the kind may not have: a child element beside or in a value, or text elsewhere
abbrev pub has_bad_content : Kind → List Part → Bool
has_bad_content kind parts = if has_value kind then has_child parts else has_text parts

-- among rows no node may be given twice, and elsewhere no leaf
abbrev pub stands_once : Under → Kind → Bool
stands_once (Rows operation) kind = true
stands_once Inline kind = true
stands_once under kind = is_leaf kind

-- an element excludes another in its parent: they are one node, which stands once, or belong to two cases of
-- one choice (RFC 7950 7.9)
abbrev pub clashes : Tables → Under → Node → Step → Step → Bool
clashes tables under node step other =
    (stands_once under node.kind && is_same_step other step) || cases_differ node.cases (cases_of tables other.node)

-- the fault of an element's shape, if it has one (`bad-element`, RFC 6241 appendix A)
abbrev pub shape_fault : Reading → Position → List Step → Named → Option Cause
shape_fault reading at earlier named =
    cause_where (has_bad_content named.node.kind named.elem.parts
    || list_any (clashes reading.tables at.under named.node (step_of reading at.under named)) earlier)
    (cause_in BadElement at.above (named.elem.name.name ∷ []))

-- ---- its value

-- the operation needs a leaf's value
abbrev pub needs_value : EditOperation → Bool
needs_value Merge = true
needs_value Replace = true
needs_value Create = true
needs_value operation = false

-- the text of an element is read: that of a key always, else where the value becomes that of a row, or part of a
-- path
abbrev pub is_read : Under → EditOperation → Bool → Kind → Bool
is_read under operation key (Container presence) = false
is_read under operation key ListKind = false
is_read under operation key LeafList = not (is_dropped under)
is_read (Edited above) operation key Leaf = key || needs_value operation
is_read under operation key Leaf = key || not (is_dropped under)

-- the value of an element has no reading, though one is needed (`invalid-value`, RFC 7950 8.3.1)
abbrev pub value_fault : Reading → Position → Named → Option Cause
value_fault reading at named =
    cause_where (is_read at.under (operation_of at.under named.elem.attrs) (is_key reading at named) named.node.kind
    && not (is_some (value_in reading named)))
    (cause_in BadValue (steps_to reading at named) [])

-- ---- its own faults together

-- the first fault of an element without those of its keys
abbrev pub element_fault : Reading → Position → List Step → Named → Option Cause
element_fault reading at earlier named =
    option_or (shape_fault reading at earlier named)
    (option_or (attributes_fault reading at named false named.elem.attrs) (value_fault reading at named))

-- under what the children of an element with that operation stand
abbrev pub under_edited : EditOperation → Under
under_edited Merge = Edited Merge
under_edited Nothing = Edited Nothing
under_edited Create = Rows Create
under_edited Replace = Rows Replace
under_edited Delete = Dropped Delete
under_edited Remove = Dropped Remove

-- under what the children of an element stand, by where it stands and by its `operation` (RFC 6241 7.2)
abbrev pub under_element : Under → List Attr → Under
under_element (Edited above) attrs = under_edited (operation_of (Edited above) attrs)
under_element (Rows above) attrs = Rows (operation_of (Rows above) attrs)
under_element Inline attrs = Inline
under_element under attrs = BelowDropped

-- the position of the children of an element
abbrev pub inside : Reading → Position → Named → Position
inside reading at named =
    record {
      above = steps_to reading at named;
      parent = Some named.number;
      under = under_element at.under named.elem.attrs;
    }

-- ---- an entry's keys

-- the local name of a data node
abbrev pub local_name : Tables → ℕ → List ℕ
local_name tables number = option_map_or (λ node. node.name.name) (slice_get tables.nodes number) []

-- the first key that an entry lacks, in the order of the `key` statement (`missing-element`, RFC 6241
-- appendix A)
abbrev pub missing_key : Reading → Position → Named → Option Cause
missing_key reading at named =
    option_map (λ key. cause_in MissingKey (steps_to reading at named) (local_name reading.tables key ∷ []))
    (find (λ key. not (is_some (first_child reading named key))) named.node.keys)

-- the fault of a part of an entry, where it is a key
abbrev pub key_fault : Reading → Position → List Step → Part → Option Cause
key_fault reading at earlier part =
    option_and_then (λ child. if is_key reading at child then element_fault reading at earlier child else None)
    (named_part reading at.parent part)

-- the first fault of the keys among the parts of an entry, in document order
abbrev pub keys_fault : Reading → Position → List Step → List Part → Option Cause
keys_fault reading at earlier [] = None
keys_fault reading at earlier (part ∷ more) =
    option_or (key_fault reading at earlier part) (keys_fault reading at (with_step reading at earlier part) more)

-- the first fault of an entry's keys: one that is missing, else one of those that are there
abbrev pub entry_fault : Reading → Position → Named → Option Cause
entry_fault reading at named =
    if is_list named.node.kind
    then option_or (missing_key reading at named) (keys_fault reading (inside reading at named) [] named.elem.parts)
    else None

-- ---- with those of an entry's keys

-- the first fault of an element without those of its other children
abbrev pub own_fault : Reading → Position → List Step → Named → Option Cause
own_fault reading at earlier named = option_or (element_fault reading at earlier named) (entry_fault reading at named)

-- the first fault of an element: that it names no data node, else its own
abbrev pub unknown_or : Reading → Position → List Step → Elem → Option Named → Option Cause
unknown_or reading at earlier elem None = Some (unknown_cause reading.tables at.above elem.name)
unknown_or reading at earlier elem (Some named) = own_fault reading at earlier named
