-- The attributes of a payload's elements: `operation` (RFC 6241 7.2), and `insert`, `key` and `value` (RFC 7950
-- 7.7.9 and 7.8.6).
use Rattle.std.specs.Prelude.{◌&&◌, ◌||◌, ℕ, Bool, true, false, not, if◌then◌else◌, List, [], ◌∷◌, Option, Some, None, is_some, option_and_then, option_map}
use Rattle.std.specs.List.{find, list_any}
use Rattle.std.specs.Option.{option_map_or, option_or}
use Rattle.nc_names.specs.Same.{is_same_text}
use Rattle.nc_names.specs.declared.cause.CauseKind.{CauseKind}
use Rattle.nc_names.specs.declared.cause.CauseKind.TheVariants.{UnknownAttribute, BadAttribute}
use Rattle.nc_names.specs.declared.path.Path.{Path}
use Rattle.nc_names.specs.declared.path.Place.{Place}
use Rattle.nc_names.specs.declared.path.Place.TheVariants.{Kept, First, Last, Before, After}
use Rattle.nc_names.specs.declared.path.Step.{Step}
use Rattle.nc_message.specs.declared.tree.Attr.{Attr}
use Rattle.nc_schema.specs.Kinds.{has_value}
use Rattle.nc_schema.specs.declared.node.Node.{Node}
use Rattle.nc_protocol.specs.Edited.{anchor_word}
use Rattle.nc_protocol.specs.Elements.{Reading, Named, steps_to, is_key}
use Rattle.nc_protocol.specs.Words.{base_namespace, yang_namespace, operation_word, insert_word, key_word, value_word, merge_word, replace_word, create_word, delete_word, remove_word, first_word, last_word, before_word, after_word}
use Rattle.nc_protocol.specs.declared.position.EditOperation.{EditOperation}
use Rattle.nc_protocol.specs.declared.position.EditOperation.TheVariants.{Merge, Replace, Create, Delete, Remove, Nothing}
use Rattle.nc_protocol.specs.declared.position.Position.{Position}
use Rattle.nc_protocol.specs.declared.position.Under.{Under}
use Rattle.nc_protocol.specs.declared.position.Under.TheVariants.{Edited, Rows, Inline, Dropped, BelowDropped}
use Rattle.nc_protocol.specs.declared.request.Cause.{Cause}

-- ---- what a cause says

-- the path of a node; at the top there is none
abbrev pub path_of : List Step → Option Path
path_of [] = None
path_of (step ∷ rest) = Some (record { steps = step ∷ rest })

-- a cause about the node to which the steps lead, or about none at the top
abbrev pub cause_in : CauseKind → List Step → List (List ℕ) → Cause
cause_in kind steps names = record { kind = kind; path = path_of steps; names = names }

-- ---- operations

-- `operation`, in the base namespace or in none
abbrev pub is_operation : Attr → Bool
is_operation attr =
    is_same_text attr.name.name operation_word &&
    (is_same_text attr.name.space base_namespace || is_same_text attr.name.space [])

-- an attribute of that name in the namespace of YANG's own attributes
abbrev pub is_yang : List ℕ → Attr → Bool
is_yang name attr = is_same_text attr.name.name name && is_same_text attr.name.space yang_namespace

-- the words of `operation` (RFC 6241 7.2)
abbrev pub operation_words : List (List ℕ × EditOperation)
operation_words =
    (merge_word, Merge) ∷ (replace_word, Replace) ∷ (create_word, Create) ∷ (delete_word, Delete) ∷
    (remove_word, Remove) ∷ []

-- the operation that a word of `operation` means
abbrev pub operation_of_word : List ℕ → Option EditOperation
operation_of_word word = option_map (λ pair. pair.1) (find (λ pair. is_same_text pair.0 word) operation_words)

-- the operation of the parent. Where elements are rows, or are dropped with what they stand in, none is asked for
abbrev pub handed_down : Under → EditOperation
handed_down (Edited operation) = operation
handed_down (Rows operation) = operation
handed_down (Dropped operation) = operation
handed_down Inline = Nothing
handed_down BelowDropped = Nothing

-- an element's operation: its own, else its parent's
abbrev pub operation_of : Under → List Attr → EditOperation
operation_of under attrs =
    option_map_or (λ operation. operation)
    (option_and_then (λ attr. operation_of_word attr.value) (find is_operation attrs)) (handed_down under)

-- two are one operation of those that an attribute can name
abbrev pub is_same_operation : EditOperation → EditOperation → Bool
is_same_operation Merge Merge = true
is_same_operation Replace Replace = true
is_same_operation Create Create = true
is_same_operation Delete Delete = true
is_same_operation Remove Remove = true
is_same_operation operation other = false

-- the operations that take data away: `delete` and `remove` (RFC 6241 7.2)
abbrev pub takes_away : EditOperation → Bool
takes_away Delete = true
takes_away Remove = true
takes_away operation = false

-- an element may have that operation of its own; a key only that of its entry
abbrev pub takes_operation : Under → Bool → EditOperation → Bool
takes_operation (Edited above) key operation = not key || is_same_operation operation above
takes_operation (Rows above) key operation =
    if key then is_same_operation operation above else not (takes_away operation)
takes_operation (Dropped above) key operation = key && is_same_operation operation above
takes_operation under key operation = false

-- ---- where an entry goes

-- a word of `insert`; `before` and `after` need an anchor (RFC 7950 7.7.9, 7.8.6)
abbrev pub is_insert_word : Bool → List ℕ → Bool
is_insert_word has_anchor word =
    list_any (is_same_text word) (first_word ∷ last_word ∷ []) ||
    (has_anchor && list_any (is_same_text word) (before_word ∷ after_word ∷ []))

-- the attribute that names an anchor at the node is there (RFC 7950 7.7.9, 7.8.6)
abbrev pub has_anchor : Named → Bool
has_anchor named = list_any (is_yang (anchor_word named.node)) named.elem.attrs

-- the anchor that an attribute names: an entry by its keys, or a leaf-list's by its value
abbrev pub anchor_in : Reading → Named → Attr → Option (List (List ℕ))
anchor_in reading named attr =
    if has_value named.node.kind
    then option_map (λ value. value ∷ []) (reading.value named.number attr.value named.elem.bounds)
    else reading.keys named.number attr.value named.elem.bounds

-- where `insert` puts an entry
abbrev pub place_of_word : List ℕ → List (List ℕ) → Place
place_of_word word anchor =
    if is_same_text word first_word then First
    else (if is_same_text word last_word then Last
    else (if is_same_text word before_word then Before anchor else After anchor))

-- the keys, or the value, of the entry that an element names as its anchor
abbrev pub anchor_keys : Reading → Named → List (List ℕ)
anchor_keys reading named =
    option_map_or (λ keys. keys)
    (option_and_then (anchor_in reading named) (find (is_yang (anchor_word named.node)) named.elem.attrs)) []

-- where an element puts its entry: where `insert` says, if the user orders the entries (RFC 7950 7.7.9,
-- 7.8.6)
abbrev pub place_of : Reading → Named → Place
place_of reading named =
    if named.node.by_user
    then option_map_or (λ attr. place_of_word attr.value (anchor_keys reading named))
    (find (is_yang insert_word) named.elem.attrs) Kept
    else Kept

-- ---- faults of attributes

-- an `operation` is known but in the rows of a `config`
abbrev pub has_operation : Under → Bool
has_operation Inline = false
has_operation under = true

-- an insertion attribute is known at an entry that the user orders, but not among rows
abbrev pub is_placed : Under → Node → Bool
is_placed (Rows operation) node = false
is_placed Inline node = false
is_placed under node = node.by_user

-- the `operation` has a reading: it is the first there, and the element may have it. `given` says that there
-- was one before
abbrev pub reads_operation : Reading → Position → Named → Bool → Attr → Bool
reads_operation reading at named given attr =
    not given
    && option_map_or (takes_operation at.under (is_key reading at named)) (operation_of_word attr.value) false

-- the insertion attribute has a reading: a word of `insert`, or an anchor in the form of the node's kind
abbrev pub reads_insertion : Reading → Named → Attr → Bool
reads_insertion reading named attr =
    (is_yang insert_word attr && is_insert_word (has_anchor named) attr.value)
    || (is_yang (anchor_word named.node) attr && is_some (anchor_in reading named attr))

-- an insertion attribute: `insert`, `key` or `value` (RFC 7950 7.7.9, 7.8.6)
abbrev pub is_insertion : Attr → Bool
is_insertion attr = is_yang insert_word attr || (is_yang key_word attr || is_yang value_word attr)

-- the kind of fault, unless all is well
abbrev pub kind_unless : Bool → CauseKind → Option CauseKind
kind_unless true kind = None
kind_unless false kind = Some kind

-- what is wrong with an attribute
abbrev pub attribute_fault : Reading → Position → Named → Bool → Attr → Option CauseKind
attribute_fault reading at named given attr =
    if is_operation attr && has_operation at.under
    then kind_unless (reads_operation reading at named given attr) BadAttribute
    else (if is_insertion attr && is_placed at.under named.node
    then kind_unless (reads_insertion reading named attr) BadAttribute
    else Some UnknownAttribute)

-- a cause at an attribute names it and its element
abbrev pub attribute_cause : Reading → Position → Named → Attr → CauseKind → Cause
attribute_cause reading at named attr kind =
    cause_in kind (steps_to reading at named) (attr.name.name ∷ named.elem.name.name ∷ [])

-- the first fault among attributes
abbrev pub attributes_fault : Reading → Position → Named → Bool → List Attr → Option Cause
attributes_fault reading at named given [] = None
attributes_fault reading at named given (attr ∷ more) =
    option_or (option_map (attribute_cause reading at named attr) (attribute_fault reading at named given attr))
    (attributes_fault reading at named (given || is_operation attr) more)
