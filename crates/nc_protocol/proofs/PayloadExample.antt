-- Payloads with their edits or their fault, worked from RFC 6241 7.2 and RFC 7950 by hand.
use Rattle.std.proofs.Common.{◌≡◌, ℕ, List, [], ◌∷◌, ◌++◌, refl}
use Rattle.std.specs.Prelude.{codes, if◌then◌else◌, Bool, Option, Some, None, Result, Ok, Err, false, true}
use Rattle.nc_message.specs.declared.tree.Attr.{Attr}
use Rattle.nc_message.specs.declared.tree.Elem.{Elem}
use Rattle.nc_message.specs.declared.tree.Part.{Part}
use Rattle.nc_message.specs.declared.tree.Part.TheVariants.{Child, Chars}
use Rattle.nc_message.specs.declared.tree.Part.TheBlock.{hidden-the_row-Part-0, hidden-the_row-Elem-1}
use denote.Hole.Carrier.{hidden}
use Rattle.nc_names.specs.declared.cause.CauseKind.{CauseKind}
use Rattle.nc_names.specs.declared.cause.CauseKind.TheVariants.{UnknownElement, UnknownNamespace, UnknownAttribute, BadAttribute, MissingKey, BadElement, BadValue}
use Rattle.nc_names.specs.declared.name.Bound.{Bound}
use Rattle.nc_names.specs.declared.path.Place.TheVariants.{Kept, First, Before}
use Rattle.nc_names.specs.declared.path.Row.{Row}
use Rattle.nc_names.specs.declared.path.Step.{Step}
use Rattle.nc_schema.specs.declared.node.Kind.TheVariants.{Container, Leaf, LeafList, List as ListKind}
use Rattle.nc_schema.specs.declared.node.Node.{Node}
use Rattle.nc_schema.specs.Tables.{Tables}
use Rattle.nc_protocol.specs.declared.asked.Asked.{Asked}
use Rattle.nc_protocol.specs.declared.asked.Asked.TheVariants.{EditConfig}
use Rattle.nc_protocol.specs.declared.asked.ErrorOption.TheVariants.{Stop}
use Rattle.nc_protocol.specs.declared.asked.TestOption.TheVariants.{Set}
use Rattle.nc_protocol.specs.declared.datastore.Datastore.TheVariants.{Candidate}
use Rattle.nc_protocol.specs.declared.asked.Default3.TheVariants.{Merge as MergeByDefault, Replace as ReplaceByDefault, Nothing as NothingByDefault}
use Rattle.nc_protocol.specs.declared.edit.Action.{Action}
use Rattle.nc_protocol.specs.declared.edit.Action.TheVariants.{Nothing, Merge, Create, Replace, Delete}
use Rattle.nc_protocol.specs.declared.edit.Edit.{Edit}
use Rattle.nc_protocol.specs.declared.request.Cause.{Cause}
use Rattle.nc_names.specs.Same.{is_same_text}
use Rattle.nc_protocol.proofs.Example.{node}
use Rattle.nc_protocol.specs.Payload.{edits_read, rows_read, names_path_read}
use Rattle.nc_protocol.specs.Elements.{Reading}
use Rattle.nc_protocol.specs.Words.{base_namespace, yang_namespace, key_word, value_word, operation_word, insert_word, merge_word, replace_word, create_word, delete_word, remove_word, first_word, last_word, before_word, after_word}

-- container top {
--   list rule { key name; ordered-by user; leaf name; leaf size; container sub { leaf-list tag; } }
--   choice { case { leaf x; } case { leaf y; } }
--   list port { key id; leaf id; } }
abbrev rule_node : Node
rule_node = record (node (codes "rule") (Some 0) ListKind (2 ∷ [])) { by_user = true }

abbrev x_node : Node
x_node = record (node (codes "x") (Some 0) Leaf []) { cases = record { choice = 0; case = 0 } ∷ [] }

abbrev y_node : Node
y_node = record (node (codes "y") (Some 0) Leaf []) { cases = record { choice = 0; case = 1 } ∷ [] }

abbrev schema : Tables
schema = record {
  nodes = node (codes "top") None (Container false) [] ∷ rule_node ∷ node (codes "name") (Some 1) Leaf [] ∷ node (codes "size") (Some 1) Leaf []
      ∷ x_node ∷ y_node ∷ node (codes "sub") (Some 1) (Container false) [] ∷ node (codes "tag") (Some 6) LeafList []
      ∷ node (codes "port") (Some 0) ListKind (9 ∷ []) ∷ node (codes "id") (Some 8) Leaf [] ∷ [];
  choices = [];
  patterns = [];
  types = [];
  modules = record { name = codes "ex"; space = codes "urn:ex"; revision = []; features = [] } ∷ [];
}

-- every text but `bad` is a value, and `+1` is written `1`; `[name='a']` is the entry with the key `a`
abbrev value : ℕ → List ℕ → List Bound → Option (List ℕ)
value number text bounds = if is_same_text text (codes "bad") then None else (if is_same_text text (codes "+1") then Some (codes "1") else Some text)

abbrev keys : ℕ → List ℕ → List Bound → Option (List (List ℕ))
keys number text bounds = if is_same_text text (codes "[name='a']") then Some (codes "a" ∷ []) else None

abbrev reading : Reading
reading = record { tables = schema; value = value; keys = keys }

abbrev element : List ℕ → List Attr → List Part → Part
element name attrs parts = Child (record { name = record { space = codes "urn:ex"; name = name }; bounds = []; attrs = attrs; parts = parts })

abbrev leaf : List ℕ → List ℕ → Part
leaf name text = element name [] (Chars text ∷ [])

abbrev leaf_with : List ℕ → List Attr → List ℕ → Part
leaf_with name attrs text = element name attrs (Chars text ∷ [])

abbrev operation : List ℕ → Attr
operation word = record { name = record { space = codes "urn:ietf:params:xml:ns:netconf:base:1.0"; name = codes "operation" }; prefix = codes "nc"; value = word }

abbrev yang : List ℕ → List ℕ → Attr
yang name word = record { name = record { space = codes "urn:ietf:params:xml:ns:yang:1"; name = name }; prefix = codes "y"; value = word }

abbrev plain : List ℕ → List ℕ → Attr
plain name word = record { name = record { space = []; name = name }; prefix = []; value = word }

abbrev config : List Part → Elem
config parts = record { name = record { space = []; name = codes "config" }; bounds = []; attrs = []; parts = parts }

abbrev top : List Step
top = record { node = 0; keys = [] } ∷ []

abbrev below : List Step → ℕ → List Step
below above number = above ++ record { node = number; keys = [] } ∷ []

abbrev rule : List ℕ → List Step
rule key = top ++ record { node = 1; keys = key ∷ [] } ∷ []

abbrev port : List ℕ → List Step
port key = top ++ record { node = 8; keys = key ∷ [] } ∷ []

abbrev edit : List Step → Action → Edit
edit steps action = record { path = record { steps = steps }; action = action; place = Kept }

abbrev row : List Step → Option (List ℕ) → Row
row steps value = record { path = record { steps = steps }; value = value }

abbrev fault : CauseKind → List Step → List (List ℕ) → Result (List Edit) Cause
fault kind steps names = Err (record { kind = kind; path = Some (record { steps = steps }); names = names })

-- the edits of a `top` with these parts, by a default-operation
abbrev merged : List Part → Result (List Edit) Cause
merged parts = edits_read reading MergeByDefault (config (element (codes "top") [] parts ∷ []))

abbrev looked : List Part → Result (List Edit) Cause
looked parts = edits_read reading NothingByDefault (config (element (codes "top") [] parts ∷ []))

-- a rule with that name, attributes and parts
abbrev rule_elem : List ℕ → List Attr → List Part → Part
rule_elem name attrs parts = element (codes "rule") attrs (parts ++ leaf (codes "name") name ∷ [])

-- the default-operation `none` is handed down to where an element has its own; its leafs are not read
hands_down : looked (rule_elem (codes "b") (operation (codes "merge") ∷ []) (leaf (codes "size") (codes "+1") ∷ []) ∷ leaf (codes "x") (codes "bad") ∷ [])
    ≡ Ok (edit top Nothing ∷ edit (rule (codes "b")) (Merge None) ∷ edit (below (rule (codes "b")) 3) (Merge (Some (codes "1"))) ∷ edit (below (rule (codes "b")) 2) (Merge (Some (codes "b"))) ∷ edit (below top 4) Nothing ∷ [])
unfolding node base_namespace yang_namespace operation_word insert_word merge_word replace_word create_word delete_word remove_word first_word last_word before_word after_word key_word value_word hidden-the_row-Part-0 hidden-the_row-Elem-1 hidden
hands_down = refl

-- a default-operation `replace` is that of each element at the top
replaces_by_default : edits_read reading ReplaceByDefault (config (element (codes "top") [] (leaf (codes "x") (codes "+1") ∷ []) ∷ []))
    ≡ Ok (edit top (Replace (row (below top 4) (Some (codes "1")) ∷ [])) ∷ [])
unfolding node base_namespace yang_namespace operation_word insert_word merge_word replace_word create_word delete_word remove_word first_word last_word before_word after_word key_word value_word hidden-the_row-Part-0 hidden-the_row-Elem-1 hidden
replaces_by_default = refl

-- a subtree that is created is rows in document order, an entry's keys first
creates : merged (rule_elem (codes "b") (operation (codes "create") ∷ []) (element (codes "sub") [] (leaf (codes "tag") (codes "q") ∷ leaf (codes "tag") (codes "p") ∷ []) ∷ leaf (codes "size") (codes "+1") ∷ []) ∷ [])
    ≡ Ok (edit top (Merge None) ∷ edit (rule (codes "b")) (Create (
    row (rule (codes "b")) None ∷ row (below (rule (codes "b")) 2) (Some (codes "b")) ∷ row (below (rule (codes "b")) 3) (Some (codes "1"))
    ∷ row (below (rule (codes "b")) 6 ++ record { node = 7; keys = codes "p" ∷ [] } ∷ []) (Some (codes "p"))
    ∷ row (below (rule (codes "b")) 6 ++ record { node = 7; keys = codes "q" ∷ [] } ∷ []) (Some (codes "q")) ∷ [])) ∷ [])
unfolding node base_namespace yang_namespace operation_word insert_word merge_word replace_word create_word delete_word remove_word first_word last_word before_word after_word key_word value_word hidden-the_row-Part-0 hidden-the_row-Elem-1 hidden
creates = refl

-- what is deleted gives one edit; its leafs are not read, and a key may have its entry's operation
deletes : merged (element (codes "rule") (operation (codes "delete") ∷ []) (leaf (codes "size") (codes "bad") ∷ leaf_with (codes "name") (operation (codes "delete") ∷ []) (codes "b") ∷ []) ∷ [])
    ≡ Ok (edit top (Merge None) ∷ edit (rule (codes "b")) Delete ∷ [])
unfolding node base_namespace yang_namespace operation_word insert_word merge_word replace_word create_word delete_word remove_word first_word last_word before_word after_word key_word value_word hidden-the_row-Part-0 hidden-the_row-Elem-1 hidden
deletes = refl

-- an operation below `delete` is refused
deletes_with_operation : merged (rule_elem (codes "b") (operation (codes "delete") ∷ []) (leaf_with (codes "size") (operation (codes "delete") ∷ []) (codes "1") ∷ []) ∷ [])
    ≡ fault BadAttribute (below (rule (codes "b")) 3) (codes "operation" ∷ codes "size" ∷ [])
unfolding node base_namespace yang_namespace operation_word insert_word merge_word replace_word create_word delete_word remove_word first_word last_word before_word after_word key_word value_word hidden-the_row-Part-0 hidden-the_row-Elem-1 hidden
deletes_with_operation = refl

-- and a `delete` below `create`
deletes_below_create : merged (rule_elem (codes "b") (operation (codes "create") ∷ []) (leaf_with (codes "size") (operation (codes "delete") ∷ []) (codes "1") ∷ []) ∷ [])
    ≡ fault BadAttribute (below (rule (codes "b")) 3) (codes "operation" ∷ codes "size" ∷ [])
unfolding node base_namespace yang_namespace operation_word insert_word merge_word replace_word create_word delete_word remove_word first_word last_word before_word after_word key_word value_word hidden-the_row-Part-0 hidden-the_row-Elem-1 hidden
deletes_below_create = refl

-- an entry before the one that predicates name
inserts : merged (rule_elem (codes "b") (yang (codes "insert") (codes "before") ∷ yang (codes "key") (codes "[name='a']") ∷ []) [] ∷ [])
    ≡ Ok (edit top (Merge None) ∷ record (edit (rule (codes "b")) (Merge None)) { place = Before (codes "a" ∷ []) } ∷ edit (below (rule (codes "b")) 2) (Merge (Some (codes "b"))) ∷ [])
unfolding node base_namespace yang_namespace operation_word insert_word merge_word replace_word create_word delete_word remove_word first_word last_word before_word after_word key_word value_word hidden-the_row-Part-0 hidden-the_row-Elem-1 hidden
inserts = refl

-- `before` needs an anchor
inserts_without_anchor : merged (rule_elem (codes "b") (yang (codes "insert") (codes "before") ∷ []) [] ∷ [])
    ≡ fault BadAttribute (rule (codes "b")) (codes "insert" ∷ codes "rule" ∷ [])
unfolding node base_namespace yang_namespace operation_word insert_word merge_word replace_word create_word delete_word remove_word first_word last_word before_word after_word key_word value_word hidden-the_row-Part-0 hidden-the_row-Elem-1 hidden
inserts_without_anchor = refl

-- and predicates that have a reading, with `first` too
inserts_beside_what_has_no_reading : merged (rule_elem (codes "b") (yang (codes "insert") (codes "first") ∷ yang (codes "key") (codes "[") ∷ []) [] ∷ [])
    ≡ fault BadAttribute (rule (codes "b")) (codes "key" ∷ codes "rule" ∷ [])
unfolding node base_namespace yang_namespace operation_word insert_word merge_word replace_word create_word delete_word remove_word first_word last_word before_word after_word key_word value_word hidden-the_row-Part-0 hidden-the_row-Elem-1 hidden
inserts_beside_what_has_no_reading = refl

-- below `create` no element has a place
inserts_below_create : merged (element (codes "port") (operation (codes "create") ∷ []) (leaf (codes "id") (codes "1") ∷ []) ∷ rule_elem (codes "b") (yang (codes "insert") (codes "first") ∷ []) [] ∷ [])
    ≡ Ok (edit top (Merge None) ∷ edit (top ++ record { node = 8; keys = codes "1" ∷ [] } ∷ [])
    (Create (row (top ++ record { node = 8; keys = codes "1" ∷ [] } ∷ []) None ∷ row (top ++ record { node = 8; keys = codes "1" ∷ [] } ∷ record { node = 9; keys = [] } ∷ []) (Some (codes "1")) ∷ []))
    ∷ record (edit (rule (codes "b")) (Merge None)) { place = First } ∷ edit (below (rule (codes "b")) 2) (Merge (Some (codes "b"))) ∷ [])
unfolding node base_namespace yang_namespace operation_word insert_word merge_word replace_word create_word delete_word remove_word first_word last_word before_word after_word key_word value_word hidden-the_row-Part-0 hidden-the_row-Elem-1 hidden
inserts_below_create = refl

-- nor among other rows
inserts_among_rows : edits_read reading ReplaceByDefault (config (element (codes "top") [] (rule_elem (codes "b") (yang (codes "insert") (codes "first") ∷ []) [] ∷ []) ∷ []))
    ≡ fault UnknownAttribute (rule (codes "b")) (codes "insert" ∷ codes "rule" ∷ [])
unfolding node base_namespace yang_namespace operation_word insert_word merge_word replace_word create_word delete_word remove_word first_word last_word before_word after_word key_word value_word hidden-the_row-Part-0 hidden-the_row-Elem-1 hidden
inserts_among_rows = refl

-- a leaf given twice
leaf_twice : merged (rule_elem (codes "b") [] (leaf (codes "size") (codes "1") ∷ leaf (codes "size") (codes "2") ∷ []) ∷ [])
    ≡ fault BadElement (rule (codes "b")) (codes "size" ∷ [])
unfolding node base_namespace yang_namespace operation_word insert_word merge_word replace_word create_word delete_word remove_word first_word last_word before_word after_word key_word value_word hidden-the_row-Part-0 hidden-the_row-Elem-1 hidden
leaf_twice = refl

-- a node of a second case
second_case : merged (leaf (codes "x") (codes "1") ∷ leaf (codes "y") (codes "2") ∷ [])
    ≡ fault BadElement top (codes "y" ∷ [])
unfolding node base_namespace yang_namespace operation_word insert_word merge_word replace_word create_word delete_word remove_word first_word last_word before_word after_word key_word value_word hidden-the_row-Part-0 hidden-the_row-Elem-1 hidden
second_case = refl

-- an entry without its key; its path has no keys
missing_key : merged (element (codes "rule") [] (leaf (codes "size") (codes "bad") ∷ []) ∷ [])
    ≡ fault MissingKey (below top 1) (codes "name" ∷ [])
unfolding node base_namespace yang_namespace operation_word insert_word merge_word replace_word create_word delete_word remove_word first_word last_word before_word after_word key_word value_word hidden-the_row-Part-0 hidden-the_row-Elem-1 hidden
missing_key = refl

-- a key without a reading comes before a fault of a leaf that stands before it
bad_key : merged (element (codes "rule") [] (leaf (codes "size") (codes "bad") ∷ leaf (codes "name") (codes "bad") ∷ []) ∷ [])
    ≡ fault BadValue (below (below top 1) 2) []
unfolding node base_namespace yang_namespace operation_word insert_word merge_word replace_word create_word delete_word remove_word first_word last_word before_word after_word key_word value_word hidden-the_row-Part-0 hidden-the_row-Elem-1 hidden
bad_key = refl

-- a value that is read and has no reading
bad_value : merged (rule_elem (codes "b") [] (leaf (codes "size") (codes "bad") ∷ []) ∷ [])
    ≡ fault BadValue (below (rule (codes "b")) 3) []
unfolding node base_namespace yang_namespace operation_word insert_word merge_word replace_word create_word delete_word remove_word first_word last_word before_word after_word key_word value_word hidden-the_row-Part-0 hidden-the_row-Elem-1 hidden
bad_value = refl

-- that of a leaf-list entry is always read, and the path is without it
bad_entry : looked (rule_elem (codes "b") [] (element (codes "sub") [] (leaf (codes "tag") (codes "bad") ∷ []) ∷ []) ∷ [])
    ≡ fault BadValue (below (rule (codes "b")) 6 ++ record { node = 7; keys = [] } ∷ []) []
unfolding node base_namespace yang_namespace operation_word insert_word merge_word replace_word create_word delete_word remove_word first_word last_word before_word after_word key_word value_word hidden-the_row-Part-0 hidden-the_row-Elem-1 hidden
bad_entry = refl

-- a key has its entry's operation
key_with_operation : looked (element (codes "rule") (operation (codes "merge") ∷ []) (leaf_with (codes "name") (operation (codes "create") ∷ []) (codes "b") ∷ []) ∷ [])
    ≡ fault BadAttribute (below (rule (codes "b")) 2) (codes "operation" ∷ codes "name" ∷ [])
unfolding node base_namespace yang_namespace operation_word insert_word merge_word replace_word create_word delete_word remove_word first_word last_word before_word after_word key_word value_word hidden-the_row-Part-0 hidden-the_row-Elem-1 hidden
key_with_operation = refl

-- `operation` once
both_spellings : merged (rule_elem (codes "b") (operation (codes "merge") ∷ plain (codes "operation") (codes "merge") ∷ []) [] ∷ [])
    ≡ fault BadAttribute (rule (codes "b")) (codes "operation" ∷ codes "rule" ∷ [])
unfolding node base_namespace yang_namespace operation_word insert_word merge_word replace_word create_word delete_word remove_word first_word last_word before_word after_word key_word value_word hidden-the_row-Part-0 hidden-the_row-Elem-1 hidden
both_spellings = refl

-- `none` is no word of `operation`
no_operation : merged (rule_elem (codes "b") (operation (codes "none") ∷ []) [] ∷ [])
    ≡ fault BadAttribute (rule (codes "b")) (codes "operation" ∷ codes "rule" ∷ [])
unfolding node base_namespace yang_namespace operation_word insert_word merge_word replace_word create_word delete_word remove_word first_word last_word before_word after_word key_word value_word hidden-the_row-Part-0 hidden-the_row-Elem-1 hidden
no_operation = refl

-- an attribute of no meaning
unknown_attribute : merged (rule_elem (codes "b") (plain (codes "insert") (codes "first") ∷ []) [] ∷ [])
    ≡ fault UnknownAttribute (rule (codes "b")) (codes "insert" ∷ codes "rule" ∷ [])
unfolding node base_namespace yang_namespace operation_word insert_word merge_word replace_word create_word delete_word remove_word first_word last_word before_word after_word key_word value_word hidden-the_row-Part-0 hidden-the_row-Elem-1 hidden
unknown_attribute = refl

-- two elements for one entry are two edits
entry_twice : looked (rule_elem (codes "b") [] [] ∷ rule_elem (codes "b") [] [] ∷ [])
    ≡ Ok (edit top Nothing ∷ edit (rule (codes "b")) Nothing ∷ edit (below (rule (codes "b")) 2) Nothing ∷ edit (rule (codes "b")) Nothing ∷ edit (below (rule (codes "b")) 2) Nothing ∷ [])
unfolding node base_namespace yang_namespace operation_word insert_word merge_word replace_word create_word delete_word remove_word first_word last_word before_word after_word key_word value_word hidden-the_row-Part-0 hidden-the_row-Elem-1 hidden
entry_twice = refl

-- among rows one entry stands once
row_twice : edits_read reading ReplaceByDefault (config (element (codes "top") [] (rule_elem (codes "b") [] [] ∷ rule_elem (codes "b") [] [] ∷ []) ∷ []))
    ≡ fault BadElement top (codes "rule" ∷ [])
unfolding node base_namespace yang_namespace operation_word insert_word merge_word replace_word create_word delete_word remove_word first_word last_word before_word after_word key_word value_word hidden-the_row-Part-0 hidden-the_row-Elem-1 hidden
row_twice = refl

-- text directly in `config`
text_in_config : edits_read reading MergeByDefault (config (Chars (codes " a") ∷ []))
    ≡ Err (record { kind = BadElement; path = None; names = codes "config" ∷ [] })
unfolding node base_namespace yang_namespace operation_word insert_word merge_word replace_word create_word delete_word remove_word first_word last_word before_word after_word key_word value_word hidden-the_row-Part-0 hidden-the_row-Elem-1 hidden
text_in_config = refl

-- the rows of an inline configuration: entries of the user as they are given, others by their keys
rows : rows_read reading (config (element (codes "top") [] (element (codes "port") [] (leaf (codes "id") (codes "2") ∷ []) ∷ rule_elem (codes "b") [] [] ∷ element (codes "port") [] (leaf (codes "id") (codes "+1") ∷ []) ∷ rule_elem (codes "a") [] [] ∷ []) ∷ []))
    ≡ Ok (row (rule (codes "b")) None ∷ row (below (rule (codes "b")) 2) (Some (codes "b")) ∷ row (rule (codes "a")) None ∷ row (below (rule (codes "a")) 2) (Some (codes "a"))
    ∷ row (port (codes "1")) None ∷ row (below (port (codes "1")) 9) (Some (codes "1")) ∷ row (port (codes "2")) None ∷ row (below (port (codes "2")) 9) (Some (codes "2")) ∷ [])
unfolding node base_namespace yang_namespace operation_word insert_word merge_word replace_word create_word delete_word remove_word first_word last_word before_word after_word key_word value_word hidden-the_row-Part-0 hidden-the_row-Elem-1 hidden
rows = refl

-- in an inline configuration no operation is known
inline_operation : rows_read reading (config (element (codes "top") (operation (codes "merge") ∷ []) [] ∷ []))
    ≡ Err (record { kind = UnknownAttribute; path = Some (record { steps = top }); names = codes "operation" ∷ codes "top" ∷ [] })
unfolding node base_namespace yang_namespace operation_word insert_word merge_word replace_word create_word delete_word remove_word first_word last_word before_word after_word key_word value_word hidden-the_row-Part-0 hidden-the_row-Elem-1 hidden
inline_operation = refl

-- two elements for one container are two edits
container_twice : merged (element (codes "rule") [] (element (codes "sub") [] [] ∷ element (codes "sub") [] [] ∷ leaf (codes "name") (codes "b") ∷ []) ∷ [])
    ≡ Ok (edit top (Merge None) ∷ edit (rule (codes "b")) (Merge None) ∷ edit (below (rule (codes "b")) 6) (Merge None) ∷ edit (below (rule (codes "b")) 6) (Merge None) ∷ edit (below (rule (codes "b")) 2) (Merge (Some (codes "b"))) ∷ [])
unfolding node base_namespace yang_namespace operation_word insert_word merge_word replace_word create_word delete_word remove_word first_word last_word before_word after_word key_word value_word hidden-the_row-Part-0 hidden-the_row-Elem-1 hidden
container_twice = refl

-- a case that goes beside one that comes
case_for_case : merged (leaf_with (codes "x") (operation (codes "delete") ∷ []) [] ∷ leaf (codes "y") (codes "2") ∷ [])
    ≡ fault BadElement top (codes "y" ∷ [])
unfolding node base_namespace yang_namespace operation_word insert_word merge_word replace_word create_word delete_word remove_word first_word last_word before_word after_word key_word value_word hidden-the_row-Part-0 hidden-the_row-Elem-1 hidden
case_for_case = refl

-- text beside elements, and a child element in a leaf
text_beside : merged (rule_elem (codes "b") [] (Chars (codes "a") ∷ []) ∷ [])
    ≡ fault BadElement top (codes "rule" ∷ [])
unfolding node base_namespace yang_namespace operation_word insert_word merge_word replace_word create_word delete_word remove_word first_word last_word before_word after_word key_word value_word hidden-the_row-Part-0 hidden-the_row-Elem-1 hidden
text_beside = refl

element_in_leaf : merged (element (codes "x") [] (element (codes "y") [] [] ∷ []) ∷ [])
    ≡ fault BadElement top (codes "x" ∷ [])
unfolding node base_namespace yang_namespace operation_word insert_word merge_word replace_word create_word delete_word remove_word first_word last_word before_word after_word key_word value_word hidden-the_row-Part-0 hidden-the_row-Elem-1 hidden
element_in_leaf = refl

-- no such element of a module, and an element in no namespace
unknown_element : merged (element (codes "z") [] [] ∷ [])
    ≡ fault UnknownElement top (codes "z" ∷ [])
unfolding node base_namespace yang_namespace operation_word insert_word merge_word replace_word create_word delete_word remove_word first_word last_word before_word after_word key_word value_word hidden-the_row-Part-0 hidden-the_row-Elem-1 hidden
unknown_element = refl

no_namespace : edits_read reading MergeByDefault (config (Child (record { name = record { space = []; name = codes "top" }; bounds = []; attrs = []; parts = [] }) ∷ []))
    ≡ Err (record { kind = UnknownNamespace; path = None; names = codes "top" ∷ [] ∷ [] })
unfolding node base_namespace yang_namespace operation_word insert_word merge_word replace_word create_word delete_word remove_word first_word last_word before_word after_word key_word value_word hidden-the_row-Part-0 hidden-the_row-Elem-1 hidden
no_namespace = refl

-- `value` names no entry of a list, but `insert` comes first
wrong_anchor : merged (rule_elem (codes "b") (yang (codes "insert") (codes "before") ∷ yang (codes "value") (codes "a") ∷ []) [] ∷ [])
    ≡ fault BadAttribute (rule (codes "b")) (codes "insert" ∷ codes "rule" ∷ [])
unfolding node base_namespace yang_namespace operation_word insert_word merge_word replace_word create_word delete_word remove_word first_word last_word before_word after_word key_word value_word hidden-the_row-Part-0 hidden-the_row-Elem-1 hidden
wrong_anchor = refl

-- ---- the paths that a payload names
asks : List Part → Asked
asks parts = EditConfig Candidate MergeByDefault Set Stop (config (element (codes "top") [] parts ∷ []))

names : List Part → List Step → Bool
names parts steps = names_path_read reading (asks parts) (record { steps = steps })

names_entry : names (rule_elem (codes "b") [] [] ∷ []) (rule (codes "b")) ≡ true
unfolding node asks names base_namespace yang_namespace operation_word insert_word merge_word replace_word create_word delete_word remove_word first_word last_word before_word after_word key_word value_word hidden-the_row-Part-0 hidden-the_row-Elem-1 hidden
names_entry = refl

names_above : names (rule_elem (codes "b") [] [] ∷ []) top ≡ true
unfolding node asks names base_namespace yang_namespace operation_word insert_word merge_word replace_word create_word delete_word remove_word first_word last_word before_word after_word key_word value_word hidden-the_row-Part-0 hidden-the_row-Elem-1 hidden
names_above = refl

names_no_other_entry : names (rule_elem (codes "b") [] [] ∷ []) (rule (codes "a")) ≡ false
unfolding node asks names base_namespace yang_namespace operation_word insert_word merge_word replace_word create_word delete_word remove_word first_word last_word before_word after_word key_word value_word hidden-the_row-Part-0 hidden-the_row-Elem-1 hidden
names_no_other_entry = refl

names_no_list : names (rule_elem (codes "b") [] [] ∷ []) (below top 1) ≡ false
unfolding node asks names base_namespace yang_namespace operation_word insert_word merge_word replace_word create_word delete_word remove_word first_word last_word before_word after_word key_word value_word hidden-the_row-Part-0 hidden-the_row-Elem-1 hidden
names_no_list = refl

-- the list is named where an entry lacks its key
names_fault : names (element (codes "rule") [] [] ∷ []) (below top 1) ≡ true
unfolding node asks names base_namespace yang_namespace operation_word insert_word merge_word replace_word create_word delete_word remove_word first_word last_word before_word after_word key_word value_word hidden-the_row-Part-0 hidden-the_row-Elem-1 hidden
names_fault = refl
