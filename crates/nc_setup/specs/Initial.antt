-- The initial configuration.
use Rattle.std.specs.Prelude.{◌≡◌, ◌&&◌, ◌||◌, ℕ, Bool, true, false, List, [], Option, Some, None, Ok, Err}
use Rattle.nc_names.specs.Same.{is_same_text}
use Rattle.nc_names.specs.declared.name.QName.{QName}
use Rattle.nc_names.specs.declared.path.Row.{Row}
use Rattle.nc_message.specs.Faults.{IsFault, SpellsTree}
use Rattle.nc_message.specs.declared.tree.Tree.{Tree}
use Rattle.nc_message.specs.declared.tree.Why.{Why}
use Rattle.nc_protocol.specs.Payload.{rows_of}
use Rattle.nc_protocol.specs.Refusals.{violation_in}
use Rattle.nc_protocol.specs.Words.{base_namespace, config_word, data_word}
use Rattle.nc_protocol.specs.declared.request.Cause.{Cause}
use Rattle.nc_schema.specs.Tables.{Tables}

-- the name of its root element: `config` or `data` of the base namespace (RFC 6241 3.1, 7.1, 7.2)
abbrev pub is_root : QName → Bool
is_root name =
    is_same_text name.space base_namespace
    && (is_same_text name.name config_word || is_same_text name.name data_word)

-- a text spells this tree, with such a root
pub record IsRead (text : List ℕ) (tree : Tree) : Type 0 where
  pub spells : SpellsTree text tree
  pub root : is_root tree.root.name ≡ true

-- the rows that the text holds (RFC 6241 7.3); where there is no text there are none
abbrev pub IsInitial : Tables → Option (List ℕ) → List Row → Type 0
IsInitial schema None rows = rows ≡ []
IsInitial schema (Some text) rows = (tree : Tree) × IsRead text tree × (rows_of schema tree.root ≡ Ok rows)

-- a text is not read: it spells no tree, and that shows at this place; or its root is another, which is the place 0
pub data IsUnread (text : List ℕ) : ℕ → Type 0 where
  SpellsNone : (at : ℕ) (why : Why) → IsFault text at why → IsUnread text at
  HasAnotherRoot : (tree : Tree) → SpellsTree text tree → is_root tree.root.name ≡ false → IsUnread text 0

-- it is read and refused: its first fault as data of the schema, or the first constraint that its rows break (RFC
-- 7950 8.1)
pub data IsRefusedFor (schema : Tables) (initial : Option (List ℕ)) (cause : Cause) : Type 0 where
  HasNoRows : (text : List ℕ) (tree : Tree) → initial ≡ Some text → IsRead text tree
      → rows_of schema tree.root ≡ Err cause → IsRefusedFor schema initial cause
  IsNotValid : (rows : List Row) → IsInitial schema initial rows → violation_in schema rows ≡ Some cause
      → IsRefusedFor schema initial cause
