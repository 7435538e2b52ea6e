-- The text of rows, piece by piece: what is written of an element's start, of its content and of its end.
use Rattle.std.specs.Prelude.{◌≡◌, ◌+◌, ℕ, Bool, true, false, if◌then◌else◌, List, [], ◌∷◌, ◌++◌, length, Option, Some, None, Result}
use Rattle.std.specs.List.{flat_map}
use Rattle.std.specs.Option.{option_map_or}
use Rattle.nc_names.specs.Appending.{Appends}
use Rattle.nc_names.specs.Signs.{greater_than}
use Rattle.nc_names.specs.declared.name.QName.{QName}
use Rattle.nc_names.specs.declared.path.Row.{Row}
use Rattle.nc_message.specs.Marks.{empty_end}
use Rattle.nc_message.specs.Written.{end_of, start_tag, text_char, written_part}
use Rattle.nc_schema.specs.Tables.{Tables}
use Rattle.nc_schema.specs.declared.node.Node.{Node}
use Rattle.nc_protocol.specs.ModuleNames.{value_bounds}
use Rattle.nc_protocol.specs.Printed.{parts_at, run_parts}

-- a value that is written as text: one that is not empty
abbrev pub some_text : Option (List ℕ) → Option (List ℕ)
some_text (Some (sign ∷ signs)) = Some (sign ∷ signs)
some_text value = None

-- an element's text
abbrev pub chars_of : Option (List ℕ) → List ℕ
chars_of text = option_map_or (flat_map text_char) text []

-- the start tag of a data node's element, and its text. Where it has none it binds no names
abbrev pub opening : List ℕ → Tables → ℕ → Node → Option (List ℕ) → List ℕ
opening above tables number node text =
    start_tag above node.name [] (option_map_or (value_bounds tables number) text []) ++ greater_than ∷ chars_of text

-- there is nothing in an element
abbrev pub is_bare : Option (List ℕ) → List ℕ → Bool
is_bare None [] = true
is_bare text inner = false

-- an element after the name, the declarations and the attributes of its start tag: its text, what is written of the
-- elements in it, and its end
abbrev pub ending : QName → Option (List ℕ) → List ℕ → List ℕ
ending name text inner =
    if is_bare text inner then empty_end else greater_than ∷ (chars_of text ++ inner) ++ end_of name

-- an element is ended that was written as one with content, up to what stands in it
abbrev pub Ends : {T E : Type 0} → Result T E → List ℕ → List ℕ → QName → Option (List ℕ) → ℕ → Type 0
Ends result old new name text inside =
    (before inner : List ℕ) → old ≡ before ++ greater_than ∷ (chars_of text ++ inner) →
    inside ≡ length before + 1 + length (chars_of text) → Appends result before new (ending name text inner)

-- the text of the elements of rows at a depth, in an element of the namespace
abbrev pub parts_text : List ℕ → Tables → (levels : ℕ) → ℕ → List Row → List ℕ
parts_text space tables levels depth rows = flat_map (written_part space) (parts_at tables levels depth rows)

-- that of the element of rows that stand together
abbrev pub run_text : List ℕ → Tables → (levels : ℕ) → ℕ → List Row → List ℕ
run_text space tables levels depth rows =
    flat_map (written_part space) (run_parts tables (parts_at tables levels (depth + 1)) depth rows)
