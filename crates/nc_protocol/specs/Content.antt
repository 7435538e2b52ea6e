-- The child elements of an element (XML 1.0, 3.1), and elements that the server makes.
use Rattle.std.specs.Prelude.{ℕ, List, [], ◌∷◌}
use Rattle.std.specs.List.{filter_map}
use Rattle.nc_names.specs.declared.name.QName.{QName}
use Rattle.nc_message.specs.declared.tree.Elem.{Elem}
use Rattle.nc_message.specs.declared.tree.Part.{Part}
use Rattle.nc_message.specs.declared.tree.Part.TheVariants.{Child, Chars}
use Rattle.nc_protocol.specs.Elements.{elem_of}
use Rattle.nc_protocol.specs.Words.{base_namespace, partial_lock_namespace}

-- the child elements, in document order
abbrev pub children : List Part → List Elem
children parts = filter_map elem_of parts

-- names of the base namespace (RFC 6241 3.1)
abbrev pub base_name : List ℕ → QName
base_name name = record { space = base_namespace; name = name }

-- names of the namespace of partial locks (RFC 5717 4)
abbrev pub partial_lock_name : List ℕ → QName
partial_lock_name name = record { space = partial_lock_namespace; name = name }

-- an element without attributes
abbrev pub made_element : QName → List Part → Elem
made_element name parts = record { name = name; bounds = []; attrs = []; parts = parts }

-- a text as content
abbrev pub text_parts : List ℕ → List Part
text_parts [] = []
text_parts (c ∷ cs) = Chars (c ∷ cs) ∷ []

-- an element round a text, as a part
abbrev pub text_part : QName → List ℕ → Part
text_part name text = Child (made_element name (text_parts text))
