-- The shape of elements of NETCONF's own (RFC 6241 3.1).
use Rattle.std.specs.Prelude.{ℕ, List, [], ◌∷◌, Option, Some, None, Bool, false, ◌&&◌, filter}
use Rattle.std.specs.Str.{bytes_eq}
use Rattle.nc_message.specs.declared.tree.Elem.{Elem}
use Rattle.nc_message.specs.declared.tree.Part.{Part, out-Part}
use Rattle.nc_message.specs.declared.tree.Part.TheOpen.{Part-F, Child, Chars}
use Rattle.nc_protocol.specs.Words.{base_namespace}

-- an element of that name in the base namespace
abbrev pub is_base : List ℕ → Elem → Bool
is_base name e = bytes_eq e.name.space base_namespace && bytes_eq e.name.name name

-- the element that a part is, if it is one
abbrev pub elem_in : Part-F Part Elem → Option Elem
elem_in (Child e) = Some e
elem_in (Chars text) = None

-- the element that a part is
abbrev pub elem_of : Part → Option Elem
elem_of p = elem_in (out-Part p)

-- the element that is all there is
abbrev pub alone : List Part → Option Elem
alone [] = None
alone (p ∷ []) = elem_of p
alone (p ∷ q ∷ more) = None

-- a part that is an element of that name in the base namespace
abbrev pub is_named_in : List ℕ → Part-F Part Elem → Bool
is_named_in name (Child e) = is_base name e
is_named_in name (Chars text) = false

-- a part is an element of the base namespace with that name
abbrev pub is_named : List ℕ → Part → Bool
is_named name p = is_named_in name (out-Part p)

-- the one child of that name
abbrev pub only_named : List ℕ → Elem → Option Elem
only_named name e = alone (filter (is_named name) e.parts)

-- a content that is one text, or nothing
abbrev pub text_in : Part-F Part Elem → Option (List ℕ)
text_in (Child e) = None
text_in (Chars text) = Some text

-- the text of a content without elements
abbrev pub text_of : List Part → Option (List ℕ)
text_of [] = Some []
text_of (p ∷ []) = text_in (out-Part p)
text_of (p ∷ q ∷ more) = None
