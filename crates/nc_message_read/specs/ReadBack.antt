-- What is read of a written tree: the same names, attributes and text, where they may stand in a message
-- (XML 1.0 2.2, 2.3, 3.1; Namespaces in XML 1.0 3, 4, 6).
use Rattle.std.specs.Prelude.{◌≡◌, ℕ, zero, suc, Bool, true, false, not, ◌&&◌, List, [], ◌∷◌, ◌++◌, if◌then◌else◌}
use Rattle.std.specs.List.{All, AllPairs, list_all, list_any}
use Rattle.std.specs.Str.{bytes_eq}
use Rattle.nc_names.specs.declared.name.Bound.{Bound}
use Rattle.nc_names.specs.declared.name.QName.{QName}
use Rattle.nc_names.specs.Limits.{element_depth}
use Rattle.nc_names.specs.Same.{is_same_text}
use Rattle.nc_message.specs.declared.tree.Attr.{Attr}
use Rattle.nc_message.specs.declared.tree.Elem.{Elem}
use Rattle.nc_message.specs.declared.tree.Tree.{Tree}
use Rattle.nc_message.specs.declared.tree.Part.{Part, Child', Chars, Row_of-Part, end_of-Part, more_of-Part}
use Rattle.nc_message.specs.declared.tree.Part.TheVariants.{Child}
use Rattle.nc_message.specs.declared.tree.Part.TheBlock.{Row_of-Elem, end_of-Elem, more_of-Elem, items-the_row-Part}
use Rattle.nc_message.specs.Bindings.{Declared, inside, is_empty}
use Rattle.nc_message.specs.Names.{begins_name, is_in_name}
use Rattle.nc_message.specs.Pieces.{first_passes}
use Rattle.nc_message.specs.Resolved.{differ_from, is_declaration, is_reserved, is_xml, xml_space}
use Rattle.nc_message.specs.Spells.{Bit, Words, Inner, joined}
use Rattle.nc_message.specs.Texts.{is_allowed}
use Rattle.nc_message.specs.Written.{is_declarable, uses}

-- The tree that is read of a written one.

-- the default namespace that a start tag declares: its element's, where it is another one than above and not empty
abbrev pub own_default : (above space : List ℕ) → List Bound
own_default above space =
    if bytes_eq above space then [] else (if is_empty space then [] else record { prefix = []; space = space } ∷ [])

-- a binding is declared at its first use
abbrev pub is_first_use : List (List ℕ) → Bound → Bool
is_first_use seen bound = is_declarable bound.prefix && not (list_any (bytes_eq bound.prefix) seen)

-- of the uses of prefixes the first of each that has to be declared
abbrev pub first_uses : (seen : List (List ℕ)) → List Bound → List Bound
first_uses seen [] = []
first_uses seen (bound ∷ more) =
    (if is_first_use seen bound then bound ∷ [] else []) ++ first_uses (seen ++ bound.prefix ∷ []) more

-- what a written start tag declares
abbrev pub declared_in : (above : List ℕ) → QName → List Bound → List Attr → List Part → Declared
declared_in above name bounds attrs parts = record {
  own = own_default above name.space ++ first_uses [] (uses bounds attrs parts);
  undeclares = not (bytes_eq above name.space) && is_empty name.space;
}

-- an element as it is read: its parts are the text and the elements that stand in it, adjacent text being one
abbrev pub read_elem : List Bound → QName → List Attr → List Bit → Elem
read_elem bounds name attrs bits = record { name = name; bounds = bounds; attrs = attrs; parts = joined [] bits }

-- an element without a name and content
abbrev pub nothing : Elem
nothing = record { name = record { space = []; name = [] }; bounds = []; attrs = []; parts = [] }

abbrev mutual
  -- a part below an element of a namespace, in which these bindings are in force
  pub read_part : (space : List ℕ) → List Bound → Part → Bit
  read_part space outer (Chars text) = Words text
  read_part space outer (Child' _ child) = Inner (read_child space outer child)

  pub read_child : (above : List ℕ) → List Bound → {n : _} → Row_of-Elem n → Elem
  read_child above outer end_of-Elem = nothing
  read_child above outer (more_of-Elem name bounds attrs shape parts none) =
      read_elem (inside outer (declared_in above name bounds attrs (items-the_row-Part _ parts))) name attrs
      (read_parts name.space (inside outer (declared_in above name bounds attrs (items-the_row-Part _ parts))) parts)

  pub read_parts : (space : List ℕ) → List Bound → {n : _} → Row_of-Part n → List Bit
  read_parts space outer end_of-Part = []
  read_parts space outer (more_of-Part part more) = read_part space outer part ∷ read_parts space outer more

-- the only element among what is read
abbrev pub elem_in : Bit → Elem
elem_in (Inner e) = e
elem_in bit = nothing

-- the tree that is read of a written one
abbrev pub read_back : Tree → Tree
read_back tree = record { root = elem_in (read_part [] [] (Child tree.root)) }

-- Where a tree may be written so.

-- a name of XML without a colon
abbrev pub is_name : List ℕ → Bool
is_name name = first_passes begins_name name && (list_all is_in_name name && is_allowed name)

-- a prefix that is declared at its use has a namespace, and is `xmlns` or `xml` nowhere
pub record IsDeclarable (bound : Bound) : Type 0 where
  pub prefix : is_name bound.prefix ≡ true
  pub space : is_allowed bound.space ≡ true
  pub some : is_empty bound.space ≡ false
  pub free : is_reserved bound.prefix bound.space ≡ false

-- a prefix that is declared may be
abbrev pub IsProperUse : Bound → Type 0
IsProperUse bound = is_declarable bound.prefix ≡ true → IsDeclarable bound

-- an attribute has a prefix exactly where it has a namespace; `xml` is the prefix of its own namespace alone, and none
-- is named as a declaration is
pub record IsProperAttr (attr : Attr) : Type 0 where
  pub name : is_name attr.name.name ≡ true
  pub value : is_allowed attr.value ≡ true
  pub plain : is_empty attr.prefix ≡ true → attr.name.space ≡ []
  pub xml : is_xml attr.prefix ≡ true → attr.name.space ≡ xml_space
  pub apart : is_declaration (record { prefix = attr.prefix; local = attr.name.name }) ≡ false

-- no prefix is needed for two namespaces
abbrev pub AgreeOn : Bound → Bound → Type 0
AgreeOn one other = is_same_text one.prefix other.prefix ≡ true → one.space ≡ other.space

-- an element may be written, by its parts
pub record IsProperElem (name : QName) (bounds : List Bound) (attrs : List Attr) (parts : List Part) : Type 0 where
  pub local : is_name name.name ≡ true
  pub space : is_allowed name.space ≡ true
  pub proper : All IsProperAttr attrs
  pub used : All IsProperUse (uses bounds attrs parts)
  pub agree : AllPairs AgreeOn (uses bounds attrs parts)
  -- no two attributes have one name
  pub differ : differ_from [] attrs ≡ true

abbrev mutual
  -- a part, with at most so many elements inside one another
  pub IsProperPart : (levels : ℕ) → Part → Type 0
  IsProperPart levels (Chars text) = is_allowed text ≡ true
  IsProperPart levels (Child' _ child) = IsProperChild levels child

  pub IsProperChild : (levels : ℕ) → {n : _} → Row_of-Elem n → Type 0
  IsProperChild levels end_of-Elem = ⊥
  IsProperChild zero (more_of-Elem name bounds attrs shape parts none) = ⊥
  IsProperChild (suc levels) (more_of-Elem name bounds attrs shape parts none) =
      IsProperElem name bounds attrs (items-the_row-Part _ parts) × AreProperParts levels parts

  pub AreProperParts : (levels : ℕ) → {n : _} → Row_of-Part n → Type 0
  AreProperParts levels end_of-Part = Unit {0}
  AreProperParts levels (more_of-Part part more) = IsProperPart levels part × AreProperParts levels more

-- its names, prefixes and characters may stand in a message, and at most 64 of its elements stand inside one another
abbrev pub IsProperTree : Tree → Type 0
IsProperTree tree = IsProperPart element_depth (Child tree.root)
