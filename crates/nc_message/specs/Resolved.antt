-- What a start tag means among the bindings outside of it (Namespaces in XML 1.0, 3 to 6; XML 1.0, 3.1).
use Rattle.std.specs.Prelude.{ℕ, Bool, true, false, not, ◌||◌, ◌&&◌, List, [], ◌∷◌, ◌++◌, codes, Option, Some, None, option_and_then, option_map, is_some, if◌then◌else◌}
use Rattle.std.specs.List.{list_any, list_all}
use Rattle.std.specs.Str.{chars}
use Rattle.nc_names.specs.declared.name.Bound.{Bound}
use Rattle.nc_names.specs.declared.name.QName.{QName}
use Rattle.nc_message.specs.declared.tree.Attr.{Attr}
use Rattle.nc_names.specs.Same.{is_same_text, is_same_name}
use Rattle.nc_names.specs.Bindings.{space_of}
use Rattle.nc_message.specs.Bindings.{Declared, declares, inside, is_empty}
use Rattle.nc_message.specs.Tokens.{Name, Attribute, Tag}
use Rattle.nc_message.specs.Texts.{value_of, is_char, onto}

-- The bindings that a tag declares.

-- the prefix or name of declarations
abbrev pub is_xmlns : List ℕ → Bool
is_xmlns text = is_same_text text (codes "xmlns")

-- the prefix that is bound without a declaration (Namespaces in XML 1.0, 3)
abbrev pub is_xml : List ℕ → Bool
is_xml text = is_same_text text (codes "xml")

-- and its namespace
unfoldable pub xml_space : List ℕ
xml_space = codes "http://www.w3.org/XML/1998/namespace"

-- `xmlns` and `xmlns:p` declare
abbrev pub is_declaration : Name → Bool
is_declaration n = is_xmlns n.prefix || (is_empty n.prefix && is_xmlns n.local)

-- the prefix that is declared; that of the default namespace is empty
abbrev pub declared_prefix : Name → List ℕ
declared_prefix n = if is_empty n.prefix then [] else n.local

-- `xmlns` is never declared, and `xml` for its own namespace alone
abbrev pub is_reserved : (prefix space : List ℕ) → Bool
is_reserved prefix space = is_xmlns prefix || (is_xml prefix && not (is_same_text space xml_space))

-- one declaration more; an empty one takes the default namespace away, and no other
abbrev pub bind : Declared → (prefix space : List ℕ) → Option Declared
bind d prefix space =
    if declares d prefix || is_reserved prefix space then None
    else if is_empty space then (if is_empty prefix then Some (record { own = d.own; undeclares = true }) else None)
    else Some (record { own = d.own ++ record { prefix = prefix; space = space } ∷ []; undeclares = d.undeclares })

-- the declaration of an attribute, beside those before it
abbrev pub declare : Declared → Attribute → Option Declared
declare d a = option_and_then (bind d (declared_prefix a.name)) (value_of a.value)

-- the declarations among attributes; `None` where one of them may not stand
abbrev pub declared : Declared → List Attribute → Option Declared
declared d [] = Some d
declared d (a ∷ more) =
    if is_declaration a.name then option_and_then (λ e. declared e more) (declare d a) else declared d more

-- no declaration so far
abbrev pub nothing : Declared
nothing = record { own = []; undeclares = false }

-- Prefixes without a binding, whatever else is wrong with the tag.

-- an attribute of the tag declares the prefix
abbrev pub is_declared_by : List Attribute → List ℕ → Bool
is_declared_by attributes prefix = list_any (λ a. is_xmlns a.name.prefix && is_same_text prefix a.name.local) attributes

-- the prefix stands for no namespace in the tag
abbrev pub is_unbound : List Bound → List Attribute → List ℕ → Bool
is_unbound outer attributes prefix =
    not (is_empty prefix) && not (is_xml prefix)
    && (is_xmlns prefix || (not (is_declared_by attributes prefix) && not (is_some (space_of prefix outer))))

-- the prefix of the tag or of one of its attributes does
abbrev pub has_unbound : List Bound → Tag → Bool
has_unbound outer tag =
    is_unbound outer tag.attributes tag.name.prefix
    || list_any (λ a. not (is_declaration a.name) && is_unbound outer tag.attributes a.name.prefix) tag.attributes

-- Names with their namespaces.

-- the namespace for which a prefix stands
abbrev pub space_for : List Bound → (prefix : List ℕ) → Option (List ℕ)
space_for bounds prefix = if is_xml prefix then Some xml_space else space_of prefix bounds

-- the default namespace is no attribute's (Namespaces in XML 1.0, 6.2)
abbrev pub attr_space : List Bound → (prefix : List ℕ) → Option (List ℕ)
attr_space bounds prefix = if is_empty prefix then Some [] else space_for bounds prefix

-- an element without a prefix is in no namespace where there is no default one (6.2)
abbrev pub default_space : Option (List ℕ) → List ℕ
default_space None = []
default_space (Some space) = space

-- the namespace of an element's name
abbrev pub elem_space : List Bound → (prefix : List ℕ) → Option (List ℕ)
elem_space bounds prefix =
    if is_empty prefix then Some (default_space (space_of [] bounds)) else space_for bounds prefix

-- an attribute with its namespace and its value
abbrev pub attr_of : List Bound → Attribute → Option Attr
attr_of bounds a =
    option_and_then
    (λ space. option_map
    (λ value. record { name = record { space = space; name = a.name.local }; prefix = a.name.prefix; value = value })
    (value_of a.value))
    (attr_space bounds a.name.prefix)

-- the attributes but the declarations
abbrev pub attrs_of : List Bound → List Attribute → Option (List Attr)
attrs_of bounds [] = Some []
attrs_of bounds (a ∷ more) =
    if is_declaration a.name then attrs_of bounds more
    else option_and_then (λ x. onto (x ∷ []) (attrs_of bounds more)) (attr_of bounds a)

-- no attribute has the name of one before it (Namespaces in XML 1.0, 6.3)
abbrev pub differ_from : (before : List QName) → List Attr → Bool
differ_from before [] = true
differ_from before (a ∷ more) = not (list_any (is_same_name a.name) before) && differ_from (before ++ a.name ∷ []) more

-- the characters of names may stand in a message
abbrev pub is_allowed_name : Name → Bool
is_allowed_name n = list_all is_char (chars n.prefix) && list_all is_char (chars n.local)

-- so may all names of the tag
abbrev pub are_allowed_names : Tag → Bool
are_allowed_names tag = is_allowed_name tag.name && list_all (λ a. is_allowed_name a.name) tag.attributes

-- The element that a tag opens, where the tag is well formed among the bindings outside of it: its name as it
-- is written and as it is resolved, the bindings in force in it, and its attributes.

-- what a start tag says of its element
pub record Head : Type 0 where
  pub prefix : List ℕ
  pub name : QName
  pub bounds : List Bound
  pub attrs : List Attr

-- the head of this tag, its namespace and its attributes being known
abbrev pub head_of : List Bound → Tag → (space : List ℕ) → List Attr → Head
head_of bounds tag space attrs =
    record {
      prefix = tag.name.prefix;
      name = record { space = space; name = tag.name.local };
      bounds = bounds;
      attrs = attrs;
    }

-- the element, where these bindings are in force in it
abbrev pub opened_in : List Bound → Tag → Option Head
opened_in bounds tag =
    option_and_then
    (λ space. option_and_then
    (λ attrs. if differ_from [] attrs then Some (head_of bounds tag space attrs) else None)
    (attrs_of bounds tag.attributes))
    (elem_space bounds tag.name.prefix)

-- the element, where these are the bindings outside of it
abbrev pub opened : List Bound → Tag → Option Head
opened outer tag =
    if are_allowed_names tag
    then option_and_then (λ d. opened_in (inside outer d) tag) (declared nothing tag.attributes)
    else None
