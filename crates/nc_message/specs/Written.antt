-- The one text that the server writes for a tree, with no declaration and no white space added
-- (XML 1.0, 2.4 and 3.1; Namespaces in XML 1.0, 3 and 6.2).
use Rattle.std.specs.Prelude.{ℕ, List, [], ◌∷◌, ◌++◌, ◌==◌, Bool, true, false, if◌then◌else◌, map}
use Rattle.std.specs.List.{flat_map, list_any}
use Rattle.std.specs.Str.{bytes_eq}
use Rattle.nc_names.specs.declared.name.Bound.{Bound}
use Rattle.nc_names.specs.declared.name.QName.{QName}
use Rattle.nc_names.specs.Signs as signs
use Rattle.nc_message.specs.declared.tree.Attr.{Attr}
use Rattle.nc_message.specs.declared.tree.Elem.{Elem}
use Rattle.nc_message.specs.declared.tree.Tree.{Tree}
use Rattle.nc_message.specs.declared.tree.Part.{Part, Child', Chars, Row_of-Part, end_of-Part, more_of-Part}
use Rattle.nc_message.specs.declared.tree.Part.TheBlock.{Row_of-Elem, end_of-Elem, more_of-Elem, items-the_row-Part}
use Rattle.nc_message.specs.Marks.{ampersand, less_than, greater_than, quotation_mark, carriage_return, tab, line_feed, default_namespace, prefixed_namespace, value_start, empty_end, end_tag, xml_prefix}

-- in text `&`, `<`, `>` and CR are written as references
abbrev pub text_char : ℕ → List ℕ
text_char c =
    if c == signs.ampersand then ampersand
    else (if c == signs.less_than then less_than
    else (if c == signs.greater_than then greater_than
    else (if c == signs.carriage_return then carriage_return else c ∷ [])))

-- in an attribute value `"`, tab and LF are too
abbrev pub value_char : ℕ → List ℕ
value_char c =
    if c == signs.quote then quotation_mark
    else (if c == signs.tab then tab else (if c == signs.line_feed then line_feed else text_char c))

-- `="value"`
abbrev pub quoted : List ℕ → List ℕ
quoted value = value_start ++ flat_map value_char value ++ signs.quote ∷ []

-- an element in another namespace than the one above it declares its own
abbrev pub default_declaration : List ℕ → List ℕ → List ℕ
default_declaration above space = if bytes_eq above space then [] else default_namespace ++ quoted space

-- ` xmlns:prefix="namespace"`
abbrev pub prefix_declaration : Bound → List ℕ
prefix_declaration bound = prefixed_namespace ++ bound.prefix ++ quoted bound.space

-- a prefix that has to be declared before it is used
abbrev pub is_declarable : List ℕ → Bool
is_declarable [] = false
is_declarable (c ∷ cs) = if bytes_eq (c ∷ cs) xml_prefix then false else true

-- what declares a prefix at its use, where it has to be declared and was not seen before
abbrev pub declaration : List (List ℕ) → Bound → List ℕ
declaration seen bound =
    if is_declarable bound.prefix
    then (if list_any (bytes_eq bound.prefix) seen then [] else prefix_declaration bound)
    else []

-- the declarations at the uses of prefixes, in their order, so each stands at the first use
abbrev pub declarations : List (List ℕ) → List Bound → List ℕ
declarations seen [] = []
declarations seen (bound ∷ more) = declaration seen bound ++ declarations (seen ++ bound.prefix ∷ []) more

-- a prefix before its name, and nothing where there is none
abbrev pub prefixed : List ℕ → List ℕ
prefixed [] = []
prefixed (c ∷ cs) = c ∷ cs ++ signs.colon ∷ []

-- ` name="value"`, with its prefix if it has one
abbrev pub attribute : Attr → List ℕ
attribute a = signs.blank ∷ prefixed a.prefix ++ a.name.name ++ quoted a.value

-- the part is text
abbrev pub is_chars : Part → Bool
is_chars (Chars t) = true
is_chars (Child' u e) = false

-- an element has no content
abbrev pub is_empty : List Part → Bool
is_empty [] = true
is_empty (p ∷ ps) = false

-- the prefix of an attribute, and the namespace for which it stands
abbrev pub use_of : Attr → Bound
use_of a = record { prefix = a.prefix; space = a.name.space }

-- what an element's attributes use, and then, where it has text, all that is bound in it
abbrev pub uses : List Bound → List Attr → List Part → List Bound
uses bounds attrs parts = map use_of attrs ++ (if list_any is_chars parts then bounds else [])

-- a start tag up to its end, below an element of the namespace `above`, which declares what these uses need
abbrev pub start_tag : List ℕ → QName → List Attr → List Bound → List ℕ
start_tag above name attrs used =
    signs.less_than ∷ name.name ++ default_declaration above name.space
    ++ declarations [] used ++ flat_map attribute attrs

-- that of an element
abbrev pub start_of : List ℕ → QName → List Bound → List Attr → List Part → List ℕ
start_of above name bounds attrs parts = start_tag above name attrs (uses bounds attrs parts)

-- an end tag
abbrev pub end_of : QName → List ℕ
end_of name = end_tag ++ name.name ++ signs.greater_than ∷ []

-- an element around the text of its parts
abbrev pub element : List ℕ → QName → List Bound → List Attr → List Part → List ℕ → List ℕ
element above name bounds attrs parts content =
    start_of above name bounds attrs parts
    ++ (if is_empty parts then empty_end else signs.greater_than ∷ content ++ end_of name)

abbrev mutual
  -- a part of an element of a namespace
  pub written_part : List ℕ → Part → List ℕ
  written_part space (Chars text) = flat_map text_char text
  written_part space (Child' _ child) = written_child space child

  -- an element below one of a namespace
  pub written_child : List ℕ → {n : _} → Row_of-Elem n → List ℕ
  written_child above end_of-Elem = []
  written_child above (more_of-Elem name bounds attrs shape parts none) =
      element above name bounds attrs (items-the_row-Part _ parts) (written_parts name.space parts)

  -- the parts of an element of a namespace
  pub written_parts : List ℕ → {n : _} → Row_of-Part n → List ℕ
  written_parts space end_of-Part = []
  written_parts space (more_of-Part part more) = written_part space part ++ written_parts space more

-- an element below one of a namespace
abbrev pub written_elem : List ℕ → Elem → List ℕ
written_elem above e = element above e.name e.bounds e.attrs e.parts (flat_map (written_part e.name.space) e.parts)

-- a whole message: no namespace is declared above its root
abbrev pub written : Tree → List ℕ
written tree = written_elem [] tree.root
