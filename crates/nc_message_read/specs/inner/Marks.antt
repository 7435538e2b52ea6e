-- Marks of namespaces: short texts that tell them apart.
use Rattle.std.specs.Prelude.{◌≡◌, ℕ, Bool, false, not, if◌then◌else◌, List, [], ◌∷◌, Option, None, Some, option_and_then, filter, map}
use Rattle.std.specs.BTreeMap.{BTreeMap, get}
use Rattle.std.specs.Ordering.{nat_cmp}
use Rattle.std.specs.Cmp.Lexicographic.{slice_cmp}
use Rattle.nc_names.specs.declared.name.Bound.{Bound}
use Rattle.nc_names.specs.declared.name.QName.{QName}
use Rattle.nc_names.specs.Same.{is_same_text}
use Rattle.nc_names.specs.Bindings.{space_of}
use Rattle.nc_message.specs.Bindings.{is_empty}
use Rattle.nc_message.specs.declared.tree.Attr.{Attr}
use Rattle.nc_message.specs.Resolved.{attr_space, default_space, is_xml, xml_space}
use Rattle.nc_message_read.specs.declared.marks.Marks.{Marks}
use Rattle.nc_message_read.specs.declared.marked.Marked.{Marked}

-- what a table has at a text
abbrev pub text_at : BTreeMap (List ℕ) (List ℕ) → List ℕ → Option (List ℕ)
text_at table text = get (slice_cmp nat_cmp) table text

-- whether this is the namespace
abbrev pub is_that : List ℕ → Option (List ℕ) → Bool
is_that space None = false
is_that space (Some other) = is_same_text space other

-- the number of a namespace, where the number leads back to it
abbrev pub number_of : Marks → List ℕ → Option (List ℕ)
number_of marks space =
    option_and_then (λ n. if is_that space (text_at marks.spaces n) then Some n else None) (text_at marks.numbers space)

-- `n` and the number, or else `x` and the namespace
abbrev pub spelled : List ℕ → Option (List ℕ) → List ℕ
spelled space None = 120 ∷ space
spelled space (Some n) = 110 ∷ n

-- the mark of a namespace; no namespace has none
unfoldable pub mark_of : Marks → List ℕ → List ℕ
mark_of marks [] = []
mark_of marks (c ∷ cs) = spelled (c ∷ cs) (number_of marks (c ∷ cs))

-- a binding to the mark
abbrev pub marked_bound : Marks → Bound → Bound
marked_bound marks b = record { prefix = b.prefix; space = mark_of marks b.space }

-- the bindings but that of the default namespace, which is no attribute's
abbrev pub prefixed : List Bound → List Bound
prefixed bounds = filter (λ b. not (is_empty b.prefix)) bounds

-- their prefixes, bound to the marks
abbrev pub marks_of : Marks → List Bound → List Bound
marks_of marks bounds = map (marked_bound marks) (prefixed bounds)

-- the mark of the namespace of an attribute with this prefix
abbrev pub attr_mark : Marks → List Bound → (prefix : List ℕ) → List ℕ
attr_mark marks marked prefix =
    if is_empty prefix then []
    else if is_xml prefix then mark_of marks xml_space
    else default_space (space_of prefix marked)

-- the marks stand beside these bindings
abbrev pub IsBeside : List Bound → Marked → Type 0
IsBeside bounds marked = marked.bounds ≡ marks_of marked.marks bounds

-- what stands for a namespace: its mark, or itself where there are no marks
abbrev pub sign_of : Option Marked → List ℕ → List ℕ
sign_of None space = space
sign_of (Some marked) space = mark_of marked.marks space

-- a name with what stands for its namespace, the local name first
abbrev pub key_of : Option Marked → QName → QName
key_of marked name = record { space = name.name; name = sign_of marked name.space }

-- the attributes have the namespaces to which their prefixes are bound
abbrev pub AreNamed : List Bound → List Attr → Type 0
AreNamed bounds [] = Unit {0}
AreNamed bounds (a ∷ more) = (attr_space bounds a.prefix ≡ Some a.name.space) × AreNamed bounds more

-- where there are marks, that of an attribute's namespace is found by its prefix
abbrev pub IsFound : Option Marked → Attr → Type 0
IsFound None a = Unit {0}
IsFound (Some marked) a = attr_mark marked.marks marked.bounds a.prefix ≡ mark_of marked.marks a.name.space

-- so are those of all
abbrev pub AreFound : Option Marked → List Attr → Type 0
AreFound marked [] = Unit {0}
AreFound marked (a ∷ more) = IsFound marked a × AreFound marked more
