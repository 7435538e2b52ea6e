-- Sets of texts, in their order.
use Rattle.std.specs.Prelude.{◌≡◌, ℕ, Bool, true, not, ◌&&◌, ◌||◌, if◌then◌else◌, List, Option}
use Rattle.std.specs.List.{list_any}
use Rattle.std.specs.BTreeSet.{BTreeSet, contains}
use Rattle.std.specs.Ordering.{nat_cmp}
use Rattle.std.specs.Cmp.Lexicographic.{slice_cmp}
use Rattle.nc_names.specs.Same.{is_same_text, is_same_name}
use Rattle.nc_names.specs.declared.name.QName.{QName}
use Rattle.nc_message.specs.Tokens.{Name, Attribute}
use Rattle.nc_message.specs.Resolved.{is_declared_by, is_xmlns}
use Rattle.nc_message_read.specs.declared.marked.Marked.{Marked}
use Rattle.nc_message_read.specs.inner.Marks.{key_of}

-- whether the set has a text
abbrev pub has : BTreeSet (List ℕ) → List ℕ → Bool
has set text = contains (slice_cmp nat_cmp) set text

-- the prefix that an attribute of this name declares was put into the set
abbrev pub IsDeclaredToo : BTreeSet (List ℕ) → BTreeSet (List ℕ) → Name → Type 0
IsDeclaredToo before after name =
    (prefix : List ℕ) → has after prefix ≡ ((is_xmlns name.prefix && is_same_text prefix name.local)
    || has before prefix)

-- whether the set has a name, as it is kept there
abbrev pub has_name : Option Marked → BTreeSet QName → QName → Bool
has_name marked set name = list_any (is_same_name (key_of marked name)) set.keys

-- the name was put into the set, where it was not yet
abbrev pub IsNameAdded : Option Marked → BTreeSet QName → BTreeSet QName → QName → Bool → Type 0
IsNameAdded marked before after name added =
    (added ≡ not (has_name marked before name)) × ((other : QName) → has_name marked after other
    ≡ (if is_same_name name other then true else has_name marked before other))

-- the set has the prefixes that attributes declare
abbrev pub DeclaredPrefixes : BTreeSet (List ℕ) → List Attribute → Type 0
DeclaredPrefixes set attributes = (prefix : List ℕ) → has set prefix ≡ is_declared_by attributes prefix
