-- What gives canonical texts, and names among words and in sets.
use Rattle.std.specs.Prelude.{◌≡◌, ℕ, Bool, List}
use Rattle.std.specs.BTreeSet.{BTreeSet, contains}
use Rattle.std.specs.Cmp.Lexicographic.{slice_cmp}
use Rattle.std.specs.List.{list_any}
use Rattle.std.specs.Ordering.{nat_cmp}
use Rattle.nc_names.specs.Same.{is_same_text}
use Rattle.nc_names.specs.declared.name.Bound.{Bound}
use Rattle.nc_schema.specs.Tables.{Tables}
use Rattle.nc_schema.specs.Values.{Givers, Gives, type_text}

-- what gives canonical texts once these types are being asked
abbrev pub givers : Tables → (List Bound → Gives) → ℕ → List ℕ → Givers
givers tables keys most chain = record { keys = keys; types = type_text tables keys most chain }

-- the name is one of the words
abbrev pub is_word : List (List ℕ) → List ℕ → Bool
is_word words name = list_any (λ word. is_same_text word name) words

-- whether a set of texts has a text
abbrev pub has : BTreeSet (List ℕ) → List ℕ → Bool
has set text = contains (slice_cmp nat_cmp) set text

-- the set has the words, and nothing else
abbrev pub IsSetOf : BTreeSet (List ℕ) → List (List ℕ) → Type 0
IsSetOf set words = (name : List ℕ) → has set name ≡ is_word words name
