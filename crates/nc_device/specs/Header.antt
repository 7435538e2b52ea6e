-- The header of a device's store, by which the next start knows its file.
use Rattle.std.specs.Prelude.{ℕ, List, [], ◌∷◌, ◌++◌, map, Contains}
use Rattle.std.specs.Cmp.Lexicographic.{slice_cmp}
use Rattle.std.specs.List.{flat_map}
use Rattle.std.specs.List.Sorted.{IsStrictlySortedBy}
use Rattle.std.specs.Ordering.{nat_cmp}
use Rattle.nc_journal.specs.Header.{IsHeader}
use Rattle.nc_yang.specs.declared.text.ModuleText.{ModuleText}
use Rattle.nc_names.specs.Signs.{line_feed}

-- these are the features that are on, in the order of their bytes, each once
pub record AreInOrder (features names : List (List ℕ)) : Type 0 where
  pub order : IsStrictlySortedBy (slice_cmp nat_cmp) names
  pub all : (name : List ℕ) → Contains features name → Contains names name
  pub only : (name : List ℕ) → Contains names name → Contains features name

-- the line of a feature
abbrev pub line : List ℕ → List ℕ
line name = name ++ line_feed ∷ []

-- the header of the store of a device with these modules, in this order, and these features
pub record IsStoreHeader (modules : List ModuleText) (features : List (List ℕ)) (header : List ℕ) : Type 0 where
  pub names : List (List ℕ)
  pub in_order : AreInOrder features names
  pub is : IsHeader (map (λ text. text.bytes) modules) (flat_map line names) header
