-- Values of a leaf of which no two are the same.
use Rattle.std.specs.Prelude.{◌&&◌, ◌≤◌, ℕ, Bool, true, List, [], ◌∷◌, Option, None, Some, count_by}
use Rattle.std.specs.List.{flat_map}
use Rattle.std.specs.Cmp.Lexicographic.{slice_cmp}
use Rattle.std.specs.Ordering.{is_lt, nat_cmp}
use Rattle.nc_names.specs.Same.{is_same_text}
use Rattle.nc_schema.specs.InUse.{values_below}
use Rattle.nc_schema.specs.Places.{Place}
use Rattle.nc_schema.specs.Tables.{Tables}

-- a text comes after the last one, by its bytes
abbrev pub comes_after : Option (List ℕ) → List ℕ → Bool
comes_after None text = true
comes_after (Some last) text = is_lt (slice_cmp nat_cmp last text)

-- each text comes after the one before it
abbrev pub rise_from : Option (List ℕ) → List (List ℕ) → Bool
rise_from last [] = true
rise_from last (text ∷ texts) = comes_after last text && rise_from (Some text) texts

-- the values of a leaf in some entries
abbrev pub values_in : Tables → ℕ → List Place → List (List ℕ)
values_in tables leaf entries = flat_map (λ entry. values_below tables entry leaf) entries

-- no text is among these twice
abbrev pub AreOnce : List (List ℕ) → Type 0
AreOnce texts = (text : List ℕ) → count_by (is_same_text text) texts ≤ 1
