-- Marks and counts of types.
use Rattle.std.specs.Prelude.{◌≡◌, ◌+◌, ℕ, Bool, false, List, min, slice_get, unwrap_or}
use Rattle.std.specs.List.{sum_by}
use Rattle.nc_schema.specs.Tables.{Tables}
use Rattle.nc_schema.specs.declared.value_type.ValueType.{ValueType}
use Rattle.nc_yang.specs.Depths.{asked, asked_of, leads_through}

-- the mark of the type of a number
abbrev pub is_marked : List Bool → ℕ → Bool
is_marked marks number = unwrap_or (slice_get marks number) false

-- they are on the types that ask so many more, one after another
abbrev pub AreDeep : Tables → (more : ℕ) → List Bool → Type 0
AreDeep tables more marks = (number : ℕ) → is_marked marks number ≡ leads_through tables more number

-- the count of the type of a number
abbrev pub count_at : List ℕ → ℕ → ℕ
count_at counts number = unwrap_or (slice_get counts number) 0

-- a type and those that it asks, with the count that stands for all greater ones
abbrev pub asked_with : Tables → (ℕ → ℕ) → ValueType → ℕ
asked_with tables count type = min (1 + sum_by count (asked_of tables type)) 4097

-- they are those of what is asked so many levels deep, with that count
abbrev pub AreCounts : Tables → (levels : ℕ) → List ℕ → Type 0
AreCounts tables levels counts = (number : ℕ) → count_at counts number ≡ min (asked tables levels number) 4097
