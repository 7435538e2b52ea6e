-- What is found of a body, and of the bodies of a journal.
use Rattle.std.specs.Prelude.{◌≡◌, ◌+◌, ◌-◌, ℕ, List, length, Option, Some, None, slice_get}
use Rattle.std.specs.Option.{option_map_or}
use Rattle.nc_names.specs.declared.path.Row.{Row}
use Rattle.nc_schema.specs.Tables.{Tables}
use Rattle.nc_schema.specs.Violations.{IsValid}
use Rattle.nc_store.specs.Reopening.{IsBase, IsValidRecord}

-- the one that has the property is found, or there is none
abbrev pub FindsOne : (List Row → Type 0) → Option (List Row) → Type 0
FindsOne P (Some rows) = P rows × ((other : List Row) → P other → other ≡ rows)
FindsOne P None = (rows : List Row) → ¬ P rows

-- these rows where they are valid
abbrev pub FindsValid : Tables → List Row → Option (List Row) → Type 0
FindsValid tables rows (Some found) = (found ≡ rows) × IsValid tables rows
FindsValid tables rows None = ¬ IsValid tables rows

-- the configuration of a body
abbrev pub FindsRecord : Tables → List ℕ → Option (List Row) → Type 0
FindsRecord tables body found = FindsOne (IsValidRecord tables body) found

-- that of the bodies of a journal
abbrev pub FindsBase : Tables → List Row → List (List ℕ) → Option (List Row) → Type 0
FindsBase tables initial bodies found = FindsOne (IsBase tables initial bodies) found

-- where the gate of the last record stands, by the closed gate after it
abbrev pub gate_before : List (List ℕ) → ℕ → ℕ
gate_before bodies gate =
    option_map_or (λ body. gate - (length body + 9)) (slice_get bodies (length bodies - 1)) gate
