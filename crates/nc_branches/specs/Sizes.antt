-- How many bytes rows take in a record, without what stands before them.
use Rattle.std.specs.Prelude.{◌≡◌, ◌<◌, ◌+◌, ℕ, List, length, map, sum, Option, Some, None}
use Rattle.nc_names.specs.declared.path.Row.{Row}
use Rattle.nc_schema.specs.Record.{value_bytes}

-- those of a row: the number of its data node and the length of its value, four each, and the value
abbrev pub row_size : Row → ℕ
row_size row = 8 + length (value_bytes row)

-- those of all rows
abbrev pub size_of : List Row → ℕ
size_of rows = sum (map row_size rows)

-- what so many bytes leave of the room for them, and nothing where they have none
abbrev pub Leaves : ℕ → ℕ → Option ℕ → Type 0
Leaves size room None = room < size
Leaves size room (Some rest) = size + rest ≡ room
