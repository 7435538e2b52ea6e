-- What the parts of a body give.
use Rattle.std.specs.Prelude.{◌≡◌, ◌<◌, ◌^◌, ◌++◌, ℕ, List, length, map, Result, Ok, Err, IsUtf8}
use Rattle.std.specs.List.{All, flat_map}
use Rattle.nc_names.specs.declared.path.Row.{Row}
use Rattle.nc_schema.specs.Record.{last_node, row_record, value_bytes}
use Rattle.nc_record.specs.declared.fault.RecordFault.{RecordFault}
use Rattle.nc_record.specs.declared.fault.RecordFault.TheVariants.{Unreadable, Memory}
use Rattle.nc_record.specs.declared.spelled.Spelled.{Spelled}

-- it is given, unless no memory was found
abbrev pub Gives : {A : Type 0} → (A → Type 0) → Result A RecordFault → Type 0
Gives P (Ok it) = P it
Gives P (Err Unreadable) = ⊥
Gives P (Err Memory) = Unit {0}

-- the row is at one of so many data nodes, four bytes hold the length of its value, and that is a text (RFC 3629)
pub record FitsRecord (nodes : ℕ) (row : Row) : Type 0 where
  pub node : last_node row < nodes
  pub short : length (value_bytes row) < 2 ^ 32
  pub text : IsUtf8 (value_bytes row)

-- the values are so short that four bytes hold their lengths
abbrev pub AreShort : List Row → Type 0
AreShort rows = All (λ row. length (value_bytes row) < 2 ^ 32) rows

-- what the record of a row tells of it
abbrev pub spelled_of : Row → Spelled
spelled_of row = record { node = last_node row; value = value_bytes row }

-- these rows were found so far, and the records of the others are left
pub record IsFound (nodes : ℕ) (rows : List Row) (found : List Spelled) (rest : List ℕ) : Type 0 where
  pub more : List Row
  pub same : map spelled_of rows ≡ found ++ map spelled_of more
  pub fit : All (FitsRecord nodes) more
  pub left : rest ≡ flat_map row_record more
