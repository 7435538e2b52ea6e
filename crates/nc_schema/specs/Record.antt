-- A configuration as the body of a record, which is what is kept of it. Numbers are big-endian, of four bytes.
use Rattle.std.specs.Prelude.{◌≡◌, ℕ, ◌+◌, List, [], ◌∷◌, ◌++◌, length, map, None, unwrap_or}
use Rattle.std.specs.Int.{to_be_bytes, w32}
use Rattle.std.specs.List.{flat_map, last_or, sum}
use Rattle.std.specs.Option.{option_map_or}
use Rattle.nc_names.specs.declared.path.Row.{Row}
use Rattle.nc_schema.specs.Configuration.{IsConfiguration}
use Rattle.nc_schema.specs.Tables.{Tables}

-- what a body begins with: it holds a whole configuration
abbrev pub whole_body : ℕ
whole_body = 1

-- the data node to which the path of a row leads
abbrev pub last_node : Row → ℕ
last_node row = option_map_or (λ step. step.node) (last_or None row.path.steps) 0

-- the bytes of a row's value, and none where it has no value
abbrev pub value_bytes : Row → List ℕ
value_bytes row = unwrap_or row.value []

-- a number in four bytes
abbrev pub in_four_bytes : ℕ → List ℕ
in_four_bytes number = to_be_bytes w32 number

-- a row: the number of its data node, the length of its value, and the value
abbrev pub row_record : Row → List ℕ
row_record row = in_four_bytes (last_node row) ++ (in_four_bytes (length (value_bytes row)) ++ value_bytes row)

-- the body of a record of these rows: how many they are, and each
abbrev pub record_body : List Row → List ℕ
record_body rows = whole_body ∷ (in_four_bytes (length rows) ++ flat_map row_record rows)

-- how many bytes it has
abbrev pub record_size : List Row → ℕ
record_size rows = 5 + sum (map (λ row. 8 + length (value_bytes row)) rows)

-- the body spells the configuration
pub record SpellsRecord (tables : Tables) (body : List ℕ) (rows : List Row) : Type 0 where
  pub configuration : IsConfiguration tables rows
  pub body_is : body ≡ record_body rows
