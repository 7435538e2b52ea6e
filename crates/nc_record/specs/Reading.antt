-- What the reading of a body gives.
use Rattle.std.specs.Prelude.{ℕ, ◌≤◌, List, length, IsUtf8}
use Rattle.std.specs.List.{All}
use Rattle.nc_names.specs.Limits.{body_limit}
use Rattle.nc_names.specs.declared.path.Row.{Row}
use Rattle.nc_schema.specs.Record.{SpellsRecord, value_bytes}
use Rattle.nc_schema.specs.Tables.{Tables}

-- the value of each row is a text (RFC 3629)
abbrev pub AreTexts : List Row → Type 0
AreTexts rows = All (λ row. IsUtf8 (value_bytes row)) rows

-- a body within the limit spells the configuration, whose values are texts
pub record IsRead (tables : Tables) (body : List ℕ) (rows : List Row) : Type 0 where
  pub within : length body ≤ body_limit
  pub spells : SpellsRecord tables body rows
  pub texts : AreTexts rows
