-- What a schema is to contracts: five lists, in which each thing is named by its place.
use Rattle.std.specs.Prelude.{ℕ, ◌<◌, List, []}
use Rattle.std.specs.List.{All}
use Rattle.nc_names.specs.declared.name.Module.{Module}
use Rattle.nc_schema.specs.declared.node.Node.{Node}
use Rattle.nc_schema.specs.declared.node.Choice.{Choice}
use Rattle.nc_schema.specs.declared.value_type.ValueType.{ValueType}
use Rattle.nc_schema.specs.declared.value_type.ValueType.TheVariants.{Chars}

-- the data nodes, choices, types and modules of a schema (RFC 7950 3), and the patterns of its string types
-- (RFC 7950 9.4.5)
pub record Tables : Type 0 where
  pub nodes : List Node
  pub choices : List Choice
  pub types : List ValueType
  pub modules : List Module
  pub patterns : List (List ℕ)

-- the tables of a schema without anything
abbrev pub no_tables : Tables
no_tables = record { nodes = []; choices = []; types = []; modules = []; patterns = [] }

-- the patterns that a type names are among the first so many of the schema
abbrev pub NamesPatterns : ℕ → ValueType → Type 0
NamesPatterns count (Chars lengths starless numbers) = All (λ number. number < count) numbers
NamesPatterns count other = Unit {0}
