-- Where all that a filter keeps stands (RFC 6241 6).
use Rattle.std.specs.Prelude.{◌≡◌, Bool, List}
use Rattle.std.specs.List.{filter}
use Rattle.nc_names.specs.declared.path.Path.{Path}
use Rattle.nc_names.specs.declared.path.Row.{Row}
use Rattle.nc_message.specs.declared.tree.Elem.{Elem}
use Rattle.nc_schema.specs.Configuration.{IsConfiguration}
use Rattle.nc_schema.specs.Standing.{block_at}
use Rattle.nc_schema.specs.Tables.{Tables}
use Rattle.nc_protocol.specs.Filter.{selected}

-- a filter keeps of some rows what it keeps of those at a node and below it, also where only the rows count that pass a
-- test, as those that a user sees: if these are a configuration
abbrev pub KeepsWithin : Tables → Elem → List Row → Path → Type 0
KeepsWithin tables elem rows path =
    (test : Row → Bool) → IsConfiguration tables (filter test rows) →
    selected tables elem (filter test rows) ≡ selected tables elem (filter test (block_at rows path.steps))
