-- Parts of a configuration that say what a session is shown of it.
use Rattle.std.specs.Prelude.{◌≡◌, Bool, List}
use Rattle.std.specs.List.{filter}
use Rattle.nc_names.specs.declared.path.Row.{Row}
use Rattle.nc_message.specs.declared.tree.Elem.{Elem}
use Rattle.nc_schema.specs.Configuration.{IsConfiguration}
use Rattle.nc_schema.specs.Tables.{Tables}
use Rattle.nc_protocol.specs.Filter.{selected}

-- a filter keeps of a part what it keeps of all, also where only the rows count that pass a test, if these are a
-- configuration
abbrev pub IsPartFor : Tables → Elem → List Row → List Row → Type 0
IsPartFor tables elem rows part =
    (test : Row → Bool) → IsConfiguration tables (filter test rows) →
    selected tables elem (filter test rows) ≡ selected tables elem (filter test part)
