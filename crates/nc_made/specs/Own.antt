-- The rows that an edit puts, where it does not leave those that stand.
use Rattle.std.specs.Prelude.{List, []}
use Rattle.nc_names.specs.declared.path.Path.{Path}
use Rattle.nc_names.specs.declared.path.Row.{Row}
use Rattle.nc_schema.specs.Blocks.{rows_of_node}
use Rattle.nc_schema.specs.Tables.{Tables}
use Rattle.nc_protocol.specs.declared.edit.Action.{Action}
use Rattle.nc_protocol.specs.declared.edit.Action.TheVariants.{Nothing, Merge, Create, Replace, Delete, Remove}

-- the rows that an action brings: those of a merged node, those of a new one, or none
abbrev pub own_block : Tables → Path → Action → List Row
own_block tables path Nothing = []
own_block tables path (Merge value) = rows_of_node tables path value
own_block tables path (Create new) = new
own_block tables path (Replace new) = new
own_block tables path Delete = []
own_block tables path Remove = []
