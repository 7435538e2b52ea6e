-- One edit more, past one that was refused or not.
use Rattle.std.specs.Prelude.{◌||◌, Bool, if◌then◌else◌}
use Rattle.nc_names.specs.declared.path.Path.{Path}
use Rattle.nc_names.specs.declared.path.Right.{Right}
use Rattle.nc_schema.specs.Tables.{Tables}
use Rattle.nc_protocol.specs.Applied.{Applied, continued, is_empty}
use Rattle.nc_protocol.specs.declared.access.Decision.{Decision}
use Rattle.nc_protocol.specs.declared.edit.Edit.{Edit}

-- the edit is made too, unless an edit before it was refused and the first refusal ends all
abbrev pub turn : Tables → (Path → Right → Decision) → Bool → Applied → Edit → Applied
turn tables rights goes_on so_far edit =
    if goes_on || is_empty so_far.causes then continued tables rights so_far edit else so_far
