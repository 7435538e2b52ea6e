-- Access without access control (RFC 8341 3.3.4.1).
use Rattle.std.specs.Prelude.{true}
use Rattle.nc_names.specs.declared.path.Path.{Path}
use Rattle.nc_names.specs.declared.path.Right.{Right}
use Rattle.nc_protocol.specs.declared.access.By.TheVariants.{Off}
use Rattle.nc_protocol.specs.declared.access.Decision.{Decision}

-- access control is off (RFC 8341 3.4.4 and 3.4.5, step 1)
abbrev pub permitted : Decision
permitted = record { permit = true; by = Off }

-- every right is given
abbrev pub every_right : Path → Right → Decision
every_right path right = permitted
