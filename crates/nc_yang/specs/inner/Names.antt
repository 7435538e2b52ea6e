-- The names of identities by their numbers.
use Rattle.std.specs.Prelude.{ℕ, Option, option_map, slice_get}
use Rattle.nc_names.specs.declared.name.QName.{QName}
use Rattle.nc_yang_scopes.specs.Scopes.{Scoping}
use Rattle.nc_yang.specs.Schemas.{identity_name}

-- the name of the identity whose statement has that number
abbrev pub name_at : Scoping → ℕ → Option QName
name_at scoping number = option_map (identity_name scoping.texts) (slice_get scoping.located number)
