-- Whether the feature is on that was found for an `if-feature` (RFC 7950 7.20.2).
use Rattle.std.specs.Prelude.{Bool, false, Option}
use Rattle.std.specs.Option.{option_map_or}
use Rattle.nc_yang_statements.specs.Statements.{name}
use Rattle.nc_yang_scopes.specs.Scopes.{Located}
use Rattle.nc_yang_nodes.specs.Roles.{FeatureTest}

-- a feature that is found is on
abbrev pub is_on_at : FeatureTest → Option Located → Bool
is_on_at features found = option_map_or (λ f. features f.place.text (name f.statement)) found false
