-- What follows from the definitions.
use Rattle.std.specs.List.{All}
use Rattle.nc_schema.specs.Proper.{AreTypesProper, IsIdentityOf}
use Rattle.nc_schema.specs.Tables.{Tables}
use Rattle.nc_yang_leafs.specs.Bases.{AllMeanWhole, Basis}
use Rattle.nc_yang_leafs.specs.Typings.{IsTyped}

-- the types of a schema are what they have to be where those of leafs and leaf-lists mean something with all their
-- members, and only identities of the schema are derived from those that `base` statements name
abbrev pub TypesAreProper : Type 0
TypesAreProper =
    (b : Basis) (tables : Tables) → IsTyped (λ bases names. All (IsIdentityOf tables) names) b tables → AllMeanWhole b
    → AreTypesProper tables
