-- The values of a type that has `base` statements (RFC 7950 9.10.2).
use Rattle.std.specs.Prelude.{◌≡◌, ℕ, true, List, Contains}
use Rattle.nc_yang_words.specs.declared.statement.Statement.{Statement}
use Rattle.nc_yang_scopes.specs.Scopes.{Located, Scoping}
use Rattle.nc_yang_nodes.specs.Roles.{FeatureTest, is_supported}
use Rattle.nc_yang_nodes.specs.Identities.{IsDerived, Names, identities}
use Rattle.nc_yang_nodes.specs.Picks.{Picks, PicksNumbers}

-- an identity is derived from the one that a `base` statement names
pub record IsUnder (texts : List Statement) (base l : Located) : Type 0 where
  pub from : Located
  pub stands : Contains (identities texts) from
  pub named : Names texts base from
  pub derived : IsDerived texts from l

-- an identity that no `if-feature` takes away (RFC 7950 7.20.2), and that is derived from each of those that are named
pub record IsValue (texts : List Statement) (on : FeatureTest) (bases : List Located) (l : Located) : Type 0 where
  pub supported : is_supported texts on l ≡ true
  pub under : (base : Located) → Contains bases base → IsUnder texts base l

-- all such identities, in the order of the texts and of the statements in them
abbrev pub AreDerived : Scoping → FeatureTest → List Located → List Located → Type 0
AreDerived scoping on bases = Picks (IsValue scoping.texts on bases) (identities scoping.texts)

-- the numbers of all such identities
abbrev pub AreDerivedNumbers : Scoping → FeatureTest → List Located → List ℕ → Type 0
AreDerivedNumbers scoping on bases =
    PicksNumbers scoping.located (IsValue scoping.texts on bases) (identities scoping.texts)
