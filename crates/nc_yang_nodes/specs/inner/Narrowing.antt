-- Features that are taken off, one after another.
use Rattle.std.specs.Prelude.{◌≡◌, ◌<◌, ℕ, true, Some, slice_get}
use Rattle.nc_yang_scopes.specs.Scopes.{Located, Scoping}
use Rattle.nc_yang_nodes.specs.declared.features.Features.{Features}
use Rattle.nc_yang_nodes.specs.FeaturesOn.{is_on, size}
use Rattle.nc_yang_nodes.specs.Roles.{FeatureTest}
use Rattle.nc_yang_nodes.specs.Supported.{AreAmong, AreTogether, is_unsupported}

-- those that are left are given ones, and have all that can be on together
pub record Keeps (scoping : Scoping) (given on : FeatureTest) : Type 0 where
  pub among : AreAmong on given
  pub most : (other : FeatureTest) → AreAmong other given → AreTogether scoping other → AreAmong other on

-- whatever features were given, what is left keeps all that can be on together, if what was there did
abbrev pub Narrows : Scoping → FeatureTest → FeatureTest → Type 0
Narrows scoping on left = (given : FeatureTest) → Keeps scoping given on → Keeps scoping given left

-- the statement of a number defines a feature that is on, and names one that is off
pub record IsOff (scoping : Scoping) (on : FeatureTest) (number : ℕ) : Type 0 where
  pub definition : Located
  pub is : slice_get scoping.located number ≡ Some definition
  pub off : is_unsupported scoping.texts on definition ≡ true

-- fewer are left, of which that is so
pub record TakesOff (scoping : Scoping) (old new : Features) : Type 0 where
  pub narrows : Narrows scoping (is_on old) (is_on new)
  pub fewer : size new < size old

-- as many are left as can be on together
pub record TakesAllOff (scoping : Scoping) (old new : FeatureTest) : Type 0 where
  pub narrows : Narrows scoping old new
  pub together : AreTogether scoping new
