-- Defaults of types, one after another.
use Rattle.std.specs.Prelude.{◌≡◌, ℕ, List, length, Option, Some, slice_get, Contains}
use Rattle.nc_yang_scopes.specs.Scopes.{Located, Scoping}
use Rattle.nc_yang_types.specs.Defaults.{IsDefault, default_at}
use Rattle.nc_yang_types.specs.Numbers.{OnNumber}
use Rattle.nc_yang_types.specs.declared.footing.Footing.{Footing}
use Rattle.nc_yang_types.specs.declared.footing.Footing.TheVariants.{OnType}

-- the default of the type on which one rests
abbrev pub KnowsBase : Scoping → List (Option ℕ) → Footing → Type 0
KnowsBase scoping defaults (OnType base) = OnNumber scoping base (λ l. IsDefault scoping l (default_at defaults base))
KnowsBase scoping defaults footing = Unit {0}

-- those of the first numbers of an order
pub record AreKnown (scoping : Scoping) (before : List ℕ) (defaults : List (Option ℕ)) : Type 0 where
  pub counted : length defaults ≡ length scoping.located
  pub known : (number : ℕ) (l : Located) → Contains before number → slice_get scoping.located number ≡ Some l →
      IsDefault scoping l (default_at defaults number)
