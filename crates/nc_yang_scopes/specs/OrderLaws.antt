-- What follows from the definitions.
use Rattle.std.specs.Prelude.{ℕ, List}
use Rattle.nc_yang_scopes.specs.Scopes.{Located, Scoping}
use Rattle.nc_yang_scopes.specs.declared.kinds.Defined.{Defined}
use Rattle.nc_yang_scopes.specs.Loops.{IsOnCircle}
use Rattle.nc_yang_scopes.specs.Orders.{IsOrder}

-- definitions that have an order have no circle
abbrev pub OrderHasNoCircle : Type 0
OrderHasNoCircle =
    (scoping : Scoping) (sort : Defined) (order : List ℕ) (statement : Located) → IsOrder scoping sort order
    → IsOnCircle scoping.texts sort statement → ⊥
