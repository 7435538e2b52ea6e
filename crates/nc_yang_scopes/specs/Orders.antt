-- Orders of definitions in which each comes after those that it names.
use Rattle.std.specs.Prelude.{◌≡◌, ℕ, List, [], Some, slice_get, Contains}
use Rattle.nc_yang_order.specs.Orders.{EachAfter}
use Rattle.nc_yang_scopes.specs.Scopes.{Located, Scoping}
use Rattle.nc_yang_scopes.specs.declared.arrange.Arranged.{Arranged}
use Rattle.nc_yang_scopes.specs.declared.arrange.Arranged.TheVariants.{Circle, Order}
use Rattle.nc_yang_scopes.specs.declared.kinds.Defined.{Defined}
use Rattle.nc_yang_scopes.specs.Loops.{BreaksLoop, IsDefinition, Names}

-- one of the numbers is that of a statement
pub record HasOne (scoping : Scoping) (numbers : List ℕ) (l : Located) : Type 0 where
  pub number : ℕ
  pub among : Contains numbers number
  pub is : slice_get scoping.located number ≡ Some l

-- the number of a definition stands there for the first time, and those of all that it names stand before it
pub record IsInPlace (scoping : Scoping) (sort : Defined) (before : List ℕ) (number : ℕ) : Type 0 where
  pub definition : Located
  pub is : slice_get scoping.located number ≡ Some definition
  pub defines : IsDefinition scoping.texts sort definition
  pub fresh : ¬ Contains before number
  pub after : (statement there : Located) → Names scoping.texts sort definition statement there
      → HasOne scoping before there

-- the numbers of all definitions, each once and after those that it names
pub record IsOrder (scoping : Scoping) (sort : Defined) (order : List ℕ) : Type 0 where
  pub all : (l : Located) → IsDefinition scoping.texts sort l → HasOne scoping order l
  pub placed : EachAfter (IsInPlace scoping sort) [] order

-- what is found among definitions
abbrev pub Arranges : Scoping → Defined → Arranged → Type 0
Arranges scoping sort (Order order) = IsOrder scoping sort order
Arranges scoping sort (Circle found) = BreaksLoop scoping.texts sort found.text found.fault
