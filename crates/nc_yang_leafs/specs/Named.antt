-- Which identities `base` statements name, and the names of what is derived from them (RFC 7950 7.18.2, 9.10.2).
use Rattle.std.specs.Prelude.{◌≡◌, ℕ, List, length, Option, Some, slice_get}
use Rattle.nc_names.specs.declared.name.QName.{QName}
use Rattle.nc_yang_words.specs.declared.statement.Statement.{Statement}
use Rattle.nc_yang_statements.specs.declared.keyword.Keyword.TheVariants.{Identity}
use Rattle.nc_yang_statements.specs.Statements.{name}
use Rattle.nc_yang_scopes.specs.Numbers.{AreNumbers}
use Rattle.nc_yang_scopes.specs.Scopes.{Located, Scoping, resolved}

-- the identity that a `base` statement names
abbrev pub identity_of : List Statement → (base : Located) → Option Located
identity_of texts base = resolved texts Identity (name base.statement) base.place

-- the `base` statement of a number names the identity of another
pub record NamesAt (scoping : Scoping) (base number : ℕ) : Type 0 where
  pub statement : Located
  pub is : slice_get scoping.located base ≡ Some statement
  pub identity : Located
  pub there : slice_get scoping.located number ≡ Some identity
  pub named : identity_of scoping.texts statement ≡ Some identity

-- the `base` statements of two numbers name one identity
pub record NameOne (scoping : Scoping) (base other : ℕ) : Type 0 where
  pub number : ℕ
  pub first : NamesAt scoping base number
  pub second : NamesAt scoping other number

-- those of several name the same identities as others, one after another
pub record NameSame (scoping : Scoping) (bases others : List ℕ) : Type 0 where
  pub counted : length bases ≡ length others
  pub each : (place base other : ℕ) → slice_get bases place ≡ Some base → slice_get others place ≡ Some other →
      NameOne scoping base other

-- those are the names for the `base` statements of these numbers: `derived` says which are derived from some
abbrev pub HaveNames : (derived : List Located → List QName → Type 0) → List Located → (bases : List ℕ) →
    List QName → Type 0
HaveNames derived located bases names = (ls : List Located) → AreNumbers located bases ls → derived ls names

-- names for some `base` statements are names for others too
abbrev pub AreAlike : (derived : List Located → List QName → Type 0) → List Located → (bases others : List ℕ) → Type 0
AreAlike derived located bases others =
    (names : List QName) → HaveNames derived located bases names → HaveNames derived located others names
