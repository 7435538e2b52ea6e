-- The features that are on by those that are given (RFC 7950 7.20.1, 7.20.2).
use Rattle.std.specs.Prelude.{◌≡◌, ℕ, ◌&&◌, not, Bool, true, false, List, Some, slice_get}
use Rattle.nc_yang_statements.specs.declared.keyword.Keyword.TheVariants.{Feature}
use Rattle.nc_yang_statements.specs.Keywords.{is_same_keyword}
use Rattle.nc_yang_statements.specs.Statements.{kind, name}
use Rattle.nc_yang_words.specs.declared.statement.Statement.{Statement}
use Rattle.nc_yang_scopes.specs.Scopes.{Located, Scoping}
use Rattle.nc_yang_nodes.specs.Roles.{FeatureTest, is_supported}

-- a statement defines a feature that is on, and names one that is off
abbrev pub is_unsupported : List Statement → FeatureTest → Located → Bool
is_unsupported texts on l =
    is_same_keyword Feature (kind l.statement) && (on l.place.text (name l.statement) && not (is_supported texts on l))

-- features that are on together: those that they name by `if-feature` are on, too
abbrev pub AreTogether : Scoping → FeatureTest → Type 0
AreTogether scoping on =
    (number : ℕ) (l : Located) → slice_get scoping.located number ≡ Some l → is_unsupported scoping.texts on l ≡ false

-- what is on in the first is on in the second
abbrev pub AreAmong : FeatureTest → FeatureTest → Type 0
AreAmong on other = (text : ℕ) (word : List ℕ) → on text word ≡ true → other text word ≡ true

-- as many of the given features as can be on together
pub record AreOn (scoping : Scoping) (given on : FeatureTest) : Type 0 where
  pub among : AreAmong on given
  pub together : AreTogether scoping on
  pub most : (other : FeatureTest) → AreAmong other given → AreTogether scoping other → AreAmong other on
