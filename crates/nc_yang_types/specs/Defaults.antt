-- The default that a type brings, and the one of a leaf (RFC 7950 7.3.4, 7.6.1).
use Rattle.std.specs.Prelude.{◌≡◌, ℕ, Bool, List, Option, Some, None, slice_get, unwrap_or, ◌⊎◌}
use Rattle.nc_yang_words.specs.declared.statement.Statement.{Statement}
use Rattle.nc_yang_statements.specs.declared.keyword.Keyword.TheVariants.{Default}
use Rattle.nc_yang_scopes.specs.Scopes.{Located, Scoping}
use Rattle.nc_yang_types.specs.Meanings.{Meaning, Means}
use Rattle.nc_yang_types.specs.Places.{base_of, of_typedef, part_of}

-- of the typedefs along which a `type` statement leads, the first that has a default has this one
pub data Brings (texts : List Statement) : Located → Located → Type 0 where
  nearest : (l base default : Located) → base_of texts l ≡ Some base → of_typedef Default texts l ≡ Some default →
      Brings texts l default
  further : (l base default : Located) → base_of texts l ≡ Some base → of_typedef Default texts l ≡ None →
      Brings texts base default → Brings texts l default

-- the number of the default that it brings, or that it brings none
abbrev pub IsDefault : Scoping → Located → Option ℕ → Type 0
IsDefault scoping l None = (default : Located) → Brings scoping.texts l default → ⊥
IsDefault scoping l (Some number) =
    (default : Located) × (slice_get scoping.located number ≡ Some default) × Brings scoping.texts l default

-- what a list of defaults has for a number
abbrev pub default_at : List (Option ℕ) → ℕ → Option ℕ
default_at defaults number = unwrap_or (slice_get defaults number) None

-- the defaults of all `type` statements that mean something
abbrev pub AreDefaults : Scoping → List (Option ℕ) → Type 0
AreDefaults scoping defaults =
    (on : ℕ → List ℕ → Bool) (number : ℕ) (l : Located) (m : Meaning) → slice_get scoping.located number ≡ Some l →
    Means on scoping.texts l m → IsDefault scoping l (default_at defaults number)

-- a leaf has its own default, or the one that its type brings
abbrev pub HasDefault : List Statement → (leaf of_type default : Located) → Type 0
HasDefault texts leaf of_type default =
    (part_of Default leaf ≡ Some default) ⊎ ((part_of Default leaf ≡ None) × Brings texts of_type default)

-- the statement of the default of a leaf, or that it has none
abbrev pub IsLeafDefault : Scoping → (leaf of_type : Located) → Option ℕ → Type 0
IsLeafDefault scoping leaf of_type None = (default : Located) → HasDefault scoping.texts leaf of_type default → ⊥
IsLeafDefault scoping leaf of_type (Some number) =
    (default : Located) × (slice_get scoping.located number ≡ Some default)
    × HasDefault scoping.texts leaf of_type default
