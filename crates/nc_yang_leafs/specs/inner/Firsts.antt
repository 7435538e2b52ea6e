-- Types identityref with the same values have one entry of the table of types: that of the first of their plans.
use Rattle.std.specs.Prelude.{◌≡◌, ◌⊎◌, ℕ, Bool, false, List, Option, Some, slice_get, unwrap_or, option_map}
use Rattle.nc_names.specs.declared.name.QName.{QName}
use Rattle.nc_yang_scopes.specs.Scopes.{Located}
use Rattle.nc_yang_types.specs.declared.planned.Finding.{Finding}
use Rattle.nc_yang_types.specs.declared.planned.Planned.{Planned}
use Rattle.nc_yang_types.specs.declared.planned.Planned.TheVariants.{Bases}
use Rattle.nc_yang_leafs.specs.Marks.{is_marked, plan_at}
use Rattle.nc_yang_leafs.specs.Named.{AreAlike}

-- the plan that has an entry for a plan
abbrev pub first_in : List ℕ → (plan : ℕ) → ℕ
first_in firsts plan = unwrap_or (slice_get firsts plan) plan

-- that of the plan of the `type` statement of a number
abbrev pub plan_for : List Finding → (firsts : List ℕ) → (statement : ℕ) → Option ℕ
plan_for findings firsts statement = option_map (first_in firsts) (plan_at findings statement)

-- two plans are of types identityref, and the names for the first are names for the other
pub record ShareNames (derived : List Located → List QName → Type 0) (located : List Located) (plans : List Planned)
    (marks : List Bool) (first own : ℕ) : Type 0 where
  pub bases : List ℕ
  pub others : List ℕ
  pub first_is : slice_get plans first ≡ Some (Bases bases)
  pub own_is : slice_get plans own ≡ Some (Bases others)
  pub alike : AreAlike derived located bases others
  pub unmarked : is_marked marks first ≡ false

-- a plan has an entry for another, or for itself
abbrev pub IsFirst : (derived : List Located → List QName → Type 0) → List Located → List Planned →
    (marks : List Bool) → (first own : ℕ) → Type 0
IsFirst derived located plans marks first own = (first ≡ own) ⊎ ShareNames derived located plans marks first own

-- so it is with each
abbrev pub AreFirsts : (derived : List Located → List QName → Type 0) → List Located → List Planned →
    (marks : List Bool) → (firsts : List ℕ) → Type 0
AreFirsts derived located plans marks firsts = (own : ℕ) → IsFirst derived located plans marks (first_in firsts own) own
