-- Rows beside a path that do not give way to it: no step of theirs is of another case of a choice (RFC 7950 7.9).
use Rattle.std.specs.Prelude.{◌≡◌, ◌≤◌, ℕ, Bool, true, false, List, Option, Some, slice_get}
use Rattle.std.specs.List.{All}
use Rattle.nc_names.specs.declared.path.Row.{Row}
use Rattle.nc_names.specs.declared.path.Step.{Step}
use Rattle.nc_schema.specs.Standing.{cases_differ, cases_of}
use Rattle.nc_schema.specs.Tables.{Tables}
use Rattle.nc_branches.specs.inner.Putting.{Aiming}

-- the step of a row at a depth, where it has one, is of no other case than that of the path
abbrev pub IsFreeRow : Tables → ℕ → Step → Row → Type 0
IsFreeRow tables depth asked row =
    (own : Step) → slice_get row.path.steps depth ≡ Some own →
    cases_differ (cases_of tables asked.node) (cases_of tables own.node) ≡ false

-- no step of these rows at a depth is of another case than that of the path
unfoldable pub AreFree : Tables → ℕ → Step → List Row → Type 0
AreFree tables depth asked rows = All (IsFreeRow tables depth asked) rows

-- so it is with the path's step at that depth
unfoldable pub FreeAt : Aiming → ℕ → List Row → Type 0
FreeAt aim depth rows =
    (asked : Step) → slice_get aim.steps depth ≡ Some asked → AreFree aim.tables depth asked rows

-- so it is where that is seen
abbrev pub FreeWhere : Bool → Aiming → ℕ → List Row → Type 0
FreeWhere free aim depth rows = free ≡ true → FreeAt aim depth rows

-- a number is between two bounds, where there are such
pub record IsNumberIn (low high : Option ℕ) (number : ℕ) : Type 0 where
  pub from : (least : ℕ) → low ≡ Some least → least ≤ number
  pub to : (most : ℕ) → high ≡ Some most → number ≤ most

-- so are the numbers of the steps of rows at a depth
abbrev pub IsRowIn : Option ℕ → Option ℕ → ℕ → Row → Type 0
IsRowIn low high depth row =
    (own : Step) → slice_get row.path.steps depth ≡ Some own → IsNumberIn low high own.node

-- the numbers of the steps of these rows at a depth are between two bounds
unfoldable pub AreIn : Option ℕ → Option ℕ → ℕ → List Row → Type 0
AreIn low high depth rows = All (IsRowIn low high depth) rows

-- two bounds are one number
pub record IsOnly (low high : Option ℕ) (number : ℕ) : Type 0 where
  pub from : low ≡ Some number
  pub to : high ≡ Some number
