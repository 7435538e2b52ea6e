-- An entry that is found in a tree.
use Rattle.std.specs.Prelude.{◌≡◌, ◌++◌, ℕ, true, List, take}
use Rattle.nc_names.specs.declared.path.Row.{Row}
use Rattle.nc_names.specs.declared.path.Step.{Step}
use Rattle.nc_branches.specs.Entries.{is_entry}
use Rattle.nc_branches.specs.Tallies.{IsTallied}
use Rattle.nc_branches.specs.inner.Order.{AreUnder}
use Rattle.nc_branches.specs.inner.Places.{AreApart}
use Rattle.nc_branches.specs.inner.Shoots.{Shoot, rows_of}

-- the node is that of the entry, which has a row, and nothing of it stands before the node or after it
pub record IsLocated (steps : List Step) (rows : List Row) (shoot : Shoot) : Type 0 where
  pub before : List Row
  pub after : List Row
  pub rows_are : rows ≡ before ++ rows_of shoot ++ after
  pub path_is : shoot.row.path.steps ≡ steps
  pub stands : shoot.stands ≡ true
  pub under : AreUnder shoot.row.path.steps shoot.below.rows
  pub before_apart : AreApart steps before
  pub after_apart : AreApart steps after

-- all that stands at some steps and below them is of one node
pub record IsWithin (steps : List Step) (rows : List Row) (shoot : Shoot) : Type 0 where
  pub before : List Row
  pub after : List Row
  pub rows_are : rows ≡ before ++ rows_of shoot ++ after
  pub before_apart : AreApart steps before
  pub after_apart : AreApart steps after

-- so it is where no entry has two rows
unfoldable pub Locates : List Row → List Step → List Row → Shoot → Type 0
Locates known steps rows shoot = IsTallied known rows → is_entry steps ≡ true → IsLocated steps rows shoot

-- other rows stand in the place of those of an entry
pub record IsExchanged (steps : List Step) (old node new : List Row) : Type 0 where
  pub shoot : Shoot
  pub at : IsLocated steps old shoot
  pub new_is : new ≡ at.before ++ node ++ at.after

-- so it is where no entry has two rows; and all are below what the old rows and the others are below
pub record Exchanges (known : List Row) (steps : List Step) (old node new : List Row) : Type 0 where
  pub is : IsTallied known old → is_entry steps ≡ true → IsExchanged steps old node new
  pub from : (path : List Step) → AreUnder path old → AreUnder path node → AreUnder path new

-- some steps are the first of others
pub record IsHead (head steps : List Step) : Type 0 where
  pub len : ℕ
  pub is : head ≡ take len steps
