-- Where a path goes on in a tree.
use Rattle.std.specs.Prelude.{◌≡◌, ℕ, true, List, ◌++◌, Option, Some, slice_get}
use Rattle.nc_names.specs.declared.path.Row.{Row}
use Rattle.nc_names.specs.declared.path.Step.{Step}
use Rattle.nc_schema.specs.Standing.{has_row, is_by_user}
use Rattle.nc_branches.specs.Branches.{Branches}
use Rattle.nc_branches.specs.Entries.{are_some, is_entry}
use Rattle.nc_branches.specs.inner.Shoots.{Shoot, rows_of}
use Rattle.nc_branches.specs.inner.Forks.{IsForkOf}
use Rattle.nc_branches.specs.inner.Free.{FreeAt}
use Rattle.nc_branches.specs.inner.Order.{AreUnder, depth_of}
use Rattle.nc_branches.specs.inner.Putting.{Aiming, IsPut, Laying}
use Rattle.nc_branches.specs.inner.Turning.{IsSingle, IsTurned}
use Rattle.nc_branches.specs.declared.labels.Turn.{Turn}
use Rattle.nc_branches.specs.declared.way.Way.{Way}
use Rattle.nc_branches.specs.declared.way.Way.TheVariants.{Left, Here, Right, Unknown}
use Rattle.nc_branches.specs.declared.tree.Fork.{Fork}

-- what is put in that part is put in the whole
unfoldable pub GoesOn : Way → Aiming → ℕ → Option ℕ → Branches → Fork → Type 0
GoesOn Left aim depth above branches fork =
    (left new : List Row) → IsPut aim depth above fork.left.rows left →
    new ≡ left ++ rows_of fork.twig ++ fork.right.rows → IsPut aim depth above branches.rows new
GoesOn Here aim depth above branches fork =
    (here new : List Row) → IsPut aim depth above (rows_of fork.twig) here →
    new ≡ fork.left.rows ++ here ++ fork.right.rows → IsPut aim depth above branches.rows new
GoesOn Right aim depth above branches fork =
    (right new : List Row) → IsPut aim depth above fork.right.rows right →
    new ≡ fork.left.rows ++ rows_of fork.twig ++ right → IsPut aim depth above branches.rows new
GoesOn Unknown aim depth above branches fork = Unit {0}

-- the entries in that part stand so to the path
unfoldable pub TurnsOn : Way → Turn → Aiming → ℕ → Fork → Type 0
TurnsOn Left turn aim depth fork = IsTurned turn aim depth fork.left.rows
TurnsOn Here turn aim depth fork = Unit {0}
TurnsOn Right turn aim depth fork = IsTurned turn aim depth fork.right.rows
TurnsOn Unknown turn aim depth fork = Unit {0}

-- the path goes on that way, and the entries there stand so to it
pub record Goes (way : Way) (turn : Turn) (aim : Aiming) (depth : ℕ) (above : Option ℕ) (branches : Branches)
    (fork : Fork) : Type 0 where
  pub on : GoesOn way aim depth above branches fork
  pub turned : TurnsOn way turn aim depth fork

-- the last step to a node is the one at that depth
pub record IsOwn (depth : ℕ) (own : Step) (shoot : Shoot) : Type 0 where
  pub depth_is : depth_of shoot ≡ depth
  pub own_is : slice_get shoot.row.path.steps depth ≡ Some own
  pub under : AreUnder shoot.row.path.steps shoot.below.rows

-- a node is of the number of the path's step at a depth, and its siblings stand by their numbers
pub record IsOfNumber (turn : Turn) (aim : Aiming) (depth : ℕ) (above : Option ℕ) (asked own : Step)
    (branches : Branches) (fork : Fork) : Type 0 where
  pub is : IsForkOf branches fork
  pub numbered : fork.numbered ≡ true
  pub single : IsSingle aim.tables above asked
  pub asked_is : slice_get aim.steps depth ≡ Some asked
  pub at : IsOwn depth own fork.twig
  pub same : own.node ≡ asked.node
  pub turned : IsTurned turn aim depth branches.rows
  pub free : FreeAt aim depth branches.rows

-- and of the list to which the path leads there, and the orders are not listed
pub record IsMet (turn : Turn) (aim : Aiming) (lay : Laying) (depth : ℕ) (above : Option ℕ) (asked : Step)
    (branches : Branches) (fork : Fork) : Type 0 where
  pub is : IsForkOf branches fork
  pub numbered : fork.numbered ≡ true
  pub single : IsSingle aim.tables above asked
  pub asked_is : slice_get aim.steps depth ≡ Some asked
  pub lay_is : aim.lay ≡ Some lay
  pub own : Step
  pub at : IsOwn depth own fork.twig
  pub same : own.node ≡ asked.node
  pub some : are_some own.keys ≡ true
  pub turned : IsTurned turn aim depth branches.rows
  pub free : FreeAt aim depth branches.rows

-- and the user orders the list, whose entries have rows of their own
pub record IsUsers (turn : Turn) (aim : Aiming) (lay : Laying) (depth : ℕ) (above : Option ℕ) (asked : Step)
    (branches : Branches) (fork : Fork) : Type 0 where
  pub met : IsMet turn aim lay depth above asked branches fork
  pub whole : fork.whole ≡ true
  pub user : is_by_user aim.tables asked.node ≡ true

-- an entry has a row in that part
unfoldable pub Stands : Way → List Step → Fork → Type 0
Stands Left path fork = (is_entry path ≡ true) × (has_row fork.left.rows path ≡ true)
Stands Here path fork = (is_entry path ≡ true) × (has_row (rows_of fork.twig) path ≡ true)
Stands Right path fork = (is_entry path ≡ true) × (has_row fork.right.rows path ≡ true)
Stands Unknown path fork = Unit {0}
