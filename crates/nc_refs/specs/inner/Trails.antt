-- Places that were reached, by the steps to them.
use Rattle.std.specs.Prelude.{◌≡◌, List, Option, length, option_map, IfSome}
use Rattle.std.proofs.Common.{Bor}
use Rattle.std.specs.BTreeMap.{get}
use Rattle.std.specs.Cmp.Lexicographic.{slice_cmp}
use Rattle.std.specs.declared.cmp.Ordering.{Ordering}
use Rattle.nc_names.specs.contracts.path.StepOrd.TheImpl.{ghosts}
use Rattle.nc_names.specs.declared.path.Row.{Row}
use Rattle.nc_names.specs.declared.path.Step.{Step}
use Rattle.nc_schema.specs.Places.{place_at, top_place}
use Rattle.nc_schema.specs.Tables.{Tables}
use Rattle.nc_defaults.specs.declared.here.Here.{Here}
use Rattle.nc_defaults.specs.Within.{IsWithin, place_here}
use Rattle.nc_refs.specs.declared.branches.Branches.{Branches}
use Rattle.nc_refs.specs.declared.trail.Trail.{Trail}
use Rattle.nc_refs.specs.inner.Branches.{AreBranches}

-- steps are ordered by their nodes, then by their keys
abbrev pub order : Bor (List Step) → Bor (List Step) → Ordering
order steps other = slice_cmp ghosts.cmp steps.now other.now

-- the place to which the steps lead, or that they lead to none
pub record IsReached (tables : Tables) (rows : List Row) (steps : List Step) (found : Option Here) : Type 0 where
  pub place : option_map (place_here rows steps) found ≡ place_at tables (top_place rows) steps
  pub within : IfSome found (IsWithin rows)

-- the table is that of the nodes directly in the place to which the steps lead
abbrev pub AreBranchesAt : List Row → List Step → Branches → Type 0
AreBranchesAt rows steps branches = AreBranches rows (length steps) branches.from branches.to branches.table

-- what was found holds
pub record IsTrail (tables : Tables) (rows : List Row) (trail : Trail) : Type 0 where
  pub places : (key : Bor (List Step)) → IfSome (get order trail.places key) (IsReached tables rows key.now)
  pub branches : (key : Bor (List Step)) → IfSome (get order trail.branches key) (AreBranchesAt rows key.now)
