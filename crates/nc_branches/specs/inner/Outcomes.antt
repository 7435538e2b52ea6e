-- What becomes of rows when others are put among them.
use Rattle.std.specs.Prelude.{List, [], Option}
use Rattle.std.specs.Option.{option_map_or}
use Rattle.nc_names.specs.declared.path.Row.{Row}
use Rattle.nc_branches.specs.Branches.{Branches}
use Rattle.nc_branches.specs.inner.Shoots.{Shoot, rows_of}
use Rattle.nc_branches.specs.declared.outcome.Outcome.{Outcome}
use Rattle.nc_branches.specs.declared.outcome.Outcome.TheVariants.{Unknown, Kept, Made}
use Rattle.nc_branches.specs.declared.outcome.NodeOutcome.{NodeOutcome}
use Rattle.nc_branches.specs.declared.outcome.NodeOutcome.TheVariants.{Unknown as NodeUnknown, Kept as NodeKept, Made as NodeMade}

-- it is so of the rows that then stand, where these are known
abbrev pub Becomes : Outcome → List Row → (List Row → Type 0) → Type 0
Becomes Unknown old P = Unit {0}
Becomes Kept old P = P old
Becomes (Made tree) old P = P tree.rows

-- so it is with those of a node
abbrev pub NodeBecomes : NodeOutcome → Shoot → (List Row → Type 0) → Type 0
NodeBecomes NodeUnknown shoot P = Unit {0}
NodeBecomes NodeKept shoot P = P (rows_of shoot)
NodeBecomes (NodeMade here) shoot P = P (option_map_or rows_of here [])
