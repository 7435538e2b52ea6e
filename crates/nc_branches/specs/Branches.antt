-- What a tree of rows is seen as.
use Rattle.std.specs.Prelude.{ℕ, List, [], ◌∷◌, map, not, if◌then◌else◌}
use Rattle.std.specs.List.{filter}
use Rattle.std.proofs.Common.{Bor}
use Rattle.nc_names.specs.Same.{is_at_or_below, is_same_path}
use Rattle.nc_names.specs.declared.path.Row.{Row}
use Rattle.nc_names.specs.declared.path.Step.{Step}

-- its rows in order, and how many nodes it has
pub record Branches : Type 0 where
  pub rows : List Row
  pub cells : ℕ

-- a tree without nodes
abbrev pub no_branches : Branches
no_branches = record { rows = []; cells = 0 }

-- the rows to which references lead
abbrev pub rows_in : List (Bor Row) → List Row
rows_in found = map (λ row. row.now) found

-- the rows that are neither at the node nor below it
abbrev pub without_block : List Row → List Step → List Row
without_block rows steps = filter (λ row. not (is_at_or_below steps row.path)) rows

-- the rows with the first one at the path of another replaced by that
abbrev pub replaced : List Row → Row → List Row
replaced [] row = []
replaced (first ∷ rows) row =
    if is_same_path first.path.steps row.path.steps then row ∷ rows else first ∷ replaced rows row
