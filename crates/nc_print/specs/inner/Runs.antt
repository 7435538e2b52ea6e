-- How many rows stand first in one element.
use Rattle.std.specs.Prelude.{◌≡◌, ◌≤◌, ℕ, suc, Bool, if◌then◌else◌, List, [], ◌∷◌, length, take, drop}
use Rattle.nc_names.specs.declared.path.Row.{Row}
use Rattle.nc_protocol.specs.Printed.{cut}

-- how many rows go on, one from another, from this row on
abbrev pub run_length : (Row → Row → Bool) → Row → List Row → ℕ
run_length goes row [] = 1
run_length goes row (next ∷ more) = if goes row next then suc (run_length goes next more) else 1

-- so many rows stand first in one element, and the others are cut by themselves
pub record IsRun (goes : Row → Row → Bool) (rows : List Row) (count : ℕ) : Type 0 where
  pub some : 1 ≤ count
  pub within : count ≤ length rows
  pub cut_is : cut goes rows ≡ take count rows ∷ cut goes (drop count rows)
