-- Why a text is no path, and where.
use Rattle.std.specs.Prelude.{◌≡◌, ℕ, Bool, List, min}
use Rattle.nc_path_places.specs.declared.fault.PathFault.{PathFault}
use Rattle.nc_path_places.specs.declared.fault.PathFault.TheVariants.{BadPath, Memory}
use Rattle.nc_schema.specs.InstancePaths.{IsFaultAt}

-- so it is where the text is bad; of want of memory nothing is said
abbrev pub OnBadPath : PathFault → (ℕ → Type 0) → Type 0
OnBadPath (BadPath at) P = P at
OnBadPath Memory P = Unit {0}

-- the greatest number of a place that is answered
abbrev pub most_place : ℕ
most_place = 4294967295

-- the place of the fault of the text, or the greatest number where it is beyond that
abbrev pub IsFaultNumber : (List ℕ → Bool) → List ℕ → ℕ → Type 0
IsFaultNumber passes text at = (place : ℕ) × IsFaultAt passes text place × (at ≡ min place most_place)
