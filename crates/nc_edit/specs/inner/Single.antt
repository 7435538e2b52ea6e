-- Rows that have one value at each path.
use Rattle.std.specs.Prelude.{◌&&◌, ℕ, Bool, true, false, List, [], ◌∷◌, drop}
use Rattle.std.specs.Cmp.Lexicographic.{slice_cmp}
use Rattle.std.specs.Option.{option_map_or}
use Rattle.std.specs.Ordering.{is_lt}
use Rattle.std.specs.declared.cmp.Ordering.{Ordering}
use Rattle.nc_names.specs.Same.{is_same_value}
use Rattle.nc_names.specs.contracts.path.StepOrd.TheImpl.{ghosts}
use Rattle.nc_names.specs.declared.path.Row.{Row}
use Rattle.nc_names.specs.declared.path.Step.{Step}
use Rattle.nc_schema.specs.Blocks.{row_at}

-- steps are ordered by their nodes, then by their keys
abbrev pub steps_order : List Step → List Step → Ordering
steps_order steps others = slice_cmp ghosts.cmp steps others

-- rows come in the strict order of their steps from a depth on, after others
abbrev pub rises_from : ℕ → List Step → List Row → Bool
rises_from depth steps [] = true
rises_from depth steps (row ∷ rows) =
    is_lt (steps_order steps (drop depth row.path.steps)) && rises_from depth (drop depth row.path.steps) rows

-- rows come in the strict order of their steps from a depth on, whatever stood before
abbrev pub rises : ℕ → List Row → Bool
rises depth [] = true
rises depth (row ∷ rows) = rises_from depth (drop depth row.path.steps) rows

-- the first row at a row's path has its value
abbrev pub has_its_value : List Row → Row → Bool
has_its_value rows row =
    option_map_or (λ first. is_same_value first.value row.value) (row_at rows row.path.steps) false
