-- Nodes that come in the order of their steps.
use Rattle.std.specs.Prelude.{◌&&◌, Bool, true, List, [], ◌∷◌}
use Rattle.std.specs.Ordering.{is_lt}
use Rattle.nc_names.specs.declared.path.Path.{Path}
use Rattle.nc_names.specs.declared.path.Step.{Step}
use Rattle.nc_partial.specs.inner.Entries.{steps_cmp}

-- each comes after these steps, and after those before it
abbrev pub rises_from : List Step → List Path → Bool
rises_from steps [] = true
rises_from steps (path ∷ paths) = is_lt (steps_cmp steps path.steps) && rises_from path.steps paths

-- each comes after those before it
abbrev pub rises : List Path → Bool
rises [] = true
rises (path ∷ paths) = rises_from path.steps paths
