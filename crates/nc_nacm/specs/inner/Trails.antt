-- Up to which node of a path reading is permitted.
use Rattle.std.specs.Prelude.{◌≡◌, ◌≤◌, ◌<◌, ◌+◌, ℕ, Bool, true, false, List, length, take}
use Rattle.std.specs.List.{list_all}
use Rattle.nc_names.specs.declared.path.Step.{Step}
use Rattle.nc_model.specs.Sight.{beginnings}

-- so many steps of the path are read, and the node after them, if there is one, is not
pub record IsTrail (reads : List Step → Bool) (steps : List Step) (seen : ℕ) : Type 0 where
  pub within : seen ≤ length steps
  pub above : list_all reads (beginnings (take seen steps)) ≡ true
  pub there : seen < length steps → reads (take (seen + 1) steps) ≡ false
