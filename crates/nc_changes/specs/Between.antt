-- Two configurations, of which one was before the other.
use Rattle.std.specs.Prelude.{List}
use Rattle.nc_names.specs.declared.path.Row.{Row}

-- two configurations, before and after
pub record Between : Type 0 where
  pub old : List Row
  pub new : List Row
