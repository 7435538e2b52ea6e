-- As many levels are left.
use Rattle.std.proofs.Common.{◌≡◌, ◌-◌}
use Rattle.nc_yang_nodes.specs.Plans.{most_levels}
use Rattle.nc_yang_data.specs.Defaults.{outermost}
use Rattle.nc_yang_data.proofs.defaults.outermost.Given as goal

abbrev pub invariant-loop-level : goal.invariant-loop-level
invariant-loop-level l =
    outermost l.schema most_levels l.number ≡ outermost l.schema (most_levels - l.level) l.at
