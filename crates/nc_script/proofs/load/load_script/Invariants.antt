-- So many turns were taken.
use Rattle.std.proofs.Common.{◌≡◌, ◌++◌}
use Rattle.nc_script.specs.Load.{begin_steps, load_turns}
use Rattle.nc_script.proofs.load.load_script.Given as goal

abbrev pub invariant-loop-turn : goal.invariant-loop-turn
invariant-loop-turn l = l.steps ≡ begin_steps ++ load_turns l.turn
