-- The steps so far were done.
use Rattle.std.proofs.Common.{◌≡◌, take}
use Rattle.nc_script.proofs.Made.{words_by}
use Rattle.nc_script.specs.inner.Boards.{HasDone}
use Rattle.nc_script.proofs.run.take_steps.Given as goal

abbrev pub invariant-loop-step : goal.invariant-loop-step
invariant-loop-step g l = record {
  done : HasDone (words_by g.K.Keeper) l.fn.machine.state.schema
      (take l.step-index l.script) l.fn.machine l.machine l.talks;
  n_is : l.n ≡ l.step-index;
}
