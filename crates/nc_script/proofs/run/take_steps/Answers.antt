use Rattle.std.proofs.Common.{◌+◌, ◌<◌, length, refl, arith}
use Rattle.nc_script.proofs.Runnings.{done_none, done_step, fault_reached}
use Rattle.nc_script.proofs.run.take_steps.Goals as goal

pub loop-step-init : goal.loop-step-init
loop-step-init g c = record {
  done = done_none c.args.machine.now.state.schema c.args.machine.now c.new-talks.result
      (c.new-talks.ensures.stand c.args.machine.now.state.schema) c.new-talks.ensures.tally;
  n_is = refl;
}

pub take_step-requires-clause-low : goal.take_step-requires-clause-low
take_step-requires-clause-low g c = c.loop-step.invariant.done.stand.low

pub returns-in-Err : goal.returns-in-Err
returns-in-Err g c =
    let there : c.loop-step.step-index < length c.args.script.now = omega arith in
    fault_reached c.args.script.now c.loop-step.step-index (c.loop-step.n + 1) c.step-item.result c.step-item.result
    c.args.machine.now c.loop-step.machine c.take_step.new.machine c.loop-step.talks c.take_step.new.talks c.in-Err.fault
    c.fault_at.result c.loop-step.invariant.done there (omega (arith, c.loop-step.invariant.n_is)) c.step-item.is
    c.in-Err.ensures c.fault_at.ensures

pub loop-step-preserved : goal.loop-step-preserved
loop-step-preserved g c =
    let there : c.loop-step.step-index < length c.args.script.now = omega arith in
    record {
      done = done_step c.args.script.now c.loop-step.step-index c.step-item.result c.step-item.result c.args.machine.now
          c.loop-step.machine c.take_step.new.machine c.loop-step.talks c.take_step.new.talks _ c.loop-step.invariant.done there
          c.step-item.is c.in_default.ensures;
      n_is = omega (arith, c.loop-step.invariant.n_is);
    }
