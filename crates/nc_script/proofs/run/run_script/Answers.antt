use Rattle.std.proofs.Common.{◌-◌}
use Rattle.nc_script.proofs.Runnings.{all_done, no_room_in}
use Rattle.nc_script.proofs.run.run_script.Goals as goal

pub returns-in_err-outputs : goal.returns-in_err-outputs
returns-in_err-outputs g c =
    no_room_in c.args.script.now c.args.machine.now c.take_steps.new.machine c.in_ok-talks.talks c.from_residual-in_err-outputs.result
    c.in_ok-talks.ensures c.from_residual-in_err-outputs.ensures.1

pub returns : goal.returns
returns g c =
    let h = c.in_ok-talks.ensures in
    all_done c.args.script.now c.args.machine.now c.take_steps.new.machine c.in_ok-talks.talks c.in_ok-outputs.outputs
    (c.count.result - c.count-first.result) c.rows.result h c.count.ensures.sound.few
    (c.in_ok-outputs.ensures c.args.machine.now.state.schema h.board h.stand)
    (λ i. c.count.ensures.count i - c.count-first.ensures.count i) c.rows.ensures
