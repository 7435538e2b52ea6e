use Rattle.std.proofs.Common.{subst}
use Rattle.nc_model.specs.declared.event.Event.TheVariants.{End}
use Rattle.nc_script.proofs.Hearings.{comes_broken, stopped_as}
use Rattle.nc_script.specs.inner.Left.{EndsAs}
use Rattle.nc_script.proofs.hear.stop.Goals as goal

pub returns-in-Ok : goal.returns-in-Ok
returns-in-Ok g c =
    stopped_as c.args.session c.args.at c.args.stop c.ended_as.result c.args.machine.now c.end.new.machine c.in-Ok.entry c.in-Ok.ensures
    (subst (λ o. EndsAs c.args.stop o c.ended_as.result) c.into_outcome.ensures c.ended_as.ensures)

pub returns-in-Err : goal.returns-in-Err
returns-in-Err g c =
    comes_broken c.args.machine.now c.end.new.machine (End c.args.session) c.args.at c.in-Err.fault c.in-Err.ensures
