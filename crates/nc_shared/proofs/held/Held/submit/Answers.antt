use Rattle.std.proofs.Common.{refl}
use Rattle.nc_machine.proofs.Standing.{made_may_come}
use Rattle.nc_shared.proofs.Gaining.{reading_is, seat_more}
use Rattle.nc_shared.proofs.held.Held.submit.Goals as goal

pub returns-in-Ok : goal.returns-in-Ok
returns-in-Ok g c = record {
  gains = (
    c.in-Ok.ensures.entered.event_is,
    record {
      home = refl;
      stands = λ history stood.
          seat_more _ _ c.args.self.now.machine c.handle.new.self _ _ _ _ _ _ history _ c.in-Ok.entry
          c.now-at.ensures.count
          c.now-at.ensures.told c.in-Ok.ensures.entered.at_is c.in-Ok.ensures.goes_on stood;
    },
  );
  comes = made_may_come _ _ c.args.event _ c.in-Ok.entry c.in-Ok.ensures.entered;
}

pub returns-in-Err : goal.returns-in-Err
returns-in-Err g c =
    let goes = reading_is _ c.args.self.now.machine c.handle.new.self c.now-at.result _ _ c.in-Err.ensures.memory
    c.count.ensures.count c.faults.ensures.faults c.in-Err.ensures.goes_on in record {
      gains = record {
        home = refl;
        stands = λ history stood.
            seat_more _ _ c.args.self.now.machine c.handle.new.self _ _ _ _ _ _ history _ _ c.now-at.ensures.count
            c.now-at.ensures.told refl goes stood;
      };
      comes = tt;
    }
