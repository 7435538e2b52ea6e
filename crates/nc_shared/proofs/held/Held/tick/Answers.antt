use Rattle.std.proofs.Common.{refl}
use Rattle.nc_shared.proofs.Gaining.{seat_more}
use Rattle.nc_shared.proofs.held.Held.tick.Goals as goal

pub returns : goal.returns
returns g c = (
  c.tick.ensures.entered.event_is,
  record {
    home = refl;
    stands = λ history stood.
        seat_more _ _ c.args.self.now.machine c.tick.new.self _ _ _ _ _ _ history _ c.tick.result c.now-at.ensures.count
        c.now-at.ensures.told c.tick.ensures.entered.at_is c.tick.ensures.goes_on stood;
  },
)
