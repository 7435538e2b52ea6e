use Rattle.std.proofs.Common.{sym}
use Rattle.nc_shared.proofs.seats.Seats.finish.Goals as goal

pub returns : goal.returns
returns g c = record {
  shared = c.self.inside.shared.now;
  of = c.self.invariant.of;
  few = c.self.invariant.few;
  plain = c.self.invariant.plain;
  office_is = sym c.self.view_is;
}
