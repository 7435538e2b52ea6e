use Rattle.std.proofs.Common.{ap, refl}
use Rattle.nc_shared.proofs.Gaining.{seat_begins}
use Rattle.nc_shared.proofs.shared.Shared+Held+K+C.new.Goals as goal

pub new-requires : goal.new-requires
new-requires g c =
    seat_begins _ c.args.machine _ c.answers-from.result _ _ _ c.of-began.ensures c.requires refl refl
    (ap g.C.Clock.given c.of-heard.ensures) c.answers-from.ensures c.answers-from.type_inv
