use Rattle.nc_shared.proofs.Closing.{closes}
use Rattle.nc_shared.proofs.shared.Shared+Held+K+C.close.Goals as goal

pub returns-clause-stands : goal.returns-clause-stands
returns-clause-stands g c =
    closes _ _ g.C.Clock.count g.C.Clock.given c.args.self c.close-held.result c.apart.result.0 c.apart.result.1 _
    c.apart.ensures.0 c.apart.ensures.1
    c.close-held.ensures.stands.1 c.close-held.ensures.stands.0
