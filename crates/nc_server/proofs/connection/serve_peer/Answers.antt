use Rattle.nc_server.proofs.Homes.{served_at_home}
use Rattle.nc_server.proofs.connection.serve_peer.Goals as goal

pub returns-clause-home : goal.returns-clause-home
returns-clause-home g c = λ home at.
    served_at_home c.requires at.3 (c.serve_session.ensures home at.0 at.1 at.2)
