use Rattle.std.proofs.Common.{◌++◌}
use Rattle.nc_session.specs.inner.Unseen.{Unseen}
use Rattle.nc_session.proofs.Reading.{fed, fed_over, inner, outer}
use Rattle.nc_session.proofs.session_core.SessionCore.feed.Goals as goal

pub returns-in-Over : goal.returns-in-Over
returns-in-Over c = λ base bytes given at.
    outer base (bytes ++ c.args.piece.now) given c.self.view_is
    (fed_over (Unseen c.self.inside.inbox) c.self.inside.phase c.in-Over.end base bytes c.args.piece.now given c.in-Over.is
    (inner base bytes given c.self.view_is at))

pub returns : goal.returns
returns c = λ base bytes given at.
    fed (Unseen c.self.inside.inbox) (Unseen c.feed.new.self) c.self.inside.phase base bytes c.args.piece.now given c.feed.result
    c.feed.ensures (inner base bytes given c.self.view_is at)
