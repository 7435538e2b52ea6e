use Rattle.std.specs.Prelude.{ℕ, List}
use Rattle.nc_protocol.specs.declared.request.Request.{Request}
use Rattle.nc_session.specs.declared.base.Base.{Base}
use Rattle.nc_session.specs.Cores.{IsAt}
use Rattle.nc_session.specs.inner.Turns.{Waits, intake}
use Rattle.nc_session.proofs.fetch.fetch.Given as goal

-- so many pieces were read since, and no request is whole
abbrev pub invariant-loop-piece : goal.invariant-loop-piece
invariant-loop-piece g l = (base : Base) (bytes : List ℕ) (given : List Request) → IsAt l.fn.core base bytes given
    → Waits l.core base bytes given (intake (g.S.Source.left l.fn.source) (g.S.Source.ends l.fn.source) (g.S.Source.faults l.fn.source))
    (intake (g.S.Source.left l.source) (g.S.Source.ends l.source) (g.S.Source.faults l.source)) l._piece
