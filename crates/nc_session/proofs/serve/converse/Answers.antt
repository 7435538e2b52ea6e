use Rattle.std.proofs.Common.{arith}
use Rattle.nc_outside.specs.Streams.{streams}
use Rattle.nc_session.proofs.Serving.{never_so_many}
use Rattle.nc_session.proofs.serve.converse.Goals as goal

pub exchange-requires-clause-read : goal.exchange-requires-clause-read
exchange-requires-clause-read g c = c.loop-request.invariant.1

pub loop-request-init : goal.loop-request-init
loop-request-init g c = (λ schema call u. (u, omega arith), c.requires.read)

pub loop-request-preserved : goal.loop-request-preserved
loop-request-preserved g c = (
  λ schema call u.
      let before = c.loop-request.invariant.0 schema call u in
      let then = c.in_default.ensures.turns schema call before.0 in
      (then.0, omega (arith, before.1, then.1)),
  c.in_default.ensures.read,
)

pub returns-in-Err : goal.returns-in-Err
returns-in-Err g c = λ schema call u. c.in-Err.ensures.turns schema call (c.loop-request.invariant.0 schema call u).0

pub returns : goal.returns
returns g c = λ schema call u.
    let here = c.loop-request.invariant.0 schema call u in
    let now = streams (g.S.Source.left c.loop-request.source) (g.S.Source.ends c.loop-request.source) (g.S.Source.faults c.loop-request.source) (g.K.Sink.taken c.loop-request.sink) (g.K.Sink.faults c.loop-request.sink) in
    absurd (never_so_many schema call c.args.session (g.Q.Desk.stands c.loop-request.desk call.home) c.loop-request.core now here.0
    (λ a b s. g.met.Q.Desk.views c.loop-request.desk call.home a b s) c.loop-request._request here.1 (omega arith))
