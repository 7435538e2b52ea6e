use Rattle.std.proofs.Common.{◌++◌, ◌∷◌, []}
use Rattle.nc_outside.specs.Streams.{streams}
use Rattle.nc_session.specs.inner.Turns.{intake}
use Rattle.nc_session.proofs.Turning.{on_ok, to_ask, unfetched}
use Rattle.nc_session.proofs.turn.exchange.Goals as goal

pub ask-requires-clause-serving : goal.ask-requires-clause-serving
ask-requires-clause-serving g c =
    let r = c.requires.read in
    let f = c.in-Ok.ensures.fetches r.base r.bytes r.given r.at in (f.0.now_base, f.2)

pub returns-in-Ok-clause-read : goal.returns-in-Ok-clause-read
returns-in-Ok-clause-read g c =
    let r = c.requires.read in
    let f = c.in-Ok.ensures.fetches r.base r.bytes r.given r.at in
    on_ok c.ask.result (record {
      base = f.0.now_base;
      bytes = r.bytes ++ f.0.piece;
      given = r.given ++ c.in-Ok.request ∷ [];
      at = f.3;
    })

pub returns-in-Ok-clause-turns : goal.returns-in-Ok-clause-turns
returns-in-Ok-clause-turns g c = λ schema call u.
    let now = streams (g.S.Source.left c.args.source.now) (g.S.Source.ends c.args.source.now) (g.S.Source.faults c.args.source.now) (g.K.Sink.taken c.args.sink.now) (g.K.Sink.faults c.args.sink.now) in
    let later = intake (g.S.Source.left c.fetch.new.source) (g.S.Source.ends c.fetch.new.source) (g.S.Source.faults c.fetch.new.source) in
    let f = c.in-Ok.ensures.fetches u.course.base u.course.bytes u.course.requests u.at in
    c.ask.ensures schema call f.0.now_base later.left later.ends later.failed f.2
    (to_ask schema call c.args.session (g.Q.Desk.stands c.args.desk.now call.home) c.args.core.now now u later f.0 c.fetch.new.core c.in-Ok.request f.1 f.3)

pub returns-in-Err-clause-turns : goal.returns-in-Err-clause-turns
returns-in-Err-clause-turns g c = λ schema call u.
    let now = streams (g.S.Source.left c.args.source.now) (g.S.Source.ends c.args.source.now) (g.S.Source.faults c.args.source.now) (g.K.Sink.taken c.args.sink.now) (g.K.Sink.faults c.args.sink.now) in
    let later = intake (g.S.Source.left c.fetch.new.source) (g.S.Source.ends c.fetch.new.source) (g.S.Source.faults c.fetch.new.source) in
    unfetched schema call c.args.session (g.Q.Desk.stands c.args.desk.now call.home) c.args.core.now now u (g.Q.Desk.spent c.args.desk.now) c.fetch.new.core later c.in-Err.end
    (c.in-Err.ensures.fetches u.course.base u.course.bytes u.course.requests u.at)
