use Rattle.std.proofs.Common.{◌++◌, Option, Ok, subst, arith}
use Rattle.nc_protocol.specs.declared.request.Request.{Request}
use Rattle.nc_session.specs.inner.Turns.{intake, StepsOn}
use Rattle.nc_session.proofs.Fetching.{waits_none, waits_more, fetches_ask, fetches_end, never_so_long}
use Rattle.nc_session.proofs.fetch.fetch.Goals as goal

pub loop-piece-init : goal.loop-piece-init
loop-piece-init g c = λ base bytes given at.
    waits_none c.args.core.now base bytes given (intake (g.S.Source.left c.args.source.now) (g.S.Source.ends c.args.source.now) (g.S.Source.faults c.args.source.now)) at

pub loop-piece-preserved : goal.loop-piece-preserved
loop-piece-preserved g c = λ base bytes given at.
    let before = intake (g.S.Source.left c.args.source.now) (g.S.Source.ends c.args.source.now) (g.S.Source.faults c.args.source.now) in
    let middle = intake (g.S.Source.left c.loop-piece.source) (g.S.Source.ends c.loop-piece.source) (g.S.Source.faults c.loop-piece.source) in
    let now = intake (g.S.Source.left c.step.new.source) (g.S.Source.ends c.step.new.source) (g.S.Source.faults c.step.new.source) in
    let w = c.loop-piece.invariant base bytes given at in
    let P : Option Request → Type 0 = λ r. StepsOn c.step.new.core w.progress.now_base (bytes ++ w.progress.piece) given middle now (Ok r) in
    waits_more c.loop-piece.core c.step.new.core base bytes given before middle now c.loop-piece._piece w
    (subst P c.in-Ok-None.field-0-is (c.in-Ok-None.ensures.step w.progress.now_base (bytes ++ w.progress.piece) given w.at))

pub returns-in-Ok-Some-clause-fetches : goal.returns-in-Ok-Some-clause-fetches
returns-in-Ok-Some-clause-fetches g c = λ base bytes given at.
    let before = intake (g.S.Source.left c.args.source.now) (g.S.Source.ends c.args.source.now) (g.S.Source.faults c.args.source.now) in
    let middle = intake (g.S.Source.left c.loop-piece.source) (g.S.Source.ends c.loop-piece.source) (g.S.Source.faults c.loop-piece.source) in
    let now = intake (g.S.Source.left c.step.new.source) (g.S.Source.ends c.step.new.source) (g.S.Source.faults c.step.new.source) in
    let w = c.loop-piece.invariant base bytes given at in
    let P : Option Request → Type 0 = λ r. StepsOn c.step.new.core w.progress.now_base (bytes ++ w.progress.piece) given middle now (Ok r) in
    fetches_ask c.loop-piece.core c.step.new.core base bytes given before middle now c.loop-piece._piece w c.in-Ok-Some.request
    (subst P c.in-Ok-Some.field-0-is (c.in-Ok-Some.ensures.step w.progress.now_base (bytes ++ w.progress.piece) given w.at))

pub returns-in-Err-clause-fetches : goal.returns-in-Err-clause-fetches
returns-in-Err-clause-fetches g c = λ base bytes given at.
    let before = intake (g.S.Source.left c.args.source.now) (g.S.Source.ends c.args.source.now) (g.S.Source.faults c.args.source.now) in
    let middle = intake (g.S.Source.left c.loop-piece.source) (g.S.Source.ends c.loop-piece.source) (g.S.Source.faults c.loop-piece.source) in
    let now = intake (g.S.Source.left c.step.new.source) (g.S.Source.ends c.step.new.source) (g.S.Source.faults c.step.new.source) in
    let w = c.loop-piece.invariant base bytes given at in
    fetches_end c.loop-piece.core c.step.new.core base bytes given before middle now c.loop-piece._piece w c.in-Err.end
    (c.in-Err.ensures.step w.progress.now_base (bytes ++ w.progress.piece) given w.at)

pub unreachable-requires : goal.unreachable-requires
unreachable-requires g c =
    let before = intake (g.S.Source.left c.args.source.now) (g.S.Source.ends c.args.source.now) (g.S.Source.faults c.args.source.now) in
    let now = intake (g.S.Source.left c.loop-piece.source) (g.S.Source.ends c.loop-piece.source) (g.S.Source.faults c.loop-piece.source) in
    let r = c.requires.read in
    never_so_long c.args.core.now c.loop-piece.core r.base r.bytes r.given before now c.loop-piece._piece r.at
    (c.loop-piece.invariant r.base r.bytes r.given r.at) (omega arith)
