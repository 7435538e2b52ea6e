use Rattle.std.proofs.Common.{Ok, ap, arith, inl, refl}
use Rattle.nc_script.proofs.Made.{words_by}
use Rattle.nc_script.proofs.Hearings.{turn_is}
use Rattle.nc_script.proofs.Listenings.{broken_off, counted_more, heard_over, heard_waits, listening_more, listening_none, never_so_many}
use Rattle.nc_script.specs.inner.Hearing.{further}
use Rattle.nc_script.specs.declared.hear.Turn.TheVariants.{Answered, Waits, Over}
use Rattle.nc_script.proofs.hear.listen.Goals as goal

pub loop-request-init : goal.loop-request-init
loop-request-init g c = (
  λ schema course live.
      listening_none schema c.args.session c.args.at course c.args.machine.now c.args.core.now c.args.text.now c.args.tally.now live,
  inl refl,
)

pub returns-in-Ok-Waits : goal.returns-in-Ok-Waits
returns-in-Ok-Waits g c = λ schema course live.
    let l = c.loop-request.invariant.0 schema course live in
    let here = further course l.base l.asked l.answers in
    heard_waits schema c.args.session c.args.at course c.args.machine.now c.loop-request.machine c.take_turn.new.machine c.loop-request.core
    c.take_turn.new.core c.loop-request.text c.take_turn.new.text c.args.tally.now c.loop-request.tally c.take_turn.new.tally
    l
    (turn_is (words_by g.K.Keeper) schema c.args.session c.args.at here c.loop-request.machine
    c.take_turn.new.machine c.take_turn.new.core
    c.take_turn.new.text c.loop-request.tally c.take_turn.new.tally c.in-Ok-Waits.field-0 Waits c.in-Ok-Waits.field-0-is
    (c.in-Ok-Waits.ensures.turns schema here l.lives))

pub returns-in-Ok-Over : goal.returns-in-Ok-Over
returns-in-Ok-Over g c = λ schema course live.
    let l = c.loop-request.invariant.0 schema course live in
    let here = further course l.base l.asked l.answers in
    heard_over schema c.args.session c.args.at course c.args.machine.now c.loop-request.machine c.take_turn.new.machine c.loop-request.core
    c.take_turn.new.core c.loop-request.text c.take_turn.new.text c.args.tally.now c.loop-request.tally c.take_turn.new.tally
    l
    c.in-Ok-Over.end
    (turn_is (words_by g.K.Keeper) schema c.args.session c.args.at here c.loop-request.machine
    c.take_turn.new.machine c.take_turn.new.core
    c.take_turn.new.text c.loop-request.tally c.take_turn.new.tally c.in-Ok-Over.field-0 (Over c.in-Ok-Over.end) c.in-Ok-Over.field-0-is
    (c.in-Ok-Over.ensures.turns schema here l.lives))

pub returns-in-Err : goal.returns-in-Err
returns-in-Err g c = λ schema course live.
    let l = c.loop-request.invariant.0 schema course live in
    let here = further course l.base l.asked l.answers in
    broken_off schema c.args.session c.args.at course c.args.machine.now c.loop-request.machine c.take_turn.new.machine c.loop-request.core
    c.take_turn.new.core c.loop-request.text c.take_turn.new.text c.args.tally.now c.loop-request.tally c.take_turn.new.tally
    l
    c.in-Err.fault (c.in-Err.ensures.turns schema here l.lives)

pub loop-request-preserved : goal.loop-request-preserved
loop-request-preserved g c =
    let one = c.in-Ok-Answered.ensures.counts (ap Ok c.in-Ok-Answered.field-0-is) in (
      λ schema course live.
          let l = c.loop-request.invariant.0 schema course live in
          let here = further course l.base l.asked l.answers in
          listening_more schema c.args.session c.args.at course c.args.machine.now c.loop-request.machine c.take_turn.new.machine c.loop-request.core
          c.take_turn.new.core c.loop-request.text c.take_turn.new.text c.args.tally.now c.loop-request.tally c.take_turn.new.tally
          l
          (turn_is (words_by g.K.Keeper) schema c.args.session c.args.at here c.loop-request.machine
          c.take_turn.new.machine c.take_turn.new.core
          c.take_turn.new.text c.loop-request.tally c.take_turn.new.tally c.in-Ok-Answered.field-0 Answered c.in-Ok-Answered.field-0-is
          (c.in-Ok-Answered.ensures.turns schema here l.lives)),
      counted_more c.loop-request._request c.loop-request.machine.count c.take_turn.new.machine.count c.loop-request.invariant.1 one.one one.few,
    )

pub unreachable-requires : goal.unreachable-requires
unreachable-requires g c =
    never_so_many c.loop-request._request c.loop-request.machine.count c.loop-request.invariant.1 (omega arith)
