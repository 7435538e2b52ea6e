use Rattle.std.proofs.Common.{refl, sym, subst, ap, ◌∙◌, map, string_bytes}
use Rattle.nc_outside.specs.Streams.{streams}
use Rattle.nc_device.specs.Crashes.{Untouched, crashing}
use Rattle.nc_device.specs.Outside.{filing, ground, making, stored, times}
use Rattle.nc_program.specs.Run.{HasNoMemory}
use Rattle.nc_device.specs.Sessions.{sitting}
use Rattle.nc_words.specs.Words.{IsStdio, Stdio, arguments, served}
use Rattle.nc_program.proofs.Doing.{sat}
use Rattle.nc_device.proofs.Lasting.{spares_so}
use Rattle.nc_program.proofs.Running.{no_server}
use Rattle.nc_device.proofs.Seated.{known_of, sat_lasting}
use Rattle.nc_program.proofs.done.stdio_words.Goals as goal

pub returns-in_default : goal.returns-in_default
returns-in_default g c = λ words listener asks held known.
    HasNoMemory (Stdio c.args.stdio.folder.now (record { user = c.args.stdio.user.now; groups = arguments (map string_bytes c.args.stdio.others.now); recovery = c.args.stdio.recovery })) c.args.stdio.folder.now asks (served (record { user = c.args.stdio.user.now; groups = arguments (map string_bytes c.args.stdio.others.now); recovery = c.args.stdio.recovery })) refl refl (Untouched (g.met.D.Disk.only_now c.args.disk))

pub returns-in-Err : goal.returns-in-Err
returns-in-Err g c = λ words listener asks held known.
    rw (c.with_clock.ensures.end, c.with_clock.ensures.disk, c.with_clock.ensures.clock)
    (no_server (crashing g.D.Disk.seen g.D.Disk.may_leave g.D.Disk.moment g.D.Disk.left_since held c.args.disk c.in-Err.ended.disk) words (Stdio c.args.stdio.folder.now (record { user = c.args.stdio.user.now; groups = arguments (map string_bytes c.args.stdio.others.now); recovery = c.args.stdio.recovery })) c.args.stdio.folder.now
    (ground (filing (g.F.Files.files c.args.files.now) (g.F.Files.faults c.args.files.now)) (stored (g.D.Disk.seen c.args.disk) (g.D.Disk.faults c.args.disk)) (making (g.P.Maker.refusals c.args.maker.now) (g.P.Maker.last_refused c.args.maker.now)))
    (ground (filing (g.F.Files.files c.ready_of.new.files) (g.F.Files.faults c.ready_of.new.files)) (stored (g.D.Disk.seen c.in-Err.ended.disk) (g.D.Disk.faults c.in-Err.ended.disk)) (making (g.P.Maker.refusals c.ready_of.new.maker) (g.P.Maker.last_refused c.ready_of.new.maker)))
    (streams (g.S.Source.left c.args.source.now) (g.S.Source.ends c.args.source.now) (g.S.Source.faults c.args.source.now) (g.K.Sink.taken c.args.sink.now) (g.K.Sink.faults c.args.sink.now)) (times (g.C.Clock.given c.args.clock) (g.C.Clock.count c.args.clock)) listener
    c.in-Err.ended.end asks (served (record { user = c.args.stdio.user.now; groups = arguments (map string_bytes c.args.stdio.others.now); recovery = c.args.stdio.recovery }))
    (spares_so g.D.Disk.seen g.D.Disk.may_leave g.D.Disk.moment g.D.Disk.left_since c.args.disk c.in-Err.ended.disk (filing (g.F.Files.files c.args.files.now) (g.F.Files.faults c.args.files.now)) c.args.stdio.folder.now held
    (λ device makes. known_of words (filing (g.F.Files.files c.args.files.now) (g.F.Files.faults c.args.files.now)) (g.D.Disk.may_leave c.args.disk) (Stdio c.args.stdio.folder.now (record { user = c.args.stdio.user.now; groups = arguments (map string_bytes c.args.stdio.others.now); recovery = c.args.stdio.recovery })) c.args.stdio.folder.now device asks (served (record { user = c.args.stdio.user.now; groups = arguments (map string_bytes c.args.stdio.others.now); recovery = c.args.stdio.recovery })) makes held known) c.in-Err.ensures.spared) c.in-Err.ensures.fails)

pub returns-in-Ok-ready_of : goal.returns-in-Ok-ready_of
returns-in-Ok-ready_of g c = λ words listener asks held known.
    let ready = c.in-Ok-ready_of.ensures.ready in
    let known_there = (known_of words (filing (g.F.Files.files c.args.files.now) (g.F.Files.faults c.args.files.now)) (g.D.Disk.may_leave c.args.disk) (Stdio c.args.stdio.folder.now (record { user = c.args.stdio.user.now; groups = arguments (map string_bytes c.args.stdio.others.now); recovery = c.args.stdio.recovery })) c.args.stdio.folder.now ready.device asks (served (record { user = c.args.stdio.user.now; groups = arguments (map string_bytes c.args.stdio.others.now); recovery = c.args.stdio.recovery })) ready.makes held known) in
    rw (c.over.ensures.end, c.over.ensures.disk, c.over.ensures.clock)
    (sat (crashing g.D.Disk.seen g.D.Disk.may_leave g.D.Disk.moment g.D.Disk.left_since held c.args.disk c.serve.result.machine.keeper.disk) words c.args.stdio.folder.now c.in-Ok.peer (ground (filing (g.F.Files.files c.args.files.now) (g.F.Files.faults c.args.files.now)) (stored (g.D.Disk.seen c.args.disk) (g.D.Disk.faults c.args.disk)) (making (g.P.Maker.refusals c.args.maker.now) (g.P.Maker.last_refused c.args.maker.now)))
    (ground (filing (g.F.Files.files c.ready_of.new.files) (g.F.Files.faults c.ready_of.new.files)) (stored (g.D.Disk.seen c.args.disk) (g.D.Disk.faults c.args.disk)) (making (g.P.Maker.refusals c.ready_of.new.maker) (g.P.Maker.last_refused c.ready_of.new.maker)))
    (stored (g.D.Disk.seen c.serve.result.machine.keeper.disk) (g.D.Disk.faults c.serve.result.machine.keeper.disk))
    (streams (g.S.Source.left c.args.source.now) (g.S.Source.ends c.args.source.now) (g.S.Source.faults c.args.source.now) (g.K.Sink.taken c.args.sink.now) (g.K.Sink.faults c.args.sink.now))
    (streams (g.S.Source.left c.serve.new.source) (g.S.Source.ends c.serve.new.source) (g.S.Source.faults c.serve.new.source) (g.K.Sink.taken c.serve.new.sink) (g.K.Sink.faults c.serve.new.sink))
    (times (g.C.Clock.given c.args.clock) (g.C.Clock.count c.args.clock)) (times (g.C.Clock.given c.serve.result.clock) (g.C.Clock.count c.serve.result.clock)) listener
    c.in-Ok-ready_of.ready.opened.machine.state c.in-Ok-ready_of.ready.opened.schema.value c.in-Ok-ready_of.ready.modules _ c.serve.result.end
    (subst (λ p. IsStdio words c.args.stdio.folder.now p) (sym c.in-Ok.ensures) asks) ready
    (sat_lasting g.D.Disk.seen g.D.Disk.may_leave g.D.Disk.moment g.D.Disk.left_since c.args.disk _ ready.device c.in-Ok-ready_of.ready.opened.machine ready.begun held known_there c.serve.result.machine
    (g.D.Disk.faults c.serve.result.machine.keeper.disk) c.in-Ok.peer
    (sitting (streams (g.S.Source.left c.args.source.now) (g.S.Source.ends c.args.source.now) (g.S.Source.faults c.args.source.now) (g.K.Sink.taken c.args.sink.now) (g.K.Sink.faults c.args.sink.now)) (times (g.C.Clock.given c.args.clock) (g.C.Clock.count c.args.clock)))
    (sitting (streams (g.S.Source.left c.serve.new.source) (g.S.Source.ends c.serve.new.source) (g.S.Source.faults c.serve.new.source) (g.K.Sink.taken c.serve.new.sink) (g.K.Sink.faults c.serve.new.sink)) (times (g.C.Clock.given c.serve.result.clock) (g.C.Clock.count c.serve.result.clock)))
    c.serve.result.end (ap g.D.Disk.faults (sym c.over.ensures.disk) ∙ c.over.ensures.faults) c.serve.ensures))
