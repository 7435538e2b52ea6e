use Rattle.std.proofs.Common.{◌≡◌, [], None, refl}
use Rattle.nc_device.specs.Crashes.{crashing}
use Rattle.nc_device.specs.Outside.{filing, ground, listening, making, stored, times}
use Rattle.nc_words.specs.Words.{Serve, listened}
use Rattle.nc_device.specs.Begun.{HasLeft, store_words}
use Rattle.nc_program.proofs.Doing.{served_so}
use Rattle.nc_device.proofs.Lasting.{given_back, has_left, spares_so}
use Rattle.nc_program.proofs.Running.{no_server}
use Rattle.nc_device.proofs.Seated.{known_of}
use Rattle.nc_program.proofs.done.serve_words.Goals as goal

pub returns-in-Err : goal.returns-in-Err
returns-in-Err g c = λ words address streams asks held known.
    rw (c.with_clock.ensures.end, c.with_clock.ensures.disk, c.with_clock.ensures.clock)
    (no_server (crashing g.D.Disk.seen g.D.Disk.may_leave g.D.Disk.moment g.D.Disk.left_since held c.args.disk c.in-Err.ended.disk) words (Serve c.args.folder.now address) c.args.folder.now (ground (filing (g.F.Files.files c.args.files.now) (g.F.Files.faults c.args.files.now)) (stored (g.D.Disk.seen c.args.disk) (g.D.Disk.faults c.args.disk)) (making (g.P.Maker.refusals c.args.maker.now) (g.P.Maker.last_refused c.args.maker.now)))
    (ground (filing (g.F.Files.files c.ready_of.new.files) (g.F.Files.faults c.ready_of.new.files)) (stored (g.D.Disk.seen c.in-Err.ended.disk) (g.D.Disk.faults c.in-Err.ended.disk)) (making (g.P.Maker.refusals c.ready_of.new.maker) (g.P.Maker.last_refused c.ready_of.new.maker)))
    streams (times (g.C.Clock.given c.args.clock) (g.C.Clock.count c.args.clock)) (listening (g.L.Listener.failed c.args.listener.now) (g.L.Listener.over c.args.listener.now)) c.in-Err.ended.end asks (listened address)
    (spares_so g.D.Disk.seen g.D.Disk.may_leave g.D.Disk.moment g.D.Disk.left_since c.args.disk c.in-Err.ended.disk (filing (g.F.Files.files c.args.files.now) (g.F.Files.faults c.args.files.now)) c.args.folder.now held
    (λ device makes. known_of words (filing (g.F.Files.files c.args.files.now) (g.F.Files.faults c.args.files.now)) (g.D.Disk.may_leave c.args.disk) (Serve c.args.folder.now address) c.args.folder.now device asks (listened address) makes held known) c.in-Err.ensures.spared) c.in-Err.ensures.fails)

pub returns-in-Ok : goal.returns-in-Ok
returns-in-Ok g c = λ words address streams asks held known.
    let ready = c.in-Ok.ensures.ready in
    let known_there = (known_of words (filing (g.F.Files.files c.args.files.now) (g.F.Files.faults c.args.files.now)) (g.D.Disk.may_leave c.args.disk) (Serve c.args.folder.now address) c.args.folder.now ready.device asks (listened address) ready.makes held known) in
    served_so (crashing g.D.Disk.seen g.D.Disk.may_leave g.D.Disk.moment g.D.Disk.left_since held c.args.disk c.serve_at.result.disk) words c.args.folder.now address (ground (filing (g.F.Files.files c.args.files.now) (g.F.Files.faults c.args.files.now)) (stored (g.D.Disk.seen c.args.disk) (g.D.Disk.faults c.args.disk)) (making (g.P.Maker.refusals c.args.maker.now) (g.P.Maker.last_refused c.args.maker.now)))
    (ground (filing (g.F.Files.files c.ready_of.new.files) (g.F.Files.faults c.ready_of.new.files)) (stored (g.D.Disk.seen c.args.disk) (g.D.Disk.faults c.args.disk)) (making (g.P.Maker.refusals c.ready_of.new.maker) (g.P.Maker.last_refused c.ready_of.new.maker)))
    (stored (g.D.Disk.seen c.serve_at.result.disk) (g.D.Disk.faults c.serve_at.result.disk)) streams (times (g.C.Clock.given c.args.clock) (g.C.Clock.count c.args.clock)) (times (g.C.Clock.given c.serve_at.result.clock) (g.C.Clock.count c.serve_at.result.clock))
    (listening (g.L.Listener.failed c.args.listener.now) (g.L.Listener.over c.args.listener.now)) (listening (g.L.Listener.failed c.serve_at.new.listener) (g.L.Listener.over c.serve_at.new.listener))
    c.in-Ok.ready.opened.machine.state c.in-Ok.ready.opened.schema.value c.in-Ok.ready.modules _ (HasLeft (store_words g.D.Disk.seen g.D.Disk.moment g.D.Disk.left_since) c.in-Ok.ready.opened.machine c.serve_at.result.disk) (c.serve_at.result.disk ≡ c.in-Ok.ready.opened.machine.keeper.disk) c.serve_at.result.end asks
    ready
    (has_left g.D.Disk.seen g.D.Disk.may_leave g.D.Disk.moment g.D.Disk.left_since c.args.disk ready.device c.in-Ok.ready.opened.machine ready.begun (times None 0) [] held known_there c.serve_at.result.disk)
    (λ kept. (spares_so g.D.Disk.seen g.D.Disk.may_leave g.D.Disk.moment g.D.Disk.left_since c.args.disk c.serve_at.result.disk (filing (g.F.Files.files c.args.files.now) (g.F.Files.faults c.args.files.now)) c.args.folder.now held
    (λ device makes. known_of words (filing (g.F.Files.files c.args.files.now) (g.F.Files.faults c.args.files.now)) (g.D.Disk.may_leave c.args.disk) (Serve c.args.folder.now address) c.args.folder.now device asks (listened address) makes held known) (given_back g.D.Disk.seen g.D.Disk.may_leave g.D.Disk.moment g.D.Disk.left_since c.args.disk ready.device c.in-Ok.ready.opened.machine ready.begun (times None 0) [] (filing (g.F.Files.files c.args.files.now) (g.F.Files.faults c.args.files.now)) c.args.folder.now c.serve_at.result.disk ready.makes kept)))
    c.serve_at.ensures
