use Rattle.std.proofs.Common.{[], None, refl, sym, subst}
use Rattle.nc_machine.specs.Serving.{GoesOn}
use Rattle.nc_outside.specs.Streams.{streams}
use Rattle.nc_device.specs.Crashes.{Lasts, crashing}
use Rattle.nc_words.specs.Notes.{told}
use Rattle.nc_device.specs.Outside.{filing, ground, making, stored, times}
use Rattle.nc_reports.specs.Scripts.{Scripts}
use Rattle.nc_words.specs.Words.{Script, scripted}
use Rattle.nc_device.specs.Begun.{store_words}
use Rattle.nc_program.proofs.Doing.{scripted_so, unread}
use Rattle.nc_device.proofs.Lasting.{given_back, has_left, spares_so}
use Rattle.nc_program.proofs.Running.{no_server}
use Rattle.nc_reports.proofs.Scripting.{scripts_so}
use Rattle.nc_device.proofs.Seated.{known_of}
use Rattle.nc_program.proofs.done.script_words.Goals as goal

pub returns-in-Err : goal.returns-in-Err
returns-in-Err g c = λ words left ends failed clock listener asks held known.
    no_server (crashing g.D.Disk.seen g.D.Disk.may_leave g.D.Disk.moment g.D.Disk.left_since held c.args.disk c.in-Err.ended.disk) words (Script c.args.folder.now c.args.file.now) c.args.folder.now (ground (filing (g.F.Files.files c.args.files.now) (g.F.Files.faults c.args.files.now)) (stored (g.D.Disk.seen c.args.disk) (g.D.Disk.faults c.args.disk)) (making (g.P.Maker.refusals c.args.maker.now) (g.P.Maker.last_refused c.args.maker.now)))
    (ground (filing (g.F.Files.files c.ready_of.new.files) (g.F.Files.faults c.ready_of.new.files)) (stored (g.D.Disk.seen c.in-Err.ended.disk) (g.D.Disk.faults c.in-Err.ended.disk)) (making (g.P.Maker.refusals c.ready_of.new.maker) (g.P.Maker.last_refused c.ready_of.new.maker)))
    (streams left ends failed (g.K.Sink.taken c.args.sink.now) (g.K.Sink.faults c.args.sink.now)) clock listener c.in-Err.ended.end asks (scripted c.args.file.now)
    (spares_so g.D.Disk.seen g.D.Disk.may_leave g.D.Disk.moment g.D.Disk.left_since c.args.disk c.in-Err.ended.disk (filing (g.F.Files.files c.args.files.now) (g.F.Files.faults c.args.files.now)) c.args.folder.now held
    (λ device makes. known_of words (filing (g.F.Files.files c.args.files.now) (g.F.Files.faults c.args.files.now)) (g.D.Disk.may_leave c.args.disk) (Script c.args.folder.now c.args.file.now) c.args.folder.now device asks (scripted c.args.file.now) makes held known) c.in-Err.ensures.spared) c.in-Err.ensures.fails

pub returns-in-Ok-text_of : goal.returns-in-Ok-text_of
returns-in-Ok-text_of g c = λ words left ends failed clock listener asks held known.
    let ready = c.in-Ok.ensures.ready in
    let known_there = (known_of words (filing (g.F.Files.files c.args.files.now) (g.F.Files.faults c.args.files.now)) (g.D.Disk.may_leave c.args.disk) (Script c.args.folder.now c.args.file.now) c.args.folder.now ready.device asks (scripted c.args.file.now) ready.makes held known) in
    scripted_so (crashing g.D.Disk.seen g.D.Disk.may_leave g.D.Disk.moment g.D.Disk.left_since held c.args.disk c.disk_of.result) words c.args.folder.now c.args.file.now (ground (filing (g.F.Files.files c.args.files.now) (g.F.Files.faults c.args.files.now)) (stored (g.D.Disk.seen c.args.disk) (g.D.Disk.faults c.args.disk)) (making (g.P.Maker.refusals c.args.maker.now) (g.P.Maker.last_refused c.args.maker.now)))
    (ground (filing (g.F.Files.files c.ready_of.new.files) (g.F.Files.faults c.ready_of.new.files)) (stored (g.D.Disk.seen c.args.disk) (g.D.Disk.faults c.args.disk)) (making (g.P.Maker.refusals c.ready_of.new.maker) (g.P.Maker.last_refused c.ready_of.new.maker)))
    (filing (g.F.Files.files c.text_of.new.files) (g.F.Files.faults c.text_of.new.files)) (stored (g.D.Disk.seen c.disk_of.result) (g.D.Disk.faults c.disk_of.result)) (streams left ends failed (g.K.Sink.taken c.args.sink.now) (g.K.Sink.faults c.args.sink.now)) (streams left ends failed (g.K.Sink.taken c.script.new.sink) (g.K.Sink.faults c.script.new.sink)) clock listener
    c.in-Ok.ready.opened.machine.state c.in-Ok.ready.opened.schema.value c.in-Ok.ready.modules _ c.in-Ok-text_of.found c.script.result asks
    c.in-Ok.ensures.ready c.in-Ok-text_of.ensures
    (scripts_so c.in-Ok.ready.opened.machine.state (g.D.Disk.faults c.disk_of.result) (GoesOn (store_words g.D.Disk.seen g.D.Disk.moment g.D.Disk.left_since) c.in-Ok.ready.opened.machine c.script.new.machine)
    (Lasts (crashing g.D.Disk.seen g.D.Disk.may_leave g.D.Disk.moment g.D.Disk.left_since held c.args.disk c.disk_of.result) ready.device c.in-Ok.ready.opened.machine.state) c.in-Ok-text_of.found (told (g.K.Sink.taken c.args.sink.now) (g.K.Sink.faults c.args.sink.now)) (told (g.K.Sink.taken c.script.new.sink) (g.K.Sink.faults c.script.new.sink)) c.script.result
    (λ history goes. has_left g.D.Disk.seen g.D.Disk.may_leave g.D.Disk.moment g.D.Disk.left_since c.args.disk ready.device c.in-Ok.ready.opened.machine ready.begun (times None 0) [] held known_there c.disk_of.result history
    (record { last = c.script.new.machine; disk_is = sym c.disk_of.ensures.disk; goes = goes }))
    (subst (λ n. Scripts c.in-Ok.ready.opened.machine.state n (GoesOn (store_words g.D.Disk.seen g.D.Disk.moment g.D.Disk.left_since) c.in-Ok.ready.opened.machine c.script.new.machine) c.in-Ok-text_of.found (told (g.K.Sink.taken c.args.sink.now) (g.K.Sink.faults c.args.sink.now)) (told (g.K.Sink.taken c.script.new.sink) (g.K.Sink.faults c.script.new.sink)) c.script.result)
    (sym c.disk_of.ensures.faults) c.script.ensures)) refl

pub returns : goal.returns
returns g c = λ words left ends failed clock listener asks held known.
    unread (crashing g.D.Disk.seen g.D.Disk.may_leave g.D.Disk.moment g.D.Disk.left_since held c.args.disk c.disk_of-in-Err-text_of.result) words c.args.folder.now c.args.file.now (ground (filing (g.F.Files.files c.args.files.now) (g.F.Files.faults c.args.files.now)) (stored (g.D.Disk.seen c.args.disk) (g.D.Disk.faults c.args.disk)) (making (g.P.Maker.refusals c.args.maker.now) (g.P.Maker.last_refused c.args.maker.now)))
    (ground (filing (g.F.Files.files c.ready_of.new.files) (g.F.Files.faults c.ready_of.new.files)) (stored (g.D.Disk.seen c.args.disk) (g.D.Disk.faults c.args.disk)) (making (g.P.Maker.refusals c.ready_of.new.maker) (g.P.Maker.last_refused c.ready_of.new.maker)))
    (filing (g.F.Files.files c.text_of.new.files) (g.F.Files.faults c.text_of.new.files)) (stored (g.D.Disk.seen c.disk_of-in-Err-text_of.result) (g.D.Disk.faults c.disk_of-in-Err-text_of.result)) (streams left ends failed (g.K.Sink.taken c.args.sink.now) (g.K.Sink.faults c.args.sink.now)) clock listener
    c.in-Ok.ready.opened.machine.state c.in-Ok.ready.opened.schema.value c.in-Ok.ready.modules _ c.in-Err-text_of.end asks
    c.in-Ok.ensures.ready c.in-Err-text_of.ensures c.disk_of-in-Err-text_of.ensures.faults
    (spares_so g.D.Disk.seen g.D.Disk.may_leave g.D.Disk.moment g.D.Disk.left_since c.args.disk c.disk_of-in-Err-text_of.result (filing (g.F.Files.files c.args.files.now) (g.F.Files.faults c.args.files.now)) c.args.folder.now held
    (λ device makes. known_of words (filing (g.F.Files.files c.args.files.now) (g.F.Files.faults c.args.files.now)) (g.D.Disk.may_leave c.args.disk) (Script c.args.folder.now c.args.file.now) c.args.folder.now device asks (scripted c.args.file.now) makes held known) (given_back g.D.Disk.seen g.D.Disk.may_leave g.D.Disk.moment g.D.Disk.left_since c.args.disk c.in-Ok.ensures.ready.device c.in-Ok.ready.opened.machine c.in-Ok.ensures.ready.begun (times None 0) [] (filing (g.F.Files.files c.args.files.now) (g.F.Files.faults c.args.files.now)) c.args.folder.now c.disk_of-in-Err-text_of.result c.in-Ok.ensures.ready.makes c.disk_of-in-Err-text_of.ensures.disk))
