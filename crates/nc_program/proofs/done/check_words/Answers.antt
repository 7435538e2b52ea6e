use Rattle.std.proofs.Common.{[], None, refl, sym}
use Rattle.nc_machine.proofs.Stood.{goes_nowhere}
use Rattle.nc_outside.specs.Streams.{streams}
use Rattle.nc_device.specs.Crashes.{crashing}
use Rattle.nc_device.specs.Outside.{filing, ground, making, stored, times}
use Rattle.nc_words.specs.Words.{Check, checked}
use Rattle.nc_device.specs.Begun.{store_words}
use Rattle.nc_program.proofs.Doing.{looked}
use Rattle.nc_device.proofs.Lasting.{has_left, spares_so}
use Rattle.nc_program.proofs.Running.{no_server}
use Rattle.nc_device.proofs.Seated.{known_of}
use Rattle.nc_program.proofs.done.check_words.Goals as goal

pub returns-in-Err : goal.returns-in-Err
returns-in-Err g c = λ words left ends failed clock listener asks held known.
    no_server (crashing g.D.Disk.seen g.D.Disk.may_leave g.D.Disk.moment g.D.Disk.left_since held c.args.disk c.in-Err.ended.disk) words (Check c.args.folder.now) c.args.folder.now (ground (filing (g.F.Files.files c.args.files.now) (g.F.Files.faults c.args.files.now)) (stored (g.D.Disk.seen c.args.disk) (g.D.Disk.faults c.args.disk)) (making (g.P.Maker.refusals c.args.maker.now) (g.P.Maker.last_refused c.args.maker.now)))
    (ground (filing (g.F.Files.files c.ready_of.new.files) (g.F.Files.faults c.ready_of.new.files)) (stored (g.D.Disk.seen c.in-Err.ended.disk) (g.D.Disk.faults c.in-Err.ended.disk)) (making (g.P.Maker.refusals c.ready_of.new.maker) (g.P.Maker.last_refused c.ready_of.new.maker)))
    (streams left ends failed (g.K.Sink.taken c.args.sink.now) (g.K.Sink.faults c.args.sink.now)) clock listener c.in-Err.ended.end asks checked
    (spares_so g.D.Disk.seen g.D.Disk.may_leave g.D.Disk.moment g.D.Disk.left_since c.args.disk c.in-Err.ended.disk (filing (g.F.Files.files c.args.files.now) (g.F.Files.faults c.args.files.now)) c.args.folder.now held
    (λ device makes. known_of words (filing (g.F.Files.files c.args.files.now) (g.F.Files.faults c.args.files.now)) (g.D.Disk.may_leave c.args.disk) (Check c.args.folder.now) c.args.folder.now device asks checked makes held known) c.in-Err.ensures.spared) c.in-Err.ensures.fails

pub returns : goal.returns
returns g c = λ words left ends failed clock listener asks held known.
    let ready = c.in-Ok.ensures.ready in
    let known_there = (known_of words (filing (g.F.Files.files c.args.files.now) (g.F.Files.faults c.args.files.now)) (g.D.Disk.may_leave c.args.disk) (Check c.args.folder.now) c.args.folder.now ready.device asks checked ready.makes held known) in
    looked (crashing g.D.Disk.seen g.D.Disk.may_leave g.D.Disk.moment g.D.Disk.left_since held c.args.disk c.disk_of.result) words c.args.folder.now (ground (filing (g.F.Files.files c.args.files.now) (g.F.Files.faults c.args.files.now)) (stored (g.D.Disk.seen c.args.disk) (g.D.Disk.faults c.args.disk)) (making (g.P.Maker.refusals c.args.maker.now) (g.P.Maker.last_refused c.args.maker.now)))
    (ground (filing (g.F.Files.files c.ready_of.new.files) (g.F.Files.faults c.ready_of.new.files)) (stored (g.D.Disk.seen c.args.disk) (g.D.Disk.faults c.args.disk)) (making (g.P.Maker.refusals c.ready_of.new.maker) (g.P.Maker.last_refused c.ready_of.new.maker)))
    (stored (g.D.Disk.seen c.disk_of.result) (g.D.Disk.faults c.disk_of.result))
    (streams left ends failed (g.K.Sink.taken c.args.sink.now) (g.K.Sink.faults c.args.sink.now)) (streams left ends failed (g.K.Sink.taken c.print.new.sink) (g.K.Sink.faults c.print.new.sink)) clock listener
    c.in-Ok.ready.opened.machine.state c.in-Ok.ready.opened.schema.value c.in-Ok.ready.modules _ c.found_in.result c.print.result asks
    c.in-Ok.ensures.ready c.found_in.ensures.modules c.found_in.ensures.nodes c.found_in.ensures.rows
    (has_left g.D.Disk.seen g.D.Disk.may_leave g.D.Disk.moment g.D.Disk.left_since c.args.disk ready.device c.in-Ok.ready.opened.machine ready.begun (times None 0) [] held known_there c.disk_of.result []
    (record { last = c.in-Ok.ready.opened.machine; disk_is = sym c.disk_of.ensures.disk; goes = goes_nowhere (store_words g.D.Disk.seen g.D.Disk.moment g.D.Disk.left_since) c.in-Ok.ready.opened.machine }))
    c.print.ensures refl c.disk_of.ensures.faults
