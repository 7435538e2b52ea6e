use Rattle.std.proofs.Common.{refl}
use Rattle.nc_device.specs.Outside.{filing, making, stored}
use Rattle.nc_device.specs.Begun.{IsBegun, OpenedFor, Unmoved}
use Rattle.nc_device.proofs.Preparing.{is_ready}
use Rattle.nc_device.proofs.ground.ready_of.Goals as goal

pub returns-in-Ok-open-clause-ready : goal.returns-in-Ok-open-clause-ready
returns-in-Ok-open-clause-ready g c =
    is_ready c.args.folder.now (filing (g.F.Files.files c.args.files.now) (g.F.Files.faults c.args.files.now))
    (filing (g.F.Files.files c.device_of.new.files) (g.F.Files.faults c.device_of.new.files))
    (stored (g.D.Disk.seen c.args.disk) (g.D.Disk.faults c.args.disk))
    (making (g.P.Maker.refusals c.args.maker.now) (g.P.Maker.last_refused c.args.maker.now))
    (making (g.P.Maker.refusals c.device_of.new.maker) (g.P.Maker.last_refused c.device_of.new.maker))
    c.in-Ok.device c.in-Ok-open.opened.machine.state c.in-Ok-open.opened.schema.value c.in-Ok.device.modules
    (λ device. IsBegun g.D.Disk.seen g.D.Disk.may_leave g.D.Disk.moment g.D.Disk.left_since c.args.disk device c.in-Ok-open.opened.machine)
    c.in-Ok.ensures.prepares c.in-Ok-open.ensures.begins c.in-Ok-open.ensures.schema refl c.in-Ok-open.ensures.begun

pub returns-in-Err-clause-spared : goal.returns-in-Err-clause-spared
returns-in-Err-clause-spared g c = Unmoved (g.met.D.Disk.only_now c.args.disk)

pub returns-in-Err-open-clause-spared : goal.returns-in-Err-open-clause-spared
returns-in-Err-open-clause-spared g c = OpenedFor c.in-Ok.device c.in-Ok.ensures.prepares.0 c.in-Err-open.ensures.kept
