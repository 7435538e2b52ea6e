use Rattle.std.proofs.Common.{ℕ, List, length}
use Rattle.nc_outside.specs.Disks.{Torn, Passes}
use Rattle.nc_outside.proofs.Passing.{torn_reflexive, passes_step, passes_more}
use Rattle.nc_outside.proofs.stretches.put.Goals as goal

pub returns-in_err-write_at-clause-passes : goal.returns-in_err-write_at-clause-passes
returns-in_err-write_at-clause-passes g c =
    passes_step g.D.Disk.may_leave g.D.Disk.moment g.D.Disk.left_since g.met.D.Disk.only_now
    (Torn c.args.at (length c.args.bytes.now)) c.args.disk.now c.write_at.new.self
    (torn_reflexive c.args.at (length c.args.bytes.now)) c.write_at.ensures.crash c.write_at.ensures.time

pub returns-clause-passes : goal.returns-clause-passes
returns-clause-passes g c =
    passes_more g.D.Disk.may_leave g.D.Disk.moment g.D.Disk.left_since g.met.D.Disk.only_now
    (Torn c.args.at (length c.args.bytes.now)) c.args.disk.now c.write_at.new.self c.sync.new.self
    (passes_step g.D.Disk.may_leave g.D.Disk.moment g.D.Disk.left_since g.met.D.Disk.only_now
    (Torn c.args.at (length c.args.bytes.now)) c.args.disk.now c.write_at.new.self
    (torn_reflexive c.args.at (length c.args.bytes.now)) c.write_at.ensures.crash c.write_at.ensures.time)
    c.sync.ensures.crash c.sync.ensures.time
