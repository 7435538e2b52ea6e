use Rattle.std.proofs.Common.{ℕ, List, length}
use Rattle.nc_outside.specs.Disks.{Torn, Then, Same, Passes}
use Rattle.nc_outside.proofs.DiskFiles.{stays_within}
use Rattle.nc_outside.proofs.Passing.{torn_reflexive, passes_step, passes_then, passes_as, passes_more}
use Rattle.nc_outside.proofs.stretches.put_two.Goals as goal

pub write_at-requires-2 : goal.write_at-requires-2
write_at-requires-2 g c =
    stays_within c.args.other c.args.at c.args.bytes.now (g.D.Disk.seen c.args.disk.now)
    (g.D.Disk.seen c.write_at.new.self)
    c.write_at.ensures.tells c.requires.first c.in_ok-write_at.ensures.written c.requires.second

pub returns-in_err-write_at-clause-passes : goal.returns-in_err-write_at-clause-passes
returns-in_err-write_at-clause-passes g c =
    let one = Torn c.args.at (length c.args.bytes.now) in
    let two = Torn c.args.other (length c.args.others.now) in
    passes_as g.D.Disk.may_leave g.D.Disk.moment g.D.Disk.left_since g.met.D.Disk.only_now one (Then one two)
    c.args.disk.now c.write_at.new.self
    (λ c1 d t. record { mid = d; left = t; right = torn_reflexive c.args.other (length c.args.others.now) d })
    (passes_step g.D.Disk.may_leave g.D.Disk.moment g.D.Disk.left_since g.met.D.Disk.only_now one c.args.disk.now
    c.write_at.new.self
    (torn_reflexive c.args.at (length c.args.bytes.now)) c.write_at.ensures.crash c.write_at.ensures.time)

pub returns-in_err-write_at-2-clause-passes : goal.returns-in_err-write_at-2-clause-passes
returns-in_err-write_at-2-clause-passes g c =
    let one = Torn c.args.at (length c.args.bytes.now) in
    let two = Torn c.args.other (length c.args.others.now) in
    let idle_one = torn_reflexive c.args.at (length c.args.bytes.now) in
    let idle_two = torn_reflexive c.args.other (length c.args.others.now) in
    passes_then g.D.Disk.may_leave g.D.Disk.moment g.D.Disk.left_since g.met.D.Disk.only_now one two c.args.disk.now
    c.write_at.new.self c.write_at-2.new.self idle_two
    (passes_step g.D.Disk.may_leave g.D.Disk.moment g.D.Disk.left_since g.met.D.Disk.only_now one c.args.disk.now
    c.write_at.new.self idle_one c.write_at.ensures.crash c.write_at.ensures.time)
    (passes_step g.D.Disk.may_leave g.D.Disk.moment g.D.Disk.left_since g.met.D.Disk.only_now two c.write_at.new.self
    c.write_at-2.new.self idle_two c.write_at-2.ensures.crash c.write_at-2.ensures.time)

pub returns-clause-passes : goal.returns-clause-passes
returns-clause-passes g c =
    let one = Torn c.args.at (length c.args.bytes.now) in
    let two = Torn c.args.other (length c.args.others.now) in
    let idle_one = torn_reflexive c.args.at (length c.args.bytes.now) in
    let idle_two = torn_reflexive c.args.other (length c.args.others.now) in
    passes_more g.D.Disk.may_leave g.D.Disk.moment g.D.Disk.left_since g.met.D.Disk.only_now (Then one two)
    c.args.disk.now c.write_at-2.new.self c.sync.new.self
    (passes_then g.D.Disk.may_leave g.D.Disk.moment g.D.Disk.left_since g.met.D.Disk.only_now one two c.args.disk.now
    c.write_at.new.self c.write_at-2.new.self idle_two
    (passes_step g.D.Disk.may_leave g.D.Disk.moment g.D.Disk.left_since g.met.D.Disk.only_now one c.args.disk.now
    c.write_at.new.self idle_one c.write_at.ensures.crash c.write_at.ensures.time)
    (passes_step g.D.Disk.may_leave g.D.Disk.moment g.D.Disk.left_since g.met.D.Disk.only_now two c.write_at.new.self
    c.write_at-2.new.self idle_two c.write_at-2.ensures.crash c.write_at-2.ensures.time))
    c.sync.ensures.crash c.sync.ensures.time
