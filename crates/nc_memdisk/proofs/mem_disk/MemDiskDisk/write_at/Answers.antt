use Rattle.std.proofs.Common.{[], ◌∷◌, ◌++◌, refl, ap, ◌∙◌}
use Rattle.nc_memdisk.specs.declared.done.DoneCall.TheVariants.{Write}
use Rattle.nc_memdisk.specs.States.{DiskState, told}
use Rattle.nc_memdisk.proofs.CallLemmas.{told_next, time_next, write_next}
use Rattle.nc_memdisk.proofs.mem_disk.MemDiskDisk.write_at.Goals as goal

pub returns-in-Ok-clause-written : goal.returns-in-Ok-clause-written
returns-in-Ok-clause-written c =
    told_next c.fails.result c.args.self.now c.do_write.new.self (Write c.args.at c.args.bytes.now)
    (c.in-Ok.ensures.ok ∙ ap (λ (s : DiskState). record s { log = s.log ++ Write c.args.at c.args.bytes.now ∷ [] })
    c.fails.ensures.new)

pub returns-in-Ok-clause-crash : goal.returns-in-Ok-clause-crash
returns-in-Ok-clause-crash c =
    write_next c.fails.result c.args.self.now c.do_write.new.self c.args.at c.args.bytes.now
    (c.requires (told c.args.self.now) refl)
    (c.in-Ok.ensures.ok ∙ ap (λ (s : DiskState). record s { log = s.log ++ Write c.args.at c.args.bytes.now ∷ [] })
    c.fails.ensures.new)

pub returns-in-Ok-clause-time : goal.returns-in-Ok-clause-time
returns-in-Ok-clause-time c =
    time_next c.fails.result c.args.self.now c.do_write.new.self (Write c.args.at c.args.bytes.now)
    (c.in-Ok.ensures.ok ∙ ap (λ (s : DiskState). record s { log = s.log ++ Write c.args.at c.args.bytes.now ∷ [] })
    c.fails.ensures.new)
