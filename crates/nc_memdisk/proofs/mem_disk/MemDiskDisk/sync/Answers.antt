use Rattle.std.proofs.Common.{[], ◌∷◌, ◌++◌, refl, ap, ◌∙◌}
use Rattle.nc_memdisk.specs.declared.done.DoneCall.TheVariants.{Sync}
use Rattle.nc_memdisk.specs.States.{DiskState, told}
use Rattle.nc_memdisk.proofs.CallLemmas.{told_next, time_next, sync_next, sync_leaves}
use Rattle.nc_memdisk.proofs.mem_disk.MemDiskDisk.sync.Goals as goal

pub returns-in-Ok-clause-durable : goal.returns-in-Ok-clause-durable
returns-in-Ok-clause-durable c =
    sync_leaves c.fails.result c.args.self.now c.do_sync.new.self
    (c.in-Ok.ensures.ok ∙ ap (λ (s : DiskState). record s { log = s.log ++ Sync ∷ [] }) c.fails.ensures.new)

pub returns-in-Ok-clause-seen : goal.returns-in-Ok-clause-seen
returns-in-Ok-clause-seen c =
    told_next c.fails.result c.args.self.now c.do_sync.new.self Sync
    (c.in-Ok.ensures.ok ∙ ap (λ (s : DiskState). record s { log = s.log ++ Sync ∷ [] }) c.fails.ensures.new)
    (told c.args.self.now) refl

pub returns-in-Ok-clause-crash : goal.returns-in-Ok-clause-crash
returns-in-Ok-clause-crash c =
    sync_next c.fails.result c.args.self.now c.do_sync.new.self
    (c.in-Ok.ensures.ok ∙ ap (λ (s : DiskState). record s { log = s.log ++ Sync ∷ [] }) c.fails.ensures.new)

pub returns-in-Ok-clause-time : goal.returns-in-Ok-clause-time
returns-in-Ok-clause-time c =
    time_next c.fails.result c.args.self.now c.do_sync.new.self Sync
    (c.in-Ok.ensures.ok ∙ ap (λ (s : DiskState). record s { log = s.log ++ Sync ∷ [] }) c.fails.ensures.new)
