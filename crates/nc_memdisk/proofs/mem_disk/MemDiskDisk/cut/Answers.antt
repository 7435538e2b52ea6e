use Rattle.std.proofs.Common.{[], ◌∷◌, ◌++◌, ap, ◌∙◌}
use Rattle.nc_memdisk.specs.declared.done.DoneCall.TheVariants.{Cut}
use Rattle.nc_memdisk.specs.States.{DiskState}
use Rattle.nc_memdisk.proofs.CallLemmas.{told_next, time_next, cut_next}
use Rattle.nc_memdisk.proofs.mem_disk.MemDiskDisk.cut.Goals as goal

pub returns-in-Ok-clause-cut : goal.returns-in-Ok-clause-cut
returns-in-Ok-clause-cut c =
    told_next c.fails.result c.args.self.now c.do_cut.new.self (Cut c.args.size)
    (c.in-Ok.ensures.ok ∙ ap (λ (s : DiskState). record s { log = s.log ++ Cut c.args.size ∷ [] }) c.fails.ensures.new)

pub returns-in-Ok-clause-crash : goal.returns-in-Ok-clause-crash
returns-in-Ok-clause-crash c =
    cut_next c.fails.result c.args.self.now c.do_cut.new.self c.args.size
    (c.in-Ok.ensures.ok ∙ ap (λ (s : DiskState). record s { log = s.log ++ Cut c.args.size ∷ [] }) c.fails.ensures.new)

pub returns-in-Ok-clause-time : goal.returns-in-Ok-clause-time
returns-in-Ok-clause-time c =
    time_next c.fails.result c.args.self.now c.do_cut.new.self (Cut c.args.size)
    (c.in-Ok.ensures.ok ∙ ap (λ (s : DiskState). record s { log = s.log ++ Cut c.args.size ∷ [] }) c.fails.ensures.new)
