use Rattle.std.proofs.Common.{refl, ◌∙◌}
use Rattle.nc_memdisk.specs.declared.done.DoneCall.TheVariants.{Sync}
use Rattle.nc_memdisk.specs.States.{told}
use Rattle.nc_memdisk.proofs.ImageLemmas.{noted}
use Rattle.nc_memdisk.proofs.mem_disk.MemDisk.do_sync.Goals as goal

pub note-requires : goal.note-requires
note-requires c =
    noted c.args.self.now.first c.args.self.now.log (told c.args.self.now) _ Sync refl
    (c.in_ok-next.ensures ∙ c.bytes.ensures)
