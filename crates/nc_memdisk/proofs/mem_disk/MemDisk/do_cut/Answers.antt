use Rattle.std.proofs.Common.{take, ap, refl, ◌∙◌}
use Rattle.nc_memdisk.specs.declared.done.DoneCall.TheVariants.{Cut}
use Rattle.nc_memdisk.specs.States.{told}
use Rattle.nc_memdisk.proofs.ImageLemmas.{noted}
use Rattle.nc_memdisk.proofs.mem_disk.MemDisk.do_cut.Goals as goal

pub note-requires : goal.note-requires
note-requires c =
    noted c.args.self.now.first c.args.self.now.log (told c.args.self.now) _ (Cut c.args.size) refl
    (c.in_ok-next.ensures ∙ ap (take c.args.size) c.bytes.ensures)
