use Rattle.std.proofs.Common.{ap, sym, refl, ◌∙◌}
use Rattle.nc_outside.specs.Disks.{written_at}
use Rattle.nc_memdisk.specs.declared.done.DoneCall.TheVariants.{Write}
use Rattle.nc_memdisk.specs.States.{told}
use Rattle.nc_memdisk.proofs.ImageLemmas.{noted}
use Rattle.nc_memdisk.proofs.mem_disk.MemDisk.do_write.Goals as goal

pub note-requires : goal.note-requires
note-requires c =
    noted c.args.self.now.first c.args.self.now.log (told c.args.self.now) _ (Write c.args.at c.in_ok-kept.kept) refl
    (c.in_ok-next.ensures ∙ ap (written_at c.args.at c.args.bytes.now) c.bytes.ensures
    ∙ ap (λ l. written_at c.args.at l (told c.args.self.now)) (sym c.in_ok-kept.ensures))
