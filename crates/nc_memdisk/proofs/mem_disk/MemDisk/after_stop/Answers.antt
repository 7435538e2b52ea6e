use Rattle.std.proofs.Common.{List, ℕ, sym, subst}
use Rattle.nc_memdisk.specs.States.{DiskState, told, images}
use Rattle.nc_memdisk.proofs.PickLemmas.{pick_is_image}
use Rattle.nc_memdisk.proofs.mem_disk.MemDisk.after_stop.Goals as goal

pub returns-clause-image : goal.returns-clause-image
returns-clause-image c =
    subst (λ (s : DiskState). images c.args.self.now (told s)) (sym c.new.ensures)
    (subst (λ (l : List ℕ). images c.args.self.now l) (sym c.in_ok-image.ensures)
    (pick_is_image c.args.pick c.args.self.now.first c.args.self.now.log))
