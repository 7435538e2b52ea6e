use Rattle.std.proofs.Common.{◌≡◌, ◌∷◌, [], refl, sym, arith}
use Rattle.nc_outside.proofs.DiskFiles.{stays_within}
use Rattle.nc_journal.proofs.repair.put_both.Goals as goal

pub put-requires-2 : goal.put-requires-2
put-requires-2 g c =
    stays_within 9 c.args.gate (0 ∷ []) (g.D.Disk.seen c.args.disk.now) (g.D.Disk.seen c.put.new.disk) c.put.ensures.tells c.requires.gate
    (λ file told. (c.in_ok-put.ensures.done file told).told) c.requires.chooser
