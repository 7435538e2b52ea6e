use Rattle.std.proofs.Common.{refl}
use Rattle.nc_program.specs.Run.{IsLoaded}
use Rattle.nc_program.proofs.done.load_words.Goals as goal

pub returns : goal.returns
returns g c = λ words files left ends failed listener asks held.
    IsLoaded c.args.edits c.load-end.result asks c.load-end.ensures refl (g.met.D.Disk.only_now c.args.disk)
