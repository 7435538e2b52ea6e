use Rattle.std.proofs.Common.{refl}
use Rattle.nc_program.specs.Run.{AreFaulty}
use Rattle.nc_program.proofs.program.served.Goals as goal

pub returns-in_default : goal.returns-in_default
returns-in_default g c = λ held known. AreFaulty c.in_default.ensures refl
    ((g.met.D.Disk g.world.𝓛 g.world.𝓜 g.world.𝓡 ((λ s x. x), (λ x. x), (λ x. x), λ x. x)).only_now c.args.disk)
