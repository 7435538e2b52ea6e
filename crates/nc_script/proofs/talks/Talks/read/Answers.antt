use Rattle.std.proofs.Common.{arith, refl}
use Rattle.nc_script.proofs.Steppings.{read_done, read_fault}
use Rattle.nc_script.specs.inner.Boards.{WasDone}
use Rattle.nc_script.proofs.talks.Talks.read.Goals as goal

pub tick-requires : goal.tick-requires
tick-requires g c = omega (arith, c.max-self.ensures, c.requires.low, c.requires.at)

pub returns-in-Ok : goal.returns-in-Ok
returns-in-Ok g c = λ schema board stand.
    WasDone tt (read_done schema c.args.self.now _ board c.args.at c.args.machine.now c.tick.new.machine c.in-Ok.entry stand refl refl
    c.max-self.ensures refl c.requires.at c.in-Ok.ensures)

pub returns-in-Err : goal.returns-in-Err
returns-in-Err g c = λ schema board stand.
    read_fault schema c.args.self.now _ board c.args.at c.max-self.result c.args.self.now.tally c.args.machine.now c.tick.new.machine
    c.in-Err.fault stand c.max-self.ensures c.in-Err.ensures
