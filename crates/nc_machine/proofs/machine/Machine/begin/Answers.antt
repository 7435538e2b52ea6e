use Rattle.std.proofs.Common.{[], ◌∷◌, refl, sym, subst}
use Rattle.nc_machine.specs.Lasting.{Lasting, lasting}
use Rattle.nc_model.specs.State.{State, base_of}
use Rattle.nc_machine.proofs.Stood.{begins}
use Rattle.nc_machine.proofs.machine.Machine.begin.Goals as goal

pub returns-in-Ok-clause-stands : goal.returns-in-Ok-clause-stands
returns-in-Ok-clause-stands g c = λ home is.
    let words : Lasting g.row.K.Denot =
    lasting g.K.Keeper.doubt g.K.Keeper.moment g.K.Keeper.leaves g.K.Keeper.continues in
    begins g.K.Keeper.base words
    (record { fewer = g.met.K.Keeper.fewer; on = g.met.K.Keeper.goes_on; further = g.met.K.Keeper.goes_further })
    (record { state = c.in-Ok.server; count = 0; keeper = c.args.keeper }) home is refl c.requires.doubt
    (subst (λ (s : State). words.leaves c.args.keeper (words.moment c.args.keeper) (base_of s ∷ [])) (sym c.in-Ok.ensures)
    c.requires.now)
