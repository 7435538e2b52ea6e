use Rattle.std.proofs.Common.{◌+◌, ◌∷◌, [], refl, subst, ◌∙◌, ap}
use Rattle.nc_machine.specs.Lasting.{Lasting, lasting}
use Rattle.nc_machine.specs.Serving.{GoesOn, Serving}
use Rattle.nc_model.specs.State.{base_of}
use Rattle.nc_model.specs.declared.event.Event.TheVariants.{Reading}
use Rattle.nc_model.proofs.RunningLemmas.{read_base}
use Rattle.nc_machine.proofs.Stood.{goes_on_kept}
use Rattle.nc_machine.proofs.machine.Machine.tick.Goals as goal

pub returns-clause-goes_on : goal.returns-clause-goes_on
returns-clause-goes_on g c =
    let words : Lasting g.row.K.Denot =
    lasting g.K.Keeper.doubt g.K.Keeper.moment g.K.Keeper.leaves g.K.Keeper.continues in
    let was : Serving g.row.K.Denot =
    record { state = c.self.inside.server; count = c.self.inside.count; keeper = c.self.inside.keeper } in
    subst (λ (m : Serving g.row.K.Denot). GoesOn words m
    (record { state = c.noted-made.new.server; count = c.self.inside.count + 1; keeper = c.self.inside.keeper }) (c.noted-made.result ∷ []))
    c.self.view_is
    (goes_on_kept g.K.Keeper.base words
    (record { fewer = g.met.K.Keeper.fewer; on = g.met.K.Keeper.goes_on; further = g.met.K.Keeper.goes_further })
    was c.noted-made.new.server Reading c.args.at c.noted-made.result c.noted-made.ensures.entered refl
    (ap base_of c.noted-made.ensures.state ∙ read_base c.self.inside.server c.args.at)
    c.self.invariant.kept c.self.invariant.stands)
