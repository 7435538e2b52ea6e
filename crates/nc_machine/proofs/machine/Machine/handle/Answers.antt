use Rattle.std.proofs.Common.{◌+◌, ◌∷◌, [], subst}
use Rattle.nc_machine.specs.Lasting.{Lasting, WithstandsEvent, lasting}
use Rattle.nc_machine.specs.Serving.{GoesOn, Serving, entry_made, failed_of}
use Rattle.nc_model.specs.State.{expired}
use Rattle.nc_machine.proofs.Stood.{goes_on_entered}
use Rattle.nc_machine.proofs.machine.Machine.handle.Goals as goal

pub returns-clause-withstands : goal.returns-clause-withstands
returns-clause-withstands g c =
    let words : Lasting g.row.K.Denot =
    lasting g.K.Keeper.doubt g.K.Keeper.moment g.K.Keeper.leaves g.K.Keeper.continues in
    subst (λ (m : Serving g.row.K.Denot). WithstandsEvent g.K.Keeper.base words (expired m.state c.args.at) c.args.event m.keeper
    c.entered-made.new.keeper (failed_of c.entered-made.result))
    c.self.view_is c.entered-made.ensures.withstands

pub returns-clause-goes_on : goal.returns-clause-goes_on
returns-clause-goes_on g c =
    let words : Lasting g.row.K.Denot =
    lasting g.K.Keeper.doubt g.K.Keeper.moment g.K.Keeper.leaves g.K.Keeper.continues in
    let was : Serving g.row.K.Denot =
    record { state = c.self.inside.server; count = c.self.inside.count; keeper = c.self.inside.keeper } in
    subst (λ (m : Serving g.row.K.Denot). GoesOn words m
    (record { state = c.entered-made.new.server; count = c.self.inside.count + 1; keeper = c.entered-made.new.keeper })
    (entry_made m c.args.at c.entered-made.result ∷ []))
    c.self.view_is
    (goes_on_entered g.K.Keeper.base words
    (record { fewer = g.met.K.Keeper.fewer; on = g.met.K.Keeper.goes_on; further = g.met.K.Keeper.goes_further })
    was c.entered-made.new.server c.entered-made.new.keeper c.args.event c.args.at c.entered-made.result
    c.entered-made.ensures.entered c.entered-made.ensures.memory c.self.invariant.kept c.self.invariant.stands
    c.entered-made.ensures.keeping.kept c.entered-made.ensures.keeping.stands c.entered-made.ensures.withstands)
