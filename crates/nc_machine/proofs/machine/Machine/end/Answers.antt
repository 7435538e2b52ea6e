use Rattle.std.proofs.Common.{◌+◌, ◌<◌, ◌∷◌, [], refl, subst, sym}
use Rattle.nc_names.specs.Limits.{most_requests}
use Rattle.nc_model.specs.declared.event.Event.TheVariants.{End}
use Rattle.nc_machine.specs.Lasting.{Lasting, lasting}
use Rattle.nc_machine.specs.Serving.{GoesOn, Serving}
use Rattle.nc_machine.proofs.Sound.{sound_kept}
use Rattle.nc_machine.proofs.Stood.{goes_on_kept}
use Rattle.nc_machine.proofs.machine.Machine.end.Goals as goal

pub invariant_of-self : goal.invariant_of-self
invariant_of-self g c =
    let P : Serving g.row.K.Denot → Type 0 = λ m. m.count < most_requests in
    sound_kept _ _ _ _ c.self.inside.server c.ended-made.new.server c.self.inside.count c.self.inside.keeper _ _ _ _
    c.ended-made.ensures.entered c.ended-made.ensures.kept
    (subst P (sym c.self.view_is) c.requires.count) c.self.invariant

pub returns-clause-sound : goal.returns-clause-sound
returns-clause-sound g c =
    let P : Serving g.row.K.Denot → Type 0 = λ m. m.count < most_requests in
    sound_kept _ _ _ _ c.self.inside.server c.ended-made.new.server c.self.inside.count c.self.inside.keeper _ _ _ _
    c.ended-made.ensures.entered c.ended-made.ensures.kept
    (subst P (sym c.self.view_is) c.requires.count) c.self.invariant

pub returns-clause-goes_on : goal.returns-clause-goes_on
returns-clause-goes_on g c =
    let words : Lasting g.row.K.Denot =
    lasting g.K.Keeper.doubt g.K.Keeper.moment g.K.Keeper.leaves g.K.Keeper.continues in
    let was : Serving g.row.K.Denot =
    record { state = c.self.inside.server; count = c.self.inside.count; keeper = c.self.inside.keeper } in
    subst (λ (m : Serving g.row.K.Denot). GoesOn words m
    (record { state = c.ended-made.new.server; count = c.self.inside.count + 1; keeper = c.self.inside.keeper }) (c.ended-made.result ∷ []))
    c.self.view_is
    (goes_on_kept g.K.Keeper.base words
    (record { fewer = g.met.K.Keeper.fewer; on = g.met.K.Keeper.goes_on; further = g.met.K.Keeper.goes_further })
    was c.ended-made.new.server (End c.args.session) c.args.at c.ended-made.result c.ended-made.ensures.entered refl
    c.ended-made.ensures.kept.base_is c.self.invariant.kept c.self.invariant.stands)
