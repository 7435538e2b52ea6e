use Rattle.std.proofs.Common.{ap, subst, sym, ◌∙◌}
use Rattle.nc_model.specs.Desks.{Home}
use Rattle.nc_server.specs.Homes.{HaveNoRecovery, IsAtHome}
use Rattle.nc_shared.specs.Chairs.{ChairStands}
use Rattle.nc_shared.specs.Holding.{held_home}
use Rattle.nc_shared.proofs.Returned.{given_out, has_room, one_out, same_office}
use Rattle.nc_shared.proofs.seats.SeatsHeldDesks.desk.Goals as goal

pub split-other-requires : goal.split-other-requires
split-other-requires g c =
    (c.self.invariant.of, has_room _ _ (ap (λ o. o.out) c.self.view_is) c.requires)

pub invariant_of-self : goal.invariant_of-self
invariant_of-self g c =
    let room = has_room _ _ (ap (λ o. o.out) c.self.view_is) c.requires in
    let less = ap (λ m. m.0.parts) c.split-other.ensures.kept.1 in record {
      of = c.split-other.ensures.kept.0;
      few = (one_out _ _ _ less room c.self.invariant.few (ap (λ o. o.out) c.self.view_is)).1;
      plain = subst HaveNoRecovery (sym (ap (λ m. m.0.gathered) c.split-other.ensures.kept.1)) c.self.invariant.plain;
    }

pub returns-clause-home : goal.returns-clause-home
returns-clause-home g c =
    same_office (held_home g.row.K.coded g.C.Clock.given) c.self.inside.shared.now c.self.inside.pass c.split-other.new.pass c.self.invariant.of
    c.split-other.ensures.kept.0 ∙ ap (λ o. o.home) c.self.view_is

pub returns-clause-out : goal.returns-clause-out
returns-clause-out g c =
    let room = has_room _ _ (ap (λ o. o.out) c.self.view_is) c.requires in
    let less = ap (λ m. m.0.parts) c.split-other.ensures.kept.1 in
    (one_out _ _ _ less room c.self.invariant.few (ap (λ o. o.out) c.self.view_is)).0

pub returns-clause-desk : goal.returns-clause-desk
returns-clause-desk g c =
    subst (λ (h : Home). IsAtHome (ChairStands c.desk.result) h) (ap (λ o. o.home) c.self.view_is)
    (given_out (held_home g.row.K.coded g.C.Clock.given) c.self.inside.shared.now c.self.inside.pass c.split-other.result c.desk.result
    c.self.invariant.of c.split-other.ensures.given.0 c.split-other.ensures.given.1 c.desk.ensures)
