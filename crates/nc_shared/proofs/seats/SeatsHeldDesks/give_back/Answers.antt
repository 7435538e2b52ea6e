use Rattle.std.proofs.Common.{ap, ◌∙◌, ◌+◌}
use Rattle.nc_turn.specs.Passes.{view}
use Rattle.nc_shared.specs.Holding.{held_home}
use Rattle.nc_shared.proofs.Returned.{given_back, one_back, plain_together, same_office}
use Rattle.nc_shared.proofs.seats.SeatsHeldDesks.give_back.Goals as goal

pub compare-requires : goal.compare-requires
compare-requires g c =
    let whole = ap (λ o. o.home) c.self.view_is ∙ c.requires.desk.2.home_is in (
      c.self.invariant.of,
      (given_back (held_home g.row.K.coded g.C.Clock.given) c.self.inside.shared.now c.self.inside.pass c.args.desk c.leave-other.result
          whole c.self.invariant.of c.leave-other.ensures).0,
    )

pub invariant_of-self : goal.invariant_of-self
invariant_of-self g c =
    let whole = ap (λ o. o.home) c.self.view_is ∙ c.requires.desk.2.home_is in
    let one = (given_back (held_home g.row.K.coded g.C.Clock.given) c.self.inside.shared.now c.self.inside.pass c.args.desk c.leave-other.result
    whole c.self.invariant.of c.leave-other.ensures).1 in
    let more = c.compare.ensures.joined.parts ∙ ap (λ n. (view c.self.inside.pass).parts + n) one in record {
      of = c.compare.ensures.of;
      few = (one_back _ _ _ more c.requires.out (ap (λ o. o.out) c.self.view_is)).1;
      plain = plain_together (held_home g.row.K.coded g.C.Clock.given) c.self.inside.shared.now c.self.inside.pass c.args.desk
          c.leave-other.result _ _ c.requires.desk c.leave-other.ensures c.self.invariant.plain c.compare.ensures.joined.gathered;
    }

pub returns-clause-home : goal.returns-clause-home
returns-clause-home g c =
    same_office (held_home g.row.K.coded g.C.Clock.given) c.self.inside.shared.now c.self.inside.pass c.compare.new.mine c.self.invariant.of
    c.compare.ensures.of ∙ ap (λ o. o.home) c.self.view_is

pub returns-clause-out : goal.returns-clause-out
returns-clause-out g c =
    let whole = ap (λ o. o.home) c.self.view_is ∙ c.requires.desk.2.home_is in
    let one = (given_back (held_home g.row.K.coded g.C.Clock.given) c.self.inside.shared.now c.self.inside.pass c.args.desk c.leave-other.result
    whole c.self.invariant.of c.leave-other.ensures).1 in
    let more = c.compare.ensures.joined.parts ∙ ap (λ n. (view c.self.inside.pass).parts + n) one in
    (one_back _ _ _ more c.requires.out (ap (λ o. o.out) c.self.view_is)).0
