use Rattle.std.proofs.Common.{Bool, true, false, ◌++◌, subst, refl, sym, ◌∙◌}
use Rattle.nc_model.specs.declared.event.Outcome.{Outcome}
use Rattle.nc_session.specs.inner.Turns.{Ending}
use Rattle.nc_session.proofs.Living.{lands}
use Rattle.nc_session.proofs.Serving.{is_over, was_spent, spent_at_end, end_entered}
use Rattle.nc_session.proofs.serve.conclude.Goals as goal

pub returns-in_default : goal.returns-in_default
returns-in_default g c = λ schema call now s. is_over schema call c.args.session (g.Q.Desk.stands c.args.desk.now call.home) (g.Q.Desk.spent c.args.desk.now) now c.args.met s
    (λ a b stands. g.met.Q.Desk.views c.args.desk.now call.home a b stands) c.in_default.not-Live

pub returns-then-is_spent : goal.returns-then-is_spent
returns-then-is_spent g c = λ schema call now s. was_spent schema call c.args.session (g.Q.Desk.stands c.args.desk.now call.home) (g.Q.Desk.spent c.args.desk.now) now c.args.met s (sym c.is_spent.ensures ∙ c.if-is_spent.true)

pub returns-then-was_live : goal.returns-then-was_live
returns-then-was_live g c = λ schema call now s.
    let Then = g.Q.Desk.stands c.end.new.self call.home in
    let e = c.in-Ok.entry in
    let P : Bool → Type 0 = λ b. Ending c.into_outcome.result b in
    end_entered schema call c.args.session (g.Q.Desk.stands c.args.desk.now call.home) (g.Q.Desk.spent c.args.desk.now) now c.args.met s Then (g.Q.Desk.spent c.end.new.self) e true c.in-Live.is
    (sym c.is_spent.ensures ∙ c.if-is_spent.false)
    (λ a b stands. g.met.Q.Desk.views c.end.new.self call.home a b stands)
    (lands refl (c.in-Ok.ensures.entered call.home (call.seen ++ s.more) (call.mine ++ s.course.entries) s.stands)) (subst (λ (o : Outcome). Ending o true) c.into_outcome.ensures (subst P c.if-was_live.true c.was_live.ensures))

pub returns-else-was_live : goal.returns-else-was_live
returns-else-was_live g c = λ schema call now s.
    let Then = g.Q.Desk.stands c.end.new.self call.home in
    let e = c.in-Ok.entry in
    let P : Bool → Type 0 = λ b. Ending c.into_outcome.result b in
    end_entered schema call c.args.session (g.Q.Desk.stands c.args.desk.now call.home) (g.Q.Desk.spent c.args.desk.now) now c.args.met s Then (g.Q.Desk.spent c.end.new.self) e false c.in-Live.is
    (sym c.is_spent.ensures ∙ c.if-is_spent.false)
    (λ a b stands. g.met.Q.Desk.views c.end.new.self call.home a b stands)
    (lands refl (c.in-Ok.ensures.entered call.home (call.seen ++ s.more) (call.mine ++ s.course.entries) s.stands)) (subst (λ (o : Outcome). Ending o false) c.into_outcome.ensures (subst P c.if-was_live.false c.was_live.ensures))

pub returns-in-Err : goal.returns-in-Err
returns-in-Err g c = λ schema call now s.
    let Then = g.Q.Desk.stands c.end.new.self call.home in
    let spent = c.in-Err.ensures.entered call.home (call.seen ++ s.more) (call.mine ++ s.course.entries) s.stands in
    spent_at_end schema call c.args.session (g.Q.Desk.stands c.args.desk.now call.home) (g.Q.Desk.spent c.args.desk.now) now c.args.met s Then (g.Q.Desk.spent c.end.new.self) _ c.in-Live.is spent.last c.in-Err.ensures.spent spent.stands
