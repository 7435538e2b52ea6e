use Rattle.std.proofs.Common.{sym, ◌∙◌}
use Rattle.nc_yang_types.proofs.ChoiceLemmas.{chosen_added, chosen_off, chosen_other}
use Rattle.nc_yang_types.proofs.choice.with_chosen.Goals as goal

pub returns-then-not-is_member : goal.returns-then-not-is_member
returns-then-not-is_member g c = λ before known.
    chosen_other (g.C.Conditions.stands c.args.conditions.now) c.args.listed c.args.names c.args.statement.now before (sym c.is_member.ensures ∙ c.if-not-is_member.true) known

pub returns-then-not-holds : goal.returns-then-not-holds
returns-then-not-holds g c = λ before known.
    chosen_off (g.C.Conditions.stands c.args.conditions.now) c.args.listed c.args.names c.args.statement.now before (sym c.is_member.ensures ∙ c.if-not-is_member.false)
    (sym c.holds.ensures ∙ c.if-not-holds.true) known

pub returns : goal.returns
returns g c = λ before known.
    chosen_added (g.C.Conditions.stands c.args.conditions.now) c.args.listed c.args.names c.insert.new.self c.name.result c.args.statement.now before c.name.ensures
    c.in_ok-insert.ensures.updates.0 known (sym c.is_member.ensures ∙ c.if-not-is_member.false) (sym c.holds.ensures ∙ c.if-not-holds.false)
