use Rattle.std.proofs.Common.{sym, ap, ◌∙◌}
use Rattle.nc_yang_statements.specs.Statements.{has}
use Rattle.nc_yang_types.proofs.ChoiceLemmas.{chosen_all, chosen_is}
use Rattle.nc_yang_types.proofs.choice.chosen.Goals as goal

pub returns-then-not-has : goal.returns-then-not-has
returns-then-not-has g c =
    chosen_all (g.C.Conditions.stands c.args.conditions.now) c.args.listed c.args.below.now c.args.taken.now
    (ap (λ word. has word c.args.below.now) (sym c.member_word.ensures) ∙ sym c.has.ensures ∙ c.if-not-has.true)

pub returns : goal.returns
returns g c =
    chosen_is (g.C.Conditions.stands c.args.conditions.now) c.args.listed c.args.below.now c.in_ok-names.names c.in_ok-names.ensures c.args.taken.now c.in_ok-texts_in.field-0
    (ap (λ word. has word c.args.below.now) (sym c.member_word.ensures) ∙ sym c.has.ensures ∙ c.if-not-has.false) c.in_ok-texts_in.ensures
