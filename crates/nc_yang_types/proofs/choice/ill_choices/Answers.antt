use Rattle.std.proofs.Common.{sym, ap, ◌∙◌}
use Rattle.nc_yang_statements.specs.Statements.{has}
use Rattle.nc_yang_types.proofs.ChoiceLemmas.{no_choices}
use Rattle.nc_yang_types.proofs.choice.ill_choices.Goals as goal

pub returns-then-not-has : goal.returns-then-not-has
returns-then-not-has c =
    no_choices c.args.listed c.args.names.now c.args.below.now (ap (λ word. has word c.args.below.now) (sym c.member_word.ensures) ∙ sym c.has.ensures ∙ c.if-not-has.true)
