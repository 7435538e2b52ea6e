use Rattle.std.proofs.Common.{sym, ◌∙◌}
use Rattle.nc_yang.proofs.JudgedLemmas.{judged_not, judged_tells}
use Rattle.nc_yang.proofs.typedefs.is_judged.Goals as goal

pub returns-then-not-has_default : goal.returns-then-not-has_default
returns-then-not-has_default c = λ on are l here.
    judged_not c.args.scopes.now c.args.number on l here (sym c.has_default.ensures ∙ c.if-not-has_default.true)

pub returns : goal.returns
returns c = λ on are l here.
    judged_tells c.args.scopes.now c.args.number on l here (sym c.has_default.ensures ∙ c.if-not-has_default.false) c.has_plain_type.result
    (c.has_plain_type.ensures on are l here)
