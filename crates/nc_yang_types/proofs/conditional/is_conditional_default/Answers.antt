use Rattle.std.proofs.Common.{◌∙◌, sym}
use Rattle.nc_yang_types.proofs.ConditionalLemmas.{told_default, untold_default}
use Rattle.nc_yang_types.proofs.conditional.is_conditional_default.Goals as goal

pub returns-then-not-is_default : goal.returns-then-not-is_default
returns-then-not-is_default c = untold_default c.args.meanings.now c.args.of_type c.args.statement.now (sym c.is_default.ensures ∙ c.if-not-is_default.true)

pub returns : goal.returns
returns c =
    told_default c.args.meanings.now c.args.of_type c.args.statement.now c.name.result.now c.takes_at.result (sym c.is_default.ensures ∙ c.if-not-is_default.false)
    c.name.ensures c.takes_at.ensures
