use Rattle.std.proofs.Common.{List, sym, subst}
use Rattle.nc_schema.specs.declared.node.Case.{Case}
use Rattle.nc_validate.specs.inner.Choices.{HasFirsts}
use Rattle.nc_validate.proofs.ChoiceLemmas.{firsts_more, firsts_past}
use Rattle.nc_validate.proofs.outline.set_node.Goals as goal

pub returns-in_default : goal.returns-in_default
returns-in_default c = firsts_past c.args.schema.now c.args.number c.args.firsts.now (sym c.in_default.ensures) c.requires

pub returns : goal.returns
returns c =
    firsts_more c.args.schema.now c.args.number c.in-Some.node.now c.args.firsts.now c.set_firsts.new.firsts (sym c.in-Some.ensures)
    (subst (λ (cases : List Case). HasFirsts cases c.args.number c.args.firsts.now c.set_firsts.new.firsts) c.as_slice.ensures c.set_firsts.ensures) c.requires
