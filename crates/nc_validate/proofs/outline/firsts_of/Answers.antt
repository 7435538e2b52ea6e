use Rattle.std.proofs.Common.{◌≡◌, ap, length, subst, rules}
use Rattle.nc_validate.specs.inner.Choices.{AreFirstsFrom}
use Rattle.nc_validate.proofs.ChoiceLemmas.{firsts_start}
use Rattle.nc_validate.proofs.outline.firsts_of.Goals as goal

pub loop-left-init : goal.loop-left-init
loop-left-init c =
    firsts_start c.args.schema.now _ c.nodes-left.result c.in_ok-firsts.firsts c.in_ok-firsts.ensures (ap length c.choices.ensures) c.nodes-left.ensures.number

pub returns : goal.returns
returns c =
    let none : c.loop-left.left ≡ 0 = search rules in
    subst (λ left. AreFirstsFrom c.args.schema.now left c.loop-left.firsts) none c.loop-left.invariant
