use Rattle.std.proofs.Common.{◌∙◌, sym}
use Rattle.nc_yang_leafs.proofs.WalkLemmas.{ends, goes_on}
use Rattle.nc_yang_leafs.proofs.walk.walked.Goals as goal

pub loop-at-init : goal.loop-at-init
loop-at-init c = c.in_ok-walk.ensures c.args.meanings.now c.args.marks.now

pub loop-at-preserved : goal.loop-at-preserved
loop-at-preserved c =
    goes_on c.args.meanings.now c.args.marks.now c.args.plan c.loop-at.walk c.look.new.self c.loop-at.at c.in-Some.next c.loop-at.invariant
    (sym c.get.ensures.value ∙ sym c.copied.ensures ∙ c.in-Some.is) c.in_ok-look.ensures

pub returns-in_default : goal.returns-in_default
returns-in_default c =
    ends c.args.meanings.now c.args.marks.now c.args.plan c.loop-at.walk c.loop-at.at c.requires c.loop-at.invariant (sym c.get.ensures.value ∙ sym c.copied.ensures ∙ c.in_default.is)
