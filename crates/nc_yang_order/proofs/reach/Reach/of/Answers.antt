use Rattle.std.proofs.Common.{◌∙◌, sym, ap}
use Rattle.std.specs.Prelude.{fold}
use Rattle.nc_yang_order.specs.inner.Reaching.{added}
use Rattle.nc_yang_order.proofs.ReachLemmas.{begins, ends, goes_on}
use Rattle.nc_yang_order.proofs.reach.Reach.of.Goals as goal

pub loop-at-init : goal.loop-at-init
loop-at-init c = begins c.args.graph.now c.args.starts.now c.in_ok-reach.reach (c.in_ok-reach.ensures ∙ ap (λ z. fold added z c.args.starts.now) c.in_ok-new.ensures)

pub returns-in_default : goal.returns-in_default
returns-in_default c =
    ends c.args.graph.now c.args.starts.now c.loop-at.reach c.loop-at.at c.loop-at.invariant (sym c.get.ensures.value ∙ sym c.copied.ensures ∙ c.in_default.is)

pub loop-at-preserved : goal.loop-at-preserved
loop-at-preserved c =
    goes_on c.args.graph.now c.args.starts.now c.loop-at.reach c.in_ok-reach-2.reach c.loop-at.at c.in-Some.number c.loop-at.invariant (sym c.get.ensures.value ∙ sym c.copied.ensures ∙ c.in-Some.is)
    (c.in_ok-reach-2.ensures ∙ ap (λ z. fold added c.loop-at.reach z) c.row.ensures)
