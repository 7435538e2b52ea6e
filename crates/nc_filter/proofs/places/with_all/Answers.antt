use Rattle.std.proofs.Common.{ap, sym, subst, ℕ, ◌+◌, ◌<◌, length}
use Rattle.nc_filter.proofs.PlacesLemmas.{step_added}
use Rattle.nc_filter.proofs.places.with_all.Goals as goal

pub loop-step-preserved : goal.loop-step-preserved
loop-step-preserved c = (
  ap (λ n. n + 1) c.loop-step.invariant.0,
  step_added c.args.items c.loop-step.items c.in_ok-items-2.items c.args.steps.now c.loop-step.at c._step-item.result
      (subst (λ (n : ℕ). n < length c.args.steps.now) (sym c.loop-step.invariant.0) c.loop-step-test.true) c.loop-step.invariant.1 c.in_ok-items-2.ensures,
)
