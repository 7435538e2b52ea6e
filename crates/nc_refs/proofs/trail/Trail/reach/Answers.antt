use Rattle.std.proofs.Common.{subst, take}
use Rattle.nc_refs.specs.inner.Trails.{IsReached}
use Rattle.nc_refs.proofs.TrailLemmas.{not_reached}
use Rattle.nc_refs.proofs.trail.Trail.reach.Goals as goal

pub returns-in_default-clause-reached : goal.returns-in_default-clause-reached
returns-in_default-clause-reached c =
    not_reached c.args.schema.now c.args.config.now c.args.steps.now c.step.at
    (subst (λ o. IsReached c.args.schema.now c.args.config.now (take c.step.at c.args.steps.now) o) c.in_default.is c.step.invariant.reached)
