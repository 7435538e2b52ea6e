use Rattle.std.proofs.Common.{sym, subst}
use Rattle.std.specs.Prelude.{IfSome}
use Rattle.nc_refs.specs.inner.Trails.{AreBranchesAt}
use Rattle.nc_refs.proofs.trail.Trail.below.Goals as goal

pub below-requires-clause-branches : goal.below-requires-clause-branches
below-requires-clause-branches c =
    subst (λ o. IfSome o (AreBranchesAt c.args.config.now c.args.above.now)) (sym c.in-Some.ensures.value) (c.requires.trail.branches c.args.above)
