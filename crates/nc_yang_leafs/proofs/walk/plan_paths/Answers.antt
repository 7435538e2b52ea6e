use Rattle.std.proofs.Common.{sym, subst}
use Rattle.nc_yang_leafs.specs.inner.Plans.{ArePlanPaths}
use Rattle.nc_yang_leafs.proofs.WalkLemmas.{no_paths}
use Rattle.nc_yang_leafs.proofs.walk.plan_paths.Goals as goal

pub returns-else-is_marked : goal.returns-else-is_marked
returns-else-is_marked c =
    subst (ArePlanPaths c.args.meanings.now c.args.plan) (sym c.new.ensures)
    (no_paths c.args.meanings.now c.args.marks.now c.requires c.args.plan (sym c.if-is_marked.ensures))
