-- The first path at which the right is not given.
use Rattle.std.proofs.Common.{◌∙◌, sym}
use Rattle.nc_courses.proofs.Denying.{denied_found}
use Rattle.nc_courses.proofs.denied.denied_among.Goals as goal

pub returns-in-Some : goal.returns-in-Some
returns-in-Some g c =
    denied_found (g.R.Rights.decided c.args.rights.now) c.args.right c.args.paths.now c.loop-path.path-index c.path-item.result
    c.in-Some.cause c.loop-path.invariant c.loop-path-test.true c.path-item.is (sym c.in-Some.is ∙ c.in_ok-cause.ensures)
