use Rattle.std.proofs.Common.{◌≡◌, drop}
use Rattle.nc_model.specs.Verdict.{denied_among}
use Rattle.nc_courses.proofs.denied.denied_among.Given as goal

abbrev pub invariant-loop-path : goal.invariant-loop-path
invariant-loop-path g l =
    denied_among (g.R.Rights.decided l.rights) l.right (drop l.path-index l.paths)
    ≡ denied_among (g.R.Rights.decided l.rights) l.right l.paths
