use Rattle.std.proofs.Common.{subst}
use Rattle.nc_changes.specs.Apart.{AreApart}
use Rattle.nc_changes.proofs.TopLemmas.{joined_apart}
use Rattle.nc_changes.proofs.tops.is_top_apart.Goals as goal

pub returns : goal.returns
returns c = λ is left.
    joined_apart c.args.rest.now c.in-Some-2.path.steps (c.in_ok-apart.ensures c.if-not-apart.false)
    (subst AreApart c.in_ok-remove.ensures.rows left)
