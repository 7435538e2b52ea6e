use Rattle.std.proofs.Common.{◌∙◌, ap, subst}
use Rattle.nc_changes.specs.Apart.{AreApart}
use Rattle.nc_changes.specs.inner.Common.{rows_of}
use Rattle.nc_changes.proofs.tops.are_all_apart.Goals as goal

pub returns : goal.returns
returns c = λ is. subst AreApart (ap rows_of c.as_slice.ensures ∙ c.in_ok-rows.ensures) (c.in_ok-apart.ensures is)
