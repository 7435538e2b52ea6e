use Rattle.std.proofs.Common.{◌∙◌, ap, subst}
use Rattle.nc_schema.specs.Standing.{block_at}
use Rattle.nc_changes.specs.Apart.{AreApart}
use Rattle.nc_changes.specs.inner.Common.{rows_of}
use Rattle.nc_changes.proofs.TopLemmas.{single_apart}
use Rattle.nc_changes.proofs.tops.are_apart_at.Goals as goal

pub returns-then-branch : goal.returns-then-branch
returns-then-branch c = λ is.
    single_apart (block_at c.args.config.now c.args.path.now.steps) (c.in_ok-is_single_at.ensures c.if-branch.true)

pub returns : goal.returns
returns c = λ is. subst AreApart (ap rows_of c.as_slice.ensures ∙ c.in_ok-rows.ensures) (c.in_ok-apart.ensures is)
