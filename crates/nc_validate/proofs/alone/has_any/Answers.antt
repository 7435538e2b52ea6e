use Rattle.std.proofs.Common.{sym}
use Rattle.nc_validate.specs.inner.Alone.{has_value}
use Rattle.nc_validate.proofs.AloneLemmas.{any_at}
use Rattle.nc_validate.proofs.alone.has_any.Goals as goal

pub returns-then-contains : goal.returns-then-contains
returns-then-contains c =
    any_at (has_value c.args.seen.now) c.args.values.now c.loop-value.value-index c.value-item.result c.loop-value-test.true c.value-item.is (sym c.if-contains.ensures)
