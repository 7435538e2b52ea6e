use Rattle.std.proofs.Common.{◌+◌, sym, subst}
use Rattle.std.proofs.lemmas.Option.{slice_get-get_or}
use Rattle.nc_yang_types.specs.inner.Footings.{AreStarts}
use Rattle.nc_yang_types.proofs.DependentLemmas.{starts_more}
use Rattle.nc_yang_types.proofs.dependents.starts.Goals as goal

pub loop-number-preserved : goal.loop-number-preserved
loop-number-preserved c =
    subst (λ z. AreStarts c.args.footings.now (c.loop-number.number + 1) z) (sym c.in_ok-starts.ensures)
    (starts_more c.args.footings.now c.loop-number.number c.loop-number.starts _ c.loop-number.invariant
    (slice_get-get_or c.args.footings.now c.loop-number.number _ c.loop-number-test.true))
