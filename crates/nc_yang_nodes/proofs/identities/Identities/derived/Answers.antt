use Rattle.std.proofs.lemmas.Option.{slice_get-get_or}
use Rattle.nc_yang_nodes.specs.FeaturesOn.{is_on}
use Rattle.nc_yang_nodes.proofs.PickLemmas.{values_step}
use Rattle.nc_yang_nodes.proofs.identities.Identities.derived.Goals as goal

pub loop-base-preserved : goal.loop-base-preserved
loop-base-preserved c = λ ls are.
    values_step c.args.self.now (is_on c.args.features.now) c.args.bases.now ls c.loop-base.base-index _ c.loop-base.numbers c.as_slice.result.now c.in_ok-numbers-2.numbers are
    (slice_get-get_or c.args.bases.now c.loop-base.base-index _ c.loop-base-test.true) c.as_slice.ensures (c.loop-base.invariant ls are) c.in_ok-numbers-2.ensures
