use Rattle.std.proofs.Common.{◌∙◌, ◌+◌, List, ℕ, ap, subst}
use Rattle.nc_filter.specs.inner.Keys.{among}
use Rattle.nc_filter.specs.inner.Labels.{spot_has}
use Rattle.nc_filter.specs.inner.Runs.{Puts}
use Rattle.nc_filter.proofs.SpotLemmas.{slots_done, slots_put}
use Rattle.nc_filter.proofs.spots.by_label.Goals as goal

pub loop-spot-preserved : goal.loop-spot-preserved
loop-spot-preserved c = (
  ap (λ n. n + 1) c.loop-spot.invariant.0,
  slots_put (spot_has c.args.schema.now c.args.depth) c.loop-spot.items c.in_ok-items.items c.args.spots.now c.loop-spot.spot-index c.spot-item.result c.loop-spot-test.true c.spot-item.is
      c.loop-spot.invariant.1
      (subst (λ (n : ℕ). Puts c.loop-spot.items c.in_ok-items.items (spot_has c.args.schema.now c.args.depth c.spot-item.result) n) c.loop-spot.invariant.0
      (subst (λ (keys : List (List ℕ)). Puts c.loop-spot.items c.in_ok-items.items (among keys) c.loop-spot.number) (c.as_slice.ensures ∙ c.in_ok-keys.ensures) c.in_ok-items.ensures)),
)

pub returns : goal.returns
returns c = slots_done (spot_has c.args.schema.now c.args.depth) c.loop-spot.items c.args.spots.now c.loop-spot.spot-index c.loop-spot-test.false c.loop-spot.invariant.1
