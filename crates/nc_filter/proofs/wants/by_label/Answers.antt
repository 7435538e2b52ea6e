use Rattle.std.proofs.Common.{◌+◌, List, ℕ, ap, subst}
use Rattle.nc_filter.specs.inner.Keys.{among}
use Rattle.nc_filter.specs.inner.Labels.{want_has}
use Rattle.nc_filter.specs.inner.Runs.{Puts}
use Rattle.nc_filter.proofs.SpotLemmas.{slots_done, slots_put}
use Rattle.nc_filter.proofs.wants.by_label.Goals as goal

pub loop-want-preserved : goal.loop-want-preserved
loop-want-preserved c = (
  ap (λ n. n + 1) c.loop-want.invariant.0,
  slots_put want_has c.loop-want.items c.in_ok-items.items c.args.wants.now c.loop-want.want-index c.want-item.result c.loop-want-test.true c.want-item.is
      c.loop-want.invariant.1
      (subst (λ (n : ℕ). Puts c.loop-want.items c.in_ok-items.items (want_has c.want-item.result) n) c.loop-want.invariant.0
      (subst (λ (keys : List (List ℕ)). Puts c.loop-want.items c.in_ok-items.items (among keys) c.loop-want.number) c.as_slice.ensures c.in_ok-items.ensures)),
)

pub returns : goal.returns
returns c = slots_done want_has c.loop-want.items c.args.wants.now c.loop-want.want-index c.loop-want-test.false c.loop-want.invariant.1
