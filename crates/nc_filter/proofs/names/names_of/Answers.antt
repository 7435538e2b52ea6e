use Rattle.std.proofs.Common.{◌+◌, ℕ, ap, subst}
use Rattle.nc_filter.specs.inner.Keys.{name_key}
use Rattle.nc_filter.specs.inner.Runs.{adds_key}
use Rattle.nc_filter.proofs.NameLemmas.{name_put}
use Rattle.nc_filter.proofs.names.names_of.Goals as goal

pub loop-elem-preserved : goal.loop-elem-preserved
loop-elem-preserved c = (
  ap (λ n. n + 1) c.loop-elem.invariant.0,
  name_put c.args.elems.now c.loop-elem.items c.in_ok-items.items c.loop-elem.elem-index c.elem-item.result c.loop-elem-test.true c.elem-item.is
      (subst (λ (n : ℕ). adds_key c.loop-elem.items c.in_ok-items.items (name_key c.elem-item.result.now) n) c.loop-elem.invariant.0 c.in_ok-items.ensures)
      c.loop-elem.invariant.1,
)
