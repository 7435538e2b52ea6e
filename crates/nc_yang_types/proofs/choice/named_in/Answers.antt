use Rattle.nc_yang_types.specs.inner.Known.{has_text}
use Rattle.nc_yang_types.proofs.ChoiceLemmas.{kept_all, kept_next}
use Rattle.nc_yang_types.proofs.choice.named_in.Goals as goal

pub loop-named-preserved : goal.loop-named-preserved
loop-named-preserved c =
    kept_next (λ n. has_text c.args.set.now n.name) c.args.names.now c.loop-named.kept c.in_ok-kept.kept c.loop-named.named-index c.named-item.result c.loop-named-test.true c.named-item.is
    c.in_ok-kept.ensures c.loop-named.invariant

pub returns : goal.returns
returns c = kept_all (λ n. has_text c.args.set.now n.name) c.args.names.now c.loop-named.kept c.loop-named.named-index c.loop-named-test.false c.loop-named.invariant
