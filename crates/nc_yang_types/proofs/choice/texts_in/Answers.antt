use Rattle.nc_yang_types.specs.inner.Known.{has_text}
use Rattle.nc_yang_types.proofs.ChoiceLemmas.{kept_all, kept_next}
use Rattle.nc_yang_types.proofs.choice.texts_in.Goals as goal

pub loop-text-preserved : goal.loop-text-preserved
loop-text-preserved c =
    kept_next (has_text c.args.names.now) c.args.taken.now c.loop-text.kept c.in_ok-kept.kept c.loop-text.text-index c.text-item.result c.loop-text-test.true c.text-item.is
    c.in_ok-kept.ensures c.loop-text.invariant

pub returns : goal.returns
returns c = kept_all (has_text c.args.names.now) c.args.taken.now c.loop-text.kept c.loop-text.text-index c.loop-text-test.false c.loop-text.invariant
