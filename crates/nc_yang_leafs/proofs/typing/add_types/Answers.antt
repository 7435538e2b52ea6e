use Rattle.nc_yang_leafs.specs.inner.Assembly.{both}
use Rattle.nc_yang_leafs.proofs.AddingLemmas.{bare_more, bare_none}
use Rattle.nc_yang_leafs.proofs.typing.add_types.Goals as goal

pub loop-one-init : goal.loop-one-init
loop-one-init c = bare_none c.args.schema.now (both c.args.schema.now c.args.patterns.now) (λ i. both c.args.schema.now (c.requires i))

pub loop-one-preserved : goal.loop-one-preserved
loop-one-preserved c =
    bare_more c.args.schema.now c.loop-one.yielded (both c.loop-one.schema c.loop-one.patterns) (both c.add_type.new.schema c.add_type.new.patterns) c.in-Some.one c.loop-one.invariant
    c.in_ok-add_type.ensures
