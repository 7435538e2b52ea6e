use Rattle.std.proofs.Common.{refl, rules}
use Rattle.nc_yang_leafs.proofs.GiveLemmas.{some_turn}
use Rattle.nc_yang_leafs.proofs.typing.with_kinds.Goals as goal

pub loop-number-preserved : goal.loop-number-preserved
loop-number-preserved c =
    some_turn c.args.schema c.loop-number.schema c.set_kind.new.schema c.args.kinds.now c.loop-number.number _ c.loop-number-test.true refl c.in-Ok.place (search rules)
    c.loop-number.invariant c.in_ok-set_kind.ensures
