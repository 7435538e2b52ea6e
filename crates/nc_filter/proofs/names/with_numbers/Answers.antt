use Rattle.std.proofs.Common.{get_or, refl}
use Rattle.nc_filter.proofs.NameLemmas.{elems_more}
use Rattle.nc_filter.proofs.names.with_numbers.Goals as goal

pub loop-number-preserved : goal.loop-number-preserved
loop-number-preserved c =
    elems_more c.args.schema.now c.args.node c.args.elems.now c.args.numbers.now c.loop-number.number-index (get_or c.args.numbers.now c.loop-number.number-index 0) 0
    c.args.out c.loop-number.out c.in_ok-out.out c.loop-number-test.true refl c.in_ok-out.ensures c.loop-number.invariant
