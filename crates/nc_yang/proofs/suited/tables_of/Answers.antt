use Rattle.nc_yang_nodes.specs.FeaturesOn.{is_on}
use Rattle.nc_yang.proofs.SuitedLemmas.{leafs_more}
use Rattle.nc_yang.proofs.suited.tables_of.Goals as goal

pub loop-number-preserved : goal.loop-number-preserved
loop-number-preserved c =
    leafs_more c.args.scopes.now (is_on c.args.features.now) c.args.numbers.now c.loop-number.number-index c.loop-number.schema c.add_leaf.new.schema c.loop-number-test.true c.loop-number.invariant
    c.in_ok-add_leaf.ensures
