use Rattle.std.proofs.Common.{sym, ◌∙◌}
use Rattle.nc_yang_nodes.specs.Plans.{most_levels}
use Rattle.nc_yang_data.specs.Defaults.{outermost}
use Rattle.nc_yang_data.proofs.DefaultLemmas.{out_step}
use Rattle.nc_yang_data.proofs.defaults.outermost.Goals as goal

pub loop-level-preserved : goal.loop-level-preserved
loop-level-preserved c =
    out_step c.args.schema.now (outermost c.args.schema.now most_levels c.args.number) most_levels c.loop-level.level c.loop-level.at c.in-Some.above
    c.loop-level-test.true (sym c.carrier_of.ensures ∙ c.in-Some.is) c.loop-level.invariant
