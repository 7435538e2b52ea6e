use Rattle.std.proofs.Common.{◌+◌}
use Rattle.nc_refs.proofs.NamedLemmas.{above_exists}
use Rattle.nc_refs.proofs.named.with_nodes.Goals as goal

pub loop-at-preserved : goal.loop-at-preserved
loop-at-preserved c = λ rows all there.
    c.in_ok-nodes.ensures rows (c.loop-at.invariant rows all there) (above_exists rows c.args.steps.now (c.loop-at.at + 1) there)
