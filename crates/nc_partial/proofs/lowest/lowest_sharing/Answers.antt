use Rattle.nc_partial.proofs.SearchLemmas.{sharing}
use Rattle.nc_partial.proofs.lowest.lowest_sharing.Goals as goal

pub returns : goal.returns
returns c =
    sharing c.args.other_than c.args.index.now c.args.node.now c.as_slice-steps.result.now c.lowest_above.result c.lowest_at.result c.lower.result
    c.as_slice-steps.ensures c.lower.ensures c.lowest_above.ensures c.lowest_at.ensures
