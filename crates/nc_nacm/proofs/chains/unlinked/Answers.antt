use Rattle.nc_nacm.proofs.Linking.{none_linked}
use Rattle.nc_nacm.proofs.chains.unlinked.Goals as goal

pub returns-clause-linked : goal.returns-clause-linked
returns-clause-linked c =
    none_linked c.args.marks c.in_ok-heads.heads c.in_ok-nexts.nexts c.len-count.result c.max-buckets.result
    c.len-count.ensures c.max-buckets.ensures c.in_ok-heads.ensures c.in_ok-nexts.ensures
