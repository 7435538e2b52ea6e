use Rattle.nc_filter.specs.inner.Sets.{bit_of}
use Rattle.nc_filter.proofs.MemberLemmas.{here_put, not_here}
use Rattle.nc_filter.proofs.reach.with_reached.Goals as goal

pub returns-then-is_set : goal.returns-then-is_set
returns-then-is_set c =
    here_put c.args.words c.in_ok-more.more (bit_of c.args.parents.now c.args.run.now.parent) c.args.number c.is_set.result c.is_set.ensures c.if-is_set.true c.in_ok-more.ensures

pub returns : goal.returns
returns c = not_here c.args.words (bit_of c.args.parents.now c.args.run.now.parent) c.args.number c.is_set.result c.is_set.ensures c.if-is_set.false
