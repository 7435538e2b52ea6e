use Rattle.nc_filter.proofs.ListLemmas.{once_more, once_there}
use Rattle.nc_filter.proofs.groups.with_once.Goals as goal

pub returns-then-is_last : goal.returns-then-is_last
returns-then-is_last c = once_there c.args.numbers c.args.number (c.is_last.ensures c.if-is_last.true)

pub returns : goal.returns
returns c = once_more c.args.numbers c.push.new.self c.args.number c.in_ok-push.ensures.ok
