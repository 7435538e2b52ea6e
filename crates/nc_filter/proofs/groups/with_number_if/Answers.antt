use Rattle.nc_filter.proofs.MemberLemmas.{number_added, number_left}
use Rattle.nc_filter.proofs.groups.with_number_if.Goals as goal

pub returns-then-passes : goal.returns-then-passes
returns-then-passes c = number_added c.args.numbers c.in_ok-more.more c.args.passes c.args.number c.if-passes.true c.in_ok-more.ensures

pub returns : goal.returns
returns c = number_left c.args.numbers c.args.passes c.args.number c.if-passes.false
