use Rattle.nc_filter.proofs.MemberLemmas.{few_known}
use Rattle.nc_filter.proofs.table.few_of.Goals as goal

pub returns-then-is_empty : goal.returns-then-is_empty
returns-then-is_empty c = few_known c.args.members.now c.short_list.result (c.is_empty.ensures.0 c.if-is_empty.true) c.short_list.ensures
