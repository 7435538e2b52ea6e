use Rattle.nc_filter.proofs.GroupLemmas.{group_of_none}
use Rattle.nc_filter.proofs.groups.with_some.Goals as goal

pub returns-then-is_empty : goal.returns-then-is_empty
returns-then-is_empty c = λ whole. group_of_none whole c.args.groups c.args.group (c.is_empty.ensures c.if-is_empty.true)
