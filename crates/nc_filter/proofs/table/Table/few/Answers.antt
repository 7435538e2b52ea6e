use Rattle.nc_filter.proofs.MemberLemmas.{few_at}
use Rattle.nc_filter.proofs.table.Table.few.Goals as goal

pub returns-in-Some : goal.returns-in-Some
returns-in-Some c = few_at c.args.self.now.items c.args.key.now c.in-Some.members.now c.few_of.result c.in-Some.ensures c.few_of.ensures

pub returns-in-None : goal.returns-in-None
returns-in-None c = λ n. c.in-None.ensures n
