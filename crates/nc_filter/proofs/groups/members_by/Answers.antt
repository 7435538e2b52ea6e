use Rattle.std.proofs.Common.{◌∙◌}
use Rattle.nc_filter.proofs.MemberLemmas.{listed_some}
use Rattle.nc_filter.proofs.groups.members_by.Goals as goal

pub returns-in-Some : goal.returns-in-Some
returns-in-Some c = λ here from_is keys_are n.
    c.of_list.ensures n
    ∙ listed_some c.args.keys.now c.args.table.now.items c.args.runs.now c.args.from.now c.in_ok-found.found c.in-Some.few c.in-Some.is c.in_ok-found.ensures here from_is keys_are n

pub returns-in_ok-held_many-in-None : goal.returns-in_ok-held_many-in-None
returns-in_ok-held_many-in-None c = c.in_ok-held_many-in-None.ensures c.args.runs.now
