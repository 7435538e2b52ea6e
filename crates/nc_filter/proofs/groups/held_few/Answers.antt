use Rattle.nc_filter.proofs.MemberLemmas.{listed}
use Rattle.nc_filter.proofs.groups.held_few.Goals as goal

pub returns-in_ok-held-in-Some : goal.returns-in_ok-held-in-Some
returns-in_ok-held-in-Some c = λ here among keys_are.
    listed c.args.keys.now c.args.table.now.items c.args.runs.now here c.args.from.now c.in-Some.few.now c.in_ok-held-in-Some.field-0 c.args.place c.index-keys-place.result
    c.requires c.index-keys-place.is c.in-Some.ensures c.in_ok-held-in-Some.ensures among keys_are
