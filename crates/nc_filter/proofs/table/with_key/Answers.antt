use Rattle.nc_filter.proofs.MemberLemmas.{member_put}
use Rattle.nc_filter.proofs.table.with_key.Goals as goal

pub returns : goal.returns
returns c =
    member_put c.args.items c.taken-inside.new.items c.insert.new.self c.args.key c.taken-inside.result c.in_ok-more.more c.args.number c.taken-inside.ensures.others
    c.taken-inside.ensures.found c.in_ok-more.ensures c.in_ok-insert.ensures.updates.0
