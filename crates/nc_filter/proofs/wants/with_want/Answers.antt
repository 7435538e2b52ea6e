use Rattle.nc_filter.proofs.SpotLemmas.{want_past, want_there}
use Rattle.nc_filter.proofs.wants.with_want.Goals as goal

pub returns-in_ok-joined_members-in-Some : goal.returns-in_ok-joined_members-in-Some
returns-in_ok-joined_members-in-Some c =
    want_there c.args.wants.now c.args.words c.in_ok-joined_members-in-Some.field-0 c.args.number c.in-Some.want.now c.in-Some.ensures.lookup.3.0 c.in-Some.ensures.lookup.1
    c.in_ok-joined_members-in-Some.ensures

pub returns-in-None : goal.returns-in-None
returns-in-None c = want_past c.args.wants.now c.args.words c.args.number c.in-None.ensures.lookup.3
