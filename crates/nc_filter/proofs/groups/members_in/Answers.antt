use Rattle.nc_filter.proofs.groups.members_in.Goals as goal

pub returns : goal.returns
returns c = c.in_ok-found-2.ensures c.args.runs.now
