use Rattle.std.proofs.Common.{[]}
use Rattle.nc_message.proofs.start.push_bounds.Goals as goal

pub returns : goal.returns
returns c = c.in_ok-push_bound_uses.ensures.ok.output [] c.new-seen.ensures
