use Rattle.std.proofs.Common.{sym, ◌∙◌}
use Rattle.nc_message.proofs.Showing.{shown_is}
use Rattle.nc_message.proofs.bounds.Bounds.iter.Goals as goal

pub returns : goal.returns
returns c = sym (shown_is c.levels.result.now) ∙ c.levels.ensures
