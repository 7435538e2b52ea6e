use Rattle.std.proofs.Common.{◌∙◌}
use Rattle.nc_filter.proofs.places.Places.has.Goals as goal

pub returns : goal.returns
returns c = λ rows are. c.contains.ensures ∙ are c.args.steps
