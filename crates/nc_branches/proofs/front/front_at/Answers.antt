use Rattle.std.proofs.Common.{ap, ◌∙◌}
use Rattle.nc_branches.specs.inner.Fronts.{order_in}
use Rattle.nc_branches.proofs.FrontLemmas.{front_at}
use Rattle.nc_branches.proofs.front.front_at.Goals as goal

pub returns : goal.returns
returns c = ap order_in c.get.ensures.value ∙ front_at c.args.fronts.now c.args.place
