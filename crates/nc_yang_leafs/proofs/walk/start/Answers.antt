use Rattle.nc_yang_leafs.proofs.WalkLemmas.{begins}
use Rattle.nc_yang_leafs.proofs.walk.start.Goals as goal

pub returns : goal.returns
returns c = λ meanings marks.
    begins meanings marks c.args.plan _ c.with.new.self c.new.ensures c.new-3.ensures c.new-2.ensures.empty c.in_ok-with.ensures
