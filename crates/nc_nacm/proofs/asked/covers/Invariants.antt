use Rattle.std.proofs.Common.{◌≡◌, drop}
use Rattle.nc_model.specs.Decision.{covers}
use Rattle.nc_nacm.proofs.asked.covers.Given as goal

abbrev pub invariant-loop-one : goal.invariant-loop-one
invariant-loop-one l = covers (drop l.one-index l.pattern) l.rest ≡ covers l.pattern l.steps
