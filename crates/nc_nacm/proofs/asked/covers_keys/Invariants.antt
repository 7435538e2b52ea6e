use Rattle.std.proofs.Common.{◌≡◌, drop}
use Rattle.nc_model.specs.Decision.{covers_keys}
use Rattle.nc_nacm.proofs.asked.covers_keys.Given as goal

abbrev pub invariant-loop-at : goal.invariant-loop-at
invariant-loop-at l = covers_keys (drop l.at l.given) (drop l.at l.keys) ≡ covers_keys l.given l.keys
