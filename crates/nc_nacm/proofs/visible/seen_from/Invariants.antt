use Rattle.std.proofs.Common.{◌≡◌, take, true}
use Rattle.std.specs.List.{list_all}
use Rattle.nc_model.specs.Sight.{beginnings}
use Rattle.nc_nacm.proofs.visible.seen_from.Given as goal

abbrev pub invariant-loop-at : goal.invariant-loop-at
invariant-loop-at g l = list_all (g.R.Reads.reads l.reader) (beginnings (take l.at l.steps)) ≡ true
