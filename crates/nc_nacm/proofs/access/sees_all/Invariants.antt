use Rattle.std.proofs.Common.{◌≡◌, drop}
use Rattle.std.specs.List.{list_all}
use Rattle.nc_model.specs.Sight.{beginnings}
use Rattle.nc_nacm.proofs.access.sees_all.Given as goal

abbrev pub invariant-loop-at : goal.invariant-loop-at
invariant-loop-at g l =
    list_all (g.R.Reads.reads l.reader) (drop l.at (beginnings l.steps)) ≡ list_all (g.R.Reads.reads l.reader) (beginnings l.steps)
