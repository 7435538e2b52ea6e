use Rattle.std.proofs.Common.{◌≡◌, drop, take}
use Rattle.nc_tree.specs.inner.Lacking.{lacks_from}
use Rattle.nc_edit.specs.inner.Alone.{lacks_at}
use Rattle.nc_edit.proofs.missed.lacks_from.Given as goal

abbrev pub invariant-loop-at : goal.invariant-loop-at
invariant-loop-at l = lacks_from l.schema l.config (take l.at l.steps) (drop l.at l.steps) ≡ lacks_at l.schema l.config l.from l.steps
