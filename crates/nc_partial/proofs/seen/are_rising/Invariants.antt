use Rattle.std.proofs.Common.{◌≡◌, drop}
use Rattle.nc_partial.specs.inner.Rising.{rises, rises_from}
use Rattle.nc_partial.proofs.seen.are_rising.Given as goal

abbrev pub invariant-loop-path : goal.invariant-loop-path
invariant-loop-path l = rises_from l.last (drop l.path-index l.more) ≡ rises l.paths
