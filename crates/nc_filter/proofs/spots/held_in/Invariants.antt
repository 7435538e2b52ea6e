use Rattle.std.proofs.Common.{take}
use Rattle.nc_filter.specs.inner.Labels.{AreHeldIn}
use Rattle.nc_filter.proofs.spots.held_in.Given as goal

abbrev pub invariant-loop-group : goal.invariant-loop-group
invariant-loop-group l = AreHeldIn (take l.group-index l.groups) l.words
