use Rattle.std.proofs.Common.{take}
use Rattle.nc_filter.specs.inner.Instances.{AreNamesOf}
use Rattle.nc_filter.proofs.asked.names_of.Given as goal

abbrev pub invariant-loop-want : goal.invariant-loop-want
invariant-loop-want l = AreNamesOf (take l.want-index l.wants) l.names
