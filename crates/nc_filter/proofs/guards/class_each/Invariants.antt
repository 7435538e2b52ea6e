use Rattle.std.proofs.Common.{take}
use Rattle.std.specs.Prelude.{map}
use Rattle.nc_filter.specs.inner.Runs.{AreClasses}
use Rattle.nc_filter.proofs.guards.class_each.Given as goal

abbrev pub invariant-loop-elem : goal.invariant-loop-elem
invariant-loop-elem l = AreClasses l.upper (map (λ elem. elem.now) (take l.elem-index l.elems)) l.out
