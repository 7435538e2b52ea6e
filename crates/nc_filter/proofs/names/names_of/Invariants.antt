use Rattle.std.proofs.Common.{◌≡◌, take}
use Rattle.nc_filter.specs.inner.Names.{AreNames}
use Rattle.nc_filter.proofs.names.names_of.Given as goal

abbrev pub invariant-loop-elem : goal.invariant-loop-elem
invariant-loop-elem l = (l.number ≡ l.elem-index) × AreNames l.items l.elems (take l.elem-index l.elems)
