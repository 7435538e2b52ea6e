use Rattle.std.proofs.Common.{take}
use Rattle.nc_filter.specs.inner.Short.{AreAlike}
use Rattle.nc_filter.proofs.short.+short.Given as goal

-- the parts so far are like the first
abbrev pub invariant-short_elem-loop-part : goal.invariant-short_elem-loop-part
invariant-short_elem-loop-part l = AreAlike l.most (take l.part-index l.part-items) l.parts
