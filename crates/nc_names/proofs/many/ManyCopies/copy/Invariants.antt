use Rattle.std.proofs.Common.{◌≡◌, take}
use Rattle.nc_names.proofs.many.ManyCopies.copy.Given as goal

-- the copies so far are the first elements
abbrev pub invariant-loop-item : goal.invariant-loop-item
invariant-loop-item g l = l.items.items ≡ take l.item-index l.self
