use Rattle.std.proofs.Common.{◌≡◌, take}
use Rattle.nc_names.proofs.many.Many.copied_with.Given as goal

-- the copies so far are the first elements
abbrev pub invariant-loop-one : goal.invariant-loop-one
invariant-loop-one g l = l.items.items ≡ take l.one-index l.self
