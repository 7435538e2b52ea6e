use Rattle.std.proofs.Common.{◌≡◌, false, take}
use Rattle.nc_message.proofs.bounds.Bounds.from_many.Given as goal

-- the bindings so far are declared
abbrev pub invariant-loop-bound : goal.invariant-loop-bound
invariant-loop-bound l = (l.level.own ≡ take l.bound-index l.bound-items) × (l.level.undeclares ≡ false)
