use Rattle.std.proofs.Common.{◌≡◌, false, map, take}
use Rattle.nc_message_read.specs.inner.Marks.{marked_bound}
use Rattle.nc_message_read.proofs.marked.marked_level.Given as goal

-- the bindings so far are declared
abbrev pub invariant-loop-bound : goal.invariant-loop-bound
invariant-loop-bound l = (l.level.own ≡ map (marked_bound l.marks) (take l.bound-index l.own)) × (l.level.undeclares ≡ false)
