use Rattle.std.proofs.Common.{take}
use Rattle.nc_yang_leafs.specs.inner.Walks.{IsMarkedAmong, Queues}
use Rattle.nc_yang_leafs.proofs.walk.Walk.with_members.Given as goal

abbrev pub invariant-loop-member : goal.invariant-loop-member
invariant-loop-member l = Queues (IsMarkedAmong l.meanings.findings l.marks (take l.member-index l.members)) l.fn.self l.self
