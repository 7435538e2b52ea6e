use Rattle.std.proofs.Common.{take}
use Rattle.nc_yang_leafs.specs.inner.Sites.{work}
use Rattle.nc_yang_leafs.specs.inner.Tables.{Asked}
use Rattle.nc_yang_leafs.proofs.table.Table.ask_all.Given as goal

abbrev pub invariant-loop-member : goal.invariant-loop-member
invariant-loop-member l = Asked (work l.site l.node) (take l.member-index l.members) l.fn.self l.self l.numbers
