use Rattle.std.proofs.Common.{take}
use Rattle.nc_changes.specs.inner.Common.{rows_of}
use Rattle.nc_changes.specs.Apart.{AreApart}
use Rattle.nc_changes.specs.inner.Marks.{HasMarks}
use Rattle.nc_changes.proofs.marks.are_apart.Given as goal

abbrev pub invariant-loop-row : goal.invariant-loop-row
invariant-loop-row l = HasMarks l.known (rows_of (take l.row-index l.rows)) × AreApart (rows_of (take l.row-index l.rows))
