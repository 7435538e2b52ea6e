use Rattle.std.proofs.Common.{◌+◌, ◌<◌, length, take, sym, subst, arith}
use Rattle.nc_yang_scopes.specs.inner.Frames.{IsTable, entry_of}
use Rattle.nc_yang_scopes.proofs.NameLemmas.{table_more, table_within}
use Rattle.nc_yang_scopes.proofs.names.table_of.Goals as goal
use Rattle.nc_yang_scopes.proofs.names.table_of.Goals.{in-Some+in_ok-table, in_default}

pub loop-number-preserved : goal.loop-number-preserved
loop-number-preserved c =
    let frames = c.args.frames.now in
    let number = c.loop-number.number in
    let within : c.loop-number.number < length c.args.frames.now = omega arith in
    elim c.match-get.branch [
      | in-Some+in_ok-table w ↦
          subst (IsTable c.args.keyword (take (number + 1) frames)) (sym w.table-is)
          (table_more c.args.keyword frames number (entry_of w.in-Some.frame) c.loop-number.table w.in_ok-table.table w.in-Some.ensures.value
          w.in_ok-table.ensures c.loop-number.invariant)
      | in_default w ↦ table_within c.args.keyword frames number c.match-get.table within w.in_default.ensures.value
    ]
