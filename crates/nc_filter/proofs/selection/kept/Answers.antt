use Rattle.std.proofs.Common.{List}
use Rattle.std.specs.Prelude.{map}
use Rattle.std.specs.List.{list_any}
use Rattle.nc_names.specs.declared.path.Row.{Row}
use Rattle.nc_protocol.specs.Filter.{comes_with}
use Rattle.nc_filter.proofs.KeptLemmas.{filter_end, filter_next, mapped_item, mapped_past, mapped_within}
use Rattle.nc_filter.proofs.selection.kept.Goals as goal

pub loop-row-preserved : goal.loop-row-preserved
loop-row-preserved c = λ found are.
    let rows : List Row = map (λ row. row.now) c.args.rows.now in
    let at = c.loop-row.row-index in
    filter_next (λ row. list_any (λ other. comes_with c.args.schema.now other row) found) rows c.loop-row.out c.in_ok-out.out at c.row-item.result.now
    c.is_kept.result (mapped_within (λ row. row.now) c.args.rows.now at c.loop-row-test.true) (mapped_item (λ row. row.now) c.args.rows.now at c.row-item.result c.loop-row-test.true c.row-item.is)
    (c.is_kept.ensures found are) c.in_ok-out.ensures (c.loop-row.invariant found are)

pub returns : goal.returns
returns c = λ found are.
    let rows : List Row = map (λ row. row.now) c.args.rows.now in
    filter_end (λ row. list_any (λ other. comes_with c.args.schema.now other row) found) rows c.loop-row.out c.loop-row.row-index
    (mapped_past (λ row. row.now) c.args.rows.now c.loop-row.row-index c.loop-row-test.false) (c.loop-row.invariant found are)
