use Rattle.std.proofs.Common.{List}
use Rattle.std.specs.Prelude.{map}
use Rattle.nc_names.specs.declared.path.Row.{Row}
use Rattle.nc_filter.specs.inner.Front.{is_met}
use Rattle.nc_filter.proofs.KeptLemmas.{filter_end, filter_next, mapped_item, mapped_past, mapped_within}
use Rattle.nc_filter.proofs.front.met.Goals as goal

pub loop-row-preserved : goal.loop-row-preserved
loop-row-preserved c = λ likes are.
    let rows : List Row = map (λ row. row.now) c.args.rows.now in
    let at = c.loop-row.row-index in
    filter_next (is_met c.args.schema.now likes c.args.depth) rows (map (λ row. row.now) c.loop-row.found) (map (λ row. row.now) c.in_ok-found.found) at c.row-item.result.now
    c.is_met.result (mapped_within (λ row. row.now) c.args.rows.now at c.loop-row-test.true) (mapped_item (λ row. row.now) c.args.rows.now at c.row-item.result c.loop-row-test.true c.row-item.is)
    (c.is_met.ensures likes are) c.in_ok-found.ensures (c.loop-row.invariant likes are)

pub returns : goal.returns
returns c = λ likes are.
    filter_end (is_met c.args.schema.now likes c.args.depth) (map (λ row. row.now) c.args.rows.now) (map (λ row. row.now) c.loop-row.found) c.loop-row.row-index
    (mapped_past (λ row. row.now) c.args.rows.now c.loop-row.row-index c.loop-row-test.false) (c.loop-row.invariant likes are)
