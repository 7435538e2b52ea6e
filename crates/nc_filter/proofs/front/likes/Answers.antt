use Rattle.std.proofs.Common.{List}
use Rattle.std.specs.Prelude.{map}
use Rattle.nc_names.specs.declared.path.Row.{Row}
use Rattle.nc_filter.specs.inner.Front.{is_like}
use Rattle.nc_filter.proofs.KeptLemmas.{filter_end, filter_next, mapped_item, mapped_past, mapped_within}
use Rattle.nc_filter.proofs.front.likes.Goals as goal

pub loop-row-preserved : goal.loop-row-preserved
loop-row-preserved c =
    let rows : List Row = map (λ row. row.now) c.args.rows.now in
    let at = c.loop-row.row-index in
    filter_next (is_like c.args.schema.now c.args.elem.now) rows (map (λ row. row.now) c.loop-row.found) (map (λ row. row.now) c.in_ok-found.found) at c.row-item.result.now
    c.is_like.result (mapped_within (λ row. row.now) c.args.rows.now at c.loop-row-test.true) (mapped_item (λ row. row.now) c.args.rows.now at c.row-item.result c.loop-row-test.true c.row-item.is)
    c.is_like.ensures c.in_ok-found.ensures c.loop-row.invariant

pub returns : goal.returns
returns c =
    filter_end (is_like c.args.schema.now c.args.elem.now) (map (λ row. row.now) c.args.rows.now) (map (λ row. row.now) c.loop-row.found) c.loop-row.row-index
    (mapped_past (λ row. row.now) c.args.rows.now c.loop-row.row-index c.loop-row-test.false) c.loop-row.invariant
