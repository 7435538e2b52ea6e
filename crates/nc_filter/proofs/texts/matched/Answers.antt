use Rattle.std.specs.Prelude.{map}
use Rattle.nc_filter.specs.inner.Picks.{is_matched}
use Rattle.nc_filter.proofs.TableLemmas.{adds_next}
use Rattle.nc_filter.proofs.texts.matched.Goals as goal

pub loop-row-preserved : goal.loop-row-preserved
loop-row-preserved c =
    adds_next (map (λ row. row.now) c.args.out) (map (λ row. row.now) c.loop-row.out) (map (λ row. row.now) c.in_ok-out.out)
    (is_matched (map (λ elem. elem.now) c.args.elems.now) c.args.depth) c.args.rows.now c.loop-row.row-index c.row-item.result c.in_ok-passes.passes
    c.loop-row-test.true c.row-item.is (c.in_ok-passes.ensures (map (λ elem. elem.now) c.args.elems.now) c.in_ok-items.ensures) c.in_ok-out.ensures c.loop-row.invariant
