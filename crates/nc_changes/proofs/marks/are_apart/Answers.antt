use Rattle.std.proofs.Common.{◌∙◌, ap, sym}
use Rattle.nc_changes.specs.inner.Marks.{mark_of}
use Rattle.nc_changes.proofs.MarkLemmas.{all_apart, one_more_apart}
use Rattle.nc_changes.proofs.marks.are_apart.Goals as goal

pub loop-row-preserved : goal.loop-row-preserved
loop-row-preserved c =
    one_more_apart c.args.rows.now c.loop-row.row-index c.row-item.result c.mark_of-mark.result c.loop-row.known c.in_ok-known.known c.loop-row-test.true c.row-item.is
    (c.mark_of-mark.ensures ∙ ap mark_of c.as_slice.ensures) (sym c.contains.ensures ∙ c.if-contains.false) c.in_ok-known.ensures c.loop-row.invariant

pub returns : goal.returns
returns c = λ is. all_apart c.args.rows.now c.loop-row.row-index c.loop-row-test.false c.loop-row.invariant.1
