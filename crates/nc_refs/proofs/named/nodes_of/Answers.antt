use Rattle.std.proofs.Common.{◌<◌, List, length, get_or, subst, ap, ◌∙◌}
use Rattle.nc_schema.specs.Standing.{exists}
use Rattle.nc_names.specs.declared.path.Row.{Row}
use Rattle.nc_refs.proofs.NamedLemmas.{row_exists}
use Rattle.nc_refs.proofs.named.nodes_of.Goals as goal

pub loop-row-preserved : goal.loop-row-preserved
loop-row-preserved c =
    let rows : List Row = c.args.config.now in
    let item = c.row-item.result in
    let same = c.as_slice-row-items.ensures in
    let within = subst (λ (rs : List Row). c.loop-row.row-index < length rs) same c.loop-row-test.true in
    let is = c.row-item.is ∙ ap (λ (rs : List Row). get_or rs c.loop-row.row-index item) same in
    c.in_ok-nodes.ensures rows c.loop-row.invariant
    (ap (exists rows) (c.steps_of.ensures ∙ ap (λ (row : Row). row.path.steps) is) ∙ row_exists rows c.loop-row.row-index item within)
