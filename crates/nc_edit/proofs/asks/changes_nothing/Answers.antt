use Rattle.std.proofs.Common.{◌∙◌, rules, sym}
use Rattle.nc_edit.proofs.StillLemmas.{single_marked, single_none}
use Rattle.nc_edit.proofs.asks.changes_nothing.Goals as goal

pub returns-then-branch : goal.returns-then-branch
returns-then-branch c = λ is rights.
    single_marked c.args.schema.now c.args.config.now c.args.edit.now (c.keeps_rows.ensures.kept (search rules))
    (sym c.is_ordered.ensures ∙ c.if-is_ordered.false) (c.in_ok-is_single_at.ensures c.if-branch.true) rights

pub returns : goal.returns
returns c =
    single_none c.are_single.result c.args.schema.now c.args.config.now c.args.edit.now c.in_ok-rows.rows c.as_slice.result.now
    (c.keeps_rows.ensures.kept (search rules)) (sym c.is_ordered.ensures ∙ c.if-is_ordered.false) c.as_slice.ensures c.in_ok-rows.ensures c.are_single.ensures
