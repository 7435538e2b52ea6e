use Rattle.std.proofs.Common.{◌∙◌, ap, cond, Some, ◌++◌, ◌∷◌, []}
use Rattle.std.specs.BTreeMap.{get}
use Rattle.std.specs.Ordering.{is_eq}
use Rattle.nc_schema.specs.Blocks.{above_last}
use Rattle.nc_filter.specs.inner.Tables.{order}
use Rattle.nc_filter.proofs.IndexLemmas.{one_more_indexed}
use Rattle.nc_filter.proofs.index.added.Goals as goal

pub returns : goal.returns
returns c = λ rows index.
    one_more_indexed c.args.table c.taken-inside.new.table c.insert.new.self c.above_last-key.result c.args.row rows index
    (c.above_last-key.ensures ∙ ap above_last c.as_slice.ensures) c.taken-inside.ensures.others
    (λ other. c.in_ok-insert.ensures.updates.0 other
    ∙ ap (λ inside. cond (is_eq (order c.above_last-key.result other)) (Some inside) (get order c.taken-inside.new.table other))
    (c.in_ok-push.ensures.ok ∙ ap (λ inside. inside ++ c.args.row ∷ []) c.taken-inside.ensures.found))
