use Rattle.std.proofs.Common.{◌∙◌, ap, cond, Some, ◌++◌, ◌∷◌, []}
use Rattle.std.specs.BTreeMap.{get}
use Rattle.std.specs.Ordering.{is_eq, nat_cmp}
use Rattle.nc_filter.proofs.BelowLemmas.{inside_put}
use Rattle.nc_filter.proofs.below.with_inside.Goals as goal

pub returns : goal.returns
returns c =
    inside_put c.args.items c.taken-inside.new.items c.insert.new.self c.args.parent c.args.number c.taken-inside.ensures.others
    (λ other. c.in_ok-insert.ensures.updates.0 other
    ∙ ap (λ inside. cond (is_eq (nat_cmp c.args.parent other)) (Some inside) (get nat_cmp c.taken-inside.new.items other))
    (c.in_ok-push.ensures.ok ∙ ap (λ inside. inside ++ c.args.number ∷ []) c.taken-inside.ensures.found))
