use Rattle.std.proofs.Common.{◌∙◌, ap, cond, Some, ◌++◌, ◌∷◌, []}
use Rattle.std.specs.BTreeMap.{get}
use Rattle.std.specs.Cmp.Lexicographic.{slice_cmp}
use Rattle.std.specs.Ordering.{is_eq, nat_cmp}
use Rattle.nc_filter.proofs.TableLemmas.{key_put}
use Rattle.nc_filter.proofs.slots.with_key.Goals as goal

pub returns : goal.returns
returns c =
    key_put c.args.items c.taken-inside.new.items c.insert.new.self c.args.key c.args.number c.taken-inside.ensures.others
    (λ other. c.in_ok-insert.ensures.updates.0 other
    ∙ ap (λ inside. cond (is_eq (slice_cmp nat_cmp c.args.key other)) (Some inside) (get (slice_cmp nat_cmp) c.taken-inside.new.items other))
    (c.in_ok-push.ensures.ok ∙ ap (λ inside. inside ++ c.args.number ∷ []) c.taken-inside.ensures.found))
