use Rattle.std.proofs.Common.{◌∙◌, [], ◌∷◌, sym, ap, subst}
use Rattle.nc_message.specs.declared.tree.Part.{Part, Chars}
use Rattle.nc_message.specs.declared.tree.Part.TheVariants.{Child}
use Rattle.nc_filter.specs.inner.Short.{AreAlike, child, none, same}
use Rattle.nc_filter.proofs.ShortLemmas.{alike_more}
use Rattle.nc_filter.proofs.short.+short.Goals as goal

pub short_elem-loop-part-init : goal.short_elem-loop-part-init
short_elem-loop-part-init t c = subst (AreAlike c.args.most []) (sym c.new-parts.ensures) none

pub short_elem-loop-part-preserved : goal.short_elem-loop-part-preserved
short_elem-loop-part-preserved t c =
    alike_more c.args.most c.as_slice-part-items.result.now c.loop-part.part-index c.loop-part.parts c.push.new.self c.part-item.result c.in_ok-short_part.field-0
    c.loop-part-test.true c.part-item.is c.loop-part.invariant c.in_ok-short_part.ensures c.in_ok-push.ensures.ok

pub short_part-returns-in_ok-child_part-in-Child : goal.short_part-returns-in_ok-child_part-in-Child
short_part-returns-in_ok-child_part-in-Child t c =
    child c.args.part.now c.in_ok-child_part-in-Child.field-0 c.get.result.now c.in_ok-short_elem-in-Child.field-0
    (c.in-Child.is ∙ sym (ap Child c.get.ensures)) c.in_ok-child_part-in-Child.ensures c.in_ok-short_elem-in-Child.ensures.names c.in_ok-short_elem-in-Child.ensures.parts none

pub short_part-returns-in_ok-copy-in-Chars : goal.short_part-returns-in_ok-copy-in-Chars
short_part-returns-in_ok-copy-in-Chars t c =
    subst (λ (it : Part). AreAlike c.args.most (c.args.part.now ∷ []) (it ∷ [])) (c.in-Chars.is ∙ ap Chars (sym c.in_ok-copy-in-Chars.ensures)) (same c.args.part.now none)
