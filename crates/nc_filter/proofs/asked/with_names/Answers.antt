use Rattle.std.proofs.Common.{◌∙◌, ◌∷◌, List, ℕ, Bor, ap, subst}
use Rattle.nc_message.specs.declared.tree.Elem.{Elem}
use Rattle.nc_filter.specs.inner.Tables.{adds_text}
use Rattle.nc_filter.proofs.InstanceLemmas.{name_added}
use Rattle.nc_filter.proofs.TableLemmas.{map_taken}
use Rattle.nc_filter.proofs.asked.with_names.Goals as goal

pub loop-elem-preserved : goal.loop-elem-preserved
loop-elem-preserved c =
    name_added c.args.elems.now c.loop-elem.elem-index c.elem-item.result c.args.names c.loop-elem.names c.in_ok-names.names c.loop-elem-test.true c.elem-item.is
    (map_taken (λ (elem : Bor Elem). elem.now) c.args.elems.now c.loop-elem.elem-index c.elem-item.result c.loop-elem-test.true c.elem-item.is)
    (subst (λ (text : List ℕ). adds_text c.loop-elem.names c.in_ok-names.names text) (c.in_ok-label.ensures ∙ ap (λ name. 0 ∷ name) c.in_ok-name_key.ensures) c.in_ok-names.ensures)
    c.loop-elem.invariant
