use Rattle.std.proofs.Common.{◌∙◌, List, [], ℕ, Bor, subst}
use Rattle.nc_message.specs.declared.tree.Elem.{Elem}
use Rattle.nc_filter.specs.inner.Keys.{key}
use Rattle.nc_filter.specs.inner.Names.{AddsNamedOf}
use Rattle.nc_filter.specs.inner.Runs.{in_slot}
use Rattle.nc_filter.proofs.NameLemmas.{slots_two}
use Rattle.nc_filter.proofs.names.named_by.Goals as goal

pub returns : goal.returns
returns c =
    let space = c.as_bytes-space.ensures.value ∙ c.as_str.ensures in
    let name = c.as_bytes-name.ensures.value ∙ c.as_str-2.ensures in
    slots_two c.args.schema.now c.args.number c.args.level.now.elems c.args.level.now.items c.args.node.now.name.space c.args.node.now.name.name [] c.in_ok-out.out c.in_ok-more.more
    (subst (λ (wanted : List ℕ). AddsNamedOf c.args.schema.now c.args.number c.args.level.now.elems (in_slot c.args.level.now.items wanted) [] c.in_ok-out.out)
    (c.in_ok-whole.ensures ∙ (λ i. key (space i) (name i) []))
    (subst (λ (before : List (Bor Elem)). AddsNamedOf c.args.schema.now c.args.number c.args.level.now.elems (in_slot c.args.level.now.items c.in_ok-whole.whole) before c.in_ok-out.out)
    c.new-none.ensures c.in_ok-out.ensures))
    (subst (λ (wanted : List ℕ). AddsNamedOf c.args.schema.now c.args.number c.args.level.now.elems (in_slot c.args.level.now.items wanted) c.in_ok-out.out c.in_ok-more.more)
    (c.in_ok-local.ensures ∙ (λ i. key [] (name i) [])) c.in_ok-more.ensures)
