use Rattle.std.proofs.Common.{◌≡◌, ◌<◌, Bool, true, false, not, List, length, refl, sym, subst, ◌∙◌}
use Rattle.std.specs.Bool.{OnTrue}
use Rattle.nc_schema.specs.inner.Index.{IsIndexed, KeepsName}
use Rattle.nc_schema.specs.declared.node.Node.{Node}
use Rattle.nc_schema.proofs.IndexLemmas.{indexed_in_place}
use Rattle.nc_schema.proofs.nodes.Nodes.set.Goals as goal
use Rattle.nc_schema.proofs.nodes.Nodes.set.Goals.{then-self, else-self}

-- what is true where the test is
where_true : {P : Type 0} (b : Bool) → OnTrue b P → b ≡ true → P
where_true true p e = p
where_true false p e = absurd (let clash : false ≡ true = e in cc)

not_false : (b : Bool) → not b ≡ false → b ≡ true
not_false true e = refl
not_false false e = absurd (let clash : true ≡ false = e in cc)

pub invariant_of-self : goal.invariant_of-self
invariant_of-self c =
    let items : List Node = c.self.inside.items in
    let kept : Bool = c.keeps_name-kept.result in
    let same : items ≡ c.args.self.now = c.self.view_is in
    let within : c.args.number < length items = subst (λ (ns : List Node). c.args.number < length ns) (sym same) c.requires.given in
    let from : c.if-self.self ≡ false → (c.self.inside.stale ≡ false) × (kept ≡ true) = λ e. elim c.if-self.branch [
      | then-self w ↦ absurd (let clash : true ≡ false = sym w.if-self.true ∙ sym w.self-is ∙ e in cc)
      | else-self w ↦ (w.if-self.false, not_false kept (sym w.self-is ∙ e))
    ] in
    let keeps : kept ≡ true → KeepsName items c.args.number c.args.node =
    λ e. subst (λ (ns : List Node). KeepsName ns c.args.number c.args.node) c.as_slice.ensures (where_true kept c.keeps_name-kept.ensures e) in
    subst (λ (ns : List Node). IsIndexed ns c.self.inside.index c.if-self.self) (sym c.set.ensures)
    (indexed_in_place items c.args.number c.args.node c.self.inside.index c.self.inside.stale c.if-self.self kept within c.requires.above c.self.invariant from keeps)
