use Rattle.std.proofs.Common.{◌≡◌, ◌∙◌, false, true, subst, sym}
use Rattle.std.specs.Prelude.{Option, Some, IfSome}
use Rattle.nc_defaults.specs.Sought.{is_sought}
use Rattle.nc_schema.specs.declared.node.Node.{Node}
use Rattle.nc_validate.specs.inner.Asked.{AsksNothing}
use Rattle.nc_validate.proofs.asked.covers_node.Goals as goal

pub returns-in_default : goal.returns-in_default
returns-in_default c = λ yes.
    subst
    (λ (o : Option Node). IfSome o (λ node. is_sought c.args.marks.now node.parent ≡ false → (is_sought c.args.marks.now (Some c.args.number) ≡ false) × AsksNothing node))
    c.in_default.ensures tt

pub returns-then-above : goal.returns-then-above
returns-then-above c = λ yes.
    subst
    (λ (o : Option Node). IfSome o (λ node. is_sought c.args.marks.now node.parent ≡ false → (is_sought c.args.marks.now (Some c.args.number) ≡ false) × AsksNothing node))
    c.in-Some.ensures
    (λ unsought. absurd (let clash : true ≡ false = sym c.if-above.true ∙ c.is_sought-above.ensures ∙ unsought in cc))

pub returns : goal.returns
returns c = λ yes.
    subst
    (λ (o : Option Node). IfSome o (λ node. is_sought c.args.marks.now node.parent ≡ false → (is_sought c.args.marks.now (Some c.args.number) ≡ false) × AsksNothing node))
    c.in-Some.ensures
    (λ unsought. (sym c.is_sought-own.ensures ∙ c.if-own.false, λ tables place number. c.is_free.ensures tables place number yes))
