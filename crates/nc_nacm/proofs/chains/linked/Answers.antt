use Rattle.std.proofs.Common.{◌≡◌, List, ℕ, length, refl, sym, ap, subst, ◌∙◌, arith}
use Rattle.nc_nacm.specs.inner.Chains.{IsLinkedFrom}
use Rattle.nc_nacm.proofs.chains.linked.Goals as goal

pub marks-init : goal.marks-init
marks-init c = (
  subst (λ n. IsLinkedFrom n c.args.chains.marks c.args.chains.heads c.args.chains.nexts) (sym c.len-from.ensures) c.requires,
  omega (arith, c.len-from.ensures),
  refl,
)

pub marks-preserved : goal.marks-preserved
marks-preserved c =
    let same = c.link-chains.ensures.marks in
    let long = ap length same in
    (c.link-chains.ensures.linked, omega (arith, c.marks.invariant.1, long), same ∙ c.marks.invariant.2)

pub returns-clause-linked : goal.returns-clause-linked
returns-clause-linked c =
    let none : c.marks.from ≡ 0 = omega (arith, c.marks-test.false) in
    subst (λ n. IsLinkedFrom n c.marks.chains.marks c.marks.chains.heads c.marks.chains.nexts) none c.marks.invariant.0
