use Rattle.std.proofs.Common.{◌≡◌, ◌∙◌, sym, ap, subst}
use Rattle.std.specs.Prelude.{true, Some}
use Rattle.nc_yang_leafs.specs.Marks.{is_marked, plan_at}
use Rattle.nc_yang_leafs.specs.inner.Walks.{IsMarkedAt}
use Rattle.nc_yang_leafs.proofs.WalkLemmas.{queues_as}
use Rattle.nc_yang_leafs.proofs.walk.Walk.with_member.Goals as goal

pub returns : goal.returns
returns c =
    let is : plan_at c.args.meanings.now.findings c.args.member ≡ Some c.in-Some.plan = sym c.plan_at.ensures ∙ c.in-Some.is in
    let on : is_marked c.args.marks.now c.in-Some.plan ≡ true = sym c.if-not-is_marked.ensures in
    queues_as (λ q. q ≡ c.in-Some.plan) (IsMarkedAt c.args.meanings.now.findings c.args.marks.now c.args.member) c.args.self.now c.with.new.self
    (λ q e. (is ∙ ap Some (sym e), subst (λ z. is_marked c.args.marks.now z ≡ true) (sym e) on)) (λ q e. (let f = is in let g = e.0 in cc)) c.in_ok-with.ensures
