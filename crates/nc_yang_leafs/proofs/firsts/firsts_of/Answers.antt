use Rattle.std.proofs.Common.{◌∷◌, ◌+◌, [], length, sym, ap, subst, ◌∙◌}
use Rattle.std.proofs.lemmas.List.{length-append}
use Rattle.nc_yang_leafs.specs.inner.Firsts.{AreFirsts, IsFirst}
use Rattle.nc_yang_leafs.proofs.FirstLemmas.{firsts_more, firsts_none}
use Rattle.nc_yang_leafs.proofs.firsts.firsts_of.Goals as goal

pub loop-plan-init : goal.loop-plan-init
loop-plan-init g c = record {
  are = subst (AreFirsts (g.D.Derives.derived c.args.identities.now) (g.D.Derives.located c.args.identities.now) c.args.meanings.now.plans c.args.marks.now) (sym c.new-firsts.ensures)
      (firsts_none (g.D.Derives.derived c.args.identities.now) (g.D.Derives.located c.args.identities.now) c.args.meanings.now.plans c.args.marks.now);
  counted = ap length c.new-firsts.ensures;
}

pub loop-plan-preserved : goal.loop-plan-preserved
loop-plan-preserved g c = record {
  are = subst (AreFirsts (g.D.Derives.derived c.args.identities.now) (g.D.Derives.located c.args.identities.now) c.args.meanings.now.plans c.args.marks.now) (sym c.in_ok-push.ensures.ok)
      (firsts_more (g.D.Derives.derived c.args.identities.now) (g.D.Derives.located c.args.identities.now) c.args.meanings.now.plans c.args.marks.now c.loop-plan.firsts c.checked.result c.loop-plan.invariant.are
      (subst (IsFirst (g.D.Derives.derived c.args.identities.now) (g.D.Derives.located c.args.identities.now) c.args.meanings.now.plans c.args.marks.now c.checked.result) (sym c.loop-plan.invariant.counted) c.checked.ensures));
  counted = ap length c.in_ok-push.ensures.ok ∙ length-append c.loop-plan.firsts (c.checked.result ∷ []) ∙ ap (λ z. z + 1) c.loop-plan.invariant.counted;
}
