use Rattle.std.proofs.Common.{List, ℕ, sym, subst, ◌∙◌, map, Bor}
use Rattle.std.specs.List.{AllZip}
use Rattle.nc_model.specs.declared.policy.Rule.{Rule}
use Rattle.nc_nacm.specs.inner.Chains.{IsAnchor}
use Rattle.nc_nacm.proofs.chains.chains_of.Goals as goal

pub returns : goal.returns
returns c = record {
  anchored = subst (λ (marks : List ℕ). AllZip IsAnchor marks (map (λ (rule : Bor Rule). rule.now) c.args.rules.now))
      (sym (c.linked.ensures.marks ∙ c.in_ok-chains.ensures.marks)) c.in_ok-anchors.ensures;
  linked = c.linked.ensures.linked;
}
