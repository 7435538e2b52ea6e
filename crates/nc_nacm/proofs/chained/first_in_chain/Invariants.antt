use Rattle.std.proofs.Common.{◌-◌, length, map, Bor}
use Rattle.nc_model.specs.declared.policy.Rule.{Rule}
use Rattle.nc_nacm.specs.inner.Found.{matches_under}
use Rattle.nc_nacm.proofs.Chaining.{StandsAt}
use Rattle.nc_nacm.proofs.chained.first_in_chain.Given as goal

abbrev pub invariant-chain : goal.invariant-chain
invariant-chain l =
    StandsAt (matches_under l.wanted.name.now l.wanted.steps.now l.wanted.right) (length l.chains.heads) l.mark l.chains.marks
    (map (λ (rule : Bor Rule). rule.now) l.rules) l.at

abbrev pub decreases-chain : goal.decreases-chain
decreases-chain l = l.limit - l.at
