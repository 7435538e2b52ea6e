use Rattle.std.proofs.Common.{◌≡◌, ◌≤◌, drop, length, map, Bor}
use Rattle.std.specs.List.{flat_map}
use Rattle.nc_model.specs.declared.policy.Rule.{Rule}
use Rattle.nc_nacm.specs.inner.Chains.{lesser, place_among}
use Rattle.nc_nacm.specs.inner.Found.{matches_under}
use Rattle.nc_nacm.specs.inner.Marks.{step_marks}
use Rattle.nc_nacm.proofs.chained.first_by_steps.Given as goal

abbrev pub invariant-steps : goal.invariant-steps
invariant-steps l =
    (lesser l.limit (place_among (matches_under l.wanted.name.now l.wanted.steps.now l.wanted.right)
    (flat_map step_marks (drop l.step-index l.steps)) l.chains.marks (map (λ (rule : Bor Rule). rule.now) l.rules))
    ≡ lesser l.fn.limit (place_among (matches_under l.wanted.name.now l.wanted.steps.now l.wanted.right)
    (flat_map step_marks l.steps) l.chains.marks (map (λ (rule : Bor Rule). rule.now) l.rules)))
    × (l.limit ≤ length l.rules)
