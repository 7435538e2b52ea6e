use Rattle.std.proofs.Common.{◌≡◌, ◌≤◌, drop, length, map, Bor}
use Rattle.nc_model.specs.declared.policy.Rule.{Rule}
use Rattle.nc_nacm.specs.inner.Chains.{lesser, place_among}
use Rattle.nc_nacm.specs.inner.Found.{matches_under}
use Rattle.nc_nacm.specs.inner.Marks.{key_marks}
use Rattle.nc_nacm.proofs.chained.first_by_keys.Given as goal

abbrev pub invariant-keys : goal.invariant-keys
invariant-keys l =
    (lesser l.limit (place_among (matches_under l.wanted.name.now l.wanted.steps.now l.wanted.right)
    (key_marks l.node l.at (drop l.at l.keys)) l.chains.marks (map (λ (rule : Bor Rule). rule.now) l.rules))
    ≡ lesser l.fn.limit (place_among (matches_under l.wanted.name.now l.wanted.steps.now l.wanted.right)
    (key_marks l.node 0 l.keys) l.chains.marks (map (λ (rule : Bor Rule). rule.now) l.rules)))
    × (l.limit ≤ length l.rules)
