use Rattle.std.proofs.Common.{◌<◌, ◌≤◌, ℕ, length}
use Rattle.std.specs.Prelude.{IfSome, slice_get}
use Rattle.nc_filter.proofs.short.longest.Given as goal

abbrev pub invariant-loop-number : goal.invariant-loop-number
invariant-loop-number l =
    (at : ℕ) → at < l.number → IfSome (slice_get l.schema.nodes at) (λ node. length node.name.space ≤ l.most)
