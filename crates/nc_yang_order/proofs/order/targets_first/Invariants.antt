use Rattle.std.proofs.Common.{◌≡◌, ◌<◌, ℕ, []}
use Rattle.nc_yang_order.specs.inner.Searches.{IsSearch, IsSeen}
use Rattle.nc_yang_order.proofs.order.targets_first.Given as goal

abbrev pub invariant-loop-number : goal.invariant-loop-number
invariant-loop-number l =
    IsSearch l.graph l.search × (l.search.stack ≡ []) × ((m : ℕ) → m < l.number → IsSeen l.search.marks m)
