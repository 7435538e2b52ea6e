use Rattle.nc_yang_order.specs.inner.Searches.{IsSearch, KeepsSeen, weight}
use Rattle.nc_yang_order.proofs.search.Search.run.Given as goal

abbrev pub invariant-loop-turn : goal.invariant-loop-turn
invariant-loop-turn l = IsSearch l.graph l.self × KeepsSeen l.fn.self.marks l.self.marks

abbrev pub decreases-loop-turn : goal.decreases-loop-turn
decreases-loop-turn l = weight l.graph l.self
