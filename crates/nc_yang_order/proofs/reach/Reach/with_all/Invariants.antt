use Rattle.std.proofs.Common.{◌≡◌, take}
use Rattle.std.specs.Prelude.{fold}
use Rattle.nc_yang_order.specs.inner.Reaching.{added}
use Rattle.nc_yang_order.proofs.reach.Reach.with_all.Given as goal

abbrev pub invariant-loop-number : goal.invariant-loop-number
invariant-loop-number l = l.reach ≡ fold added l.fn.self (take l.number-index l.numbers)
