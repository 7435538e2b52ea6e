-- all are where all of the rest are
use Rattle.std.proofs.Common.{◌≡◌, ◌==◌, drop, length}
use Rattle.std.specs.List.{list_all}
use Rattle.nc_yang_order.specs.Orders.{targets}
use Rattle.nc_yang_types.proofs.nested.are_last.Given as goal

abbrev pub invariant-loop-number : goal.invariant-loop-number
invariant-loop-number l =
    list_all (λ n. length (targets l.graph n) == 0) l.numbers ≡ list_all (λ n. length (targets l.graph n) == 0) (drop l.number-index l.numbers)
