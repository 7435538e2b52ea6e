-- What follows from the definitions.
use Rattle.std.specs.Prelude.{ℕ, List}
use Rattle.nc_yang_order.specs.Orders.{IsOrder, IsCircle}

-- a graph that has an order has no circle
abbrev pub OrderHasNoCircle : Type 0
OrderHasNoCircle =
    (graph : List (List ℕ)) (order : List ℕ) (number place : ℕ) → IsOrder graph order → IsCircle graph number place → ⊥
