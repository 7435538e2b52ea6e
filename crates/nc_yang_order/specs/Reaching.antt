-- Numbers to which edges lead from some numbers.
use Rattle.std.specs.Prelude.{◌≡◌, ◌<◌, ℕ, true, false, List, [], length, Some, slice_get, Contains, ◌⊎◌}
use Rattle.nc_yang_order.specs.Orders.{EachAfter, targets}
use Rattle.nc_yang_order.specs.declared.reach.Reach.{Reach}

-- a number is one of those from which it starts, or an edge leads to it from one before
abbrev pub IsLed : List (List ℕ) → List ℕ → List ℕ → ℕ → Type 0
IsLed graph starts before number =
    Contains starts number ⊎ ((from : ℕ) × Contains before from × Contains (targets graph from) number)

-- those found are marked
pub record IsMarked (reach : Reach) : Type 0 where
  pub marked : (number : ℕ) → slice_get reach.marks number ≡ Some true → Contains reach.found number
  pub unmarked : (number : ℕ) → slice_get reach.marks number ≡ Some false → Contains reach.found number → ⊥

-- those numbers of a graph are found, in an order in which each is led to
pub record IsReached (graph : List (List ℕ)) (starts : List ℕ) (reach : Reach) : Type 0 where
  pub counted : length reach.marks ≡ length graph
  pub marks : IsMarked reach
  pub led : EachAfter (IsLed graph starts) [] reach.found
  pub started : (number : ℕ) → Contains starts number → number < length graph → Contains reach.found number
  pub followed : (from number : ℕ) → Contains reach.found from → Contains (targets graph from) number → number
      < length graph →
      Contains reach.found number
