-- Numbers that are found, one after another.
use Rattle.std.specs.Prelude.{◌≡◌, ◌<◌, ◌≤◌, ℕ, Bool, true, false, List, [], ◌∷◌, ◌++◌, length, take, Option, Some}
use Rattle.std.specs.Prelude.{slice_get, slice_set, Contains}
use Rattle.nc_yang_order.specs.Orders.{EachAfter, targets}
use Rattle.nc_yang_order.specs.Reaching.{IsLed, IsMarked}
use Rattle.nc_yang_order.specs.declared.reach.Reach.{Reach}

-- with a number, by its mark: there is none past the last, and one that is set was found before
abbrev pub added_at : Option Bool → Reach → ℕ → Reach
added_at (Some false) reach number =
    record { marks = slice_set reach.marks number true; found = reach.found ++ number ∷ [] }
added_at mark reach number = reach

-- with a number, unless it was found before or is past the last
abbrev pub added : Reach → ℕ → Reach
added reach number = added_at (slice_get reach.marks number) reach number

-- the edges of the first so many of those found were followed
pub record IsOnWay (graph : List (List ℕ)) (starts : List ℕ) (at : ℕ) (reach : Reach) : Type 0 where
  pub counted : length reach.marks ≡ length graph
  pub marks : IsMarked reach
  pub led : EachAfter (IsLed graph starts) [] reach.found
  pub started : (number : ℕ) → Contains starts number → number < length graph → Contains reach.found number
  pub followed : (from number : ℕ) → Contains (take at reach.found) from → Contains (targets graph from) number
      → number < length graph →
      Contains reach.found number
  pub within : at ≤ length reach.found
