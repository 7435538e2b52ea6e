-- The orders of the entries along a path, found once for all rows that are compared with it.
use Rattle.std.specs.Prelude.{ℕ, Bool, true, false, if◌then◌else◌, List, [], ◌∷◌, ◌++◌, drop, Option, Some}
use Rattle.nc_names.specs.Same.{is_same_step}
use Rattle.nc_names.specs.declared.path.Place.{Place}
use Rattle.nc_names.specs.declared.path.Row.{Row}
use Rattle.nc_names.specs.declared.path.Step.{Step}
use Rattle.nc_schema.specs.Order.{keys_above}
use Rattle.nc_schema.specs.Standing.{entries, is_by_user, place_at, placed, sibling_before}
use Rattle.nc_schema.specs.Tables.{Tables}

-- the order of the entries beside a step where the user orders them, else nothing
abbrev pub order_there : Tables → List Row → Place → List Step → Step → List (List (List ℕ))
order_there tables rows place above step =
    if is_by_user tables step.node then placed place step.keys (entries rows above step.node) else []

-- those beside each step of a path, from the steps above it on
abbrev pub orders_of : Tables → List Row → Place → List Step → List Step → List (List (List (List ℕ)))
orders_of tables rows place above [] = []
orders_of tables rows place above (step ∷ rest) =
    order_there tables rows (place_at place rest) above step ∷ orders_of tables rows place (above ++ step ∷ []) rest

-- the order beside the first step
abbrev pub first_order : List (List (List (List ℕ))) → List (List (List ℕ))
first_order [] = []
first_order (order ∷ orders) = order

-- a node before the one to which the orders are, in document order; `above` is the node above both
abbrev pub before_in : Tables → List (List (List (List ℕ))) → Option ℕ → List Step → List Step → Bool
before_in tables orders above [] [] = false
before_in tables orders above [] (other ∷ others) = true
before_in tables orders above (step ∷ steps) [] = false
before_in tables orders above (step ∷ steps) (other ∷ others) =
    if is_same_step step other then before_in tables (drop 1 orders) (Some other.node) steps others
    else sibling_before tables (keys_above tables above) (first_order orders) step other
