-- Graphs of numbers, orders in which targets come first, and circles.
use Rattle.std.specs.Prelude.{◌≡◌, ◌<◌, ℕ, Bool, nat_lt, List, [], ◌∷◌, ◌++◌, length, Some, slice_get, unwrap_or, Contains}
use Rattle.std.specs.List.{list_all}
use Rattle.nc_yang_order.specs.declared.order.Ordered.{Ordered}
use Rattle.nc_yang_order.specs.declared.order.Ordered.TheVariants.{Order, Circle}

-- the numbers to which a number has an edge
abbrev pub targets : List (List ℕ) → ℕ → List ℕ
targets graph number = unwrap_or (slice_get graph number) []

-- edges lead to numbers of the graph
abbrev pub is_within : List (List ℕ) → Bool
is_within graph = list_all (λ ts. list_all (λ t. nat_lt t (length graph)) ts) graph

-- from the first number edges lead to the second, in any number of steps
pub data Reaches (graph : List (List ℕ)) : ℕ → ℕ → Type 0 where
  here : (number : ℕ) → Reaches graph number number
  further : (number target last : ℕ) → Contains (targets graph number) target → Reaches graph target last
      → Reaches graph number last

-- an edge is on a circle: from its target edges lead back to the number from which it leads
pub record IsCircle (graph : List (List ℕ)) (number place : ℕ) : Type 0 where
  pub target : ℕ
  pub edge : slice_get (targets graph number) place ≡ Some target
  pub back : Reaches graph target number

-- of each element, with those that stand before it, this is true
abbrev pub EachAfter : {A : Type 0} → (List A → A → Type 0) → List A → List A → Type 0
EachAfter P before [] = Unit {0}
EachAfter P before (x ∷ xs) = P before x × EachAfter P (before ++ x ∷ []) xs

-- a number stands there for the first time, and all to which it has an edge stand before it
pub record IsInPlace (graph : List (List ℕ)) (before : List ℕ) (number : ℕ) : Type 0 where
  pub fresh : ¬ Contains before number
  pub after : (target : ℕ) → Contains (targets graph number) target → Contains before target

-- an order of the numbers of a graph, each once and after those to which it has an edge
pub record IsOrder (graph : List (List ℕ)) (order : List ℕ) : Type 0 where
  pub all : (number : ℕ) → number < length graph → Contains order number
  pub only : (number : ℕ) → Contains order number → number < length graph
  pub placed : EachAfter (IsInPlace graph) [] order

-- what is found in a graph
abbrev pub Answers : List (List ℕ) → Ordered → Type 0
Answers graph (Order order) = IsOrder graph order
Answers graph (Circle from place) = IsCircle graph from place
