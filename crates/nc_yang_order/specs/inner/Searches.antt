-- How far a search has come.
use Rattle.std.specs.Prelude.{◌≡◌, ◌<◌, ◌+◌, ◌-◌, ℕ, List, [], ◌∷◌, ◌++◌, length, take, map, sum_by, replicate, Option, Some, None, slice_get, slice_set, Contains, All}
use Rattle.nc_yang_order.specs.declared.mark.Mark.{Mark}
use Rattle.nc_yang_order.specs.declared.mark.Mark.TheVariants.{Unseen, Open, Done}
use Rattle.nc_yang_order.specs.declared.mark.Turn.{Turn}
use Rattle.nc_yang_order.specs.declared.order.Ordered.{Ordered}
use Rattle.nc_yang_order.specs.declared.search.Search.{Search}
use Rattle.nc_yang_order.specs.Orders.{targets, Reaches, IsCircle, EachAfter, IsInPlace, Answers}

-- a number has that mark
abbrev pub HasMark : List Mark → ℕ → Mark → Type 0
HasMark marks number mark = slice_get marks number ≡ Some mark

-- a number is none of those that have yet to be met
abbrev pub IsSeen : List Mark → ℕ → Type 0
IsSeen marks number = HasMark marks number Unseen → ⊥

-- what was seen stays so
abbrev pub KeepsSeen : List Mark → List Mark → Type 0
KeepsSeen old new = (number : ℕ) → HasMark new number Unseen → HasMark old number Unseen

-- the numbers of some turns, in their order
abbrev pub numbers : List Turn → List ℕ
numbers turns = map (λ turn. turn.number) turns

-- a number stands on the stack for the first time, and those below lead to it
pub record IsLedTo (graph : List (List ℕ)) (below : List ℕ) (number : ℕ) : Type 0 where
  pub fresh : ¬ Contains below number
  pub led : (other : ℕ) → Contains below other → Reaches graph other number

-- the targets before the next one are done
abbrev pub IsLookedAt : List (List ℕ) → List Mark → Turn → Type 0
IsLookedAt graph marks turn =
    (target : ℕ) → Contains (take turn.next (targets graph turn.number)) target → HasMark marks target Done

-- a search that has come so far
pub record IsSearch (graph : List (List ℕ)) (search : Search) : Type 0 where
  pub marked : length search.marks ≡ length graph
  pub waiting : (number : ℕ) → HasMark search.marks number Open → Contains (numbers search.stack) number
  pub on_stack : (number : ℕ) → Contains (numbers search.stack) number → HasMark search.marks number Open
  pub trail : EachAfter (IsLedTo graph) [] (numbers search.stack)
  pub looked : (turn : Turn) → Contains search.stack turn → IsLookedAt graph search.marks turn
  pub done : (number : ℕ) → HasMark search.marks number Done → Contains search.order number
  pub ordered : (number : ℕ) → Contains search.order number → HasMark search.marks number Done
  pub placed : EachAfter (IsInPlace graph) [] search.order

-- what is left of numbers that were not seen, with their edges
abbrev pub unseen : List (List ℕ) → List Mark → ℕ
unseen (ts ∷ graph) (Unseen ∷ marks) = length ts + 2 + unseen graph marks
unseen (ts ∷ graph) (mark ∷ marks) = unseen graph marks
unseen graph marks = 0

-- what is left of the edges of open numbers
abbrev pub unlooked : List (List ℕ) → List Turn → ℕ
unlooked graph turns = sum_by (λ turn. length (targets graph turn.number) - turn.next + 1) turns

-- what is left of a search: of numbers that were not seen, and of edges of open ones
abbrev pub weight : List (List ℕ) → Search → ℕ
weight graph search = unseen graph search.marks + unlooked graph search.stack

-- a search that has met nothing
abbrev pub opening : ℕ → Search
opening count = record { marks = replicate count Unseen; stack = []; order = [] }

-- a number is met
abbrev pub entered : Search → ℕ → Search
entered search number = record search {
  marks = slice_set search.marks number Open;
  stack = search.stack ++ record { number = number; next = 0 } ∷ [];
}

-- a number gets its place in the order
abbrev pub finished : Search → ℕ → Search
finished search number =
    record search { marks = slice_set search.marks number Done; order = search.order ++ number ∷ [] }

-- these turns are on the stack
abbrev pub with_turn : Search → Turn → Search
with_turn search turn = record search { stack = search.stack ++ turn ∷ [] }

-- the target of a turn is passed over
abbrev pub passed : Search → Turn → Search
passed search turn = with_turn search (record turn { next = turn.next + 1 })

-- a search went on by a step: less is left, and what was seen is kept
pub record Moves (graph : List (List ℕ)) (old new : Search) : Type 0 where
  pub search : IsSearch graph new
  pub less : weight graph new < weight graph old
  pub kept : KeepsSeen old.marks new.marks

-- a step goes on, or finds an edge on a circle
abbrev pub Steps : List (List ℕ) → Search → Search → ℕ → Option ℕ → Type 0
Steps graph old new number None = Moves graph old new
Steps graph old new number (Some place) = IsCircle graph number place

-- a search ended: nothing is open, and what was seen is kept
pub record Ends (graph : List (List ℕ)) (old new : Search) : Type 0 where
  pub search : IsSearch graph new
  pub empty : new.stack ≡ []
  pub kept : KeepsSeen old.marks new.marks

-- all open numbers are done, or an edge on a circle was found
abbrev pub Runs : List (List ℕ) → Search → Search → Option Ordered → Type 0
Runs graph old new None = Ends graph old new
Runs graph old new (Some found) = Answers graph found

-- and this number is done too
abbrev pub Visits : List (List ℕ) → ℕ → Search → Search → Option Ordered → Type 0
Visits graph number old new None = Ends graph old new × IsSeen new.marks number
Visits graph number old new (Some found) = Answers graph found
