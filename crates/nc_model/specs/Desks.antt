-- What a desk makes of the events that are handed in.
use Rattle.std.specs.Prelude.{◌≡◌, ◌≤◌, ◌^◌, ℕ, Bool, true, false, IsTrue, List, [], ◌∷◌, ◌++◌, length, Option, Result, Ok, Err}
use Rattle.std.specs.List.{filter}
use Rattle.nc_names.specs.Limits.{most_requests}
use Rattle.nc_names.specs.declared.path.Row.{Row}
use Rattle.nc_model.specs.declared.desk.DeskFault.{DeskFault}
use Rattle.nc_model.specs.declared.desk.DeskFault.TheVariants.{Spent as DeskSpent, Memory as DeskMemory}
use Rattle.nc_model.specs.declared.desk.Spent.{Spent}
use Rattle.nc_model.specs.declared.entry.Entry.{Entry}
use Rattle.nc_model.specs.declared.event.Event.{Event}
use Rattle.nc_model.specs.declared.event.Event.TheVariants.{Reading}
use Rattle.nc_model.specs.History.{IsLegal, IsMineIn, Survives, returning}
use Rattle.nc_model.specs.State.{State}

-- where a desk's history begins: the opening state, how often the clock had answered and with what, where it tells, and
-- whether no other desk makes entries of it; the desk's own place among those that share the history, empty where it is
-- alone; and for crashes the moment at which the opening state was reached, an earlier one, and what may come back too
-- since that
pub record Home : Type 0 where
  pub opening : State
  pub answers : ℕ
  pub heard : Option (List ℕ)
  pub alone : Bool
  pub place : List ℕ
  pub begun : ℕ
  pub start : ℕ
  pub among : List (List Row)

-- a history survives a stop at any moment since it began; a stop between the earlier moment and that leaves what may
-- come back of the history, or one of those that may come back too
pub record SurvivesFrom (Leaves : ℕ → List (List Row) → Type 0) (now : ℕ) (home : Home) (history : List Entry) :
    Type 0 where
  pub began : home.start ≤ home.begun
  pub before : Leaves home.start (home.among ++ returning home.opening [] history)
  pub since : Survives Leaves now home.opening [] home.begun history

-- two lists for which a desk stands: the history, and the entries that it made itself but for readings
-- of the clock
pub record IsView (home : Home) (seen mine : List Entry) : Type 0 where
  pub legal : IsLegal 0 home.opening seen
  pub own : IsMineIn mine seen
  pub few : length seen ≤ most_requests

-- an event that a desk's caller hands in: any but a reading of the clock
abbrev pub is_own : Event → Bool
is_own Reading = false
is_own event = true

-- the entries of a history that are no readings of the clock
abbrev pub own_of : List Entry → List Entry
own_of seen = filter (λ e. is_own e.event) seen

-- the history grew, an entry of that event is its last, and that is among the desk's own now. A desk that is
-- alone made all of it
pub record Entered (Stands : List Entry → List Entry →
    Type 0) (alone : Bool) (seen mine : List Entry) (event : Event) (e : Entry) : Type 0 where
  pub event_is : e.event ≡ event
  pub others : List Entry
  pub none : IsTrue alone → others ≡ []
  pub stands : Stands (seen ++ (others ++ e ∷ [])) (mine ++ own_of (e ∷ []))

-- the last ticket of several desks
abbrev pub last_ticket : ℕ
last_ticket = 2 ^ 61

-- the numbers are spent: the entries of a desk that is alone, or the tickets of several
abbrev pub IsLastNumber : Bool → List Entry → ℕ → Type 0
IsLastNumber true seen ticket = (ticket ≡ most_requests) × (length seen ≡ most_requests)
IsLastNumber false seen ticket = ticket ≡ last_ticket

-- a desk that is spent at that number stands for the lists for which it stood
pub record IsSpentAt (Stands : List Entry → List Entry →
    Type 0) (alone : Bool) (seen mine : List Entry) (ticket : ℕ) : Type 0 where
  pub last : IsLastNumber alone seen ticket
  pub stands : Stands seen mine

-- an event is entered; or the clock's reading is in its place; or the desk is spent
abbrev pub Submits : (List Entry → List Entry → Type 0) → Bool → List Entry → List Entry → Event →
    Result Entry DeskFault → Type 0
Submits Stands alone seen mine event (Ok e) = Entered Stands alone seen mine event e
Submits Stands alone seen mine event (Err DeskMemory) = (e : Entry) × Entered Stands alone seen mine Reading e
Submits Stands alone seen mine event (Err (DeskSpent ticket)) = IsSpentAt Stands alone seen mine ticket

-- an event is entered that takes no memory
abbrev pub Enters : (List Entry → List Entry → Type 0) → Bool → List Entry → List Entry → Event → Result Entry Spent →
    Type 0
Enters Stands alone seen mine event (Ok e) = Entered Stands alone seen mine event e
Enters Stands alone seen mine event (Err spent) = IsSpentAt Stands alone seen mine spent.ticket

-- a desk that answers that it is spent is so
abbrev pub TellsSpent : (ℕ → Type 0) → DeskFault → Type 0
TellsSpent IsSpent (DeskSpent ticket) = IsSpent ticket
TellsSpent IsSpent DeskMemory = Unit {0}
