-- How far a session's reader has come.
use Rattle.std.specs.Prelude.{◌≡◌, ℕ, List, [], ◌∷◌, ◌++◌, length, Some, None, Result, Ok, Err}
use Rattle.nc_frames.specs.Framing.{Mode, Marks}
use Rattle.nc_names.specs.declared.memory.Memory.{Memory}
use Rattle.nc_protocol.specs.declared.request.Request.{Request}
use Rattle.nc_protocol.specs.Proper.{IsProper}
use Rattle.nc_session.specs.declared.base.Base.{Base}
use Rattle.nc_session.specs.declared.session_core.Phase.{Phase}
use Rattle.nc_session.specs.declared.session_core.Phase.TheVariants.{Greeting, Serving, Over}
use Rattle.nc_session.specs.declared.session_core.Todo.{Todo}
use Rattle.nc_session.specs.declared.session_core.Todo.TheVariants.{Ask, NeedBytes, Over as IsOver}
use Rattle.nc_session.specs.Asks.{mode_of, AsksFirst, AsksAll}
use Rattle.nc_session.specs.inner.Unseen.{Held, Unseen}

-- what a session keeps: the bytes that it has not read yet, and how far it is
pub record Core : Type 0 where
  pub inbox : Held
  pub phase : Phase

-- these requests were given, and the inbox has what stands after them
pub record HasGiven (Unread : Mode → ℕ → List ℕ → Type 0) (base : Base) (bytes : List ℕ) (given : List Request)
    : Type 0 where
  pub first : AsksFirst base bytes given
  pub unread : Unread (mode_of base) (length first.front) first.rest

-- by how far it is: what it was given so far, and what of it is not read
abbrev pub IsIn : (Mode → ℕ → List ℕ → Type 0) → Phase → Base → List ℕ → List Request → Type 0
IsIn Unread Greeting base bytes given = (given ≡ []) × Unread Marks 0 bytes
IsIn Unread (Serving chosen) base bytes given = (chosen ≡ base) × HasGiven Unread base bytes given
IsIn Unread (Over end) base bytes given = AsksAll base bytes given (Some end)

-- the reader was fed these bytes, and has given these requests
abbrev pub IsAt : Core → Base → List ℕ → List Request → Type 0
IsAt core base bytes given = IsIn (Unseen core.inbox) core.phase base bytes given

-- the version of the protocol is chosen before the first request is given
abbrev pub IsChosen : List Request → Base → Base → Type 0
IsChosen [] before now = Unit {0}
IsChosen (request ∷ more) before now = now ≡ before

-- one piece more
abbrev pub TakesPiece : (List ℕ → Type 0) → List ℕ → List ℕ → Result (Unit {0}) Memory → Type 0
TakesPiece At bytes piece (Ok u) = At (bytes ++ piece)
TakesPiece At bytes piece (Err memory) = At bytes

-- What is to be done next: the next request of the bytes is given; or each was given, and the bytes stop
-- there or not.
abbrev pub IsTodo : Core → Base → List ℕ → List Request → Todo → Type 0
IsTodo core base bytes given (Ask request) =
    (core.phase ≡ Serving base) × IsAt core base bytes (given ++ request ∷ [])
IsTodo core base bytes given NeedBytes = IsAt core base bytes given × AsksAll base bytes given None
IsTodo core base bytes given (IsOver end) = IsAt core base bytes given × AsksAll base bytes given (Some end)

-- what is to be done; or want of memory, which loses nothing. The version of the protocol may have been chosen.
abbrev pub IsNext : Core → Base → List ℕ → List Request → Result Todo Memory → Type 0
IsNext core before bytes given (Ok todo) =
    (base : Base) × IsChosen given before base × IsTodo core base bytes given todo
IsNext core before bytes given (Err memory) = (base : Base) × IsChosen given before base × IsAt core base bytes given

-- a request that is given is as reading a message gives it
abbrev pub IsProperTodo : Result Todo Memory → Type 0
IsProperTodo (Ok (Ask request)) = IsProper request
IsProperTodo result = Unit {0}
