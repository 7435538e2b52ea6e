-- The connections of a script, each with its session.
use Rattle.std.specs.Prelude.{◌≡◌, ◌≢◌, ℕ, Bool, true, false, List, [], ◌∷◌, ◌++◌, Option}
use Rattle.std.specs.List.{All, Contains}
use Rattle.nc_model.specs.declared.entry.Entry.{Entry}
use Rattle.nc_session.specs.declared.base.Base.TheVariants.{Base10}
use Rattle.nc_session.specs.declared.end.SessionEnd.{SessionEnd}
use Rattle.nc_session.specs.Serves.{Course}

-- a connection: its number; the session-id of its session, or 0 where none was started; what the session has done; how
-- it ended, where it has; and whether the script has ended the connection
pub record Connection : Type 0 where
  pub number : ℕ
  pub session : ℕ
  pub course : Course
  pub end : Option SessionEnd
  pub is_over : Bool

-- the connections in the order in which they began, and the largest reading of the clock
pub record Board : Type 0 where
  pub connections : List Connection
  pub now : ℕ

-- before the first step
abbrev pub no_connections : Board
no_connections = record { connections = []; now = 0 }

-- no connection of that number was begun
abbrev pub IsNew : ℕ → List Connection → Type 0
IsNew number connections = All (λ c. c.number ≢ number) connections

-- one was begun
pub record HasBegun (number : ℕ) (connections : List Connection) : Type 0 where
  pub connection : Connection
  pub there : Contains connections connection
  pub number_is : connection.number ≡ number

-- none was begun, or the script has ended it
abbrev pub IsClosed : ℕ → List Connection → Type 0
IsClosed number connections = All (λ c. c.number ≡ number → c.is_over ≡ true) connections

-- a connection whose session's first entry is this
abbrev pub begun : ℕ → ℕ → Entry → Option SessionEnd → Connection
begun number session e end = record {
  number = number;
  session = session;
  course = record { bytes = []; base = Base10; requests = []; entries = e ∷ [] };
  end = end;
  is_over = false;
}

-- one connection of that number, which the script has not ended, goes on as `Goes` says; the others stay
pub record GoesOn (Goes : Connection → Connection → Type 0) (number : ℕ) (board next : List Connection) : Type 0 where
  pub front : List Connection
  pub behind : List Connection
  pub old : Connection
  pub new : Connection
  pub board_is : board ≡ front ++ old ∷ behind
  pub next_is : next ≡ front ++ new ∷ behind
  pub number_is : old.number ≡ number
  pub unended : old.is_over ≡ false
  pub goes : Goes old new
