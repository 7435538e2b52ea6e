-- The steps of a script: what each enters, and what its connection comes to by it.
use Rattle.std.specs.Prelude.{◌≡◌, ◌≤◌, ℕ, max, true, false, List, [], ◌∷◌, ◌++◌, length, map, Option, Some, None}
use Rattle.std.specs.List.{All, Contains}
use Rattle.nc_model.specs.declared.entry.Entry.{Entry}
use Rattle.nc_model.specs.declared.event.Event.TheVariants.{Start, Request as Requested, End as Ending, Reading as ClockRead}
use Rattle.nc_model.specs.declared.event.Outcome.TheVariants.{Started, Full as IsFull, Ended, NotLive, Noted}
use Rattle.nc_outside.specs.Clocks.{last_reading}
use Rattle.nc_protocol.specs.declared.peer.Peer.{Peer}
use Rattle.nc_protocol.specs.declared.request.Request.{Request}
use Rattle.nc_session.specs.declared.base.Base.{Base}
use Rattle.nc_session.specs.declared.end.SessionEnd.{SessionEnd}
use Rattle.nc_session.specs.declared.end.SessionEnd.TheVariants.{Closed, InputEnded, Killed, Full}
use Rattle.nc_session.specs.Asks.{AsksFirst, AsksAll}
use Rattle.nc_session.specs.Serves.{AsksThese, Course}
use Rattle.nc_script.specs.Connections.{Board, Connection, GoesOn, HasBegun, IsClosed, IsNew, begun}
use Rattle.nc_script.specs.Leaving.{Closes, IsDead, StaysLive}
use Rattle.nc_script_text.specs.declared.step.ScriptStep.{ScriptStep}
use Rattle.nc_script_text.specs.declared.step.ScriptStep.TheVariants.{Begin, Piece, End, Reading}

-- ---- a connection begins

-- its session's Start is entered: the session is greeted, or there is no place for it
pub data Begins (number : ℕ) (peer : Peer) : List Entry → Connection → Type 0 where
  Greeted : (e : Entry) (session : ℕ) → e.event ≡ Start peer → e.outcome ≡ Started session
      → Begins number peer (e ∷ []) (begun number session e None)
  Unplaced : (e : Entry) (live last : ℕ) → e.event ≡ Start peer → e.outcome ≡ IsFull live last
      → Begins number peer (e ∷ []) (begun number 0 e (Some (Full live last)))

-- ---- bytes come

-- these are the requests of a session, in their order
abbrev pub AreOf : ℕ → List Request → List Entry → Type 0
AreOf session requests entries = map (λ e. e.event) entries ≡ map (λ request. Requested session request) requests

-- the last of the entries is so, and those before it leave the session live
pub record LastIs (P : Entry → Type 0) (entries : List Entry) : Type 0 where
  pub before : List Entry
  pub last : Entry
  pub entries_are : entries ≡ before ++ last ∷ []
  pub live : All StaysLive before
  pub is : P last

-- Entries of the requests that a piece completes, what is entered after them, and how the session ended by them, if it
-- did.
pub data Comes (session : ℕ) (course : Course) (answers : List Entry) : List Entry → Option SessionEnd → Type 0 where
  -- it goes on: each request is entered
  Waits : All StaysLive answers → AsksAll course.base course.bytes course.requests None
      → Comes session course answers [] None
  -- its close-session is done (RFC 6241 7.8)
  WasClosed : LastIs Closes answers → AsksFirst course.base course.bytes course.requests
      → Comes session course answers [] (Some Closed)
  -- it is found not to be live: another session ended it (RFC 6241 7.9)
  WasDead : LastIs IsDead answers → AsksFirst course.base course.bytes course.requests
      → Comes session course answers [] (Some Killed)
  -- each request is entered, and the bytes stop; its End is entered
  Stops : (stop : SessionEnd) (e : Entry) → All StaysLive answers
      → AsksAll course.base course.bytes course.requests (Some stop) → e.event ≡ Ending session → e.outcome ≡ Ended
      → Comes session course answers (e ∷ []) (Some stop)
  -- the same, and its End finds it not to be live
  StopsDead : (stop : SessionEnd) (e : Entry) → All StaysLive answers
      → AsksAll course.base course.bytes course.requests (Some stop) → e.event ≡ Ending session → e.outcome ≡ NotLive
      → Comes session course answers (e ∷ []) (Some Killed)

-- the requests that a piece completes are entered, up to the session's end, each once and in order
pub record Hears (piece : List ℕ) (group : List Entry) (old new : Connection) : Type 0 where
  pub asked : List Request
  pub answers : List Entry
  pub ended : List Entry
  pub group_is : group ≡ answers ++ ended
  pub are : AreOf old.session asked answers
  pub comes : Comes old.session new.course answers ended new.end
  pub bytes_are : new.course.bytes ≡ old.course.bytes ++ piece
  pub requests_are : new.course.requests ≡ old.course.requests ++ asked
  pub entries_are : new.course.entries ≡ old.course.entries ++ group
  pub same : new ≡ record old { course = new.course; end = new.end }

-- the same, or nothing where the session had ended: the piece is dropped then
abbrev pub HearsBy : Option SessionEnd → List ℕ → List Entry → Connection → Connection → Type 0
HearsBy None piece group old new = Hears piece group old new
HearsBy (Some end) piece group old new = (group ≡ []) × (new ≡ old)

-- ---- a connection ends

-- what a session that had that end, or none yet, comes to: its End is entered, unless it is over already
pub data Leaves (session : ℕ) : Option SessionEnd → List Entry → Option SessionEnd → Type 0 where
  WasOver : (end : SessionEnd) → Leaves session (Some end) [] (Some end)
  HasEnded : (e : Entry) → e.event ≡ Ending session → e.outcome ≡ Ended
      → Leaves session None (e ∷ []) (Some InputEnded)
  WasKilled : (e : Entry) → e.event ≡ Ending session → e.outcome ≡ NotLive
      → Leaves session None (e ∷ []) (Some Killed)

-- a connection is over, and its session has left
pub record Ends (group : List Entry) (old new : Connection) : Type 0 where
  pub leaves : Leaves old.session old.end group new.end
  pub new_is : new ≡ record old {
    course = record old.course { entries = old.course.entries ++ group };
    end = new.end;
    is_over = true;
  }

-- ---- the clock is read

-- the clock does not go back
abbrev pub read_to : Board → ℕ → Board
read_to board at = record board { now = max board.now at }

-- the reading is entered
pub record Reads (group : List Entry) : Type 0 where
  pub e : Entry
  pub group_is : group ≡ e ∷ []
  pub event_is : e.event ≡ ClockRead
  pub outcome_is : e.outcome ≡ Noted

-- ---- steps

-- what each step enters, and what it makes of the connections
abbrev pub DoesTo : ScriptStep → Board → List Entry → Board → Type 0
DoesTo (Begin number peer) board group next =
    IsNew number board.connections × ((c : Connection) × Begins number peer group c
    × (next ≡ record board { connections = board.connections ++ c ∷ [] }))
DoesTo (Piece number piece) board group next =
    GoesOn (λ old new. HearsBy old.end piece group old new) number board.connections next.connections
    × (next.now ≡ board.now)
DoesTo (End number) board group next =
    GoesOn (Ends group) number board.connections next.connections × (next.now ≡ board.now)
DoesTo (Reading at) board group next = Reads group × (next ≡ read_to board at)

-- what a step enters, all at the largest reading of the clock so far, and what it makes of the connections
pub record Does (step : ScriptStep) (board : Board) (group : List Entry) (next : Board) : Type 0 where
  pub does : DoesTo step board group next
  pub at : All (λ e. e.at ≡ next.now) group

-- a step that cannot be done: a connection is begun twice, or one is meant that was not begun or that the script has
-- ended
abbrev pub IsBad : ScriptStep → Board → Type 0
IsBad (Begin number peer) board = HasBegun number board.connections
IsBad (Piece number piece) board = IsClosed number board.connections
IsBad (End number) board = IsClosed number board.connections
IsBad (Reading at) board = ⊥

-- ---- a step that ends early

-- the reading of the clock at which a step is done
abbrev pub clock_at : ScriptStep → Board → ℕ
clock_at (Reading at) board = max board.now at
clock_at step board = board.now

-- there is a connection of that number, whose session goes on
pub record IsOpen (number : ℕ) (connections : List Connection) (c : Connection) : Type 0 where
  pub there : Contains connections c
  pub number_is : c.number ≡ number
  pub unended : c.is_over ≡ false
  pub goes_on : c.end ≡ None

-- all entries but the last leave the session live
pub record LiveButLast (entries : List Entry) : Type 0 where
  pub front : List Entry
  pub last : List Entry
  pub entries_are : entries ≡ front ++ last
  pub one : length last ≤ 1
  pub live : All StaysLive front

-- the first requests of a piece are entered, and none of them but the last may have ended the session
pub record IsPart (piece : List ℕ) (part : List Entry) (c : Connection) : Type 0 where
  pub asked : List Request
  pub base : Base
  pub are : AreOf c.session asked part
  pub live : LiveButLast part
  pub asks : AsksThese (record {
    bytes = c.course.bytes ++ piece;
    base = base;
    requests = c.course.requests ++ asked;
    entries = part;
  })

-- a beginning of what a step enters
pub data Begun (board : Board) : ScriptStep → List Entry → Type 0 where
  NotYet : (step : ScriptStep) → Begun board step []
  HasStarted : (number : ℕ) (peer : Peer) (e : Entry) → IsNew number board.connections → e.event ≡ Start peer
      → e.at ≡ board.now → Begun board (Begin number peer) (e ∷ [])
  HasHeard : (number : ℕ) (piece : List ℕ) (part : List Entry) (c : Connection) → IsOpen number board.connections c
      → IsPart piece part c → All (λ e. e.at ≡ board.now) part → Begun board (Piece number piece) part

-- after these requests the bytes ask for one more, or they stop, and the session's End is to be entered
pub data AsksMore (base : Base) (bytes : List ℕ) (requests : List Request) : Type 0 where
  AsksOne : (request : Request) → AsksFirst base bytes (requests ++ request ∷ []) → AsksMore base bytes requests
  AsksEnd : (stop : SessionEnd) → AsksAll base bytes requests (Some stop) → AsksMore base bytes requests

-- the first requests of a piece are entered, and leave the session live; a further entry is due
pub record Lacks (piece : List ℕ) (part : List Entry) (c : Connection) : Type 0 where
  pub asked : List Request
  pub base : Base
  pub are : AreOf c.session asked part
  pub live : All StaysLive part
  pub more : AsksMore base (c.course.bytes ++ piece) (c.course.requests ++ asked)

-- a beginning of what a step enters, after which a further entry of it is due
pub data IsDue (board : Board) : ScriptStep → List Entry → Type 0 where
  DueStart : (number : ℕ) (peer : Peer) → IsNew number board.connections → IsDue board (Begin number peer) []
  DueMore : (number : ℕ) (piece : List ℕ) (part : List Entry) (c : Connection) → IsOpen number board.connections c
      → Lacks piece part c → All (λ e. e.at ≡ board.now) part → IsDue board (Piece number piece) part
  DueEnd : (number : ℕ) (c : Connection) → IsOpen number board.connections c → IsDue board (End number) []
  DueReading : (at : ℕ) → IsDue board (Reading at) []

-- a reading of the clock is one that a clock gives
abbrev pub IsTimed : ScriptStep → Type 0
IsTimed (Reading at) = at ≤ last_reading
IsTimed step = Unit {0}
