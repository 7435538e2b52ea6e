-- A session at any desk: its entries, and what is read and written.
use Rattle.std.specs.Prelude.{◌≡◌, ◌≢◌, ◌⊎◌, ℕ, Bool, true, false, IsTrue, List, [], ◌∷◌, ◌++◌, Some, None}
use Rattle.std.specs.List.{Contains}
use Rattle.std.specs.Io.KnownBytes.{append_known, prepend_known, IsAtEnd}
use Rattle.nc_names.specs.Counts.{Rose}
use Rattle.nc_outside.specs.Causes.{TookPart}
use Rattle.nc_outside.specs.Streams.{Streams, SameCounts}
use Rattle.nc_schema.specs.Tables.{Tables}
use Rattle.nc_model.specs.declared.entry.Entry.{Entry}
use Rattle.nc_model.specs.declared.event.Event.TheVariants.{Start, End}
use Rattle.nc_model.specs.declared.event.Outcome.{Outcome}
use Rattle.nc_model.specs.declared.event.Outcome.TheVariants.{Full as IsFull, Ended, NotLive}
use Rattle.nc_protocol.specs.declared.peer.Peer.{Peer}
use Rattle.nc_protocol.specs.declared.request.Request.{Request}
use Rattle.nc_model.specs.Desks.{Home, IsLastNumber, own_of}
use Rattle.nc_model.specs.Laws.{EndsSession}
use Rattle.nc_session.specs.declared.base.Base.{Base}
use Rattle.nc_session.specs.declared.end.SessionEnd.{SessionEnd}
use Rattle.nc_session.specs.declared.end.SessionEnd.TheVariants.{Closed, InputEnded, Killed, ReadFault, WriteFault, Full, Spent, Memory}
use Rattle.nc_session.specs.declared.standing.Standing.{Standing}
use Rattle.nc_session.specs.declared.standing.Standing.TheVariants.{Live, Closed as IsClosed, Dead}
use Rattle.nc_session.specs.Asks.{AsksFirst, AsksAll}
use Rattle.nc_session.specs.Sessions.{session_text, Leave, HasEntered}

-- how a session is called: for whom, at which desk, the lists for which that desk stands, and what the
-- source and the sink tell
pub record Call : Type 0 where
  pub peer : Peer
  pub home : Home
  pub seen : List Entry
  pub mine : List Entry
  pub before : Streams

-- that, of its parts
abbrev pub called : Peer → Home → List Entry → List Entry → Streams → Call
called peer home seen mine before = record { peer = peer; home = home; seen = seen; mine = mine; before = before }

-- what a session has done: the bytes that were read, the version of the protocol that their hello chooses, the
-- requests that were entered, and the session's entries, its Start first
pub record Course : Type 0 where
  pub bytes : List ℕ
  pub base : Base
  pub requests : List Request
  pub entries : List Entry

-- the requests are the first that the bytes ask for, if there are any
pub record AsksThese (course : Course) : Type 0 where
  pub more : List Request
  pub asks : (course.requests ++ more ≡ []) ⊎ AsksFirst course.base course.bytes (course.requests ++ more)

-- all was written that answers the entries
abbrev pub Wrote : Tables → Call → Course → Streams → Type 0
Wrote schema call course now =
    now.taken ≡ append_known call.before.taken (session_text schema course.base course.entries)

-- a beginning of it was written
abbrev pub WrotePart : Tables → Call → Course → Streams → Type 0
WrotePart schema call course now =
    TookPart call.before.taken now.taken (session_text schema course.base course.entries)

-- what the source and the sink counted: nothing, but what the end tells
abbrev pub CountedBy : Streams → Streams → SessionEnd → Type 0
CountedBy before now InputEnded =
    Rose before.ends now.ends × (now.reads_failed ≡ before.reads_failed) × (now.writes_failed ≡ before.writes_failed)
CountedBy before now ReadFault =
    (now.ends ≡ before.ends) × Rose before.reads_failed now.reads_failed × (now.writes_failed ≡ before.writes_failed)
CountedBy before now WriteFault =
    (now.ends ≡ before.ends) × (now.reads_failed ≡ before.reads_failed) × Rose before.writes_failed now.writes_failed
CountedBy before now end = SameCounts before now

-- The end that a session met, which hands in no further request. `seen` is the history by then.
abbrev pub Met : Tables → Call → Course → List Entry → Streams → Standing → SessionEnd → Type 0
-- its close-session was answered (RFC 6241 7.8)
Met schema call course seen now standing Closed = (standing ≡ IsClosed) × Wrote schema call course now
-- a request of it was entered when it was no longer live (RFC 6241 7.9)
Met schema call course seen now standing Killed = (standing ≡ Dead) × Wrote schema call course now
-- nothing is left, and each request was entered
Met schema call course seen now standing InputEnded =
    (standing ≡ Live) × IsAtEnd now.left × AsksAll course.base course.bytes course.requests None
    × Wrote schema call course now
Met schema call course seen now standing ReadFault =
    (standing ≡ Live) × AsksAll course.base course.bytes course.requests None × Wrote schema call course now
Met schema call course seen now standing WriteFault = (standing ≢ Dead) × WrotePart schema call course now
Met schema call course seen now standing Memory = (standing ≢ Dead) × WrotePart schema call course now
-- the desk has no number for a further entry
Met schema call course seen now standing (Spent ticket) =
    (standing ≡ Live) × IsLastNumber call.home.alone seen ticket × Wrote schema call course now
-- each request was entered, and the bytes stop so
Met schema call course seen now standing end =
    (standing ≡ Live) × AsksAll course.base course.bytes course.requests (Some end) × Wrote schema call course now

-- What holds when a session met its end. `more` is what the history grew by since the call.
pub record HasMet (schema : Tables) (call : Call) (session : ℕ) (more : List Entry) (course : Course) (now : Streams)
    (standing : Standing) (end : SessionEnd) : Type 0 where
  pub entered : HasEntered call.peer session course.requests course.entries
  pub fresh : Contains more entered.start
  pub leave : Leave entered.answers standing
  pub own : IsTrue call.home.alone → own_of more ≡ course.entries
  pub exact : IsTrue call.home.alone → end ≢ Memory → more ≡ course.entries
  pub read : call.before.left ≡ prepend_known course.bytes now.left
  pub asks : AsksThese course
  pub met : Met schema call course (call.seen ++ more) now standing end
  pub counted : CountedBy call.before now end

-- the server has no number for an entry any more
abbrev pub is_spent : SessionEnd → Bool
is_spent (Spent ticket) = true
is_spent end = false

-- What a session enters after its requests, where it met an end: its End, unless it is over already or the
-- desk is spent. `later` is what the history grew by. A session that is found not to be live was killed.
pub data Concludes (home : Home) (seen : List Entry) (IsSpentAt : ℕ → Type 0) (session : ℕ) (standing : Standing)
    (met : SessionEnd) : List Entry → List Entry → SessionEnd → Type 0 where
  IsOver : (standing ≢ Live) → Concludes home seen IsSpentAt session standing met [] [] met
  WasSpent : (ticket : ℕ) → IsLastNumber home.alone seen ticket → IsSpentAt ticket
      → Concludes home seen IsSpentAt session standing met [] [] met
  Ends : (others : List Entry) (e : Entry) → (IsTrue home.alone → others ≡ [])
      → standing ≡ Live → is_spent met ≡ false → e.event ≡ End session → e.outcome ≡ Ended
      → Concludes home seen IsSpentAt session standing met (others ++ e ∷ []) (e ∷ []) met
  IsDead : (others : List Entry) (e : Entry) → (IsTrue home.alone → others ≡ [])
      → standing ≡ Live → is_spent met ≡ false → e.event ≡ End session → e.outcome ≡ NotLive
      → Concludes home seen IsSpentAt session standing met (others ++ e ∷ []) (e ∷ []) Killed

-- A session that was killed (RFC 6241 7.9): an entry since the call ended it that is none of its own. No desk that is
-- alone has such an entry.
pub record WasKilled (session : ℕ) (alone : Bool) (grown own : List Entry) : Type 0 where
  pub ender : Entry
  pub there : Contains grown ender
  pub ends : EndsSession session ender.event ender.outcome
  pub another : ¬ Contains own ender
  pub shared : alone ≡ false

-- the desk did not enter the session's Start
abbrev pub Unstarted : Home → List Entry → (ℕ → Type 0) → List Entry → SessionEnd → Type 0
Unstarted home seen IsSpentAt more (Spent ticket) = IsLastNumber home.alone seen ticket × IsSpentAt ticket × (more ≡ [])
Unstarted home seen IsSpentAt more Memory = IsTrue home.alone → own_of more ≡ []
Unstarted home seen IsSpentAt more end = ⊥

-- the session's Start is entered
pub record Starts (call : Call) (more : List Entry) (start : Entry) (outcome : Outcome) : Type 0 where
  pub event : start.event ≡ Start call.peer
  pub outcome_is : start.outcome ≡ outcome
  pub alone : IsTrue call.home.alone → more ≡ start ∷ []
  pub last : List Entry
  pub more_is : more ≡ last ++ start ∷ []

-- The whole of a session, after which the desk stands for the history and for its own entries.
pub data Serves (schema : Tables) (call : Call) (Stands : List Entry → List Entry → Type 0) (IsSpentAt : ℕ → Type 0)
    (now : Streams) : SessionEnd → Type 0 where
  -- there is no session: nothing is read or written
  NoStart : (end : SessionEnd) (more : List Entry) → Unstarted call.home call.seen IsSpentAt more end
      → now ≡ call.before → Stands (call.seen ++ more) call.mine
      → Serves schema call Stands IsSpentAt now end
  -- there is no place for it: nothing is read or written
  NoPlace : (live last : ℕ) (more : List Entry) (start : Entry) → Starts call more start (IsFull live last)
      → now ≡ call.before → Stands (call.seen ++ more) (call.mine ++ start ∷ [])
      → Serves schema call Stands IsSpentAt now (Full live last)
  -- the session was served until it met an end
  Served : (session : ℕ) (more later ended : List Entry) (course : Course) (standing : Standing)
      (met end : SessionEnd) → HasMet schema call session more course now standing met
      → Concludes call.home (call.seen ++ more) IsSpentAt session standing met later ended end
      → (end ≡ Killed → WasKilled session call.home.alone (more ++ later) (course.entries ++ ended))
      → Stands (call.seen ++ (more ++ later)) (call.mine ++ (course.entries ++ ended))
      → Serves schema call Stands IsSpentAt now end
