-- A session that goes on, from one request to the next.
use Rattle.std.specs.Prelude.{◌≡◌, ◌≢◌, ◌⊎◌, ℕ, suc, ◌<◌, ◌≤◌, IsTrue, Bool, true, false, List, [], ◌∷◌, ◌++◌, length, Option, Some, None, Result, Ok, Err}
use Rattle.std.specs.List.{Contains}
use Rattle.std.specs.Io.KnownBytes.{append_known, prepend_known, IsAtEnd}
use Rattle.nc_names.specs.Counts.{Rose}
use Rattle.nc_outside.specs.Causes.{TookPart}
use Rattle.nc_outside.specs.Streams.{Streams, SameCounts}
use Rattle.nc_schema.specs.Tables.{Tables}
use Rattle.nc_model.specs.declared.entry.Entry.{Entry}
use Rattle.nc_model.specs.declared.event.Outcome.{Outcome}
use Rattle.nc_model.specs.declared.event.Outcome.TheVariants.{Started, Full as IsFull, NotLive}
use Rattle.nc_protocol.specs.declared.request.Request.{Request}
use Rattle.nc_protocol.specs.Proper.{IsProper}
use Rattle.nc_session.specs.declared.base.Base.{Base}
use Rattle.nc_session.specs.declared.end.SessionEnd.{SessionEnd}
use Rattle.nc_session.specs.declared.end.SessionEnd.TheVariants.{InputEnded, ReadFault, WriteFault, Killed, Closed, Full, Spent, Memory}
use Rattle.nc_session.specs.declared.session_core.Phase.TheVariants.{Serving}
use Rattle.nc_session.specs.declared.standing.Standing.{Standing}
use Rattle.nc_session.specs.declared.standing.Standing.TheVariants.{Live, Closed as IsClosed, Dead}
use Rattle.nc_session.specs.declared.turn.Met.{Met as Meeting}
use Rattle.nc_session.specs.Asks.{AsksFirst, AsksAll}
use Rattle.nc_session.specs.Cores.{Core, IsAt, IsChosen}
use Rattle.nc_session.specs.Sessions.{entry_text, standing_after, StayLive, HasEntered}
use Rattle.nc_session.specs.Serves.{Call, Course, Wrote, HasMet, Starts, Unstarted}

-- A session that goes on. Its reader has given the requests that were entered, and those that are `ahead`.
pub record Underway (schema : Tables) (call : Call) (session : ℕ) (Stands : List Entry → List Entry → Type 0)
    (ahead : List Request → List Request) (core : Core) (now : Streams) : Type 0 where
  pub course : Course
  pub more : List Entry
  pub stands : Stands (call.seen ++ more) (call.mine ++ course.entries)
  pub entered : HasEntered call.peer session course.requests course.entries
  pub fresh : Contains more entered.start
  pub live : StayLive entered.answers
  pub alone : IsTrue call.home.alone → more ≡ course.entries
  pub grown : length course.entries ≤ length more
  pub read : call.before.left ≡ prepend_known course.bytes now.left
  pub at : IsAt core course.base course.bytes (ahead course.requests)
  pub wrote : Wrote schema call course now
  pub same : SameCounts call.before now

-- the reader has given what was entered, or one request more
abbrev pub entered_all : List Request → List Request
entered_all requests = requests

-- what was entered, and that request
abbrev pub one_ahead : Request → List Request → List Request
one_ahead request requests = requests ++ request ∷ []

-- the desk is spent where that is the end
abbrev pub TellsEnd : (ℕ → Type 0) → SessionEnd → Type 0
TellsEnd IsSpentAt (Spent ticket) = IsSpentAt ticket
TellsEnd IsSpentAt end = Unit {0}

-- a session met its end, and the desk stands for what it entered
pub record Stops (schema : Tables) (call : Call) (session : ℕ) (Stands : List Entry → List Entry → Type 0)
    (IsSpentAt : ℕ → Type 0) (now : Streams) (met : Meeting) : Type 0 where
  pub course : Course
  pub more : List Entry
  pub stands : Stands (call.seen ++ more) (call.mine ++ course.entries)
  pub has_met : HasMet schema call session more course now met.standing met.end
  pub spent : TellsEnd IsSpentAt met.end

-- the session goes on after one request more than so many, or met its end
abbrev pub Turns : Tables → Call → ℕ → (List Entry → List Entry → Type 0) → (ℕ → Type 0) → ℕ → Core → Streams
    → Result (Unit {0}) Meeting → Type 0
Turns schema call session Stands IsSpentAt count core now (Ok u) =
    (then : Underway schema call session Stands entered_all core now) × (length then.course.requests ≡ suc count)
Turns schema call session Stands IsSpentAt count core now (Err met) = Stops schema call session Stands IsSpentAt now met

-- what a source tells
pub record Intake : Type 0 where
  pub left : Option (List ℕ)
  pub ends : ℕ
  pub failed : ℕ

-- what a source tells: the bytes that are left, how often it ended, and how often reading failed
abbrev pub intake : Option (List ℕ) → ℕ → ℕ → Intake
intake left ends failed = record { left = left; ends = ends; failed = failed }

-- it neither ended nor failed since; of the bytes nothing is said
abbrev pub SameIntake : Intake → Intake → Type 0
SameIntake before now = (now.ends ≡ before.ends) × (now.failed ≡ before.failed)

-- a piece was read, and fed to the session's reader
abbrev pub ReadsOn : (List ℕ → Type 0) → List ℕ → Intake → Intake → Result (Unit {0}) SessionEnd → Type 0
ReadsOn At bytes before now (Ok u) =
    (piece : List ℕ) × (before.left ≡ prepend_known piece now.left) × (0 < length piece) × At (bytes ++ piece)
    × SameIntake before now
ReadsOn At bytes before now (Err InputEnded) =
    (now.left ≡ before.left) × IsAtEnd now.left × Rose before.ends now.ends × (now.failed ≡ before.failed)
ReadsOn At bytes before now (Err ReadFault) =
    (now.left ≡ before.left) × (now.ends ≡ before.ends) × Rose before.failed now.failed
ReadsOn At bytes before now (Err Memory) =
    (piece : List ℕ) × (before.left ≡ prepend_known piece now.left) × SameIntake before now
ReadsOn At bytes before now (Err end) = ⊥

-- a piece was read since, and the version of the protocol may have been chosen
pub record Progress (given : List Request) (base : Base) (before now : Intake) : Type 0 where
  pub now_base : Base
  pub chosen : IsChosen given base now_base
  pub piece : List ℕ
  pub read : before.left ≡ prepend_known piece now.left

-- a reader was fed some bytes, and has given some requests of them
pub record HasRead (core : Core) : Type 0 where
  pub base : Base
  pub bytes : List ℕ
  pub given : List Request
  pub at : IsAt core base bytes given

-- it reads requests
abbrev pub IsServing : Core → Type 0
IsServing core = (base : Base) × (core.phase ≡ Serving base)

-- the next request is given, after a piece that was read, or the session's bytes end
abbrev pub Fetches : Core → Base → List ℕ → List Request → Intake → Intake → Result Request SessionEnd → Type 0
Fetches core base bytes given before now (Ok request) =
    (p : Progress given base before now) × SameIntake before now × (core.phase ≡ Serving p.now_base)
    × IsAt core p.now_base (bytes ++ p.piece) (given ++ request ∷ [])
Fetches core base bytes given before now (Err InputEnded) =
    (p : Progress given base before now) × IsAtEnd now.left × Rose before.ends now.ends × (now.failed ≡ before.failed)
    × AsksAll p.now_base (bytes ++ p.piece) given None
Fetches core base bytes given before now (Err ReadFault) =
    (p : Progress given base before now) × (now.ends ≡ before.ends) × Rose before.failed now.failed
    × AsksAll p.now_base (bytes ++ p.piece) given None
Fetches core base bytes given before now (Err Memory) =
    (p : Progress given base before now) × SameIntake before now
    × ((given ≡ []) ⊎ AsksFirst p.now_base (bytes ++ p.piece) given)
Fetches core base bytes given before now (Err end) =
    (p : Progress given base before now) × SameIntake before now
    × AsksAll p.now_base (bytes ++ p.piece) given (Some end)

-- the same, or a piece was read where every request was given
abbrev pub StepsOn : Core → Base → List ℕ → List Request → Intake → Intake → Result (Option Request) SessionEnd → Type 0
StepsOn core base bytes given before now (Ok None) =
    (p : Progress given base before now) × SameIntake before now × (0 < length p.piece)
    × IsAt core p.now_base (bytes ++ p.piece) given × AsksAll p.now_base bytes given None
StepsOn core base bytes given before now (Ok (Some request)) = Fetches core base bytes given before now (Ok request)
StepsOn core base bytes given before now (Err end) = Fetches core base bytes given before now (Err end)

-- every request was given of the bytes before the last piece that was read
pub record Awaited (base : Base) (bytes : List ℕ) (given : List Request) (count : ℕ) : Type 0 where
  pub now_base : Base
  pub chosen : IsChosen given base now_base
  pub front : List ℕ
  pub all : AsksAll now_base (bytes ++ front) given None
  pub few : count ≤ suc (length front)

-- so many pieces were read, and no request is whole
pub record Waits (core : Core) (base : Base) (bytes : List ℕ) (given : List Request) (before now : Intake) (count : ℕ)
    : Type 0 where
  pub progress : Progress given base before now
  pub same : SameIntake before now
  pub at : IsAt core progress.now_base (bytes ++ progress.piece) given
  pub some : count ≤ length progress.piece
  pub awaited : (count ≡ 0) ⊎ Awaited base bytes given count

-- a request that is given is as reading a message gives it
abbrev pub IsProperAsk : Result Request SessionEnd → Type 0
IsProperAsk (Ok request) = IsProper request
IsProperAsk (Err end) = Unit {0}

-- so is one that a step gives, if it gives one
abbrev pub IsProperStep : Result (Option Request) SessionEnd → Type 0
IsProperStep (Ok (Some request)) = IsProper request
IsProperStep result = Unit {0}

-- a text was written, or a beginning of it
abbrev pub Writes : List ℕ → Option (List ℕ) → Option (List ℕ) → ℕ → ℕ → Result (Unit {0}) SessionEnd → Type 0
Writes text before now failed_before failed_now (Ok u) = (now ≡ append_known before text) × (failed_now ≡ failed_before)
Writes text before now failed_before failed_now (Err WriteFault) =
    TookPart before now text × Rose failed_before failed_now
Writes text before now failed_before failed_now (Err Memory) = TookPart before now text × (failed_now ≡ failed_before)
Writes text before now failed_before failed_now (Err end) = ⊥

-- how far an entry's answer was written, by the end that its session met
abbrev pub SettlesBy : List ℕ → Option (List ℕ) → Option (List ℕ) → ℕ → ℕ → Standing → SessionEnd → Type 0
SettlesBy text before now failed_before failed_now standing Killed =
    (standing ≡ Dead) × (now ≡ before) × (failed_now ≡ failed_before)
SettlesBy text before now failed_before failed_now standing Closed =
    (standing ≡ IsClosed) × Writes text before now failed_before failed_now (Ok tt)
SettlesBy text before now failed_before failed_now standing WriteFault =
    (standing ≢ Dead) × Writes text before now failed_before failed_now (Err WriteFault)
SettlesBy text before now failed_before failed_now standing Memory =
    (standing ≢ Dead) × Writes text before now failed_before failed_now (Err Memory)
SettlesBy text before now failed_before failed_now standing end = ⊥

-- an entry is answered, and its session goes on or met its end
abbrev pub Settles : Tables → Base → Entry → Option (List ℕ) → Option (List ℕ) → ℕ → ℕ → Result (Unit {0}) Meeting
    → Type 0
Settles schema base e before now failed_before failed_now (Ok u) =
    (standing_after e ≡ Live) × Writes (entry_text schema base e.outcome) before now failed_before failed_now (Ok u)
Settles schema base e before now failed_before failed_now (Err met) =
    (met.standing ≡ standing_after e)
    × SettlesBy (entry_text schema base e.outcome) before now failed_before failed_now met.standing met.end

-- a Start was entered or not
abbrev pub Begins : Call → (List Entry → List Entry → Type 0) → (ℕ → Type 0) → Result ℕ SessionEnd → Type 0
Begins call Stands IsSpentAt (Ok session) =
    (more : List Entry) × (start : Entry) × Starts call more start (Started session)
    × Stands (call.seen ++ more) (call.mine ++ start ∷ [])
Begins call Stands IsSpentAt (Err (Full live last)) =
    (more : List Entry) × (start : Entry) × Starts call more start (IsFull live last)
    × Stands (call.seen ++ more) (call.mine ++ start ∷ [])
Begins call Stands IsSpentAt (Err end) =
    (more : List Entry) × Unstarted call.home call.seen IsSpentAt more end × Stands (call.seen ++ more) call.mine

-- a start comes to this, and to nothing else
abbrev pub ComesTo : Outcome → Result ℕ SessionEnd → Type 0
ComesTo (Started session) result = result ≡ Ok session
ComesTo (IsFull live last) result = result ≡ Err (Full live last)
ComesTo outcome result = ⊥

-- a session has begun, and nothing is read or written yet
pub record HasBegun (call : Call) (session : ℕ) (Stands : List Entry → List Entry → Type 0) (now : Streams)
    : Type 0 where
  pub more : List Entry
  pub start : Entry
  pub starts : Starts call more start (Started session)
  pub stands : Stands (call.seen ++ more) (call.mine ++ start ∷ [])
  pub unused : now ≡ call.before

-- an outcome is not that of a session that was not live
abbrev pub Ending : Outcome → Bool → Type 0
Ending NotLive live = live ≡ false
Ending outcome live = live ≡ true
