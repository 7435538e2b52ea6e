-- A session of a script that hears what its client sends.
use Rattle.std.specs.Prelude.{◌≡◌, ◌⊎◌, ◌≤◌, ℕ, List, [], ◌∷◌, ◌++◌, Option, Some, None, Result, Ok, Err}
use Rattle.std.specs.List.{All}
use Rattle.nc_names.specs.Limits.{most_requests}
use Rattle.nc_machine.specs.Serving.{GoesOn, Serving}
use Rattle.nc_machine.specs.Lasting.{Lasting}
use Rattle.nc_model.specs.declared.entry.Entry.{Entry}
use Rattle.nc_model.specs.declared.event.Event.TheVariants.{Request as Requested, End}
use Rattle.nc_model.specs.declared.event.Outcome.TheVariants.{Ended, NotLive}
use Rattle.nc_protocol.specs.declared.peer.Peer.{Peer}
use Rattle.nc_protocol.specs.declared.request.Request.{Request}
use Rattle.nc_schema.specs.Tables.{Tables}
use Rattle.nc_session.specs.declared.base.Base.{Base}
use Rattle.nc_session.specs.declared.end.SessionEnd.{SessionEnd}
use Rattle.nc_session.specs.declared.end.SessionEnd.TheVariants.{Closed, Killed}
use Rattle.nc_session.specs.Asks.{AsksFirst, AsksAll}
use Rattle.nc_session.specs.Cores.{Core, IsAt}
use Rattle.nc_session.specs.Serves.{AsksThese, Course}
use Rattle.nc_session.specs.Sessions.{HasEntered, IsAnswered, entry_text, session_text}
use Rattle.nc_script.specs.Leaving.{Closes, IsDead, StaysLive}
use Rattle.nc_script.specs.Steps.{AreOf, AsksMore, Comes, LiveButLast}
use Rattle.nc_script.specs.inner.Entering.{Breaks, IsEntered}
use Rattle.nc_script.specs.inner.Tallies.{Tallied}
use Rattle.nc_script.specs.declared.fault.StepFault.{StepFault}
use Rattle.nc_script.specs.declared.fault.StepFault.TheVariants.{Memory, Spent}
use Rattle.nc_script.specs.declared.hear.Turn.{Turn}
use Rattle.nc_script.specs.declared.hear.Turn.TheVariants.{Answered, Waits, Over}
use Rattle.nc_script.specs.declared.tally.Tally.{Tally}

-- a session that goes on: its reader has given what was entered, and its text is that of its entries
pub record IsLive (schema : Tables) (session : ℕ) (core : Core) (text : List ℕ) (course : Course) : Type 0 where
  pub peer : Peer
  pub at : IsAt core course.base course.bytes course.requests
  pub entered : HasEntered peer session course.requests course.entries
  pub text_is : text ≡ session_text schema course.base course.entries

-- a course goes on by requests and entries; the version of the protocol may have been chosen
abbrev pub further : Course → Base → List Request → List Entry → Course
further course base asked group = record {
  bytes = course.bytes;
  base = base;
  requests = course.requests ++ asked;
  entries = course.entries ++ group;
}

-- how an entry ended its session
abbrev pub EndsBy : Entry → SessionEnd → Type 0
EndsBy e Closed = Closes e
EndsBy e Killed = IsDead e
EndsBy e end = ⊥

-- an entry was written, and how its session ended by it
abbrev pub Settles : Tables → Base → Entry → List ℕ → List ℕ → Result (Option SessionEnd) StepFault → Type 0
Settles schema base e before now (Ok None) = StaysLive e × (now ≡ before ++ entry_text schema base e.outcome)
Settles schema base e before now (Ok (Some Closed)) = Closes e × (now ≡ before ++ entry_text schema base e.outcome)
Settles schema base e before now (Ok (Some Killed)) = (IsAnswered e.outcome → ⊥) × (now ≡ before)
Settles schema base e before now (Ok (Some end)) = ⊥
Settles schema base e before now (Err fault) = fault ≡ Memory

-- a part of what was asked for was entered
pub record Part (session at : ℕ) (course : Course) (asked : List Request) (part : List Entry) : Type 0 where
  pub base : Base
  pub are : AreOf session asked part
  pub at_is : All (λ e. e.at ≡ at) part
  pub live : LiveButLast part
  pub asks : AsksThese (record {
    bytes = course.bytes;
    base = base;
    requests = course.requests ++ asked;
    entries = part;
  })

-- where the machine is spent, a further entry of the session is due
abbrev pub IsDueBy : StepFault → Course → List Request → List Entry → Type 0
IsDueBy Spent course asked part =
    (base : Base) × All StaysLive part × AsksMore base course.bytes (course.requests ++ asked)
IsDueBy fault course asked part = Unit {0}

-- a step of the session ends early
pub record BreaksOff {K : Type 0} (words : Lasting K) (session at : ℕ) (course : Course) (old new : Serving K)
    (fault : StepFault) : Type 0 where
  pub asked : List Request
  pub part : List Entry
  pub is : Part session at course asked part
  pub due : IsDueBy fault course asked part
  pub breaks : Breaks words at old new fault part

-- these entries of a session were made
pub record Goes {K : Type 0} (words : Lasting K) (schema : Tables) (session at : ℕ) (course : Course) (base : Base)
    (asked : List Request)
    (group : List Entry) (old new : Serving K) (text : List ℕ) (told tells : Tally) : Type 0 where
  pub made : GoesOn words old new group
  pub at_is : All (λ e. e.at ≡ at) group
  pub text_is : text ≡ session_text schema base (course.entries ++ group)
  pub tallied : Tallied told tells group

-- a request is answered, and how its session ended by it
abbrev pub Answers : {K : Type 0} → Lasting K → Tables → ℕ → ℕ → Course → Base → Request → Serving K → Serving K
    → Core → List ℕ → Tally → Tally → Result (Option SessionEnd) StepFault → Type 0
Answers words schema session at course base request old new core text told tells (Ok None) =
    (e : Entry) × IsEntered words old new (Requested session request) at e × StaysLive e
    × IsLive schema session core text (further course base (request ∷ []) (e ∷ []))
    × Tallied told tells (e ∷ [])
Answers words schema session at course base request old new core text told tells (Ok (Some end)) =
    (e : Entry) × IsEntered words old new (Requested session request) at e × EndsBy e end
    × (text ≡ session_text schema base (course.entries ++ e ∷ []))
    × AsksFirst base course.bytes (course.requests ++ request ∷ []) × Tallied told tells (e ∷ [])
Answers words schema session at course base request old new core text told tells (Err fault) =
    BreaksOff words session at course old new fault

-- the End of a session whose bytes stop is entered
abbrev pub Stopping : {K : Type 0} → Lasting K → ℕ → ℕ → SessionEnd → Serving K → Serving K
    → Result SessionEnd StepFault → Type 0
Stopping words session at stop old new (Ok end) =
    (e : Entry) × IsEntered words old new (End session) at e
    × (((e.outcome ≡ Ended) × (end ≡ stop)) ⊎ ((e.outcome ≡ NotLive) × (end ≡ Killed)))
Stopping words session at stop old new (Err fault) = Breaks words at old new fault []

-- a turn in which a request was answered
abbrev pub turn_of : Result (Option SessionEnd) StepFault → Result Turn StepFault
turn_of (Ok None) = Ok Answered
turn_of (Ok (Some end)) = Ok (Over end)
turn_of (Err fault) = Err fault

-- a turn in which the session ended
abbrev pub over_of : Result SessionEnd StepFault → Result Turn StepFault
over_of (Ok end) = Ok (Over end)
over_of (Err fault) = Err fault

-- one turn of a session
abbrev pub Turns : {K : Type 0} → Lasting K → Tables → ℕ → ℕ → Course → Serving K → Serving K → Core → List ℕ → Tally
    → Tally → Result Turn StepFault → Type 0
Turns words schema session at course old new core text told tells (Ok Answered) =
    (base : Base) × (request : Request)
    × Answers words schema session at course base request old new core text told tells (Ok None)
Turns words schema session at course old new core text told tells (Ok Waits) =
    (base : Base) × (new ≡ old) × (tells ≡ told) × IsLive schema session core text (record course { base = base })
    × AsksAll base course.bytes course.requests None
Turns words schema session at course old new core text told tells (Ok (Over end)) =
    ((base : Base) × (request : Request)
    × Answers words schema session at course base request old new core text told tells (Ok (Some end)))
    ⊎ ((base : Base) × (stop : SessionEnd) × Stopping words session at stop old new (Ok end) × (tells ≡ told)
    × AsksAll base course.bytes course.requests (Some stop) × (text ≡ session_text schema base course.entries))
Turns words schema session at course old new core text told tells (Err fault) =
    BreaksOff words session at course old new fault

-- the session goes on, where it has not ended
abbrev pub LivesIf : Option SessionEnd → Tables → ℕ → Core → List ℕ → Course → Type 0
LivesIf None schema session core text course = IsLive schema session core text course
LivesIf (Some end) schema session core text course = Unit {0}

-- a session has heard
pub record Heard {K : Type 0} (words : Lasting K) (schema : Tables) (session at : ℕ) (course : Course)
    (old new : Serving K) (core : Core) (text : List ℕ) (told tells : Tally) (end : Option SessionEnd) : Type 0 where
  pub base : Base
  pub asked : List Request
  pub answers : List Entry
  pub ended : List Entry
  pub are : AreOf session asked answers
  pub goes : Goes words schema session at course base asked (answers ++ ended) old new text told tells
  pub comes : Comes session (further course base asked (answers ++ ended)) answers ended end
  pub lives : LivesIf end schema session core text (further course base asked (answers ++ ended))

-- what a session makes of a piece: it has heard, or a step of it broke off
abbrev pub Listens : {K : Type 0} → Lasting K → Tables → ℕ → ℕ → Course → Serving K → Serving K → Core → List ℕ
    → Tally → Tally → Result (Option SessionEnd) StepFault → Type 0
Listens words schema session at course old new core text told tells (Ok end) =
    Heard words schema session at course old new core text told tells end
Listens words schema session at course old new core text told tells (Err fault) =
    BreaksOff words session at course old new fault

-- a session that listens has answered some requests
pub record Listening {K : Type 0} (words : Lasting K) (schema : Tables) (session at : ℕ) (course : Course)
    (old new : Serving K) (core : Core) (text : List ℕ) (told tells : Tally) : Type 0 where
  pub base : Base
  pub asked : List Request
  pub answers : List Entry
  pub are : AreOf session asked answers
  pub live : All StaysLive answers
  pub goes : Goes words schema session at course base asked answers old new text told tells
  pub lives : IsLive schema session core text (further course base asked answers)

-- after so many answers a machine has made as many entries at least, for which there are numbers
abbrev pub HasCounted : ℕ → ℕ → Type 0
HasCounted answered count = (answered ≡ 0) ⊎ ((answered ≤ count) × (count ≤ most_requests))
