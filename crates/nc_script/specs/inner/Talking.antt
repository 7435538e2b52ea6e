-- One connection of a script, as it is kept.
use Rattle.std.specs.Prelude.{◌≡◌, ◌⊎◌, ℕ, false, List, [], ◌∷◌, Option, Some, None, Result, Ok, Err}
use Rattle.std.specs.List.{All}
use Rattle.nc_machine.specs.Serving.{GoesOn, Serving}
use Rattle.nc_machine.specs.Lasting.{Lasting}
use Rattle.nc_model.specs.declared.entry.Entry.{Entry}
use Rattle.nc_model.specs.declared.event.Event.TheVariants.{Start, End}
use Rattle.nc_model.specs.declared.event.Outcome.{Outcome}
use Rattle.nc_model.specs.declared.event.Outcome.TheVariants.{Started, Full as IsFull, Ended, NotLive}
use Rattle.nc_protocol.specs.declared.peer.Peer.{Peer}
use Rattle.nc_schema.specs.Tables.{Tables}
use Rattle.nc_session.specs.declared.base.Base.{Base}
use Rattle.nc_session.specs.declared.end.SessionEnd.{SessionEnd}
use Rattle.nc_session.specs.declared.end.SessionEnd.TheVariants.{InputEnded, Killed, Full}
use Rattle.nc_session.specs.Cores.{IsAt}
use Rattle.nc_session.specs.ServerHello.{hello_text}
use Rattle.nc_session.specs.Sessions.{session_text}
use Rattle.nc_script.specs.Connections.{Connection}
use Rattle.nc_script.specs.Runs.{is_error, is_reply}
use Rattle.nc_script.specs.Steps.{Begins, Ends, HearsBy, IsPart, Lacks}
use Rattle.nc_script.specs.inner.Entering.{Breaks}
use Rattle.nc_script.specs.inner.Hearing.{IsLive}
use Rattle.nc_script.specs.inner.Tallies.{Tallied}
use Rattle.nc_script.specs.declared.output.Output.{Output}
use Rattle.nc_script.specs.declared.fault.StepFault.{StepFault}
use Rattle.nc_script.specs.declared.fault.StepFault.TheVariants.{Memory, Spent}
use Rattle.nc_script.specs.declared.talk.State.{State}
use Rattle.nc_script.specs.declared.talk.State.TheVariants.{Live, Over}
use Rattle.nc_script.specs.declared.talk.Talk.{Talk}
use Rattle.nc_script.specs.declared.tally.Tally.{Tally}

-- the session of a connection is in this state, and was told this text
abbrev pub IsIn : Tables → State → List ℕ → Connection → Type 0
IsIn schema (Live session core) text c =
    (c.end ≡ None) × (c.session ≡ session) × IsLive schema session core text c.course
IsIn schema (Over end) text c =
    (c.end ≡ Some end) × (text ≡ session_text schema c.course.base c.course.entries)

-- a connection is kept so
pub record Stands (schema : Tables) (talk : Talk) (c : Connection) : Type 0 where
  pub number_is : c.number ≡ talk.number
  pub over_is : c.is_over ≡ talk.is_over
  pub state_is : IsIn schema talk.state talk.text c

-- ---- a connection begins

-- the state in which a connection begins, by what its Start came to: a session, or no place for one
abbrev pub Placed : Outcome → State → Type 0
Placed (Started number) (Live session core) = (session ≡ number) × ((base : Base) → IsAt core base [] [])
Placed (Started number) (Over end) = ⊥
Placed (IsFull live last) (Live session core) = ⊥
Placed (IsFull live last) (Over end) = end ≡ Full live last
Placed outcome state = ⊥

-- what it is told first: the hello, or nothing where there is no place
abbrev pub Greets : Tables → State → Result (List ℕ) StepFault → Type 0
Greets schema (Live session core) (Ok text) = text ≡ hello_text schema.modules session
Greets schema (Over end) (Ok text) = text ≡ []
Greets schema state (Err fault) = fault ≡ Memory

-- a connection began, and nothing was told before
pub record HasBegun {K : Type 0} (words : Lasting K) (number : ℕ) (peer : Peer) (at : ℕ) (old new : Serving K)
    (talk : Talk) : Type 0 where
  pub connection : Connection
  pub group : List Entry
  pub begins : Begins number peer group connection
  pub made : GoesOn words old new group
  pub at_is : All (λ e. e.at ≡ at) group
  pub stands : Stands new.state.schema talk connection

-- nothing was entered, or the Start
abbrev pub IsStart : Peer → ℕ → List Entry → Type 0
IsStart peer at part = (part ≡ []) ⊎ ((e : Entry) × (part ≡ e ∷ []) × (e.event ≡ Start peer) × (e.at ≡ at))

-- where the machine is spent, nothing was entered
abbrev pub IsNoneIf : StepFault → List Entry → Type 0
IsNoneIf Spent part = part ≡ []
IsNoneIf fault part = Unit {0}

-- it begins, or its beginning broke off
abbrev pub BeginsAt : {K : Type 0} → Lasting K → ℕ → Peer → ℕ → Serving K → Serving K → Result Talk StepFault → Type 0
BeginsAt words number peer at old new (Ok talk) = HasBegun words number peer at old new talk
BeginsAt words number peer at old new (Err fault) =
    (part : List Entry) × IsStart peer at part × IsNoneIf fault part × Breaks words at old new fault part

-- ---- bytes come

-- a connection has heard, and is kept
pub record HasHeardAs {K : Type 0} (words : Lasting K) (schema : Tables) (piece : List ℕ) (at : ℕ) (c : Connection)
    (old new : Serving K) (told tells : Tally) (Kept : Connection → Type 0) : Type 0 where
  pub next : Connection
  pub group : List Entry
  pub hears : HearsBy c.end piece group c next
  pub made : GoesOn words old new group
  pub at_is : All (λ e. e.at ≡ at) group
  pub tallied : Tallied told tells group
  pub kept : Kept next

-- where the machine is spent, a further entry is due
abbrev pub LacksIf : StepFault → List ℕ → List Entry → Connection → Type 0
LacksIf Spent piece part c = Lacks piece part c
LacksIf fault piece part c = Unit {0}

-- a connection heard a part
pub record HeardPart {K : Type 0} (words : Lasting K) (piece : List ℕ) (at : ℕ) (c : Connection)
    (old new : Serving K) (fault : StepFault) : Type 0 where
  pub part : List Entry
  pub goes_on : c.end ≡ None
  pub is : IsPart piece part c
  pub due : LacksIf fault piece part c
  pub at_is : All (λ e. e.at ≡ at) part
  pub breaks : Breaks words at old new fault part

-- a session in a state hears a piece, or broke off
abbrev pub HearsIn : {K : Type 0} → Lasting K → Tables → List ℕ → ℕ → Connection → Serving K → Serving K → List ℕ
    → Tally → Tally → Result State StepFault → Type 0
HearsIn words schema piece at c old new text told tells (Ok state) =
    HasHeardAs words schema piece at c old new told tells (λ next. IsIn schema state text next)
HearsIn words schema piece at c old new text told tells (Err fault) = HeardPart words piece at c old new fault

-- a connection hears a piece, or broke off
abbrev pub HasHeard : {K : Type 0} → Lasting K → Tables → List ℕ → ℕ → Connection → Serving K → Serving K → Talk
    → Tally → Tally → Result (Unit {0}) StepFault → Type 0
HasHeard words schema piece at c old new talk told tells (Ok u) =
    HasHeardAs words schema piece at c old new told tells (λ next. Stands schema talk next)
HasHeard words schema piece at c old new talk told tells (Err fault) = HeardPart words piece at c old new fault

-- ---- a connection ends

-- how a session ends, that was in this state
abbrev pub LeavesIn : {K : Type 0} → Lasting K → ℕ → Serving K → Serving K → State → Result SessionEnd StepFault
    → Type 0
LeavesIn words at old new (Live session core) (Ok end) =
    (e : Entry) × GoesOn words old new (e ∷ []) × (e.at ≡ at) × (e.event ≡ End session)
    × (((e.outcome ≡ Ended) × (end ≡ InputEnded)) ⊎ ((e.outcome ≡ NotLive) × (end ≡ Killed)))
LeavesIn words at old new (Over end) (Ok other) = (other ≡ end) × (new ≡ old)
LeavesIn words at old new (Live session core) (Err fault) = Breaks words at old new fault []
LeavesIn words at old new (Over end) (Err fault) = ⊥

-- a connection is over, and is kept so
pub record HasLeftAs {K : Type 0} (words : Lasting K) (schema : Tables) (at : ℕ) (c : Connection)
    (old new : Serving K) (talk : Talk) : Type 0 where
  pub next : Connection
  pub group : List Entry
  pub ends : Ends group c next
  pub made : GoesOn words old new group
  pub at_is : All (λ e. e.at ≡ at) group
  pub unanswered : All (λ e. (is_reply e.outcome ≡ false) × (is_error e.outcome ≡ false)) group
  pub kept : Stands schema talk next

-- the same, or its End could not be entered
abbrev pub HasLeft : {K : Type 0} → Lasting K → Tables → ℕ → Connection → Serving K → Serving K → Talk
    → Result (Unit {0}) StepFault → Type 0
HasLeft words schema at c old new talk (Ok u) = HasLeftAs words schema at c old new talk
HasLeft words schema at c old new talk (Err fault) = (c.end ≡ None) × Breaks words at old new fault []

-- how a session ended, where it has
abbrev pub ends_with : State → Option SessionEnd
ends_with (Live session core) = None
ends_with (Over end) = Some end

-- what a connection was told
abbrev pub told_of : Talk → Output
told_of talk = record { connection = talk.number; bytes = talk.text; end = ends_with talk.state }
