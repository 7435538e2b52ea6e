-- The connections of a script, as they are kept.
use Rattle.std.specs.Prelude.{◌≡◌, ◌≢◌, ◌<◌, ◌≤◌, ℕ, false, List, [], ◌∷◌, ◌++◌, length, map, Option, Some, None, Result, Ok, Err}
use Rattle.std.specs.BTreeMap as tree
use Rattle.std.specs.List.{All, AllZip}
use Rattle.std.specs.Ordering.{nat_cmp}
use Rattle.nc_outside.specs.Clocks.{last_reading}
use Rattle.nc_machine.specs.Serving.{GoesOn, Serving}
use Rattle.nc_machine.specs.Lasting.{Lasting}
use Rattle.nc_model.specs.declared.entry.Entry.{Entry}
use Rattle.nc_schema.specs.Tables.{Tables}
use Rattle.nc_script.specs.Connections.{Board, Connection, IsClosed, no_connections}
use Rattle.nc_script.specs.Runs.{DoesAll, Runs}
use Rattle.nc_script.specs.Steps.{Begun, Does, IsBad, IsDue, clock_at}
use Rattle.nc_script.specs.inner.Entering.{Breaks}
use Rattle.nc_script.specs.inner.Talking.{Stands}
use Rattle.nc_script.specs.inner.Tallies.{Tallied}
use Rattle.nc_script.specs.declared.fault.ScriptFault.{ScriptFault}
use Rattle.nc_script.specs.declared.fault.ScriptFault.TheVariants.{BadStep, Spent as ScriptSpent, Memory as ScriptMemory}
use Rattle.nc_script.specs.declared.fault.StepFault.{StepFault}
use Rattle.nc_script.specs.declared.fault.StepFault.TheVariants.{Bad, Spent, Memory}
use Rattle.nc_script_text.specs.declared.step.ScriptStep.{ScriptStep}
use Rattle.nc_script.specs.declared.talks.Talks.{Talks}
use Rattle.nc_script.specs.declared.tally.Tally.{Tally}

-- the numbers of connections, in the order in which they began
abbrev pub numbers : List Connection → List ℕ
numbers connections = map (λ c. c.number) connections

-- a number stands at that place, and nowhere else
pub record StandsAt (numbers : List ℕ) (number place : ℕ) : Type 0 where
  pub front : List ℕ
  pub behind : List ℕ
  pub numbers_are : numbers ≡ front ++ number ∷ behind
  pub place_is : length front ≡ place
  pub before : All (λ n. n ≢ number) front
  pub after : All (λ n. n ≢ number) behind

-- where a number stands, or that it stands nowhere
abbrev pub IsPlace : List ℕ → ℕ → Option ℕ → Type 0
IsPlace numbers number None = All (λ n. n ≢ number) numbers
IsPlace numbers number (Some place) = StandsAt numbers number place

-- each connection is found by its number
pub record StandFor (schema : Tables) (talks : Talks) (board : Board) : Type 0 where
  pub each : AllZip (Stands schema) talks.talks.items board.connections
  pub places : (number : ℕ) → IsPlace (numbers board.connections) number (tree.get nat_cmp talks.places number)
  pub now_is : board.now ≡ talks.clock
  pub low : talks.clock ≤ last_reading

-- a connection of that number, which the script has not ended, stands at that place
pub record IsOpenAt (number place : ℕ) (connections : List Connection) : Type 0 where
  pub front : List Connection
  pub behind : List Connection
  pub connection : Connection
  pub connections_are : connections ≡ front ++ connection ∷ behind
  pub place_is : length front ≡ place
  pub number_is : connection.number ≡ number
  pub unended : connection.is_over ≡ false

-- the place of the open connection of a number, among so many, or that each of that number is closed
abbrev pub FindsOpen : ℕ → List Connection → ℕ → Option ℕ → Type 0
FindsOpen number connections many None = IsClosed number connections
FindsOpen number connections many (Some place) = IsOpenAt number place connections × (place < many)

-- a connection more is kept
pub record Puts (schema : Tables) (old new : Talks) (board : Board) (c : Connection) : Type 0 where
  pub stand : StandFor schema new (record board { connections = board.connections ++ c ∷ [] })
  pub tally : new.tally ≡ old.tally

-- a step was done
pub record IsDone {K : Type 0} (words : Lasting K) (schema : Tables) (step : ScriptStep) (board : Board)
    (old new : Serving K) (talks : Talks) (told : Tally) : Type 0 where
  pub next : Board
  pub group : List Entry
  pub does : Does step board group next
  pub made : GoesOn words old new group
  pub stand : StandFor schema talks next
  pub tallied : Tallied told talks.tally group

-- what was entered of a step that ended early: where the machine is spent, a further entry is due
abbrev pub EndsEarly : StepFault → Board → ScriptStep → List Entry → Type 0
EndsEarly Spent board step part = IsDue board step part
EndsEarly fault board step part = Begun board step part

-- a step ended early
pub record IsBroken {K : Type 0} (words : Lasting K) (step : ScriptStep) (board : Board) (old new : Serving K)
    (fault : StepFault) : Type 0 where
  pub part : List Entry
  pub early : EndsEarly fault board step part
  pub breaks : Breaks words (clock_at step board) old new fault part

-- what a step came to
pub data StepsTo {K : Type 0} (words : Lasting K) (schema : Tables) (step : ScriptStep) (board : Board)
    (old new : Serving K) (talks : Talks) (told : Tally) : Result (Unit {0}) StepFault → Type 0 where
  WasDone : (u : Unit {0}) → IsDone words schema step board old new talks told
      → StepsTo words schema step board old new talks told (Ok u)
  WasBadStep : IsBad step board → new ≡ old → StepsTo words schema step board old new talks told (Err Bad)
  HadNoNumber : IsBroken words step board old new Spent → StepsTo words schema step board old new talks told (Err Spent)
  HadNoMemory : IsBroken words step board old new Memory
      → StepsTo words schema step board old new talks told (Err Memory)

-- no reply was counted
abbrev pub nothing : Tally
nothing = record { ok = 0; errors = 0 }

-- the steps were done
pub record HasDone {K : Type 0} (words : Lasting K) (schema : Tables) (script : List ScriptStep)
    (old new : Serving K) (talks : Talks) : Type 0 where
  pub entries : List Entry
  pub board : Board
  pub does : DoesAll script no_connections entries board
  pub made : GoesOn words old new entries
  pub stand : StandFor schema talks board
  pub tallied : Tallied nothing talks.tally entries

-- how a script ends whose step in that place ended so
abbrev pub Faults : StepFault → ℕ → ScriptFault → Type 0
Faults Bad n fault = fault ≡ BadStep n
Faults Spent n fault = fault ≡ ScriptSpent n
Faults Memory n fault = fault ≡ ScriptMemory

-- all steps were done, or a script ended early
abbrev pub Returns : {K : Type 0} → Lasting K → List ScriptStep → Serving K → Serving K → Result Talks ScriptFault
    → Type 0
Returns words script old new (Ok talks) = HasDone words old.state.schema script old new talks
Returns words script old new (Err fault) = Runs words script old new (Err fault)
