-- What becomes of the state in one event, apart from the machine's count and its keeper.
use Rattle.std.specs.Prelude.{◌≡◌, ◌≤◌, ◌⊎◌, ℕ, Bool, List, [], Option, Some, None, IfSome, Result, Ok, Err}
use Rattle.nc_names.specs.Counts.{Rose}
use Rattle.nc_names.specs.declared.cause.CauseKind.TheVariants.{DiskFault}
use Rattle.nc_names.specs.declared.memory.Memory.{Memory}
use Rattle.nc_names.specs.declared.path.Row.{Row}
use Rattle.nc_schema.specs.Tables.{Tables}
use Rattle.nc_model.specs.declared.entry.Entry.{Entry}
use Rattle.nc_model.specs.declared.event.Event.{Event}
use Rattle.nc_model.specs.declared.event.Event.TheVariants.{Request as Requested}
use Rattle.nc_model.specs.declared.event.Outcome.{Outcome}
use Rattle.nc_model.specs.declared.event.Outcome.TheVariants.{Answered}
use Rattle.nc_protocol.specs.declared.request.Request.{Request}
use Rattle.nc_protocol.specs.declared.verdict.Verdict.{Verdict}
use Rattle.nc_protocol.specs.declared.verdict.Verdict.TheVariants.{Done}
use Rattle.nc_model.specs.Access.{sees_of}
use Rattle.nc_protocol.specs.Reply.{reply_of}
use Rattle.nc_model.specs.State.{State, base_of}
use Rattle.nc_model.specs.Step.{CountsFaults, Fits, changed, committed, has_failed, next, outcome_of, reaches_disk}
use Rattle.nc_protocol.specs.Refusals.{refused_for}
use Rattle.nc_machine.specs.Lasting.{Lasting, LeavesStanding}

-- a keeper keeps what the state says: it reads by the state's schema, where it has one; its base is what running is
-- once no commit is pending; that or what is in doubt is what a crash leaves; and the faults are its own
pub record IsKeeping {K : Type 0} (schema : K → Option Tables) (base : K → List Row) (failures : K → ℕ)
    (words : Lasting K) (s : State) (keeper : K) : Type 0 where
  pub schema_is : IfSome (schema keeper) (λ tables. tables ≡ s.schema)
  pub kept : base keeper ≡ base_of s
  pub stands : LeavesStanding base words keeper
  pub faults : failures keeper ≡ s.faults

-- whether the disk failed, where there is an answer
abbrev pub failed_in : Result Outcome Memory → Option Bool
failed_in (Ok outcome) = Some (has_failed outcome)
failed_in (Err memory) = None

-- what a keeper keeps is as before
pub record LeavesKept (old new : State) : Type 0 where
  pub schema_is : new.schema ≡ old.schema
  pub base_is : base_of new ≡ base_of old
  pub faults_is : new.faults ≡ old.faults

-- an entry of that number, event and reading fits the old state and leaves the new one
pub record Enters (old new : State) (number : ℕ) (event : Event) (at : ℕ) (e : Entry) : Type 0 where
  pub event_is : e.event ≡ event
  pub at_is : e.at ≡ at
  pub number_is : e.number ≡ number
  pub fits : Fits old e
  pub state_is : new ≡ next old e

-- what comes of a session's request, where the clock was read before
pub record Answers (old new : State) (session : ℕ) (request : Request) (outcome : Outcome) : Type 0 where
  pub outcome_is : outcome ≡ outcome_of old (Requested session request) (has_failed outcome)
  pub faults : CountsFaults (reaches_disk old (Requested session request)) (has_failed outcome) old.faults new.faults
  pub state_is : new ≡ record (changed old (Requested session request) outcome) { faults = new.faults }

-- what is answered to a session's request: a verdict, and the reply that tells it
unfoldable pub answered_by : State → ℕ → Request → Verdict → Outcome
answered_by s session request verdict = Answered verdict (reply_of s.schema (sees_of s session) request verdict)

-- the candidate is kept and running
pub record IsKept (old new : State) (session : ℕ) (request : Request) (outcome : Outcome) : Type 0 where
  pub outcome_is : outcome ≡ answered_by old session request Done
  pub faults : old.faults ≤ new.faults
  pub state_is : new ≡ record (committed old None) { faults = new.faults }

-- the disk failed, and all is as before
pub record IsNotKept (old new : State) (session : ℕ) (request : Request) (outcome : Outcome) : Type 0 where
  pub outcome_is : outcome ≡ answered_by old session request (refused_for DiskFault [])
  pub faults : Rose old.faults new.faults
  pub state_is : new ≡ record old { faults = new.faults }

-- a commit that nothing but the disk makes fail
abbrev pub Commits : State → State → ℕ → Request → Result Outcome Memory → Type 0
Commits old new session request (Ok outcome) =
    IsKept old new session request outcome ⊎ IsNotKept old new session request outcome
Commits old new session request (Err memory) = new ≡ old
