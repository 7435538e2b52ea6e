-- What a machine is to contracts, and what each event makes of it.
use Rattle.std.specs.Prelude.{◌≡◌, ◌≤◌, ◌+◌, ℕ, Bool, List, [], ◌∷◌, ◌++◌, Option, Some, None, IfSome, Result, Ok, Err, Contains, length}
use Rattle.nc_names.specs.Limits.{most_requests}
use Rattle.nc_names.specs.declared.memory.Memory.{Memory}
use Rattle.nc_names.specs.declared.path.Row.{Row}
use Rattle.nc_schema.specs.Tables.{Tables}
use Rattle.nc_model.specs.declared.entry.Entry.{Entry}
use Rattle.nc_model.specs.declared.event.Event.{Event}
use Rattle.nc_model.specs.declared.event.Event.TheVariants.{Reading}
use Rattle.nc_model.specs.declared.event.Outcome.TheVariants.{Noted}
use Rattle.nc_model.specs.Desks.{Home, SurvivesFrom}
use Rattle.nc_model.specs.History.{IsLegal, after, in_doubt}
use Rattle.nc_model.specs.State.{State, IsGood, base_of, expired}
use Rattle.nc_model.specs.Step.{Fits, has_failed, next}
use Rattle.nc_machine.specs.Lasting.{Lasting, LeavesStanding}

-- the state of the server, how many entries were made, and what keeps the running configuration
pub record Serving (K : Type 0) : Type 0 where
  pub state : State
  pub count : ℕ
  pub keeper : K

-- the event becomes an entry with that reading of the clock: it has the old count as its number and fits the state, and
-- the new state is the one that it leaves
pub record Makes {K : Type 0} (old new : Serving K) (event : Event) (at : ℕ) (e : Entry) : Type 0 where
  pub event_is : e.event ≡ event
  pub at_is : e.at ≡ at
  pub number_is : e.number ≡ old.count
  pub fits : Fits old.state e
  pub state_is : new.state ≡ next old.state e
  pub count_is : new.count ≡ old.count + 1

-- the clock was read, and nothing else happened
pub record IsRead {K : Type 0} (old new : Serving K) (at : ℕ) : Type 0 where
  pub state_is : new.state ≡ expired old.state at
  pub count_is : new.count ≡ old.count + 1
  pub keeper_is : new.keeper ≡ old.keeper

-- the entry of a reading of the clock
abbrev pub read_entry : {K : Type 0} → Serving K → ℕ → Entry
read_entry old at = record {
  number = old.count;
  at = at;
  event = Reading;
  outcome = Noted;
  faults_before = old.state.faults;
  faults_after = old.state.faults;
}

-- the entry that an event becomes: a reading of the clock where no memory was found
abbrev pub entry_made : {K : Type 0} → Serving K → ℕ → Result Entry Memory → Entry
entry_made old at (Ok e) = e
entry_made old at (Err memory) = read_entry old at

-- whether the disk failed, where an event became an entry
abbrev pub failed_of : Result Entry Memory → Option Bool
failed_of (Ok e) = Some (has_failed e.outcome)
failed_of (Err memory) = None

-- what holds of a machine at all times, where `schema` is that by which a keeper's next start reads, `base` what it
-- keeps and `failures` how often keeping failed: its state is good; where the keeper has a schema it is the machine's;
-- what is kept is what running is once no commit is pending, and that or what is in doubt is what a crash leaves; and
-- the faults are the keeper's
pub record IsSound {K : Type 0} (schema : K → Option Tables) (base : K → List Row) (failures : K → ℕ)
    (words : Lasting K) (machine : Serving K) : Type 0 where
  pub good : IsGood machine.state
  pub schema_is : IfSome (schema machine.keeper) (λ tables. tables ≡ machine.state.schema)
  pub kept : base machine.keeper ≡ base_of machine.state
  pub stands : LeavesStanding base words machine.keeper
  pub faults : failures machine.keeper ≡ machine.state.faults
  pub few : machine.count ≤ most_requests

-- a machine stands for a history that begins at that home: what is in doubt is a commit of it, and it survives a crash
-- at any moment since it began
pub record StandsFor {K : Type 0} (words : Lasting K) (home : Home) (machine : Serving K) (history : List Entry) :
    Type 0 where
  pub legal : IsLegal 0 home.opening history
  pub state_is : machine.state ≡ after home.opening history
  pub count_is : machine.count ≡ length history
  pub doubt_is : IfSome (words.doubt machine.keeper) (Contains (in_doubt home.opening [] history))
  pub survives : SurvivesFrom (words.leaves machine.keeper) (words.moment machine.keeper) home history

-- a history may begin there with this machine: in its state, at its keeper's moment, and since an earlier one a crash
-- leaves what may come back too
pub record IsHomeOf {K : Type 0} (words : Lasting K) (machine : Serving K) (home : Home) : Type 0 where
  pub opening_is : home.opening ≡ machine.state
  pub begun_is : home.begun ≡ words.moment machine.keeper
  pub began : home.start ≤ home.begun
  pub before : words.leaves machine.keeper home.start home.among

-- a machine goes on by these entries: they are legal from its state, and numbered from its count on; its keeper is that
-- at a later moment, and so of whichever the old one was; and for whatever history it stood, it stands for that with
-- these
pub record GoesOn {K : Type 0} (words : Lasting K) (old new : Serving K) (entries : List Entry) : Type 0 where
  pub legal : IsLegal old.count old.state entries
  pub state_is : new.state ≡ after old.state entries
  pub count_is : new.count ≡ old.count + length entries
  pub continues : (first : K) → words.continues first old.keeper → words.continues first new.keeper
  pub stands : (home : Home) (history : List Entry) → StandsFor words home old history →
      StandsFor words home new (history ++ entries)
