-- One entry of a script.
use Rattle.std.specs.Prelude.{◌≡◌, ◌≤◌, ◌+◌, ℕ, List, [], ◌∷◌, ◌++◌, Result, Ok, Err}
use Rattle.nc_names.specs.Limits.{most_requests}
use Rattle.nc_machine.specs.Serving.{GoesOn, Serving}
use Rattle.nc_machine.specs.Lasting.{Lasting}
use Rattle.nc_model.specs.declared.entry.Entry.{Entry}
use Rattle.nc_model.specs.declared.event.Event.{Event}
use Rattle.nc_model.specs.declared.event.Event.TheVariants.{Reading}
use Rattle.nc_model.specs.Step.{Fits}
use Rattle.nc_script.specs.Runs.{MayRead}
use Rattle.nc_script.specs.declared.fault.StepFault.{StepFault}
use Rattle.nc_script.specs.declared.fault.StepFault.TheVariants.{Bad, Spent, Memory}

-- an entry of the event was made, at that reading
pub record IsEntered {K : Type 0} (words : Lasting K) (old new : Serving K) (event : Event) (at : ℕ)
    (e : Entry) : Type 0 where
  pub event_is : e.event ≡ event
  pub at_is : e.at ≡ at
  pub fits : Fits old.state e
  pub made : GoesOn words old new (e ∷ [])
  pub few : new.count ≤ most_requests

-- an event is entered, or the machine is spent, or the reading of the clock is entered
abbrev pub Comes : {K : Type 0} → Lasting K → Serving K → Serving K → Event → ℕ → Result Entry StepFault → Type 0
Comes words old new event at (Ok e) = IsEntered words old new event at e
Comes words old new event at (Err Spent) = (new ≡ old) × (old.count ≡ most_requests)
Comes words old new event at (Err Memory) = (e : Entry) × IsEntered words old new Reading at e
Comes words old new event at (Err Bad) = ⊥

-- one entry more was made, for which there was a number
pub record CountsOne {K : Type 0} (old new : Serving K) : Type 0 where
  pub one : new.count ≡ old.count + 1
  pub few : new.count ≤ most_requests

-- the machine was spent, where that is the fault, and then nothing was read
abbrev pub TellsFault : {K : Type 0} → Serving K → List Entry → StepFault → Type 0
TellsFault new last Spent = (last ≡ []) × (new.count ≡ most_requests)
TellsFault new last Memory = Unit {0}
TellsFault new last Bad = ⊥

-- a step ends early, after a part of its entries
pub record Breaks {K : Type 0} (words : Lasting K) (at : ℕ) (old new : Serving K) (fault : StepFault)
    (part : List Entry) : Type 0 where
  pub last : List Entry
  pub made : GoesOn words old new (part ++ last)
  pub read : MayRead at last
  pub tells : TellsFault new last fault
