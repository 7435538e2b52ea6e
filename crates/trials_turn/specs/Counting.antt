-- What a counter counts: the ends of sessions that were never live, which leave the state as it is.
use Rattle.std.specs.Prelude.{◌≡◌, ℕ, false, [], List, length, None}
use Rattle.nc_model.specs.declared.entry.Entry.{Entry}
use Rattle.nc_schema.specs.Tables.{no_tables}
use Rattle.nc_model.specs.declared.event.Event.TheVariants.{End}
use Rattle.nc_model.specs.declared.event.Outcome.TheVariants.{NotLive}
use Rattle.nc_model.specs.Desks.{Home}
use Rattle.nc_model.specs.History.{after}
use Rattle.nc_model.specs.State.{opening}
use Rattle.trials_turn.specs.declared.counter.Counter.{Counter}

-- a server without modules, before its first event
abbrev pub counter_home : Home
counter_home = record {
  opening = opening no_tables [] 0;
  answers = 0;
  heard = None;
  alone = false;
  place = [];
  begun = 0;
  start = 0;
  among = [];
}

-- the entry of the end of that session, with that number
pub record IsCounted (session number : ℕ) (e : Entry) : Type 0 where
  pub number_is : e.number ≡ number
  pub at_is : e.at ≡ 0
  pub event_is : e.event ≡ End session
  pub outcome_is : e.outcome ≡ NotLive
  pub before_is : e.faults_before ≡ 0
  pub after_is : e.faults_after ≡ 0

-- a counter stands for a history: it has counted its entries, and these have changed nothing
pub record Counts (counter : Counter) (history : List Entry) : Type 0 where
  pub count : counter.count ≡ length history
  pub state : after counter_home.opening history ≡ counter_home.opening
