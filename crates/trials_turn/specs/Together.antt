-- What two threads leave: one history, and what each entered of it.
use Rattle.std.specs.Prelude.{◌≡◌, ℕ, List, length}
use Rattle.std.specs.List.{All}
use Rattle.nc_model.specs.declared.entry.Entry.{Entry}
use Rattle.nc_model.specs.declared.event.Event.{Event}
use Rattle.nc_model.specs.declared.event.Event.TheVariants.{End}
use Rattle.nc_model.specs.History.{IsLegal, IsMineIn}
use Rattle.nc_turn.specs.Passes.{Pass, IsOf, IsIdle}
use Rattle.nc_turn.specs.declared.turn.Turn.{Turn}
use Rattle.nc_turn.specs.Views.{AreApart}
use Rattle.trials_turn.specs.Counting.{counter_home, Counts}
use Rattle.trials_turn.specs.declared.counter.Counter.{Counter}

-- entries of the ends of one session
abbrev pub AreOf : ℕ → List Entry → Type 0
AreOf session mine = All (λ e. e.event ≡ End session) mine

-- so many entries of one session, in a history
pub record IsWork (session count : ℕ) (history mine : List Entry) : Type 0 where
  pub own : IsMineIn mine history
  pub count_is : length mine ≡ count
  pub session_is : AreOf session mine

-- one legal history, for which the counter stands; in it are what the one entered and what the other did, and no entry
-- is of both
pub record IsTogether (one other first second : ℕ) (counter : Counter) : Type 0 where
  pub history : List Entry
  pub mine : List Entry
  pub theirs : List Entry
  pub legal : IsLegal 0 counter_home.opening history
  pub counts : Counts counter history
  pub work : IsWork one first history mine
  pub other_work : IsWork other second history theirs
  pub apart : AreApart mine theirs

-- one legal history, for which the counter stands
pub record IsAlone (counter : Counter) : Type 0 where
  pub history : List Entry
  pub legal : IsLegal 0 counter_home.opening history
  pub counts : Counts counter history

-- a pass of that turn that has no ticket
pub record IsPassOf (turn : Turn Counter) (pass : Pass Counter) : Type 0 where
  pub of : IsOf (λ (x : Counter). counter_home) turn pass
  pub idle : IsIdle pass
