-- For which histories a machine and its clock stand.
use Rattle.std.specs.Prelude.{◌≡◌, ◌+◌, ◌-◌, ◌^◌, ℕ, min, false, List, [], ◌∷◌, ◌++◌, length, Option, IfSome}
use Rattle.std.specs.Coded.{Coded}
use Rattle.nc_model.specs.declared.entry.Entry.{Entry}
use Rattle.nc_model.specs.declared.event.Event.TheVariants.{Reading}
use Rattle.nc_model.specs.declared.event.Outcome.TheVariants.{Noted}
use Rattle.nc_model.specs.Desks.{Home}
use Rattle.nc_model.specs.History.{IsLegal}
use Rattle.nc_machine.specs.Lasting.{Lasting, name_of}
use Rattle.nc_machine.specs.Seats.{Seat, TellsReadings}
use Rattle.nc_machine.specs.Serving.{GoesOn, Serving}
use Rattle.nc_shared.specs.declared.held.Held.{Held}
use Rattle.nc_shared.specs.declared.reading.ReadAt.{ReadAt}

-- the entry of a reading of the clock
abbrev pub reading_entry : ReadAt → Entry
reading_entry read = record {
  number = read.number;
  at = read.at;
  event = Reading;
  outcome = Noted;
  faults_before = read.faults;
  faults_after = read.faults;
}

-- the machine went on by a history of that home since it was handed in, when it had made no entry: so for whatever home
-- it stood then, it stands for that with the history. Its clock answered once for each entry, with the entry's reading
-- where the clock tells, unless its count stands at its last value
pub record SeatStands {K : Type 0} (words : Lasting K) (began : Serving K) (seat : Seat K) (home : Home)
    (history : List Entry) : Type 0 where
  pub from_is : home.answers ≡ seat.from
  pub none : began.count ≡ 0
  pub opening_is : home.opening ≡ began.state
  pub legal : IsLegal 0 home.opening history
  pub count_is : seat.machine.count ≡ length history
  pub goes_on : GoesOn words began seat.machine history
  pub answers_is : seat.answers ≡ min (seat.from + length history) (2 ^ 64 - 1)
  pub readings : IfSome seat.given (TellsReadings home.heard history)

-- A is the type of what a keeper has made ready
module _ {K C A : Type 0} where
  -- the machine as it was handed in
  abbrev pub began_with : Held K C A → Serving K
  began_with held = held.began.value

  -- where the history begins, whatever place among the desks it has. It says nothing of crashes
  abbrev pub bare_home : (C → Option (List ℕ)) → Held K C A → Home
  bare_home given held = record {
    opening = held.began.value.state;
    answers = held.from;
    heard = given held.heard.value;
    alone = false;
    place = [];
    begun = 0;
    start = 0;
    among = [];
  }

  -- with a place that names the machine that was handed in: two values of one home were handed in with the same
  abbrev pub held_home : Coded K → (C → Option (List ℕ)) → Held K C A → Home
  held_home coded given held = record (bare_home given held) {
    place = held.began.value.count ∷ name_of coded held.began.value.keeper;
  }

  abbrev pub seat_of : (C → ℕ) → (C → Option (List ℕ)) → Held K C A → Seat K
  seat_of count given held = record {
    machine = held.machine;
    answers = count held.clock;
    given = given held.clock;
    from = held.from;
  }

  abbrev pub Stood : Lasting K → (C → ℕ) → (C → Option (List ℕ)) → Held K C A → List Entry → Type 0
  Stood words count given held history =
      SeatStands words (began_with held) (seat_of count given held) (bare_home given held) history

  -- one entry more
  pub record Gains (coded : Coded K) (words : Lasting K) (count : C → ℕ) (given : C → Option (List ℕ))
      (old new : Held K C A) (e : Entry) : Type 0 where
    pub home : held_home coded given new ≡ held_home coded given old
    pub stands : (history : List Entry) → Stood words count given old history →
        Stood words count given new (history ++ e ∷ [])
