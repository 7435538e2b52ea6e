-- What a server makes of its events, and a session that it serves alone.
use Rattle.std.specs.Prelude.{◌≡◌, ◌≢◌, ◌≤◌, ◌+◌, ◌-◌, ◌^◌, ℕ, min, true, List, [], ◌++◌, length, IfSome}
use Rattle.nc_names.specs.Limits.{most_requests}
use Rattle.nc_machine.specs.Seats.{TellsReadings}
use Rattle.nc_model.specs.Desks.{Home, own_of}
use Rattle.nc_model.specs.History.{IsLegal, after}
use Rattle.nc_model.specs.State.{IsGood, State}
use Rattle.nc_model.specs.declared.entry.Entry.{Entry}
use Rattle.nc_protocol.specs.declared.peer.Peer.{Peer}
use Rattle.nc_outside.specs.Streams.{Streams}
use Rattle.nc_session.specs.Serves.{Serves, called}
use Rattle.nc_session.specs.declared.end.SessionEnd.{SessionEnd}
use Rattle.nc_session.specs.declared.end.SessionEnd.TheVariants.{Full, Killed}
use Rattle.nc_device.specs.Outside.{Times}

-- what a session has of the outside: its source and its sink, and the clock
pub record Sitting : Type 0 where
  pub streams : Streams
  pub times : Times

-- that, of its parts
abbrev pub sitting : Streams → Times → Sitting
sitting streams times = record { streams = streams; times = times }

-- A server has made this history: it is legal from the server's first state, and at each moment of it the state is
-- good, so that running is a valid configuration; it counts so many disk faults at the end; its readings are the
-- answers of the clock since then, one for each entry and in order; and so much of it lasts over a crash.
pub record HasMade (first : State) (failed : ℕ) (Lasts : List Entry → Type 0) (before now : Times) (seen : List Entry) :
    Type 0 where
  pub legal : IsLegal 0 first seen
  pub good : (front rest : List Entry) → seen ≡ front ++ rest → IsGood (after first front)
  pub faults : (after first seen).faults ≡ failed
  pub few : length seen ≤ most_requests
  pub answers : now.answers ≡ min (before.answers + length seen) (2 ^ 64 - 1)
  pub readings : IfSome now.given (TellsReadings before.given seen)
  pub lasts : Lasts seen

-- and of its entries these are no readings of the clock
pub record HasMadeAlone (first : State) (failed : ℕ) (Lasts : List Entry → Type 0) (before now : Times)
    (seen mine : List Entry) : Type 0 where
  pub made : HasMade first failed Lasts before now seen
  pub own : mine ≡ own_of seen

-- where the history of a server begins that has no other desk and made no entry yet
pub record IsHomeAt (first : State) (before : Times) (home : Home) : Type 0 where
  pub opening_is : home.opening ≡ first
  pub answers_is : home.answers ≡ before.answers
  pub heard_is : home.heard ≡ before.given
  pub alone_is : home.alone ≡ true

-- The session of that peer was served whole, at a server of its own: no other session can end it, and there is a place
-- for it.
pub record IsServed (first : State) (failed : ℕ) (Lasts : List Entry → Type 0) (peer : Peer) (before now : Sitting)
    (end : SessionEnd) : Type 0 where
  pub home : Home
  pub begins : IsHomeAt first before.times home
  pub serves : Serves first.schema (called peer home [] [] before.streams)
      (HasMadeAlone first failed Lasts before.times now.times) (λ ticket. ticket ≡ most_requests) now.streams end
  pub lives : end ≢ Killed
  pub has_place : (live last : ℕ) → end ≢ Full live last
