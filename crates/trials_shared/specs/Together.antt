-- What two sessions leave that were served in threads of their own: one history, and what each has of it.
use Rattle.std.specs.Prelude.{◌≡◌, ℕ, List, [], Option}
use Rattle.nc_outside.specs.Streams.{Streams, streams}
use Rattle.nc_schema.specs.Tables.{Tables}
use Rattle.nc_model.specs.declared.entry.Entry.{Entry}
use Rattle.nc_model.specs.Desks.{Home, last_ticket}
use Rattle.nc_model.specs.History.{IsMineIn}
use Rattle.nc_protocol.specs.declared.peer.Peer.{Peer}
use Rattle.nc_machine.specs.Lasting.{Lasting}
use Rattle.nc_machine.specs.Seats.{Seat}
use Rattle.nc_machine.specs.Serving.{Serving}
use Rattle.nc_turn.specs.Views.{AreApart, Begins}
use Rattle.nc_session.specs.declared.end.SessionEnd.{SessionEnd}
use Rattle.nc_session.specs.Serves.{Serves, called}
use Rattle.nc_shared.specs.Holding.{SeatStands}
use Rattle.trials_shared.specs.declared.two.Client.{Client}
use Rattle.trials_shared.specs.declared.two.Over.{Over}

-- a session that was served: for whom, what its source and its sink told before and afterwards, and its end
pub record Sitting : Type 0 where
  pub peer : Peer
  pub before : Streams
  pub now : Streams
  pub end : SessionEnd

-- what sources of the one type and sinks of the other tell
pub record Tells (S T : Type 0) : Type 0 where
  pub left : S → Option (List ℕ)
  pub ends : S → ℕ
  pub reads_failed : S → ℕ
  pub taken : T → Option (List ℕ)
  pub writes_failed : T → ℕ

module _ {S T : Type 0} where
  abbrev pub tells : (S → Option (List ℕ)) → (S → ℕ) → (S → ℕ) → (T → Option (List ℕ)) → (T → ℕ) → Tells S T
  tells left ends reads_failed taken writes_failed = record {
    left = left;
    ends = ends;
    reads_failed = reads_failed;
    taken = taken;
    writes_failed = writes_failed;
  }

  abbrev pub told : Tells S T → S → T → Streams
  told t source sink =
      streams (t.left source) (t.ends source) (t.reads_failed source) (t.taken sink) (t.writes_failed sink)

  -- the session of a client, once it is over
  abbrev pub sitting : Tells S T → Client S T → Over S T → Sitting
  sitting t client over = record {
    peer = client.peer;
    before = told t client.source client.sink;
    now = told t over.source over.sink;
    end = over.end;
  }

-- a session was served at a desk, which went on from the old to the new
abbrev pub WasServed : {Q : Type 0} → (Q → Home → List Entry → List Entry → Type 0) → (Q → ℕ → Type 0) → Tables →
    Sitting → Q → Q → Type 0
WasServed Stands IsSpent schema sat old new =
    (home : Home) (seen mine : List Entry) → Stands old home seen mine →
    Serves schema (called sat.peer home seen mine sat.before) (Stands new home) (IsSpent new) sat.now sat.end

-- a session in a history of several: its desk has a place among those that share it, and has seen a beginning of it;
-- the session is served whole, and its entries are these, which stand in the history in their order
pub record IsSessionIn (schema : Tables) (home : Home) (sat : Sitting) (history mine : List Entry) : Type 0 where
  pub place : List ℕ
  pub own : IsMineIn mine history
  pub serves : Serves schema (called sat.peer (record home { place = place }) [] [] sat.before)
      (λ seen entries. Begins seen history × (entries ≡ mine)) (λ ticket. ticket ≡ last_ticket) sat.now sat.end

-- there is one history, legal from the home, by which the machine went on and for which its clock stands; both sessions
-- are in it, and no entry is of both
pub record AreTogether {K : Type 0} (words : Lasting K) (began : Serving K) (schema : Tables) (home : Home)
    (seat : Seat K) (one other : Sitting) : Type 0 where
  pub history : List Entry
  pub mine : List Entry
  pub theirs : List Entry
  pub stands : SeatStands words began seat home history
  pub first : IsSessionIn schema home one history mine
  pub second : IsSessionIn schema home other history theirs
  pub apart : AreApart mine theirs
