-- What a clause says of a turn and of its passes.
use Rattle.std.specs.Prelude.{◌≡◌, ◌≤◌, ◌<◌, ◌+◌, ℕ, Bool, true, false, List, [], ◌∷◌, ◌++◌, length, Option, Some, None}
use Rattle.atomic_table.specs.declared.shared.Seat.{Seat}
use Rattle.nc_names.specs.Limits.{most_requests}
use Rattle.nc_model.specs.declared.desk.Spent.{Spent}
use Rattle.nc_model.specs.declared.entry.Entry.{Entry}
use Rattle.nc_model.specs.Desks.{Home, last_ticket}
use Rattle.nc_model.specs.History.{IsLegal, IsMineIn}
use Rattle.nc_turn.specs.declared.turn.Turn.{Turn}
use Rattle.nc_turn.specs.declared.view.View.{View}
use Rattle.nc_turn.specs.Views.{Begins, AreApart, longer}

-- a seat of the turn
abbrev pub Pass : Type 0 → Type 0
Pass T = Seat (Option T) (View T)

module _ {T : Type 0} where
  abbrev pub view : Pass T → View T
  view pass = pass.me.0

  -- the value with which the turn was made
  abbrev pub first_of : Turn T → T
  first_of turn = turn.table.shared.key.value

  -- a pass of this turn
  pub record IsAt (home : T → Home) (turn : Turn T) (pass : Pass T) : Type 0 where
    pub table : pass.table_id ≡ turn.table.shared.table_id
    pub value : T
    pub first : (view pass).first ≡ Some value
    pub same : home value ≡ home (first_of turn)
    pub live : 0 < (view pass).parts

  -- it has seen a legal history from the turn's home, in which its own entries stand
  pub record IsOf (home : T → Home) (turn : Turn T) (pass : Pass T) : Type 0 where
    pub at : IsAt home turn pass
    pub legal : IsLegal 0 (home (first_of turn)).opening (view pass).seen
    pub own : IsMineIn (view pass).mine (view pass).seen
    pub few : length (view pass).seen ≤ most_requests

  -- it has no ticket
  pub record IsIdle (pass : Pass T) : Type 0 where
    pub none : pass.me.1 ≡ []
    pub ticket : (view pass).ticket ≡ None
    pub holds : (view pass).holds ≡ false

  -- it has the turn, and the value is out of the slot
  pub record IsHolding (pass : Pass T) : Type 0 where
    pub slot : pass.me.1 ≡ (0, None) ∷ []
    pub holds : (view pass).holds ≡ true

  -- it is the same pass, with the same parts and the same entries of its own, and of those that it gathered
  pub record IsSamePass (old new : Pass T) : Type 0 where
    pub table : new.table_id ≡ old.table_id
    pub id : new.id ≡ old.id
    pub first : (view new).first ≡ (view old).first
    pub parts : (view new).parts ≡ (view old).parts
    pub mine : (view new).mine ≡ (view old).mine
    pub gathered : (view new).gathered ≡ (view old).gathered

  -- the value came to this pass, which has seen all of the history, for which the value stands
  pub record HasTaken (home : T → Home) (stands : T → List Entry → Type 0) (turn : Turn T) (old new : Pass T)
      (value : T) : Type 0 where
    pub same : IsSamePass old new
    pub holds : IsHolding new
    pub wrote : (view new).wrote ≡ 0
    pub fits : stands value (view new).seen
    pub begins : Begins (view old).seen (view new).seen
    pub home_is : home value ≡ home (first_of turn)
    pub few : length (view new).seen + 2 ≤ most_requests

  -- no ticket was left, and nothing else happened
  pub record IsSpent (old new : Pass T) (spent : Spent) : Type 0 where
    pub same : IsSamePass old new
    pub idle : IsIdle new
    pub seen : (view new).seen ≡ (view old).seen
    pub number : spent.ticket ≡ last_ticket
    pub found : (view new).found ≡ last_ticket

  -- the first pass has what both knew and gathered, of which the longer history goes on from the other
  pub record HasJoined (old other new : Pass T) : Type 0 where
    pub table : new.table_id ≡ old.table_id
    pub id : new.id ≡ old.id
    pub first : (view new).first ≡ (view old).first
    pub parts : (view new).parts ≡ (view old).parts + (view other).parts
    pub mine : (view new).mine ≡ (view old).mine
    pub gathered : (view new).gathered ≡ (view old).gathered ++ (view other).gathered
    pub seen : (view new).seen ≡ longer (view old).seen (view other).seen
    pub begins : Begins (view old).seen (view new).seen
    pub goes_on : Begins (view other).seen (view new).seen
    pub apart : AreApart (view old).mine (view other).mine
    pub slot : new.me.1 ≡ old.me.1
    pub ticket : (view new).ticket ≡ (view old).ticket
    pub holds : (view new).holds ≡ (view old).holds
    pub wrote : (view new).wrote ≡ (view old).wrote
