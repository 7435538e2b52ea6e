-- What is shared, its passes and its desks as contracts see them.
use Rattle.std.specs.Prelude.{◌≡◌, ◌≤◌, ℕ, List, ◌∷◌, ◌++◌, length, Option}
use Rattle.atomic_table.specs.Seated.{TableId}
use Rattle.nc_names.specs.Limits.{most_requests}
use Rattle.nc_model.specs.declared.entry.Entry.{Entry}
use Rattle.nc_model.specs.Desks.{Home, last_ticket}
use Rattle.nc_model.specs.History.{IsLegal, IsMineIn}
use Rattle.nc_turn.specs.Passes.{Pass, view, first_of, IsOf, IsIdle}
use Rattle.nc_shared.specs.declared.held.Held.{Held}
use Rattle.nc_shared.specs.declared.shared.Shared.{Shared}
use Rattle.nc_machine.specs.Serving.{Serving}
use Rattle.nc_shared.specs.Holding.{began_with, bare_home}

-- which table it is, as numbers
abbrev pub place_of : TableId → List ℕ
place_of z = z.words ∷ z.slots ∷ z.views_name ∷ z.atom ∷ z.block ∷ z.offset ∷ z.slot_names

-- a desk: the table and the home of its turn, and of its pass the parts, the largest number found at the tickets, what
-- it has seen, what was entered with it, and what was entered with it or with one that was joined to it
pub record Chair : Type 0 where
  pub table : TableId
  pub home : Home
  pub parts : ℕ
  pub found : ℕ
  pub seen : List Entry
  pub mine : List Entry
  pub gathered : List Entry

module _ {K C A : Type 0} where
  -- the machine as it was handed in
  abbrev pub began_of : Shared (Held K C A) → Serving K
  began_of shared = began_with (first_of shared.turn)

  -- where the history of a shared machine begins, whose clock tells that, whatever desk it is
  abbrev pub home_of : (C → Option (List ℕ)) → Shared (Held K C A) → Home
  home_of given shared = bare_home given (first_of shared.turn)

-- `home` is where the history of each value begins
module _ {T : Type 0} (home : T → Home) where
  -- the pass is one of this turn, and has no ticket
  pub record IsPassOf (shared : Shared T) (pass : Pass T) : Type 0 where
    pub of : IsOf home shared.turn pass
    pub idle : IsIdle pass

  -- the desk of a pass
  abbrev pub chair_of : Shared T → Pass T → Chair
  chair_of shared pass = record {
    table = pass.table_id;
    home = home (first_of shared.turn);
    parts = (view pass).parts;
    found = (view pass).found;
    seen = (view pass).seen;
    mine = (view pass).mine;
    gathered = (view pass).gathered;
  }

  -- the pass with which somebody left a desk
  pub record IsLeft (chair : Chair) (pass : Pass T) : Type 0 where
    pub shared : Shared T
    pub of : IsPassOf shared pass
    pub chair_is : chair ≡ chair_of shared pass

-- where the history of a desk begins, and which desk it is: the parts of the pass, and the turn's home and table
abbrev pub desk_home : Chair → Home
desk_home chair = record chair.home {
  place = chair.parts ∷ length chair.home.place ∷ (chair.home.place ++ place_of chair.table);
}

-- a desk stands for what its pass has seen, and for what was entered with it; no other pass was joined to that
pub record ChairStands (chair : Chair) (home : Home) (seen mine : List Entry) : Type 0 where
  pub home_is : home ≡ desk_home chair
  pub seen_is : seen ≡ chair.seen
  pub mine_is : mine ≡ chair.mine
  pub alone : chair.gathered ≡ chair.mine
  pub legal : IsLegal 0 chair.home.opening chair.seen
  pub own : IsMineIn chair.mine chair.seen
  pub few : length chair.seen ≤ most_requests

-- no ticket is left
abbrev pub ChairSpent : Chair → ℕ → Type 0
ChairSpent chair ticket = (ticket ≡ last_ticket) × (chair.found ≡ last_ticket)
