-- A shared machine that gives desks.
use Rattle.std.specs.Prelude.{◌≡◌, ◌≤◌, ◌-◌, ℕ, false, List, [], Option}
use Rattle.nc_model.specs.declared.entry.Entry.{Entry}
use Rattle.nc_model.specs.Desks.{Home}
use Rattle.nc_model.specs.State.{State}
use Rattle.nc_machine.specs.Lasting.{Lasting}
use Rattle.nc_machine.specs.Seats.{Seat}
use Rattle.nc_machine.specs.Serving.{Serving}
use Rattle.nc_server.specs.Homes.{HaveNoRecovery}
use Rattle.nc_turn.specs.Passes.{Pass, view}
use Rattle.nc_turn.specs.Views.{all_parts}
use Rattle.nc_shared.specs.declared.shared.Shared.{Shared}
use Rattle.nc_shared.specs.Holding.{SeatStands}
use Rattle.nc_shared.specs.Chairs.{IsPassOf, chair_of, desk_home}

-- the home of every desk that is given, which has one part, and how many are out
pub record Office : Type 0 where
  pub home : Home
  pub out : ℕ

-- a pass with one part in place of those that it has
abbrev pub as_one : {T : Type 0} → Pass T → Pass T
as_one pass = record pass { me = (record (view pass) { parts = 1 }, pass.me.1) }

module _ {T : Type 0} (home : T → Home) where
  -- the pass of which desks are split off, each with one part
  abbrev pub office_of : Shared T → Pass T → Office
  office_of shared pass = record {
    home = desk_home (chair_of home shared (as_one pass));
    out = all_parts - (view pass).parts;
  }

  -- the pass of which desks are split off: what was entered at those that were given back begins no recovery session
  pub record IsOffice (shared : Shared T) (pass : Pass T) : Type 0 where
    pub of : IsPassOf home shared pass
    pub few : (view pass).parts ≤ all_parts
    pub plain : HaveNoRecovery (view pass).gathered

  -- the pass that is left once desks are no longer given
  pub record IsFinished (office : Office) (pass : Pass T) : Type 0 where
    pub shared : Shared T
    pub of : IsPassOf home shared pass
    pub few : (view pass).parts ≤ all_parts
    pub plain : HaveNoRecovery (view pass).gathered
    pub office_is : office ≡ office_of shared pass

-- where a history begins that a machine in that state makes, whose clock has answered so often and so. It is not alone,
-- and says nothing of crashes
abbrev pub home_at : State → ℕ → Option (List ℕ) → Home
home_at opening answers heard = record {
  opening = opening;
  answers = answers;
  heard = heard;
  alone = false;
  place = [];
  begun = 0;
  start = 0;
  among = [];
}

-- there is one history, legal from that home, for which the machine and its clock stand, and by which the machine went
-- on from what it was; none of its entries begins a recovery session
pub record HasServed {K : Type 0} (words : Lasting K) (began : Serving K) (seat : Seat K) (home : Home) : Type 0 where
  pub history : List Entry
  pub stands : SeatStands words began seat home history
  pub plain : HaveNoRecovery history
