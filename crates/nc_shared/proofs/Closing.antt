-- The machine that a turn gives back is the one that was handed in, at a later moment.
use Rattle.std.proofs.Common.{◌≡◌, ℕ, List, [], ap, sym, subst, Option}
use Rattle.std.specs.Coded.{Coded}
use Rattle.nc_model.specs.declared.entry.Entry.{Entry}
use Rattle.nc_model.specs.Desks.{Home}
use Rattle.nc_machine.specs.Lasting.{Lasting}
use Rattle.nc_machine.specs.Seats.{Seat}
use Rattle.nc_machine.specs.Serving.{Serving}
use Rattle.nc_machine.proofs.Names.{named_once}
use Rattle.nc_shared.specs.Chairs.{began_of, home_of}
use Rattle.nc_shared.specs.Holding.{SeatStands, Stood, bare_home, began_with, held_home, seat_of}
use Rattle.nc_shared.specs.declared.held.Held.{Held}
use Rattle.nc_shared.specs.declared.shared.Shared.{Shared}
use Rattle.nc_shared.proofs.SameDesks.{first_same, rest_same}
use Rattle.nc_turn.specs.Passes.{first_of}

-- a home without its place
abbrev unplaced : Home → Home
unplaced home = record home { place = [] }

module _ {K C A : Type 0} (coded : Coded K) (words : Lasting K) (count : C → ℕ) (given : C → Option (List ℕ)) where
  -- two values of one home were handed in with the same machine
  same_began : (one other : Held K C A) → held_home coded given one ≡ held_home coded given other →
      began_with one ≡ began_with other
  same_began one other same =
      let state = ap (λ (h : Home). h.opening) same in
      let place = ap (λ (h : Home). h.place) same in
      let number = first_same (began_with one).count (began_with other).count _ _ place in
      let keeper = named_once coded (began_with one).keeper (began_with other).keeper
      (rest_same (began_with one).count (began_with other).count _ _ place) in
      λ i. record { state = state i; count = number i; keeper = keeper i }

  pub closes : (shared : Shared (Held K C A)) (held : Held K C A) (machine : Serving K) (clock : C)
      (seen : List Entry) → machine ≡ held.machine → clock ≡ held.clock →
      held_home coded given held ≡ held_home coded given (first_of shared.turn) →
      Stood words count given held seen →
      SeatStands words (began_of shared) (record {
        machine = machine;
        answers = count clock;
        given = given clock;
        from = (home_of given shared).answers;
      }) (home_of given shared) seen
  closes shared held machine clock seen machine_is clock_is home_is stood =
      let first = same_began held (first_of shared.turn) home_is in
      let bare : bare_home given held ≡ home_of given shared = ap unplaced home_is in
      let here : SeatStands words (began_of shared) (seat_of count given held) (home_of given shared) seen =
      subst (λ (z : Serving K × Home). SeatStands words z.0 (seat_of count given held) z.1 seen)
      (λ i. (first i, bare i)) stood in
      subst (λ (s : Seat K). SeatStands words (began_of shared) s (home_of given shared) seen)
      (λ i. record {
        machine = sym machine_is i;
        answers = count (sym clock_is i);
        given = given (sym clock_is i);
        from = (bare i).answers;
      }) here
