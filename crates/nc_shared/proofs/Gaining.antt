-- What a reading of the clock and a call of the machine leave.
use Rattle.std.proofs.Common.{◌≡◌, ◌-◌, ◌<◌, ℕ, List, [], ◌∷◌, ◌++◌, refl, sym, ap, subst, ◌∙◌, arith, length-append, Option, Some, None}
use Rattle.std.specs.Prelude.{IfSome}
use Rattle.nc_turn.proofs.Histories.{none_legal}
use Rattle.nc_names.specs.Counts.{one_more}
use Rattle.nc_model.specs.declared.entry.Entry.{Entry}
use Rattle.nc_model.specs.Desks.{Home}
use Rattle.nc_model.specs.History.{IsLegal}
use Rattle.nc_model.specs.State.{State}
use Rattle.nc_outside.specs.Clocks.{TellsAnswer}
use Rattle.nc_machine.specs.Lasting.{Lasting}
use Rattle.nc_machine.specs.Seats.{TellsReadings}
use Rattle.nc_machine.specs.Serving.{GoesOn, IsRead, Serving, read_entry}
use Rattle.nc_machine.proofs.Keeping.{read_keeps}
use Rattle.nc_machine.proofs.Standing.{none_read, readings_more}
use Rattle.nc_machine.proofs.Stood.{goes_further_on, goes_nowhere}
use Rattle.nc_shared.specs.Holding.{SeatStands, reading_entry}

-- one answer of the clock and one entry of the machine
pub seat_more : {K : Type 0} (words : Lasting K) (began old new : Serving K) (answers answers_now : ℕ)
    (given given_now : Option (List ℕ)) (from : ℕ) (home : Home) (history : List Entry) (at : ℕ) (e : Entry) →
    answers_now ≡ one_more answers → TellsAnswer given given_now at → e.at ≡ at → GoesOn words old new (e ∷ []) →
    SeatStands words began (record { machine = old; answers = answers; given = given; from = from }) home history →
    SeatStands words began (record { machine = new; answers = answers_now; given = given_now; from = from }) home
    (history ++ e ∷ [])
seat_more words began old new answers answers_now given given_now from home history at e rose tells at_is goes stood =
    let further = goes_further_on words began old new history (e ∷ []) stood.goes_on goes in record {
      from_is = stood.from_is;
      none = stood.none;
      opening_is = stood.opening_is;
      legal = subst (λ (z : ℕ × State). IsLegal z.0 z.1 (history ++ e ∷ []))
          (λ i. (stood.none i, sym stood.opening_is i)) further.legal;
      count_is = omega (arith, further.count_is, stood.none);
      goes_on = further;
      answers_is = omega (arith, rose, stood.answers_is, length-append history (e ∷ []));
      readings = readings_more history e at home.heard given given_now at_is tells stood.readings;
    }

-- the entry of a reading is known from what the machine tells afterwards
pub reading_is : {K : Type 0} (words : Lasting K) (old new : Serving K) (at count faults : ℕ) → IsRead old new at →
    count ≡ new.count → faults ≡ new.state.faults → GoesOn words old new (read_entry old at ∷ []) →
    GoesOn words old new (reading_entry record { number = count - 1; at = at; faults = faults } ∷ [])
reading_is words old new at count faults read counted failed goes =
    let more = read.count_is in
    let number : old.count ≡ count - 1 = omega arith in
    let kept = (read_keeps old.state at).faults_is in
    let same : old.state.faults ≡ faults = sym (failed ∙ (ap (λ (s : State). s.faults) read.state_is ∙ kept)) in
    subst (λ (z : ℕ × ℕ). GoesOn words old new (reading_entry record { number = z.0; at = at; faults = z.1 } ∷ []))
    (λ i. (number i, same i)) goes

-- a machine that has made no entry
pub seat_begins : {K : Type 0} (words : Lasting K) (machine : Serving K) (answers from : ℕ) (given : Option (List ℕ))
    (home : Home) →
    (began : Serving K) → began ≡ machine → machine.count ≡ 0 → home.opening ≡ began.state → home.answers ≡ from →
    home.heard ≡ given → from ≡ answers → from < 18446744073709551616 →
    SeatStands words began (record { machine = machine; answers = answers; given = given; from = from }) home []
seat_begins words machine answers from given home began same none opening here told is low = record {
  from_is = here;
  none = ap (λ (m : Serving _). m.count) same ∙ none;
  opening_is = opening;
  legal = none_legal home.opening;
  count_is = none;
  goes_on = subst (λ (m : Serving _). GoesOn words m machine []) (sym same) (goes_nowhere words machine);
  answers_is = omega arith;
  readings = subst (λ (h : Option (List ℕ)). IfSome given (TellsReadings h [])) (sym told) (none_read given);
}
