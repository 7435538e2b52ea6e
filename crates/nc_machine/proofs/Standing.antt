-- A desk of one thread that stands for a history stands for it with one entry more.
use Rattle.std.proofs.Common.{◌≡◌, ◌+◌, ◌<◌, ◌^◌, ℕ, true, List, [], ◌∷◌, ◌++◌, length, map, refl, sym, ap, subst, ◌∙◌, arith, append-nil, length-append, append_assoc, Option, Some, None}
use Rattle.std.specs.Coded.{Coded}
use Rattle.std.specs.Prelude.{IfSome}
use Rattle.std.proofs.lemmas.List.{map-append}
use Rattle.std.proofs.lemmas.List.Elements.{filter-append}
use Rattle.nc_names.specs.Counts.{one_more}
use Rattle.nc_names.specs.Limits.{most_requests}
use Rattle.nc_model.specs.declared.entry.Entry.{Entry}
use Rattle.nc_model.specs.declared.event.Event.{Event}
use Rattle.nc_model.specs.Desks.{Entered, Home, is_own, own_of}
use Rattle.nc_model.specs.Step.{may_come_of}
use Rattle.nc_model.proofs.OutcomeLemmas.{fits_may_come}
use Rattle.nc_outside.specs.Clocks.{TellsAnswer}
use Rattle.nc_machine.specs.Lasting.{Lasting, name_of}
use Rattle.nc_machine.specs.Seats.{SoloStands, TellsReadings}
use Rattle.nc_machine.specs.Serving.{GoesOn, Makes, Serving, StandsFor}
use Rattle.nc_machine.proofs.Names.{name_is_some, named_once}

-- what the machine makes of an event may come of it
pub made_may_come : {K : Type 0} (old new : Serving K) (event : Event) (at : ℕ) (e : Entry) →
    Makes old new event at e → may_come_of event e.outcome ≡ true
made_may_come old new event at e made =
    subst (λ (v : Event). may_come_of v e.outcome ≡ true) made.event_is (fits_may_come old.state e made.fits)

pub none_read : (given : Option (List ℕ)) → IfSome given (TellsReadings given [])
none_read None = tt
none_read (Some all) = ap Some (sym (append-nil all))

own_more : (seen : List Entry) (e : Entry) → own_of (seen ++ e ∷ []) ≡ own_of seen ++ own_of (e ∷ [])
own_more seen e = filter-append (λ (x : Entry). is_own x.event) seen (e ∷ [])

-- the clock's answers are the readings of the entries, with one more
pub readings_more : (seen : List Entry) (e : Entry) (at : ℕ) (heard given given_now : Option (List ℕ)) → e.at ≡ at →
    TellsAnswer given given_now at → IfSome given (TellsReadings heard seen) →
    IfSome given_now (TellsReadings heard (seen ++ e ∷ []))
readings_more seen e at heard given None is tells told = tt
readings_more seen e at heard None (Some all) is tells told = absurd (none_told tells)
  where
    none_told : Some all ≡ None → ⊥
    none_told same = cc
readings_more seen e at None (Some before) (Some all) is tells told = absurd (none_heard told)
  where
    none_heard : Some before ≡ None → ⊥
    none_heard same = cc
readings_more seen e at (Some earlier) (Some before) (Some all) is tells told = ap Some joined
  where
    inner : Some all ≡ Some (before ++ at ∷ []) → all ≡ before ++ at ∷ []
    inner same = cc

    outer : Some before ≡ Some (earlier ++ map (λ x. x.at) seen) → before ≡ earlier ++ map (λ x. x.at) seen
    outer same = cc

    joined : all ≡ earlier ++ map (λ x. x.at) (seen ++ e ∷ [])
    joined =
        inner tells
        ∙ (ap (λ (xs : List ℕ). xs ++ at ∷ []) (outer told)
        ∙ (append_assoc earlier (map (λ x. x.at) seen) (at ∷ [])
        ∙ ap (λ (xs : List ℕ). earlier ++ xs)
        (ap (λ (n : ℕ). map (λ x. x.at) seen ++ n ∷ []) (sym is) ∙ sym (map-append (λ (x : Entry). x.at) seen (e ∷ [])))))

module _ {K : Type 0} (coded : Coded K) (words : Lasting K) where
  -- a reading of the clock and an event of the machine
  pub solo_entered : (old new : Serving K) (answers answers_now : ℕ) (given given_now : Option (List ℕ)) (from : ℕ)
      (home : Home) (seen mine : List Entry) (event : Event) (at : ℕ) (e : Entry) →
      answers_now ≡ one_more answers → TellsAnswer given given_now at → old.count < most_requests →
      e.event ≡ event → e.at ≡ at → GoesOn words old new (e ∷ []) →
      SoloStands coded words (record { machine = old; answers = answers; given = given; from = from }) home seen mine →
      Entered (SoloStands coded words (record { machine = new; answers = answers_now; given = given_now; from = from }) home)
      home.alone seen mine event e
  solo_entered old new answers answers_now given given_now from home seen mine event at e rose tells room event_is at_is goes stood = record {
    event_is = event_is;
    others = [];
    none = λ alone. refl;
    stands = record {
      alone = stood.alone;
      from_is = stood.from_is;
      machine_stands = goes.stands home seen stood.machine_stands;
      continues = λ first is. goes.continues first (stood.continues first is);
      mine_is = ap (λ (m : List Entry). m ++ own_of (e ∷ [])) stood.mine_is ∙ sym (own_more seen e);
      few = omega (arith, room, stood.machine_stands.count_is, length-append seen (e ∷ []));
      answers_is = omega (arith, rose, stood.answers_is, length-append seen (e ∷ []));
      readings = readings_more seen e at home.heard given given_now at_is tells stood.readings;
    };
  }

  -- a keeper that was not called yet is the one that its name tells
  pub named_continues : ((k : K) → words.continues k k) → (keeper : K) (place : List ℕ) → place ≡ name_of coded keeper →
      (first : K) → place ≡ name_of coded first → words.continues first keeper
  named_continues on keeper place named first is =
      subst (λ (k : K). words.continues k keeper) (named_once coded keeper first (sym named ∙ is)) (on keeper)

  -- a place without numbers tells no keeper
  pub unnamed_continues : (keeper : K) (place : List ℕ) → place ≡ [] →
      (first : K) → place ≡ name_of coded first → words.continues first keeper
  unnamed_continues keeper place none first is = absurd (name_is_some coded first (sym is ∙ none))

  -- a machine that has made no entry, and its clock
  pub solo_begins : (machine : Serving K) (answers : ℕ) (given : Option (List ℕ)) (home : Home) → home.alone ≡ true →
      home.answers ≡ answers → answers < 2 ^ 64 → home.heard ≡ given →
      ((first : K) → home.place ≡ name_of coded first → words.continues first machine.keeper) →
      StandsFor words home machine [] →
      SoloStands coded words (record { machine = machine; answers = answers; given = given; from = answers }) home [] []
  solo_begins machine answers given home alone from few heard continues stood = record {
    alone = alone;
    from_is = from;
    machine_stands = stood;
    continues = continues;
    mine_is = refl;
    few = omega arith;
    answers_is = omega (arith, few);
    readings = subst (λ (h : Option (List ℕ)). IfSome given (TellsReadings h [])) (sym heard) (none_read given);
  }
