-- A machine goes on by an entry: it stands for a history with that entry more, and what a crash leaves is known.
use Rattle.std.proofs.Common.{◌≡◌, ◌⊎◌, ⊎_elim, inl, inr, ◌+◌, ℕ, Bool, true, false, if◌then◌else◌, List, [], ◌∷◌, ◌++◌, length, Contains, Option, Some, None, Result, Ok, Err, refl, sym, ◌∙◌, ap, subst, arith, append-nil, append_assoc, length-append}
use Rattle.std.specs.Prelude.{IfOk, IfSome, OnErr}
use Rattle.std.proofs.lemmas.List.Elements.{Contains-append_left, Contains-append_right, Contains-append_cases}
use Rattle.nc_names.specs.declared.memory.Memory.{Memory}
use Rattle.nc_names.specs.declared.path.Row.{Row}
use Rattle.nc_model.specs.declared.entry.Entry.{Entry}
use Rattle.nc_model.specs.declared.event.Event.{Event}
use Rattle.nc_model.specs.declared.event.Event.TheVariants.{Reading}
use Rattle.nc_model.specs.Desks.{Home}
use Rattle.nc_model.specs.History.{IsLegal, after, doubts_after, in_doubt, returning}
use Rattle.nc_model.specs.State.{State, base_of, candidate_in_force, expired}
use Rattle.nc_model.specs.Step.{Fits, has_failed, next, reaches_disk}
use Rattle.nc_model.proofs.HistoryLemmas.{histories_join, legal_histories_join, one_entry_is_legal}
use Rattle.nc_model.proofs.RunningLemmas.{read_base}
use Rattle.nc_model.proofs.SurvivingLemmas.{after_more, doubt_more, from_more}
use Rattle.nc_tree.specs.Keeping.{standing}
use Rattle.nc_machine.specs.Lasting.{DoubtAfter, Lasting, LeavesStanding, WithstandsEvent, base_after}
use Rattle.nc_machine.specs.Serving.{GoesOn, IsHomeOf, IsRead, Makes, Serving, StandsFor, entry_made, failed_of, read_entry}
use Rattle.nc_machine.specs.inner.Turns.{Enters}
use Rattle.nc_machine.proofs.Keeping.{read_keeps}
use Rattle.nc_machine.proofs.Members.{here, in_cons, in_none, in_one, there}
use Rattle.nc_machine.proofs.Withstanding.{IsLasting, idle_as}

-- ---- one entry more

in_standing : (base : List Row) (doubt : Option (List Row)) (doubts : List (List Row)) (rows : List Row) →
    IfSome doubt (Contains doubts) → Contains (standing base doubt) rows → Contains (base ∷ doubts) rows
in_standing base None doubts rows known has = subst (Contains (base ∷ doubts)) (in_one base rows has) (here base doubts)
in_standing base (Some d) doubts rows known has =
    ⊎_elim (λ (e : base ≡ rows). subst (Contains (base ∷ doubts)) e (here base doubts))
    (λ (rest : Contains (d ∷ []) rows). there base doubts rows (subst (Contains doubts) (in_one d rows rest) known))
    (in_cons base (d ∷ []) rows has)

-- the commits in doubt after an event
abbrev doubts_then : Bool → Bool → List Row → List (List Row) → List (List Row)
doubts_then reaches failed rows doubts = if reaches then (if failed then rows ∷ doubts else []) else doubts

-- what was to be kept is the base, or in doubt
covers_kept : (reaches failed : Bool) (kept : List Row) (doubts : List (List Row)) (before now rows : List Row) →
    now ≡ base_after reaches failed kept before → Contains (if reaches then kept ∷ [] else []) rows →
    Contains (now ∷ doubts_then reaches failed kept doubts) rows
covers_kept true true kept doubts before now rows is has =
    there now (kept ∷ doubts) rows (subst (Contains (kept ∷ doubts)) (in_one kept rows has) (here kept doubts))
covers_kept true false kept doubts before now rows is has =
    subst (Contains (now ∷ [])) (is ∙ in_one kept rows has) (here now [])
covers_kept false failed kept doubts before now rows is has = absurd (in_none rows has)

-- what was written or in doubt while an entry was made may come back of it
covers : (s : State) (doubts : List (List Row)) (e : Entry) (base now : List Row) (doubt : Option (List Row)) →
    base ≡ base_of s → now ≡ base_of (next s e) →
    now ≡ base_after (reaches_disk (expired s e.at) e.event) (has_failed e.outcome) (candidate_in_force (expired s e.at)) base →
    IfSome doubt (Contains doubts) → (rows : List Row) →
    Contains ((if reaches_disk (expired s e.at) e.event then candidate_in_force (expired s e.at) ∷ [] else []) ++ standing base doubt) rows →
    Contains (returning s doubts (e ∷ [])) rows
covers s doubts e base now doubt kept kept_now is known rows has =
    let reaches = reaches_disk (expired s e.at) e.event in
    let written = candidate_in_force (expired s e.at) in
    let front = base_of s ∷ doubts in
    let back = base_of (next s e) ∷ doubts_after s doubts e in
    ⊎_elim
    (λ (l : Contains (if reaches then written ∷ [] else []) rows).
    Contains-append_right front back rows
    (subst (λ (b : List Row). Contains (b ∷ doubts_after s doubts e) rows) kept_now
    (covers_kept reaches (has_failed e.outcome) written doubts base now rows is l)))
    (λ (r : Contains (standing base doubt) rows).
    Contains-append_left front back rows
    (subst (λ (b : List Row). Contains (b ∷ doubts) rows) kept (in_standing base doubt doubts rows known r)))
    (Contains-append_cases (if reaches then written ∷ [] else []) (standing base doubt) rows has)

known_more : (before : Option (List Row)) (rows : List Row) (doubts : List (List Row)) → IfSome before (Contains doubts) →
    IfSome before (Contains (rows ∷ doubts))
known_more None rows doubts known = tt
known_more (Some d) rows doubts known = there rows doubts d known

-- what is in doubt after an entry is a commit in doubt
doubt_known : (reaches failed : Bool) (rows : List Row) (doubts : List (List Row)) (before now : Option (List Row)) →
    IfSome before (Contains doubts) → DoubtAfter reaches failed rows before now →
    IfSome now (Contains (doubts_then reaches failed rows doubts))
doubt_known true true rows doubts before now known after =
    ⊎_elim (λ (none : now ≡ None). subst (λ d. IfSome d (Contains (rows ∷ doubts))) (sym none) tt)
    (λ (rest : (now ≡ before) ⊎ (now ≡ Some rows)). ⊎_elim
    (λ (same : now ≡ before).
    subst (λ d. IfSome d (Contains (rows ∷ doubts))) (sym same) (known_more before rows doubts known))
    (λ (this : now ≡ Some rows). subst (λ d. IfSome d (Contains (rows ∷ doubts))) (sym this) (here rows doubts)) rest) after
doubt_known true false rows doubts before now known after =
    subst (λ d. IfSome d (Contains {X = List Row} [])) (sym after) tt
doubt_known false failed rows doubts before now known after = subst (λ d. IfSome d (Contains doubts)) (sym after) known

-- a clock that is read is the entry of a reading
pub read_makes : {K : Type 0} (old new : Serving K) (at : ℕ) → IsRead old new at → Makes old new Reading at (read_entry old at)
read_makes old new at read = record {
  event_is = refl;
  at_is = refl;
  number_is = refl;
  fits = record { proper = tt; outcome = refl; before = refl; faults = refl };
  state_is = read.state_is ∙ ap (λ (n : ℕ). record (expired old.state at) { faults = n }) (read_keeps old.state at).faults_is;
  count_is = read.count_is;
}

module _ {K : Type 0} (base : K → List Row) (words : Lasting K) (laws : IsLasting words) where
  -- for whatever history the machine stood, it stands for that with an entry
  stands_more : (old new : Serving K) (e : Entry) → e.number ≡ old.count → Fits old.state e → new.state ≡ next old.state e →
      new.count ≡ old.count + 1 → base old.keeper ≡ base_of old.state → base new.keeper ≡ base_of new.state →
      LeavesStanding base words new.keeper →
      WithstandsEvent base words (expired old.state e.at) e.event old.keeper new.keeper (Some (has_failed e.outcome)) →
      (home : Home) (history : List Entry) → StandsFor words home old history → StandsFor words home new (history ++ e ∷ [])
  stands_more old new e number_is fits state_is count_is kept_old kept_new now over home history stood =
      let s = after home.opening history in
      let doubts = in_doubt home.opening [] history in
      let state_was : old.state ≡ s = stood.state_is in
      let state_now : new.state ≡ next s e = state_is ∙ ap (λ (x : State). next x e) state_was in
      let over_s : WithstandsEvent base words (expired s e.at) e.event old.keeper new.keeper (Some (has_failed e.outcome)) =
      subst (λ (x : State). WithstandsEvent base words (expired x e.at) e.event old.keeper new.keeper (Some (has_failed e.outcome)))
      state_was over in
      let reaches = reaches_disk (expired s e.at) e.event in
      let written = candidate_in_force (expired s e.at) in
      let among = (if reaches then written ∷ [] else []) ++ standing (base old.keeper) (words.doubt old.keeper) in
      let known : IfSome (words.doubt new.keeper) (Contains (doubts_after s doubts e)) =
      doubt_known reaches (has_failed e.outcome) written doubts (words.doubt old.keeper) (words.doubt new.keeper) stood.doubt_is
      over_s.doubt_is in
      let kept_now : base new.keeper ≡ base_of (next s e) = kept_new ∙ ap base_of state_now in
      record {
        legal = (legal_histories_join 0 home.opening history (e ∷ [])).1 (
          stood.legal,
          (one_entry_is_legal (0 + length history) s e).1
              (omega (arith, number_is, stood.count_is), subst (λ (x : State). Fits x e) state_was fits),
        );
        state_is = state_now ∙ sym (after_more home.opening history e);
        count_is = omega (arith, count_is, stood.count_is, length-append history (e ∷ []));
        doubt_is = subst (λ d. IfSome (words.doubt new.keeper) (Contains d)) (sym (doubt_more home.opening [] history e)) known;
        survives = from_more (words.leaves old.keeper) (words.leaves new.keeper) (words.moment old.keeper) (words.moment new.keeper)
            over_s.moments.later among over_s.moments.since (laws.fewer new.keeper) home history e
            (covers s doubts e (base old.keeper) (base new.keeper) (words.doubt old.keeper) (kept_old ∙ ap base_of state_was)
            kept_now over_s.base_is stood.doubt_is)
            (laws.fewer new.keeper (words.moment new.keeper) (standing (base new.keeper) (words.doubt new.keeper))
            (base_of (next s e) ∷ doubts_after s doubts e)
            (λ rows has. subst (λ (b : List Row). Contains (b ∷ doubts_after s doubts e) rows) kept_now
            (in_standing (base new.keeper) (words.doubt new.keeper) (doubts_after s doubts e) rows known has)) now)
            stood.survives;
      }

  -- an entry that the machine makes
  pub goes_on_by : (old new : Serving K) (event : Event) (at : ℕ) (e : Entry) → Makes old new event at e →
      base old.keeper ≡ base_of old.state → base new.keeper ≡ base_of new.state → LeavesStanding base words new.keeper →
      WithstandsEvent base words (expired old.state at) event old.keeper new.keeper (Some (has_failed e.outcome)) →
      GoesOn words old new (e ∷ [])
  goes_on_by old new event at e makes kept_old kept_new now over =
      let at_e : WithstandsEvent base words (expired old.state e.at) event old.keeper new.keeper (Some (has_failed e.outcome)) =
      subst (λ (n : ℕ). WithstandsEvent base words (expired old.state n) event old.keeper new.keeper (Some (has_failed e.outcome)))
      (sym makes.at_is) over in
      let over_e : WithstandsEvent base words (expired old.state e.at) e.event old.keeper new.keeper (Some (has_failed e.outcome)) =
      subst (λ (v : Event). WithstandsEvent base words (expired old.state e.at) v old.keeper new.keeper (Some (has_failed e.outcome)))
      (sym makes.event_is) at_e in
      record {
        legal = (one_entry_is_legal old.count old.state e).1 (makes.number_is, makes.fits);
        state_is = makes.state_is;
        count_is = omega (arith, makes.count_is);
        continues = λ first was. laws.further first old.keeper new.keeper was over.continues;
        stands = stands_more old new e makes.number_is makes.fits makes.state_is makes.count_is kept_old kept_new now over_e;
      }

  -- an entry that does not come to the keeper
  pub goes_on_without : (old new : Serving K) (event : Event) (at : ℕ) (e : Entry) → Makes old new event at e →
      new.keeper ≡ old.keeper → reaches_disk (expired old.state at) event ≡ false →
      base old.keeper ≡ base_of old.state → base new.keeper ≡ base_of new.state → LeavesStanding base words new.keeper →
      GoesOn words old new (e ∷ [])
  goes_on_without old new event at e makes same none kept_old kept_new now =
      goes_on_by old new event at e makes kept_old kept_new now
      (idle_as base words laws (reaches_disk (expired old.state at) event) (candidate_in_force (expired old.state at)) old.keeper
      new.keeper (Some (has_failed e.outcome)) same none)

  -- a machine of which the clock alone was read
  pub goes_on_read : (old new : Serving K) (at : ℕ) → IsRead old new at → base old.keeper ≡ base_of old.state →
      LeavesStanding base words old.keeper → GoesOn words old new (read_entry old at ∷ [])
  goes_on_read old new at read kept now =
      goes_on_without old new Reading at (read_entry old at) (read_makes old new at read) read.keeper_is refl kept
      (ap base read.keeper_is ∙ (kept ∙ (sym (read_base old.state at) ∙ ap base_of (sym read.state_is))))
      (subst (LeavesStanding base words) (sym read.keeper_is) now)

  makes_by : (old new : Serving K) (event : Event) (at : ℕ) (e : Entry) → Enters old.state new.state old.count event at e →
      new.count ≡ old.count + 1 → Makes old new event at e
  makes_by old new event at e enters count_is = record {
    event_is = enters.event_is;
    at_is = enters.at_is;
    number_is = enters.number_is;
    fits = enters.fits;
    state_is = enters.state_is;
    count_is = count_is;
  }

  -- as the code makes it: whatever comes of an event
  pub goes_on_entered : (old : Serving K) (state : State) (keeper : K) (event : Event) (at : ℕ) (result : Result Entry Memory) →
      IfOk result (λ e. Enters old.state state old.count event at e) →
      OnErr result ((state ≡ expired old.state at) × (keeper ≡ old.keeper)) →
      base old.keeper ≡ base_of old.state → LeavesStanding base words old.keeper →
      base keeper ≡ base_of state → LeavesStanding base words keeper →
      WithstandsEvent base words (expired old.state at) event old.keeper keeper (failed_of result) →
      GoesOn words old (record { state = state; count = old.count + 1; keeper = keeper }) (entry_made old at result ∷ [])
  goes_on_entered old state keeper event at (Ok e) enters none kept_old now_old kept_new now over =
      let new : Serving K = record { state = state; count = old.count + 1; keeper = keeper } in
      goes_on_by old new event at e (makes_by old new event at e enters refl) kept_old kept_new now over
  goes_on_entered old state keeper event at (Err memory) none read kept_old now_old kept_new now over =
      goes_on_read old (record { state = state; count = old.count + 1; keeper = keeper }) at
      (record { state_is = read.0; count_is = refl; keeper_is = read.1 }) kept_old now_old

  -- and an event that does not come to the keeper
  pub goes_on_kept : (old : Serving K) (state : State) (event : Event) (at : ℕ) (e : Entry) →
      Enters old.state state old.count event at e → reaches_disk (expired old.state at) event ≡ false →
      base_of state ≡ base_of old.state → base old.keeper ≡ base_of old.state → LeavesStanding base words old.keeper →
      GoesOn words old (record { state = state; count = old.count + 1; keeper = old.keeper }) (e ∷ [])
  goes_on_kept old state event at e enters none same kept now =
      let new : Serving K = record { state = state; count = old.count + 1; keeper = old.keeper } in
      goes_on_without old new event at e (makes_by old new event at e enters refl) refl none kept (kept ∙ sym same) now

-- ---- the first

none_legal : (first : ℕ) (s : State) → IsLegal first s []
none_legal first s [] behind e is = cc is
none_legal first s (x ∷ before) behind e is = cc is

-- a machine that has made no entry, and is in no doubt
pub begins : {K : Type 0} (base : K → List Row) (words : Lasting K) → IsLasting words → (machine : Serving K) (home : Home) →
    IsHomeOf words machine home → machine.count ≡ 0 → words.doubt machine.keeper ≡ None →
    words.leaves machine.keeper (words.moment machine.keeper) (base_of machine.state ∷ []) → StandsFor words home machine []
begins base words laws machine home is none sure now = record {
  legal = none_legal 0 home.opening;
  state_is = sym is.opening_is;
  count_is = none;
  doubt_is = subst (λ d. IfSome d (Contains {X = List Row} [])) (sym sure) tt;
  survives = record {
    began = is.began;
    before = laws.fewer machine.keeper home.start home.among (home.among ++ base_of home.opening ∷ [])
        (λ rows has. Contains-append_left home.among (base_of home.opening ∷ []) rows has) is.before;
    since = (omega (arith, is.begun_is), since_begun);
  };
}
  where
    since_begun : words.leaves machine.keeper home.begun (base_of home.opening ∷ [])
    since_begun = subst (λ (z : ℕ × State). words.leaves machine.keeper z.0 (base_of z.1 ∷ []))
        (λ i. (sym is.begun_is i, sym is.opening_is i)) now

-- nothing goes on
pub goes_nowhere : {K : Type 0} (words : Lasting K) (machine : Serving K) → GoesOn words machine machine []
goes_nowhere words machine = record {
  legal = none_legal machine.count machine.state;
  state_is = refl;
  count_is = omega arith;
  continues = λ first was. was;
  stands = λ home history stood. subst (StandsFor words home machine) (sym (append-nil history)) stood;
}

-- first by some entries and then by others
pub goes_further_on : {K : Type 0} (words : Lasting K) (one two three : Serving K) (xs ys : List Entry) →
    GoesOn words one two xs → GoesOn words two three ys → GoesOn words one three (xs ++ ys)
goes_further_on words one two three xs ys first second = record {
  legal =
      let there = subst (λ (n : ℕ). IsLegal n two.state ys) first.count_is second.legal in
      (legal_histories_join one.count one.state xs ys).1
      (first.legal, subst (λ (s : State). IsLegal (one.count + length xs) s ys) first.state_is there);
  state_is = second.state_is ∙ (ap (λ (s : State). after s ys) first.state_is ∙ sym (histories_join one.state xs ys));
  count_is = omega (arith, first.count_is, second.count_is, length-append xs ys);
  continues = λ keeper was. second.continues keeper (first.continues keeper was);
  stands = λ home history stood.
      subst (StandsFor words home three) (append_assoc history xs ys)
      (second.stands home (history ++ xs) (first.stands home history stood));
}

-- a keeper that keeps running alone
pub first_stands : {K : Type 0} (base : K → List Row) (words : Lasting K) (keeper : K) (running : List Row) →
    base keeper ≡ running → words.doubt keeper ≡ None → words.leaves keeper (words.moment keeper) (running ∷ []) →
    LeavesStanding base words keeper
first_stands base words keeper running kept sure now =
    subst (λ (z : List Row × Option (List Row)). words.leaves keeper (words.moment keeper) (standing z.0 z.1))
    (λ i. (sym kept i, sym sure i)) now
