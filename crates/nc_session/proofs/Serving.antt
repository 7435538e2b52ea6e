-- A session from its Start to its End.
use Rattle.std.proofs.Common.{◌≡◌, ◌≢◌, ◌⊎◌, ℕ, ◌≤◌, ◌<◌, List, [], ◌∷◌, ◌++◌, length, refl, sym, ap, subst, ◌∙◌, append_assoc, append-nil, length-append, inl, inr, arith, Option, Bool, true, false, IsTrue, Result, Ok, Err}
use Rattle.std.specs.Prelude.{if◌then◌else◌}
use Rattle.std.specs.List.{All, Contains}
use Rattle.std.proofs.lemmas.List.Elements.{All-contains, Contains-append_left, filter-append}
use Rattle.std.specs.Io.KnownBytes.{append_known, prepend_known}
use Rattle.std.proofs.lemmas.List.{length-map}
use Rattle.nc_names.specs.Counts.{Rose}
use Rattle.nc_names.specs.Limits.{most_requests}
use Rattle.nc_outside.specs.Causes.{TookPart}
use Rattle.nc_outside.specs.Streams.{Streams, SameCounts}
use Rattle.nc_outside.proofs.Known.{prepend_nothing, took_nothing}
use Rattle.nc_schema.specs.Tables.{Tables}
use Rattle.nc_model.specs.declared.entry.Entry.{Entry}
use Rattle.nc_model.specs.declared.event.Event.{Event}
use Rattle.nc_model.specs.declared.event.Event.TheVariants.{Start, End, Request as Requested, Reading}
use Rattle.nc_model.specs.declared.event.Outcome.{Outcome}
use Rattle.nc_model.specs.declared.event.Outcome.TheVariants.{Started, Full as IsFull, Answered, NotLive, Ended, Noted}
use Rattle.nc_protocol.specs.declared.request.Request.{Request}
use Rattle.nc_model.specs.Desks.{IsView, IsLastNumber, is_own, own_of}
use Rattle.nc_model.specs.Laws.{IsOf}
use Rattle.nc_protocol.proofs.ListLemmas.{contains_last}
use Rattle.nc_protocol.proofs.Parts.{all_from}
use Rattle.nc_session.specs.declared.base.Base.TheVariants.{Base10}
use Rattle.nc_session.specs.declared.end.SessionEnd.{SessionEnd}
use Rattle.nc_session.specs.declared.end.SessionEnd.TheVariants.{Closed, InputEnded, BadHello, BadFrame, TooBig, Malformed, Killed, ReadFault, WriteFault, Full, Spent, Memory}
use Rattle.nc_session.specs.declared.standing.Standing.{Standing}
use Rattle.nc_session.specs.declared.standing.Standing.TheVariants.{Live}
use Rattle.nc_session.specs.declared.turn.Met.{Met as Meeting}
use Rattle.nc_session.specs.Cores.{Core, IsAt}
use Rattle.nc_session.specs.ServerHello.{hello_text}
use Rattle.nc_session.specs.Sessions.{session_text, entry_text, StayLive, HasEntered, LastIs, Leave}
use Rattle.nc_session.specs.Serves.{Call, Course, WrotePart, CountedBy, Met, Starts, WasKilled, is_spent, IsOver, WasSpent, Ends, IsDead, Serves, NoStart, NoPlace, Served}
use Rattle.nc_session.specs.inner.Turns.{Underway, entered_all, TellsEnd, Stops, Writes, Begins, ComesTo, HasBegun, Ending}
use Rattle.nc_session.proofs.Ending.{asks_these, own_entries, own_first}
use Rattle.nc_session.proofs.Killing.{IsRequestOf, all_asked, own_request, was_killed}
use Rattle.nc_session.proofs.Living.{Lands, end_comes}
use Rattle.nc_session.proofs.Turning.{live_not_dead}

not_spent : {ticket : ℕ} → Spent ticket ≡ Killed → ⊥
not_spent {ticket} is = cc

nobody : StayLive []
nobody = λ k d l. absurd (omega (arith, l))

-- a session that has begun
module _ (schema : Tables) (call : Call) (session : ℕ) (Stands : List Entry → List Entry → Type 0) (now : Streams) (h : HasBegun call session Stands now) where
  abbrev course : Course
  course = record { bytes = []; base = Base10; requests = []; entries = h.start ∷ [] }

  abbrev has : HasEntered call.peer session [] (h.start ∷ [])
  has = record { start = h.start; answers = []; entries_are = refl; event = h.starts.event; started = h.starts.outcome_is; events = refl }

  abbrev greeting : List ℕ
  greeting = hello_text schema.modules session

  text : session_text schema Base10 (h.start ∷ []) ≡ greeting
  text = let P : Outcome → Type 0 = λ o. entry_text schema Base10 o ++ [] ≡ greeting in subst P (sym h.starts.outcome_is) (append-nil greeting)

  read : (later : Streams) → later.left ≡ now.left → call.before.left ≡ prepend_known [] later.left
  read later left = ap (λ (s : Streams). s.left) (sym h.unused) ∙ sym left ∙ sym (prepend_nothing later.left)

  same : SameCounts call.before now
  same = record { ends = ap (λ (s : Streams). s.ends) h.unused; reads = ap (λ (s : Streams). s.reads_failed) h.unused; writes = ap (λ (s : Streams). s.writes_failed) h.unused }

  fresh : Contains h.more h.start
  fresh = let P : List Entry → Type 0 = λ m. Contains m h.start in subst P (sym h.starts.more_is) (contains_last h.starts.last h.start)

  one : length (h.start ∷ []) ≤ length h.more
  one = omega (arith, ap length h.starts.more_is, length-append h.starts.last (h.start ∷ []))

  -- the server's hello is written
  pub greeted : (core : Core) (later : Streams) → IsAt core Base10 [] []
      → later.left ≡ now.left → later.ends ≡ now.ends → later.reads_failed ≡ now.reads_failed → Writes greeting now.taken later.taken now.writes_failed later.writes_failed (Ok tt)
      → Underway schema call session Stands entered_all core later
  greeted core later at left ends reads writes = record {
    course = course;
    more = h.more;
    stands = h.stands;
    entered = has;
    fresh = fresh;
    live = nobody;
    alone = h.starts.alone;
    grown = one;
    read = read later left;
    at = at;
    wrote = writes.0 ∙ ap (λ k. append_known k greeting) (ap (λ (s : Streams). s.taken) h.unused) ∙ ap (append_known call.before.taken) (sym text);
    same = record { ends = ends ∙ same.ends; reads = reads ∙ same.reads; writes = writes.1 ∙ same.writes };
  }

  stops : (IsSpentAt : ℕ → Type 0) (later : Streams) (end : SessionEnd) → later.left ≡ now.left → Met schema call course (call.seen ++ h.more) later Live end → CountedBy call.before later end → TellsEnd IsSpentAt end
      → Stops schema call session Stands IsSpentAt later (record { standing = Live; end = end })
  stops IsSpentAt later end left met by spent = record {
    course = course;
    more = h.more;
    stands = h.stands;
    has_met = record {
      entered = has;
      fresh = fresh;
      leave = nobody;
      own = λ alone. ap own_of (h.starts.alone alone) ∙ own_entries call.peer session [] (h.start ∷ []) has;
      exact = λ alone other. h.starts.alone alone;
      read = read later left;
      asks = asks_these course (inl refl);
      met = met;
      counted = by;
    };
    spent = spent;
  }

  part : (later : Streams) → TookPart now.taken later.taken greeting → WrotePart schema call course later
  part later took =
      let P : Option (List ℕ) → Type 0 = λ t. TookPart t later.taken (session_text schema Base10 (h.start ∷ [])) in
      let Q : List ℕ → Type 0 = λ t. TookPart now.taken later.taken t in
      subst P (ap (λ (s : Streams). s.taken) h.unused) (subst Q (sym text) took)

  -- it is not, or not whole
  pub ungreeted : (IsSpentAt : ℕ → Type 0) (later : Streams) (end : SessionEnd) → later.left ≡ now.left → later.ends ≡ now.ends → later.reads_failed ≡ now.reads_failed
      → Writes greeting now.taken later.taken now.writes_failed later.writes_failed (Err end) → Stops schema call session Stands IsSpentAt later (record { standing = Live; end = end })
  ungreeted IsSpentAt later WriteFault left ends reads writes =
      let P : ℕ → Type 0 = λ n. Rose n later.writes_failed in
      stops IsSpentAt later WriteFault left (live_not_dead, part later writes.0) (ends ∙ same.ends, reads ∙ same.reads, subst P same.writes writes.1) tt
  ungreeted IsSpentAt later Memory left ends reads writes =
      stops IsSpentAt later Memory left (live_not_dead, part later writes.0) (record { ends = ends ∙ same.ends; reads = reads ∙ same.reads; writes = writes.1 ∙ same.writes }) tt
  ungreeted IsSpentAt later Closed left ends reads writes = absurd writes
  ungreeted IsSpentAt later InputEnded left ends reads writes = absurd writes
  ungreeted IsSpentAt later (BadHello why) left ends reads writes = absurd writes
  ungreeted IsSpentAt later (BadFrame at) left ends reads writes = absurd writes
  ungreeted IsSpentAt later (TooBig at) left ends reads writes = absurd writes
  ungreeted IsSpentAt later (Malformed at why) left ends reads writes = absurd writes
  ungreeted IsSpentAt later Killed left ends reads writes = absurd writes
  ungreeted IsSpentAt later ReadFault left ends reads writes = absurd writes
  ungreeted IsSpentAt later (Full live last) left ends reads writes = absurd writes
  ungreeted IsSpentAt later (Spent ticket) left ends reads writes = absurd writes

  -- no memory for room to read in
  pub no_room : (IsSpentAt : ℕ → Type 0) → Stops schema call session Stands IsSpentAt now (record { standing = Live; end = Memory })
  no_room IsSpentAt = ungreeted IsSpentAt now Memory refl refl refl (took_nothing now.taken greeting, refl)

-- No session has so many requests.
pub never_so_many : (schema : Tables) (call : Call) (session : ℕ) (Stands : List Entry → List Entry → Type 0) (core : Core) (now : Streams)
    → (u : Underway schema call session Stands entered_all core now) → ((a b : List Entry) → Stands a b → IsView call.home a b)
    → (count : ℕ) → count ≤ length u.course.requests → most_requests < count → ⊥
never_so_many schema call session Stands core now u views count many long =
    let asked : length u.entered.answers ≡ length u.course.requests =
    sym (length-map u.entered.answers (λ (e : Entry). e.event)) ∙ ap length u.entered.events ∙ length-map u.course.requests (λ (r : Request). Requested session r) in
    omega (arith, many, long, asked, ap length u.entered.entries_are, u.grown, length-append call.seen u.more, (views _ _ u.stands).few)

-- a session that met its end
module _ (schema : Tables) (call : Call) (session : ℕ) (Stands : List Entry → List Entry → Type 0) (IsSpentAt : ℕ → Type 0) (now : Streams) (met : Meeting)
    (s : Stops schema call session Stands IsSpentAt now met) where
  still : (Then : List Entry → List Entry → Type 0) → Then (call.seen ++ s.more) (call.mine ++ s.course.entries) → Then (call.seen ++ (s.more ++ [])) (call.mine ++ (s.course.entries ++ []))
  still Then stands =
      let P : List Entry → Type 0 = λ x. Then (call.seen ++ x) (call.mine ++ s.course.entries) in
      let Q : List Entry → Type 0 = λ x. Then (call.seen ++ (s.more ++ [])) (call.mine ++ x) in
      subst Q (sym (append-nil s.course.entries)) (subst P (sym (append-nil s.more)) stands)

  abbrev HasKilled : List Entry → List Entry → Type 0
  HasKilled grown own = WasKilled session call.home.alone grown own

  -- a request of it was not live
  killed_before : ((a b : List Entry) → Stands a b → IsView call.home a b) → met.end ≡ Killed → HasKilled (s.more ++ []) (s.course.entries ++ [])
  killed_before views is =
      let P : SessionEnd → Type 0 = λ e. Met schema call s.course (call.seen ++ s.more) now met.standing e in
      by (subst (λ (t : Standing). Leave s.has_met.entered.answers t) (subst P is s.has_met.met).0 s.has_met.leave)
    where
      by : LastIs (λ e. e.outcome ≡ NotLive) s.has_met.entered.answers → HasKilled (s.more ++ []) (s.course.entries ++ [])
      by l =
          let entries : s.course.entries ≡ s.has_met.entered.start ∷ (l.before ++ l.last ∷ []) = s.has_met.entered.entries_are ∙ ap (λ a. s.has_met.entered.start ∷ a) l.entries_are in
          let V : List Entry → Type 0 = λ x. IsView call.home (call.seen ++ s.more) (call.mine ++ x) in
          let O : List Entry → Type 0 = λ x. IsTrue call.home.alone → own_of s.more ≡ x in
          let A : List Entry → Type 0 = λ x. All (IsRequestOf session) x in
          let K : List Entry → Type 0 = λ x. HasKilled s.more x in
          let M : List Entry → Type 0 = λ x. HasKilled x (s.course.entries ++ []) in
          let all = subst A l.entries_are (all_asked session s.has_met.entered.answers s.course.requests s.has_met.entered.events) in
          let killed = was_killed call.home call.seen s.more call.mine s.has_met.entered.start l.last l.before call.peer session
          (subst V entries (views _ _ s.stands)) s.has_met.fresh s.has_met.entered.event s.has_met.entered.started l.live
          (all_from (IsRequestOf session) l.before (λ x there. All-contains (IsRequestOf session) (l.before ++ l.last ∷ []) x all (Contains-append_left l.before (l.last ∷ []) x there)))
          (own_request session l.last (All-contains (IsRequestOf session) (l.before ++ l.last ∷ []) l.last all (contains_last l.before l.last))) l.is (subst O entries s.has_met.own) in
          subst M (sym (append-nil s.more)) (subst K (sym (append-nil s.course.entries)) (subst K (sym entries) killed))

  -- it goes on, so it was not killed yet
  not_killed : met.standing ≡ Live → met.end ≡ Killed → ⊥
  not_killed live is =
      let P : SessionEnd → Type 0 = λ e. Met schema call s.course (call.seen ++ s.more) now met.standing e in
      live_not_dead (sym live ∙ (subst P is s.has_met.met).0)

  pub is_over : ((a b : List Entry) → Stands a b → IsView call.home a b) → met.standing ≢ Live → Serves schema call Stands IsSpentAt now met.end
  is_over views over = Served session s.more [] [] s.course met.standing met.end met.end s.has_met (IsOver over) (killed_before views) (still Stands s.stands)

  -- the desk was spent at a request
  pub was_spent : is_spent met.end ≡ true → Serves schema call Stands IsSpentAt now met.end
  was_spent spent = by met.end refl spent
    where
      by : (e : SessionEnd) → met.end ≡ e → is_spent e ≡ true → Serves schema call Stands IsSpentAt now met.end
      by (Spent ticket) is spent =
          let P : SessionEnd → Type 0 = λ e. Met schema call s.course (call.seen ++ s.more) now met.standing e in
          let Q : SessionEnd → Type 0 = λ e. TellsEnd IsSpentAt e in
          Served session s.more [] [] s.course met.standing met.end met.end s.has_met (WasSpent ticket (subst P is s.has_met.met).1 (subst Q is s.spent)) (λ killed. absurd (not_spent (sym is ∙ killed))) (still Stands s.stands)
      by Closed is spent = cc
      by InputEnded is spent = cc
      by (BadHello why) is spent = cc
      by (BadFrame at) is spent = cc
      by (TooBig at) is spent = cc
      by (Malformed at why) is spent = cc
      by Killed is spent = cc
      by ReadFault is spent = cc
      by WriteFault is spent = cc
      by (Full live last) is spent = cc
      by Memory is spent = cc

  -- its End is entered, or not
  module _ (Then : List Entry → List Entry → Type 0) (IsSpentThen : ℕ → Type 0) where
    pub spent_at_end : (ticket : ℕ) → met.standing ≡ Live → IsLastNumber call.home.alone (call.seen ++ s.more) ticket → IsSpentThen ticket → Then (call.seen ++ s.more) (call.mine ++ s.course.entries)
        → Serves schema call Then IsSpentThen now met.end
    spent_at_end ticket was last spent stands = Served session s.more [] [] s.course met.standing met.end met.end s.has_met (WasSpent ticket last spent) (λ is. absurd (not_killed was is)) (still Then stands)

    pub end_entered : (e : Entry) (live : Bool) → met.standing ≡ Live → is_spent met.end ≡ false → ((a b : List Entry) → Then a b → IsView call.home a b)
        → Lands Then call.home.alone (call.seen ++ s.more) ((call.mine ++ s.course.entries) ++ e ∷ []) (End session) e → Ending e.outcome live
        → Serves schema call Then IsSpentThen now (if live then met.end else Killed)
    end_entered e live was unspent views entered ending = by live (end_comes call.home ((call.seen ++ s.more) ++ entered.others) ((call.mine ++ s.course.entries) ++ e ∷ []) e session view entered.event_is) ending
      where
        view : IsView call.home (((call.seen ++ s.more) ++ entered.others) ++ e ∷ []) ((call.mine ++ s.course.entries) ++ e ∷ [])
        view =
            let P : List Entry → Type 0 = λ x. IsView call.home x ((call.mine ++ s.course.entries) ++ e ∷ []) in
            subst P (sym (append_assoc (call.seen ++ s.more) entered.others (e ∷ []))) (views _ _ entered.stands)

        stands : Then (call.seen ++ (s.more ++ (entered.others ++ e ∷ []))) (call.mine ++ (s.course.entries ++ e ∷ []))
        stands =
            let P : List Entry → Type 0 = λ x. Then x ((call.mine ++ s.course.entries) ++ e ∷ []) in
            let Q : List Entry → Type 0 = λ x. Then (call.seen ++ (s.more ++ (entered.others ++ e ∷ []))) x in
            subst Q (append_assoc call.mine s.course.entries (e ∷ [])) (subst P (append_assoc call.seen s.more (entered.others ++ e ∷ [])) entered.stands)

        own_and_end : IsTrue call.home.alone → own_of (s.more ++ (entered.others ++ e ∷ [])) ≡ s.course.entries ++ e ∷ []
        own_and_end alone =
            filter-append (λ (x : Entry). is_own x.event) s.more (entered.others ++ e ∷ []) ∙ ap (λ x. x ++ own_of (entered.others ++ e ∷ [])) (s.has_met.own alone)
            ∙ ap (λ x. s.course.entries ++ own_of (x ++ e ∷ [])) (entered.none alone) ∙ ap (λ x. s.course.entries ++ x) (own_first e [] (ap is_own entered.event_is) refl)

        -- its End was not live
        killed : e.outcome ≡ NotLive → HasKilled (s.more ++ (entered.others ++ e ∷ [])) (s.course.entries ++ e ∷ [])
        killed out =
            let entries : s.course.entries ++ e ∷ [] ≡ s.has_met.entered.start ∷ (s.has_met.entered.answers ++ e ∷ []) = ap (λ x. x ++ e ∷ []) s.has_met.entered.entries_are in
            let V : List Entry → Type 0 = λ x. IsView call.home (call.seen ++ (s.more ++ (entered.others ++ e ∷ []))) x in
            let W : List Entry → Type 0 = λ x. IsView call.home x ((call.mine ++ s.course.entries) ++ e ∷ []) in
            let K : List Entry → Type 0 = λ x. HasKilled (s.more ++ (entered.others ++ e ∷ [])) x in
            let O : Event → Type 0 = λ v. IsOf session v in
            let S : Standing → Type 0 = λ t. Leave s.has_met.entered.answers t in
            let mine : (call.mine ++ s.course.entries) ++ e ∷ [] ≡ call.mine ++ (s.has_met.entered.start ∷ (s.has_met.entered.answers ++ e ∷ [])) =
            append_assoc call.mine s.course.entries (e ∷ []) ∙ ap (λ x. call.mine ++ x) entries in
            subst K (sym entries)
            (was_killed call.home call.seen (s.more ++ (entered.others ++ e ∷ [])) call.mine s.has_met.entered.start e s.has_met.entered.answers call.peer session
            (subst V mine (subst W (append_assoc call.seen s.more (entered.others ++ e ∷ [])) (views _ _ entered.stands)))
            (Contains-append_left s.more (entered.others ++ e ∷ []) s.has_met.entered.start s.has_met.fresh)
            s.has_met.entered.event s.has_met.entered.started (subst S was s.has_met.leave)
            (all_asked session s.has_met.entered.answers s.course.requests s.has_met.entered.events) (subst O (sym entered.event_is) refl) out
            (λ alone. own_and_end alone ∙ entries))

        by : (l : Bool) → (e.outcome ≡ Ended) ⊎ (e.outcome ≡ NotLive) → Ending e.outcome l → Serves schema call Then IsSpentThen now (if l then met.end else Killed)
        by true (inl out) ending =
            Served session s.more (entered.others ++ e ∷ []) (e ∷ []) s.course met.standing met.end met.end s.has_met (Ends entered.others e entered.none was unspent entered.event_is out) (λ is. absurd (not_killed was is)) stands
        by false (inr out) ending =
            Served session s.more (entered.others ++ e ∷ []) (e ∷ []) s.course met.standing met.end Killed s.has_met (IsDead entered.others e entered.none was unspent entered.event_is out) (λ is. killed out) stands
        by true (inr out) ending = absurd (not_both (subst (λ (o : Outcome). Ending o true) out ending))
          where
            not_both : ¬ (◌≡◌ {A = Bool} true false)
            not_both b = cc
        by false (inl out) ending = absurd (not_both (subst (λ (o : Outcome). Ending o false) out ending))
          where
            not_both : ¬ (◌≡◌ {A = Bool} false true)
            not_both b = cc

-- a Start is entered
pub begun : (call : Call) (Then : List Entry → List Entry → Type 0) (IsSpentAt : ℕ → Type 0) (e : Entry) (result : Result ℕ SessionEnd)
    → Lands Then call.home.alone call.seen (call.mine ++ e ∷ []) (Start call.peer) e → ComesTo e.outcome result → Begins call Then IsSpentAt result
begun call Then IsSpentAt e result entered comes = by e.outcome refl comes
  where
    starts : (outcome : Outcome) → e.outcome ≡ outcome → Starts call (entered.others ++ e ∷ []) e outcome
    starts outcome is = record {
      event = entered.event_is;
      outcome_is = is;
      alone = λ alone. ap (λ x. x ++ e ∷ []) (entered.none alone);
      last = entered.others;
      more_is = refl;
    }

    by : (outcome : Outcome) → e.outcome ≡ outcome → ComesTo outcome result → Begins call Then IsSpentAt result
    by (Started n) is gives =
        let P : Result ℕ SessionEnd → Type 0 = λ r. Begins call Then IsSpentAt r in
        subst P (sym gives) (entered.others ++ e ∷ [], e, starts (Started n) is, entered.stands)
    by (IsFull live last) is gives =
        let P : Result ℕ SessionEnd → Type 0 = λ r. Begins call Then IsSpentAt r in
        subst P (sym gives) (entered.others ++ e ∷ [], e, starts (IsFull live last) is, entered.stands)
    by (Answered decided reply) is gives = absurd gives
    by NotLive is gives = absurd gives
    by Ended is gives = absurd gives
    by Noted is gives = absurd gives

-- no Start is entered: want of memory, or the desk is spent
pub start_for_memory : (call : Call) (Then : List Entry → List Entry → Type 0) (IsSpentAt : ℕ → Type 0) (e : Entry) → Lands Then call.home.alone call.seen call.mine Reading e
    → own_of (e ∷ []) ≡ [] → Begins call Then IsSpentAt (Err Memory)
start_for_memory call Then IsSpentAt e entered none =
    (entered.others ++ e ∷ [], (λ alone. ap own_of (ap (λ x. x ++ e ∷ []) (entered.none alone)) ∙ none), entered.stands)

pub start_spent : (call : Call) (Then : List Entry → List Entry → Type 0) (IsSpentAt : ℕ → Type 0) (ticket : ℕ) → IsLastNumber call.home.alone call.seen ticket → IsSpentAt ticket → Then call.seen call.mine
    → Begins call Then IsSpentAt (Err (Spent ticket))
start_spent call Then IsSpentAt ticket last spent stands =
    let P : List Entry → Type 0 = λ x. Then x call.mine in
    ([], (last, spent, refl), subst P (sym (append-nil call.seen)) stands)

-- there is no session
pub not_begun : (schema : Tables) (call : Call) (Then : List Entry → List Entry → Type 0) (IsSpentAt : ℕ → Type 0) (now : Streams) (end : SessionEnd) → now ≡ call.before → Begins call Then IsSpentAt (Err end)
    → Serves schema call Then IsSpentAt now end
not_begun schema call Then IsSpentAt now (Full live last) unused b = NoPlace live last b.0 b.1 b.2 unused b.3
not_begun schema call Then IsSpentAt now (Spent ticket) unused b = NoStart (Spent ticket) b.0 b.1 unused b.2
not_begun schema call Then IsSpentAt now Memory unused b = NoStart Memory b.0 b.1 unused b.2
not_begun schema call Then IsSpentAt now Closed unused b = absurd b.1
not_begun schema call Then IsSpentAt now InputEnded unused b = absurd b.1
not_begun schema call Then IsSpentAt now (BadHello why) unused b = absurd b.1
not_begun schema call Then IsSpentAt now (BadFrame at) unused b = absurd b.1
not_begun schema call Then IsSpentAt now (TooBig at) unused b = absurd b.1
not_begun schema call Then IsSpentAt now (Malformed at why) unused b = absurd b.1
not_begun schema call Then IsSpentAt now Killed unused b = absurd b.1
not_begun schema call Then IsSpentAt now ReadFault unused b = absurd b.1
not_begun schema call Then IsSpentAt now WriteFault unused b = absurd b.1
