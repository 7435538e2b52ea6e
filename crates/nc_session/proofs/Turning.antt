-- A session from one request to the next.
use Rattle.std.proofs.Common.{◌≡◌, ◌≢◌, ◌⊎◌, ℕ, ◌≤◌, List, [], ◌∷◌, ◌++◌, length, map, refl, sym, ap, subst, ◌∙◌, append_assoc, length-append, arith, Option, Some, None, IsTrue, Result, Ok, Err}
use Rattle.std.specs.Prelude.{OnOk}
use Rattle.std.proofs.lemmas.List.Elements.{All-push, Contains-append_left}
use Rattle.std.specs.List.{Contains}
use Rattle.std.specs.Io.KnownBytes.{append_known, prepend_known, IsAtEnd}
use Rattle.nc_names.specs.Counts.{Rose}
use Rattle.nc_outside.specs.Causes.{TookPart}
use Rattle.nc_outside.specs.Streams.{Streams, SameCounts}
use Rattle.nc_outside.proofs.Known.{append_twice, append_nothing, prepend_twice, took_whole, took_more}
use Rattle.nc_frames.specs.Framing.{Mode}
use Rattle.nc_schema.specs.Tables.{Tables}
use Rattle.nc_model.specs.declared.entry.Entry.{Entry}
use Rattle.nc_model.specs.declared.event.Event.{Event}
use Rattle.nc_model.specs.declared.event.Event.TheVariants.{Request as Requested, Reading}
use Rattle.nc_model.specs.declared.event.Outcome.{Outcome}
use Rattle.nc_model.specs.declared.event.Outcome.TheVariants.{NotLive}
use Rattle.nc_protocol.specs.declared.request.Request.{Request}
use Rattle.nc_model.specs.Desks.{IsLastNumber, own_of}
use Rattle.nc_session.specs.declared.base.Base.{Base}
use Rattle.nc_session.specs.declared.end.SessionEnd.{SessionEnd}
use Rattle.nc_session.specs.declared.end.SessionEnd.TheVariants.{Closed, InputEnded, BadHello, BadFrame, TooBig, Malformed, Killed, ReadFault, WriteFault, Full, Spent, Memory}
use Rattle.nc_session.specs.declared.session_core.Phase.{Phase}
use Rattle.nc_session.specs.declared.session_core.Phase.TheVariants.{Serving}
use Rattle.nc_session.specs.declared.standing.Standing.{Standing}
use Rattle.nc_session.specs.declared.standing.Standing.TheVariants.{Live, Closed as IsClosed, Dead}
use Rattle.nc_session.specs.declared.turn.Met.{Met as Meeting}
use Rattle.nc_session.specs.Asks.{AsksFirst, AsksAll}
use Rattle.nc_session.specs.Cores.{Core, IsIn, IsAt}
use Rattle.nc_session.specs.Sessions.{session_text, entry_text, standing_after, Leave, HasEntered}
use Rattle.nc_session.specs.Serves.{Call, Course, AsksThese, Wrote, CountedBy, Met}
use Rattle.nc_session.specs.inner.Turns.{Underway, entered_all, one_ahead, TellsEnd, Stops, Turns, Intake, SameIntake, Progress, Fetches, Settles, SettlesBy, Writes}
use Rattle.nc_session.specs.inner.Unseen.{Unseen}
use Rattle.nc_session.proofs.Ending.{IsStop, all_stop, asks_in, asks_all, asks_these, same_text, text_more, entered_more, own_entries, own_but_reading}
use Rattle.nc_session.proofs.Living.{Lands}

-- the fault of a sink after none
write_failed : (before now later : Streams) → SameCounts before now → later.ends ≡ now.ends → later.reads_failed ≡ now.reads_failed → Rose now.writes_failed later.writes_failed → CountedBy before later WriteFault
write_failed before now later none ends reads rose =
    let P : ℕ → Type 0 = λ n. Rose n later.writes_failed in (ends ∙ none.ends, reads ∙ none.reads, subst P none.writes rose)

read_failed : (before now later : Streams) → SameCounts before now → later.ends ≡ now.ends → Rose now.reads_failed later.reads_failed → later.writes_failed ≡ now.writes_failed → CountedBy before later ReadFault
read_failed before now later none ends rose writes =
    let P : ℕ → Type 0 = λ n. Rose n later.reads_failed in (ends ∙ none.ends, subst P none.reads rose, writes ∙ none.writes)

input_ended : (before now later : Streams) → SameCounts before now → Rose now.ends later.ends → later.reads_failed ≡ now.reads_failed → later.writes_failed ≡ now.writes_failed → CountedBy before later InputEnded
input_ended before now later none rose reads writes =
    let P : ℕ → Type 0 = λ n. Rose n later.ends in (subst P none.ends rose, reads ∙ none.reads, writes ∙ none.writes)

abbrev pub same_counts : (before now later : Streams) → SameCounts before now → later.ends ≡ now.ends → later.reads_failed ≡ now.reads_failed → later.writes_failed ≡ now.writes_failed → SameCounts before later
same_counts before now later none ends reads writes = record { ends = ends ∙ none.ends; reads = reads ∙ none.reads; writes = writes ∙ none.writes }

pub live_not_dead : Live ≢ Dead
live_not_dead is = cc

abbrev map_requests : ℕ → List Request → List Event
map_requests session requests = map (λ request. Requested session request) requests

module _ (schema : Tables) (call : Call) (session : ℕ) (Stands : List Entry → List Entry → Type 0) (core : Core) (now : Streams) where
  -- the desk and the reader are as they were: a session that goes on meets an end. The reader may have given
  -- one request that was not entered.
  pub meets : (Then : List Entry → List Entry → Type 0) (IsSpentAt : ℕ → Type 0) (ahead : List Request → List Request) (u : Underway schema call session Stands ahead core now) (more : List Entry) (later : Streams) (end : SessionEnd)
      → Then (call.seen ++ more) (call.mine ++ u.course.entries) → Contains more u.entered.start
      → (IsTrue call.home.alone → own_of more ≡ u.course.entries)
      → (IsTrue call.home.alone → end ≢ Memory → more ≡ u.course.entries)
      → (course : Course) → course.entries ≡ u.course.entries → course.requests ≡ u.course.requests
      → call.before.left ≡ prepend_known course.bytes later.left → AsksThese course → Met schema call course (call.seen ++ more) later Live end → CountedBy call.before later end
      → TellsEnd IsSpentAt end
      → Stops schema call session Then IsSpentAt later (record { standing = Live; end = end })
  meets Then IsSpentAt ahead u more later end stands fresh own exact course entries requests read asks met counted spent =
      let P : List Entry → Type 0 = λ x. Then (call.seen ++ more) (call.mine ++ x) in
      record {
        course = course;
        more = more;
        stands = subst P (sym entries) stands;
        has_met = record {
          entered = record {
            start = u.entered.start;
            answers = u.entered.answers;
            entries_are = entries ∙ u.entered.entries_are;
            event = u.entered.event;
            started = u.entered.started;
            events = u.entered.events ∙ ap (map_requests session) (sym requests);
          };
          fresh = fresh;
          leave = u.live;
          own = λ alone. own alone ∙ sym entries;
          exact = λ alone other. exact alone other ∙ sym entries;
          read = read;
          asks = asks;
          met = met;
          counted = counted;
        };
        spent = spent;
      }

  -- want of memory, or the desk is spent, at a request
  pub memory_at_desk : (Then : List Entry → List Entry → Type 0) (IsSpentAt : ℕ → Type 0) (request : Request) (u : Underway schema call session Stands (one_ahead request) core now) (e : Entry)
      → Lands Then call.home.alone (call.seen ++ u.more) (call.mine ++ u.course.entries) Reading e → Stops schema call session Then IsSpentAt now (record { standing = Live; end = Memory })
  memory_at_desk Then IsSpentAt request u e entered =
      let P : List Entry → Type 0 = λ x. Then x (call.mine ++ u.course.entries) in
      meets Then IsSpentAt (one_ahead request) u (u.more ++ (entered.others ++ e ∷ [])) now Memory
      (subst P (append_assoc call.seen u.more (entered.others ++ e ∷ [])) entered.stands)
      (Contains-append_left u.more (entered.others ++ e ∷ []) u.entered.start u.fresh)
      (λ alone. ap own_of (ap (λ x. x ++ (entered.others ++ e ∷ [])) (u.alone alone) ∙ ap (λ x. u.course.entries ++ (x ++ e ∷ [])) (entered.none alone))
      ∙ own_but_reading u.course.entries e entered.event_is ∙ own_entries call.peer session u.course.requests u.course.entries u.entered)
      (λ alone other. absurd (other refl))
      u.course refl refl u.read (record { more = request ∷ []; asks = asks_in (Unseen core.inbox) core.phase u.course.base u.course.bytes (u.course.requests ++ request ∷ []) u.at })
      (live_not_dead, took_whole u.wrote) u.same tt

  pub spent_at_desk : (Then : List Entry → List Entry → Type 0) (IsSpentAt : ℕ → Type 0) (request : Request) (u : Underway schema call session Stands (one_ahead request) core now) (ticket : ℕ)
      → IsLastNumber call.home.alone (call.seen ++ u.more) ticket → Then (call.seen ++ u.more) (call.mine ++ u.course.entries) → IsSpentAt ticket
      → Stops schema call session Then IsSpentAt now (record { standing = Live; end = Spent ticket })
  spent_at_desk Then IsSpentAt request u ticket last stands spent =
      meets Then IsSpentAt (one_ahead request) u u.more now (Spent ticket) stands u.fresh
      (λ alone. ap own_of (u.alone alone) ∙ own_entries call.peer session u.course.requests u.course.entries u.entered)
      (λ alone other. u.alone alone)
      u.course refl refl u.read (record { more = request ∷ []; asks = asks_in (Unseen core.inbox) core.phase u.course.base u.course.bytes (u.course.requests ++ request ∷ []) u.at })
      (refl, last, u.wrote) u.same spent

  -- a request is entered
  module _ (Then : List Entry → List Entry → Type 0) (IsSpentAt : ℕ → Type 0) (request : Request) (u : Underway schema call session Stands (one_ahead request) core now) (e : Entry)
      (entered : Lands Then call.home.alone (call.seen ++ u.more) ((call.mine ++ u.course.entries) ++ e ∷ []) (Requested session request) e)
      (dead : standing_after e ≡ Dead → e.outcome ≡ NotLive) where
    abbrev course : Course
    course = record { bytes = u.course.bytes; base = u.course.base; requests = u.course.requests ++ request ∷ []; entries = u.course.entries ++ e ∷ [] }

    abbrev more : List Entry
    more = u.more ++ (entered.others ++ e ∷ [])

    stands : Then (call.seen ++ more) (call.mine ++ course.entries)
    stands =
        let P : List Entry → Type 0 = λ x. Then x ((call.mine ++ u.course.entries) ++ e ∷ []) in
        let Q : List Entry → Type 0 = λ x. Then (call.seen ++ more) x in
        subst Q (append_assoc call.mine u.course.entries (e ∷ [])) (subst P (append_assoc call.seen u.more (entered.others ++ e ∷ [])) entered.stands)

    abbrev has : HasEntered call.peer session course.requests course.entries
    has = entered_more call.peer session u.course.requests u.course.entries request e u.entered entered.event_is

    alone_grown : IsTrue call.home.alone → more ≡ course.entries
    alone_grown alone = ap (λ x. x ++ (entered.others ++ e ∷ [])) (u.alone alone) ∙ ap (λ x. u.course.entries ++ (x ++ e ∷ [])) (entered.none alone)

    longer : length course.entries ≤ length more
    longer = omega (arith, u.grown, length-append u.course.entries (e ∷ []), length-append u.more (entered.others ++ e ∷ []), length-append entered.others (e ∷ []))

    text : session_text schema course.base course.entries ≡ session_text schema course.base u.course.entries ++ entry_text schema course.base e.outcome
    text = text_more schema u.course.base u.course.entries e

    wrote : (taken : Option (List ℕ)) → taken ≡ append_known now.taken (entry_text schema course.base e.outcome) → taken ≡ append_known call.before.taken (session_text schema course.base course.entries)
    wrote taken is =
        is ∙ ap (λ k. append_known k (entry_text schema course.base e.outcome)) u.wrote
        ∙ append_twice call.before.taken (session_text schema course.base u.course.entries) (entry_text schema course.base e.outcome) ∙ ap (append_known call.before.taken) (sym text)

    wrote_part : (taken : Option (List ℕ)) → TookPart now.taken taken (entry_text schema course.base e.outcome) → TookPart call.before.taken taken (session_text schema course.base course.entries)
    wrote_part taken part =
        let P : List ℕ → Type 0 = λ x. TookPart call.before.taken taken x in
        subst P (sym text) (took_more (session_text schema course.base u.course.entries) u.wrote part)

    leave : (standing : Standing) → standing ≡ standing_after e → Leave has.answers standing
    leave Live is = All-push (λ (x : Entry). standing_after x ≡ Live) u.entered.answers e u.live (sym is)
    leave IsClosed is = record { before = u.entered.answers; last = e; entries_are = refl; live = u.live; is = sym is }
    leave Dead is = record { before = u.entered.answers; last = e; entries_are = refl; live = u.live; is = dead (sym is) }

    stops : (later : Streams) (standing : Standing) (end : SessionEnd) → standing ≡ standing_after e → later.left ≡ now.left → Met schema call course (call.seen ++ more) later standing end
        → CountedBy call.before later end → TellsEnd IsSpentAt end → Stops schema call session Then IsSpentAt later (record { standing = standing; end = end })
    stops later standing end is left met counted spent = record {
      course = course;
      more = more;
      stands = stands;
      has_met = record {
        entered = has;
        fresh = Contains-append_left u.more (entered.others ++ e ∷ []) u.entered.start u.fresh;
        leave = leave standing is;
        own = λ alone. ap own_of (alone_grown alone) ∙ own_entries call.peer session course.requests course.entries has;
        exact = λ alone other. alone_grown alone;
        read = u.read ∙ ap (prepend_known u.course.bytes) (sym left);
        asks = asks_these course (asks_in (Unseen core.inbox) core.phase u.course.base u.course.bytes (u.course.requests ++ request ∷ []) u.at);
        met = met;
        counted = counted;
      };
      spent = spent;
    }

    by_end : (later : Streams) (standing : Standing) (end : SessionEnd) → standing ≡ standing_after e → later.left ≡ now.left → later.ends ≡ now.ends → later.reads_failed ≡ now.reads_failed
        → SettlesBy (entry_text schema course.base e.outcome) now.taken later.taken now.writes_failed later.writes_failed standing end
        → Stops schema call session Then IsSpentAt later (record { standing = standing; end = end })
    by_end later standing Killed is left ends reads by =
        let P : Outcome → Type 0 = λ o. append_known now.taken (entry_text schema course.base o) ≡ now.taken in
        let nothing : append_known now.taken (entry_text schema course.base e.outcome) ≡ now.taken = subst P (sym (dead (sym is ∙ by.0))) (append_nothing now.taken) in
        stops later standing Killed is left (by.0, wrote later.taken (by.1 ∙ sym nothing)) (same_counts call.before now later u.same ends reads by.2) tt
    by_end later standing Closed is left ends reads by = stops later standing Closed is left (by.0, wrote later.taken by.1.0) (same_counts call.before now later u.same ends reads by.1.1) tt
    by_end later standing WriteFault is left ends reads by = stops later standing WriteFault is left (by.0, wrote_part later.taken by.1.0) (write_failed call.before now later u.same ends reads by.1.1) tt
    by_end later standing Memory is left ends reads by = stops later standing Memory is left (by.0, wrote_part later.taken by.1.0) (same_counts call.before now later u.same ends reads by.1.1) tt
    by_end later standing InputEnded is left ends reads by = absurd by
    by_end later standing (BadHello why) is left ends reads by = absurd by
    by_end later standing (BadFrame place) is left ends reads by = absurd by
    by_end later standing (TooBig place) is left ends reads by = absurd by
    by_end later standing (Malformed place why) is left ends reads by = absurd by
    by_end later standing ReadFault is left ends reads by = absurd by
    by_end later standing (Full live last) is left ends reads by = absurd by
    by_end later standing (Spent ticket) is left ends reads by = absurd by

    -- its answer is written, and the session goes on or meets an end
    pub answered : (later : Streams) (result : Result (Unit {0}) Meeting) → later.left ≡ now.left → later.ends ≡ now.ends → later.reads_failed ≡ now.reads_failed
        → Settles schema u.course.base e now.taken later.taken now.writes_failed later.writes_failed result
        → Turns schema call session Then IsSpentAt (length u.course.requests) core later result
    answered later (Ok x) left ends reads settles = (
      record {
        course = course;
        more = more;
        stands = stands;
        entered = has;
        fresh = Contains-append_left u.more (entered.others ++ e ∷ []) u.entered.start u.fresh;
        live = leave Live (sym settles.0);
        alone = alone_grown;
        grown = longer;
        read = u.read ∙ ap (prepend_known u.course.bytes) (sym left);
        at = u.at;
        wrote = wrote later.taken settles.1.0;
        same = same_counts call.before now later u.same ends reads settles.1.1;
      },
      omega (arith, length-append u.course.requests (request ∷ [])),
    )
    answered later (Err met) left ends reads settles = by_end later met.standing met.end settles.0 left ends reads settles.1

  -- the session's source was read
  abbrev pub after_reading : Intake → Streams
  after_reading later = record { left = later.left; ends = later.ends; reads_failed = later.failed; taken = now.taken; writes_failed = now.writes_failed }

  abbrev pub source_of : Intake
  source_of = record { left = now.left; ends = now.ends; failed = now.reads_failed }

  module _ (u : Underway schema call session Stands entered_all core now) (later : Intake) (p : Progress u.course.requests u.course.base source_of later) where
    abbrev read_course : Course
    read_course = record { bytes = u.course.bytes ++ p.piece; base = p.now_base; requests = u.course.requests; entries = u.course.entries }

    pub read_wrote : Wrote schema call read_course (after_reading later)
    read_wrote = u.wrote ∙ ap (append_known call.before.taken) (sym (same_text schema u.course.base p.now_base call.peer session u.course.requests u.course.entries u.entered p.chosen))

    pub read_bytes : call.before.left ≡ prepend_known (u.course.bytes ++ p.piece) later.left
    read_bytes = u.read ∙ ap (prepend_known u.course.bytes) p.read ∙ prepend_twice later.left u.course.bytes p.piece

    -- a request is to be entered
    abbrev pub to_ask : (next : Core) (request : Request) → SameIntake source_of later → IsAt next p.now_base (u.course.bytes ++ p.piece) (u.course.requests ++ request ∷ [])
        → Underway schema call session Stands (one_ahead request) next (after_reading later)
    to_ask next request same at = record {
      course = read_course;
      more = u.more;
      stands = u.stands;
      entered = u.entered;
      fresh = u.fresh;
      live = u.live;
      alone = u.alone;
      grown = u.grown;
      read = read_bytes;
      at = at;
      wrote = read_wrote;
      same = same_counts call.before now (after_reading later) u.same same.0 same.1 refl;
    }

    -- the session meets an end at its reader or its source
    ends : (IsSpentAt : ℕ → Type 0) (end : SessionEnd) → (u.course.requests ≡ []) ⊎ AsksFirst p.now_base (u.course.bytes ++ p.piece) u.course.requests
        → Met schema call read_course (call.seen ++ u.more) (after_reading later) Live end → CountedBy call.before (after_reading later) end → TellsEnd IsSpentAt end
        → Stops schema call session Stands IsSpentAt (after_reading later) (record { standing = Live; end = end })
    ends IsSpentAt end asks met counted spent =
        meets Stands IsSpentAt entered_all u u.more (after_reading later) end u.stands u.fresh
        (λ alone. ap own_of (u.alone alone) ∙ own_entries call.peer session u.course.requests u.course.entries u.entered)
        (λ alone other. u.alone alone)
        read_course refl refl read_bytes (asks_these read_course asks) met counted spent

    counts_same : SameIntake source_of later → SameCounts call.before (after_reading later)
    counts_same same = same_counts call.before now (after_reading later) u.same same.0 same.1 refl

    -- the bytes stop
    pub over : (IsSpentAt : ℕ → Type 0) (end : SessionEnd) → SameIntake source_of later → AsksAll p.now_base (u.course.bytes ++ p.piece) u.course.requests (Some end)
        → Stops schema call session Stands IsSpentAt (after_reading later) (record { standing = Live; end = end })
    over IsSpentAt end same all = by end (all_stop p.now_base (u.course.bytes ++ p.piece) u.course.requests end all) all
      where
        by : (e : SessionEnd) → IsStop e → AsksAll p.now_base (u.course.bytes ++ p.piece) u.course.requests (Some e) → Stops schema call session Stands IsSpentAt (after_reading later) (record { standing = Live; end = e })
        by (BadHello why) is stop = ends IsSpentAt (BadHello why) (asks_all p.now_base (u.course.bytes ++ p.piece) u.course.requests _ stop) (refl, stop, read_wrote) (counts_same same) tt
        by (BadFrame at) is stop = ends IsSpentAt (BadFrame at) (asks_all p.now_base (u.course.bytes ++ p.piece) u.course.requests _ stop) (refl, stop, read_wrote) (counts_same same) tt
        by (TooBig at) is stop = ends IsSpentAt (TooBig at) (asks_all p.now_base (u.course.bytes ++ p.piece) u.course.requests _ stop) (refl, stop, read_wrote) (counts_same same) tt
        by (Malformed at why) is stop = ends IsSpentAt (Malformed at why) (asks_all p.now_base (u.course.bytes ++ p.piece) u.course.requests _ stop) (refl, stop, read_wrote) (counts_same same) tt
        by Closed is stop = absurd is
        by InputEnded is stop = absurd is
        by Killed is stop = absurd is
        by ReadFault is stop = absurd is
        by WriteFault is stop = absurd is
        by (Full live last) is stop = absurd is
        by (Spent ticket) is stop = absurd is
        by Memory is stop = absurd is

    pub at_end : (IsSpentAt : ℕ → Type 0) → IsAtEnd later.left → Rose source_of.ends later.ends → later.failed ≡ source_of.failed → AsksAll p.now_base (u.course.bytes ++ p.piece) u.course.requests None
        → Stops schema call session Stands IsSpentAt (after_reading later) (record { standing = Live; end = InputEnded })
    at_end IsSpentAt left rose failed all =
        ends IsSpentAt InputEnded (asks_all p.now_base (u.course.bytes ++ p.piece) u.course.requests None all) (refl, left, all, read_wrote)
        (input_ended call.before now (after_reading later) u.same rose failed refl) tt

    pub at_fault : (IsSpentAt : ℕ → Type 0) → later.ends ≡ source_of.ends → Rose source_of.failed later.failed → AsksAll p.now_base (u.course.bytes ++ p.piece) u.course.requests None
        → Stops schema call session Stands IsSpentAt (after_reading later) (record { standing = Live; end = ReadFault })
    at_fault IsSpentAt same rose all =
        ends IsSpentAt ReadFault (asks_all p.now_base (u.course.bytes ++ p.piece) u.course.requests None all) (refl, all, read_wrote)
        (read_failed call.before now (after_reading later) u.same same rose refl) tt

    pub for_memory : (IsSpentAt : ℕ → Type 0) → SameIntake source_of later → (u.course.requests ≡ []) ⊎ AsksFirst p.now_base (u.course.bytes ++ p.piece) u.course.requests
        → Stops schema call session Stands IsSpentAt (after_reading later) (record { standing = Live; end = Memory })
    for_memory IsSpentAt same asks = ends IsSpentAt Memory asks (live_not_dead, took_whole read_wrote) (counts_same same) tt

  -- there is no request
  pub unfetched : (u : Underway schema call session Stands entered_all core now) (IsSpentAt : ℕ → Type 0) (next : Core) (later : Intake) (end : SessionEnd)
      → Fetches next u.course.base u.course.bytes u.course.requests source_of later (Err end)
      → Stops schema call session Stands IsSpentAt (after_reading later) (record { standing = Live; end = end })
  unfetched u IsSpentAt next later InputEnded f = at_end u later f.0 IsSpentAt f.1 f.2 f.3 f.4
  unfetched u IsSpentAt next later ReadFault f = at_fault u later f.0 IsSpentAt f.1 f.2 f.3
  unfetched u IsSpentAt next later Memory f = for_memory u later f.0 IsSpentAt f.1 f.2
  unfetched u IsSpentAt next later (BadHello why) f = over u later f.0 IsSpentAt (BadHello why) f.1 f.2
  unfetched u IsSpentAt next later (BadFrame at) f = over u later f.0 IsSpentAt (BadFrame at) f.1 f.2
  unfetched u IsSpentAt next later (TooBig at) f = over u later f.0 IsSpentAt (TooBig at) f.1 f.2
  unfetched u IsSpentAt next later (Malformed at why) f = over u later f.0 IsSpentAt (Malformed at why) f.1 f.2
  unfetched u IsSpentAt next later Closed f = over u later f.0 IsSpentAt Closed f.1 f.2
  unfetched u IsSpentAt next later Killed f = over u later f.0 IsSpentAt Killed f.1 f.2
  unfetched u IsSpentAt next later WriteFault f = over u later f.0 IsSpentAt WriteFault f.1 f.2
  unfetched u IsSpentAt next later (Full live last) f = over u later f.0 IsSpentAt (Full live last) f.1 f.2
  unfetched u IsSpentAt next later (Spent ticket) f = over u later f.0 IsSpentAt (Spent ticket) f.1 f.2

-- the version of the protocol of a reader that has one
pub based_on : (U : Mode → ℕ → List ℕ → Type 0) (phase : Phase) (chosen base : Base) (bytes : List ℕ) (given : List Request) → phase ≡ Serving chosen
    → IsIn U phase base bytes given → phase ≡ Serving base
based_on U phase chosen base bytes given is at = is ∙ ap Serving (subst (λ (p : Phase). IsIn U p base bytes given) is at).0

-- what holds whatever the answer is
pub on_ok : {T E P : Type 0} (result : Result T E) → P → OnOk result P
on_ok (Ok value) is = is
on_ok (Err fault) is = tt

-- how an answer was written where its session was live
pub settles_failed : (body : List ℕ) (before now : Option (List ℕ)) (f0 f1 : ℕ) (standing : Standing) (end : SessionEnd) → standing ≢ Dead
    → Writes body before now f0 f1 (Err end) → SettlesBy body before now f0 f1 standing end
settles_failed body before now f0 f1 standing WriteFault live w = (live, w)
settles_failed body before now f0 f1 standing Memory live w = (live, w)
settles_failed body before now f0 f1 standing Closed live w = absurd w
settles_failed body before now f0 f1 standing InputEnded live w = absurd w
settles_failed body before now f0 f1 standing (BadHello why) live w = absurd w
settles_failed body before now f0 f1 standing (BadFrame at) live w = absurd w
settles_failed body before now f0 f1 standing (Malformed at why) live w = absurd w
settles_failed body before now f0 f1 standing (TooBig at) live w = absurd w
settles_failed body before now f0 f1 standing Killed live w = absurd w
settles_failed body before now f0 f1 standing ReadFault live w = absurd w
settles_failed body before now f0 f1 standing (Full l n) live w = absurd w
settles_failed body before now f0 f1 standing (Spent ticket) live w = absurd w

pub else_live : (s : Standing) → s ≢ Dead → s ≢ IsClosed → s ≡ Live
else_live Live dead closed = refl
else_live IsClosed dead closed = absurd (closed refl)
else_live Dead dead closed = absurd (dead refl)
