-- A session that a script finds killed was ended by an entry that is none of its connection's own.
use Rattle.std.proofs.Common.{◌≡◌, ℕ, true, false, List, [], ◌∷◌, ◌++◌, Option, None, Some, refl, sym, ap, subst, ◌∙◌, append-nil, append_assoc}
use Rattle.std.specs.List.{All, Contains}
use Rattle.std.proofs.lemmas.List.Elements.{All-append, All-cons, All-contains, All-head, All-nil, All-push, All-tail, All-weaker, Contains-append_left, Contains-append_right}
use Rattle.nc_model.proofs.EndLemmas.{is_ended_between}
use Rattle.nc_model.proofs.HistoryLemmas.{legal_histories_join}
use Rattle.nc_model.proofs.OwnEnd.{closes_itself}
use Rattle.nc_model.specs.History.{IsLegal, after}
use Rattle.nc_model.specs.Laws.{EndsSession, IsOf}
use Rattle.nc_model.specs.State.{State}
use Rattle.nc_model.specs.Step.{Fits}
use Rattle.nc_model.specs.declared.entry.Entry.{Entry}
use Rattle.nc_model.specs.declared.event.Event.{Event}
use Rattle.nc_model.specs.declared.event.Event.TheVariants.{Start, Request as Requested, End as Ending, Reading as ClockRead}
use Rattle.nc_model.specs.declared.event.Outcome.{Outcome}
use Rattle.nc_model.specs.declared.event.Outcome.TheVariants.{Started, Full as IsFull, Answered, NotLive, Ended, Noted}
use Rattle.nc_protocol.specs.declared.peer.Peer.{Peer}
use Rattle.nc_protocol.specs.declared.request.Request.{Request}
use Rattle.nc_session.proofs.Ending.{IsStop, all_stop}
use Rattle.nc_session.specs.declared.end.SessionEnd.{SessionEnd}
use Rattle.nc_session.specs.declared.end.SessionEnd.TheVariants.{Killed}
use Rattle.nc_session.specs.Sessions.{is_close}
use Rattle.nc_script.specs.Connections.{Board, Connection, GoesOn, no_connections}
use Rattle.nc_script.specs.Leaving.{IsAnsweredSo, StaysLive}
use Rattle.nc_script.specs.Runs.{DoesAll}
use Rattle.nc_script.specs.Steps.{AreOf, Begins, Comes, DoesTo, Ends, Greeted, HasEnded, Hears, HearsBy, Leaves, Stops, StopsDead, Unplaced, Waits, WasClosed, WasDead, WasKilled, WasOver}
use Rattle.nc_script_text.specs.declared.step.ScriptStep.{ScriptStep}
use Rattle.nc_script_text.specs.declared.step.ScriptStep.TheVariants.{Begin, Piece, End, Reading}

-- ---- lists
pub all_left : {X : Type 0} (P : X → Type 0) (xs ys : List X) → All P (xs ++ ys) → All P xs
all_left P [] ys all = All-nil P
all_left P (x ∷ xs) ys all =
    All-cons P x xs (All-head P x (xs ++ ys) all) (all_left P xs ys (All-tail P x (xs ++ ys) all))

pub all_right : {X : Type 0} (P : X → Type 0) (xs ys : List X) → All P (xs ++ ys) → All P ys
all_right P [] ys all = all
all_right P (x ∷ xs) ys all = all_right P xs ys (All-tail P x (xs ++ ys) all)

-- ---- an entry that ends its session, and one that does not
abbrev Quiet : ℕ → Entry → Type 0
Quiet session e = ¬ EndsSession session e.event e.outcome

-- what came of it is not told to a session that is not live
dead_quiet : (session : ℕ) (event : Event) → ¬ EndsSession session event NotLive
dead_quiet session (Start peer) ends = ends
dead_quiet session (Requested own request) ends = ends
dead_quiet session (Ending own) ends = ends
dead_quiet session ClockRead ends = ends

quiet_dead : (session : ℕ) (e : Entry) → e.outcome ≡ NotLive → Quiet session e
quiet_dead session e out ends = dead_quiet session e.event (subst (λ o. EndsSession session e.event o) out ends)

quiet_start : (session : ℕ) (e : Entry) (peer : Peer) → e.event ≡ Start peer → Quiet session e
quiet_start session e peer is ends = subst (λ v. EndsSession session v e.outcome) is ends

-- a request that leaves its session live does not end it
done_of : (session : ℕ) (request : Request) (outcome : Outcome) → EndsSession session (Requested session request) outcome
    → IsAnsweredSo false (is_close (Requested session request)) outcome → is_close (Requested session request) ≡ true → ⊥
done_of session request (Answered decided reply) ends live closes = cc (ends.1, live, closes)
done_of session request (Started n) ends live closes = ends
done_of session request (IsFull l n) ends live closes = ends
done_of session request NotLive ends live closes = ends
done_of session request Ended ends live closes = ends
done_of session request Noted ends live closes = ends

quiet_live : (s : State) (e : Entry) (session : ℕ) (request : Request) → Fits s e → e.event ≡ Requested session request → StaysLive e
    → Quiet session e
quiet_live s e session request fits is live ends =
    let here = subst (λ v. EndsSession session v e.outcome) is ends in
    done_of session request e.outcome here (subst (λ v. IsAnsweredSo false (is_close v) e.outcome) is live)
    (closes_itself s e session request fits is here)

-- ---- entries of a legal history
fits_at : (first : ℕ) (opening : State) (past : List Entry) (e : Entry) (more : List Entry)
    → IsLegal first opening (past ++ e ∷ more) → Fits (after opening past) e
fits_at first opening past e more legal = (legal past more e refl).1

all_quiet : (first : ℕ) (opening : State) (session : ℕ) (past : List Entry) (asked : List Request) (answers more : List Entry)
    → IsLegal first opening (past ++ (answers ++ more)) → AreOf session asked answers → All StaysLive answers
    → All (Quiet session) answers
all_quiet first opening session past asked [] more legal are live = All-nil (Quiet session)
all_quiet first opening session past [] (e ∷ answers) more legal are live = absurd (cc are)
all_quiet first opening session past (request ∷ asked) (e ∷ answers) more legal are live =
    let is : e.event ≡ Requested session request = cc are in
    let rest : AreOf session asked answers = cc are in
    All-cons (Quiet session) e answers
    (quiet_live (after opening past) e session request (fits_at first opening past e (answers ++ more) legal) is
    (All-head StaysLive e answers live))
    (all_quiet first opening session (past ++ e ∷ []) asked answers more
    (subst (IsLegal first opening) (sym (append_assoc past (e ∷ []) (answers ++ more))) legal) rest
    (All-tail StaysLive e answers live))

-- ---- a connection, and the entries so far
-- an entry that is none of the connection's own ended its session
pub record HasEnder (entries : List Entry) (c : Connection) : Type 0 where
  pub ender : Entry
  pub there : Contains entries ender
  pub ends : EndsSession c.session ender.event ender.outcome
  pub another : ¬ Contains c.course.entries ender

record Lives (past : List Entry) (c : Connection) : Type 0 where
  front : List Entry
  between : List Entry
  start : Entry
  peer : Peer
  own : List Entry
  past_is : past ≡ front ++ start ∷ between
  course_is : c.course.entries ≡ start ∷ own
  event : start.event ≡ Start peer
  started : start.outcome ≡ Started c.session
  quiet : All (Quiet c.session) own

record Tracked (past : List Entry) (c : Connection) : Type 0 where
  lives : c.end ≡ None → Lives past c
  killed : c.end ≡ Some Killed → HasEnder past c

tracked_more : (past group : List Entry) (c : Connection) → Tracked past c → Tracked (past ++ group) c
tracked_more past group c t = record {
  lives = λ none.
      let l = t.lives none in
      record {
        front = l.front;
        between = l.between ++ group;
        start = l.start;
        peer = l.peer;
        own = l.own;
        past_is = ap (λ p. p ++ group) l.past_is ∙ append_assoc l.front (l.start ∷ l.between) group;
        course_is = l.course_is;
        event = l.event;
        started = l.started;
        quiet = l.quiet;
      };
  killed = λ is.
      let k = t.killed is in
      record {
        ender = k.ender;
        there = Contains-append_left past group k.ender k.there;
        ends = k.ends;
        another = k.another;
      };
}

-- it goes on by entries of its own that do not end it
lives_on : (past group : List Entry) (c d : Connection) → Lives past c → d.session ≡ c.session
    → d.course.entries ≡ c.course.entries ++ group → All (Quiet c.session) group → Lives (past ++ group) d
lives_on past group c d l same grown quiet = record {
  front = l.front;
  between = l.between ++ group;
  start = l.start;
  peer = l.peer;
  own = l.own ++ group;
  past_is = ap (λ p. p ++ group) l.past_is ∙ append_assoc l.front (l.start ∷ l.between) group;
  course_is = grown ∙ ap (λ es. es ++ group) l.course_is;
  event = l.event;
  started = l.started ∙ ap Started (sym same);
  quiet = subst (λ n. All (Quiet n) (l.own ++ group)) (sym same)
      (All-append (Quiet c.session) l.own group l.quiet quiet);
}

-- its last entry finds it not to be live
dies : (first : ℕ) (opening : State) (past quiet : List Entry) (last : Entry) (c d : Connection) → Lives past c
    → d.session ≡ c.session → d.course.entries ≡ c.course.entries ++ (quiet ++ last ∷ [])
    → All (Quiet c.session) quiet → IsOf c.session last.event → last.outcome ≡ NotLive
    → IsLegal first opening (past ++ (quiet ++ last ∷ [])) → HasEnder (past ++ (quiet ++ last ∷ [])) d
dies first opening past quiet last c d l same grown all of dead legal =
    let past_is : past ++ (quiet ++ last ∷ []) ≡ l.front ++ l.start ∷ ((l.between ++ quiet) ++ last ∷ []) =
    ap (λ p. p ++ (quiet ++ last ∷ [])) l.past_is
    ∙ (append_assoc l.front (l.start ∷ l.between) (quiet ++ last ∷ [])
    ∙ ap (λ es. l.front ++ l.start ∷ es) (sym (append_assoc l.between quiet (last ∷ [])))) in
    let found = is_ended_between first opening l.front (l.between ++ quiet) l.start last l.peer c.session
    (subst (IsLegal first opening) past_is legal) l.event l.started of dead in
    let own : All (Quiet c.session) (l.start ∷ (l.own ++ (quiet ++ last ∷ []))) =
    All-cons (Quiet c.session) l.start (l.own ++ (quiet ++ last ∷ [])) (quiet_start c.session l.start l.peer l.event)
    (All-append (Quiet c.session) l.own (quiet ++ last ∷ []) l.quiet
    (All-push (Quiet c.session) quiet last all (quiet_dead c.session last dead))) in
    record {
      ender = found.0;
      there = subst (λ es. Contains es found.0) (sym past_is)
          (Contains-append_right l.front (l.start ∷ ((l.between ++ quiet) ++ last ∷ [])) found.0
          (Contains-append_right (l.start ∷ []) ((l.between ++ quiet) ++ last ∷ []) found.0
          (Contains-append_left (l.between ++ quiet) (last ∷ []) found.0 found.1)));
      ends = subst (λ n. EndsSession n found.0.event found.0.outcome) (sym same) found.2;
      another = λ there.
          All-contains (Quiet c.session) (l.start ∷ (l.own ++ (quiet ++ last ∷ []))) found.0 own
          (subst (λ es. Contains es found.0) (grown ∙ ap (λ es. es ++ (quiet ++ last ∷ [])) l.course_is) there) found.2;
    }

-- ---- a connection begins
begun_tracked : (past group : List Entry) (number : ℕ) (peer : Peer) (c : Connection) → Begins number peer group c
    → Tracked (past ++ group) c
begun_tracked past group number peer c (Greeted e session event out) = record {
  lives = λ none. record {
    front = past;
    between = [];
    start = e;
    peer = peer;
    own = [];
    past_is = refl;
    course_is = refl;
    event = event;
    started = out;
    quiet = All-nil (Quiet session);
  };
  killed = λ is. absurd (cc is);
}
begun_tracked past group number peer c (Unplaced e live last event out) =
    record { lives = λ none. absurd (cc none); killed = λ is. absurd (cc is) }

-- ---- bytes come
of_requests : (session : ℕ) (asked : List Request) (before : List Entry) (last : Entry) → AreOf session asked (before ++ last ∷ [])
    → IsOf session last.event
of_requests session [] [] last are = absurd (cc are)
of_requests session (request ∷ asked) [] last are =
    let is : last.event ≡ Requested session request = cc are in subst (IsOf session) (sym is) refl
of_requests session [] (e ∷ before) last are = absurd (cc are)
of_requests session (request ∷ asked) (e ∷ before) last are = of_requests session asked before last (cc are)

front_of : (session : ℕ) (asked : List Request) (before : List Entry) (last : Entry) → AreOf session asked (before ++ last ∷ [])
    → (front : List Request) × AreOf session front before
front_of session asked [] last are = ([], refl)
front_of session [] (e ∷ before) last are = absurd (cc are)
front_of session (request ∷ asked) (e ∷ before) last are =
    let is : e.event ≡ Requested session request = cc are in
    let rest = front_of session asked before last (cc are) in
    (request ∷ rest.0, λ i. is i ∷ rest.1 i)

pub of_end : (session : ℕ) (e : Entry) → e.event ≡ Ending session → IsOf session e.event
of_end session e is = subst (IsOf session) (sym is) refl

heard_tracked : (first : ℕ) (opening : State) (past : List Entry) (piece : List ℕ) (group : List Entry) (c d : Connection)
    → IsLegal first opening (past ++ group) → Lives past c → Hears piece group c d → Tracked (past ++ group) d
heard_tracked first opening past piece group c d legal l h = by h.ended d.end refl refl h.comes
  where
    same : d.session ≡ c.session
    same = ap (λ x. x.session) h.same

    -- the entries of the piece
    with_ended : (ended : List Entry) → h.ended ≡ ended → group ≡ h.answers ++ ended
    with_ended ended is = h.group_is ∙ ap (λ es. h.answers ++ es) is

    legal_with : (ended : List Entry) → h.ended ≡ ended → IsLegal first opening (past ++ (h.answers ++ ended))
    legal_with ended is = subst (λ g. IsLegal first opening (past ++ g)) (with_ended ended is) legal

    by : (ended : List Entry) (end : Option SessionEnd) → h.ended ≡ ended → d.end ≡ end
        → Comes c.session d.course h.answers ended end → Tracked (past ++ group) d
    by ended end nothing is (Waits live all) =
        let quiet = all_quiet first opening c.session past h.asked h.answers [] (legal_with [] nothing) h.are live in
        let group_is : h.answers ≡ group = sym (with_ended [] nothing ∙ append-nil h.answers) in
        record {
          lives = λ none. lives_on past group c d l same h.entries_are (subst (All (Quiet c.session)) group_is quiet);
          killed = λ killed. absurd (cc (is, killed));
        }
    by ended end nothing is (WasClosed last first_asked) =
        record { lives = λ none. absurd (cc (is, none)); killed = λ killed. absurd (cc (is, killed)) }
    by ended end nothing is (WasDead last first_asked) =
        let group_is : group ≡ last.before ++ last.last ∷ [] =
        with_ended [] nothing ∙ (append-nil h.answers ∙ last.entries_are) in
        let are = subst (AreOf c.session h.asked) last.entries_are h.are in
        let fewer = front_of c.session h.asked last.before last.last are in
        let here = subst (λ g. IsLegal first opening (past ++ g)) group_is legal in
        let quiet = all_quiet first opening c.session past fewer.0 last.before (last.last ∷ []) here fewer.1 last.live in
        record {
          lives = λ none. absurd (cc (is, none));
          killed = λ killed.
              subst (λ g. HasEnder (past ++ g) d) (sym group_is)
              (dies first opening past last.before last.last c d l same
              (h.entries_are ∙ ap (λ g. c.course.entries ++ g) group_is) quiet
              (of_requests c.session h.asked last.before last.last are) last.is here);
        }
    by ended end one is (Stops stop e live all event out) = record {
      lives = λ none. absurd (cc (is, none));
      killed = λ killed.
          let was : stop ≡ Killed = cc (is, killed) in
          absurd (subst IsStop was (all_stop d.course.base d.course.bytes d.course.requests stop all));
    }
    by ended end one is (StopsDead stop e live all event out) =
        let group_is : group ≡ h.answers ++ e ∷ [] = with_ended (e ∷ []) one in
        let here = legal_with (e ∷ []) one in
        let quiet = all_quiet first opening c.session past h.asked h.answers (e ∷ []) here h.are live in
        record {
          lives = λ none. absurd (cc (is, none));
          killed = λ killed.
              subst (λ g. HasEnder (past ++ g) d) (sym group_is)
              (dies first opening past h.answers e c d l same
              (h.entries_are ∙ ap (λ g. c.course.entries ++ g) group_is) quiet (of_end c.session e event) out here);
        }

heard_by : (first : ℕ) (opening : State) (past : List Entry) (piece : List ℕ) (group : List Entry) (c d : Connection)
    (end : Option SessionEnd) → c.end ≡ end → IsLegal first opening (past ++ group) → Tracked past c
    → HearsBy end piece group c d → Tracked (past ++ group) d
heard_by first opening past piece group c d None is legal t hears = heard_tracked first opening past piece group c d legal (t.lives is) hears
heard_by first opening past piece group c d (Some end) is legal t (none, same) =
    subst (λ x. Tracked (past ++ group) x) (sym same) (tracked_more past group c t)

-- ---- a connection ends
left_tracked : (first : ℕ) (opening : State) (past group : List Entry) (c d : Connection) (was end : Option SessionEnd)
    → c.end ≡ was → d.end ≡ end → d.session ≡ c.session → d.course.entries ≡ c.course.entries ++ group
    → IsLegal first opening (past ++ group) → Tracked past c → Leaves c.session was group end → Tracked (past ++ group) d
left_tracked first opening past group c d was end was_is is same grown legal t (WasOver over) = record {
  lives = λ none. absurd (cc (is, none));
  killed = λ killed.
      let k = t.killed (cc (is, was_is, killed)) in
      record {
        ender = k.ender;
        there = Contains-append_left past [] k.ender k.there;
        ends = subst (λ n. EndsSession n k.ender.event k.ender.outcome) (sym same) k.ends;
        another = λ there. k.another (subst (λ es. Contains es k.ender) (grown ∙ append-nil c.course.entries) there);
      };
}
left_tracked first opening past group c d was end was_is is same grown legal t (HasEnded e event out) =
    record { lives = λ none. absurd (cc (is, none)); killed = λ killed. absurd (cc (is, killed)) }
left_tracked first opening past group c d was end was_is is same grown legal t (WasKilled e event out) = record {
  lives = λ none. absurd (cc (is, none));
  killed = λ killed.
      dies first opening past [] e c d (t.lives was_is) same grown (All-nil (Quiet c.session)) (of_end c.session e event) out legal;
}

-- ---- a step
one_goes : (past group : List Entry) (Goes : Connection → Connection → Type 0) (number : ℕ) (connections next : List Connection)
    → ((c d : Connection) → Goes c d → Tracked past c → Tracked (past ++ group) d)
    → GoesOn Goes number connections next → All (Tracked past) connections → All (Tracked (past ++ group)) next
one_goes past group Goes number connections next goes g all =
    let split = subst (All (Tracked past)) g.board_is all in
    let right = all_right (Tracked past) g.front (g.old ∷ g.behind) split in
    subst (All (Tracked (past ++ group))) (sym g.next_is)
    (All-append (Tracked (past ++ group)) g.front (g.new ∷ g.behind)
    (All-weaker (Tracked past) (Tracked (past ++ group)) (tracked_more past group) g.front
    (all_left (Tracked past) g.front (g.old ∷ g.behind) split))
    (All-cons (Tracked (past ++ group)) g.new g.behind
    (goes g.old g.new g.goes (All-head (Tracked past) g.old g.behind right))
    (All-weaker (Tracked past) (Tracked (past ++ group)) (tracked_more past group) g.behind
    (All-tail (Tracked past) g.old g.behind right))))

step_tracked : (first : ℕ) (opening : State) (past : List Entry) (step : ScriptStep) (board : Board) (group : List Entry)
    (next : Board) → IsLegal first opening (past ++ group) → DoesTo step board group next
    → All (Tracked past) board.connections → All (Tracked (past ++ group)) next.connections
step_tracked first opening past (Begin number peer) board group next legal (fresh, (c, begins, is)) all =
    subst (λ b. All (Tracked (past ++ group)) b.connections) (sym is)
    (All-push (Tracked (past ++ group)) board.connections c
    (All-weaker (Tracked past) (Tracked (past ++ group)) (tracked_more past group) board.connections all)
    (begun_tracked past group number peer c begins))
step_tracked first opening past (Piece number piece) board group next legal (goes, same) all =
    one_goes past group (λ old new. HearsBy old.end piece group old new) number board.connections next.connections
    (λ c d hears t. heard_by first opening past piece group c d c.end refl legal t hears) goes all
step_tracked first opening past (End number) board group next legal (goes, same) all =
    one_goes past group (Ends group) number board.connections next.connections
    (λ c d ends t. left_tracked first opening past group c d c.end d.end refl refl (ap (λ x. x.session) ends.new_is)
    (ap (λ x. x.course.entries) ends.new_is) legal t ends.leaves) goes all
step_tracked first opening past (Reading at) board group next legal (reads, is) all =
    subst (λ b. All (Tracked (past ++ group)) b.connections) (sym is)
    (All-weaker (Tracked past) (Tracked (past ++ group)) (tracked_more past group) board.connections all)

all_tracked : (first : ℕ) (opening : State) (past : List Entry) (script : List ScriptStep) (board : Board) (entries : List Entry)
    (last : Board) → IsLegal first opening (past ++ entries) → DoesAll script board entries last
    → All (Tracked past) board.connections → All (Tracked (past ++ entries)) last.connections
all_tracked first opening past [] board entries last legal (none, same) all =
    subst (λ b. All (Tracked (past ++ entries)) b.connections) (sym same)
    (All-weaker (Tracked past) (Tracked (past ++ entries)) (tracked_more past entries) board.connections all)
all_tracked first opening past (step ∷ script) board entries last legal (next, group, more, is, does, rest) all =
    let joined : past ++ entries ≡ (past ++ group) ++ more = ap (λ es. past ++ es) is ∙ sym (append_assoc past group more) in
    let whole = subst (IsLegal first opening) joined legal in
    let here = ((legal_histories_join first opening (past ++ group) more).0 whole).0 in
    subst (λ es. All (Tracked es) last.connections) (sym joined)
    (all_tracked first opening (past ++ group) script next more last whole rest
    (step_tracked first opening past step board group next here does.does all))

pub has_ender : (first : ℕ) (opening : State) (script : List ScriptStep) (entries : List Entry) (board : Board)
    → IsLegal first opening entries → DoesAll script no_connections entries board
    → All (λ c. c.end ≡ Some Killed → HasEnder entries c) board.connections
has_ender first opening script entries board legal does =
    All-weaker (Tracked entries) (λ c. c.end ≡ Some Killed → HasEnder entries c) (λ c t. t.killed) board.connections
    (all_tracked first opening [] script no_connections entries board legal does (All-nil (Tracked [])))
