-- A session that a script finds killed was ended by another session's kill-session of it: all entries of its own events are
-- its connection's, since no two connections have one session.
use Rattle.std.proofs.Common.{◌≡◌, ◌≢◌, ◌⊎◌, ◌≤◌, ◌+◌, ℕ, List, [], ◌∷◌, ◌++◌, Option, None, Some, Result, Ok, Err, refl, sym, ap, subst, ◌∙◌, inl, inr, arith, append-nil, append_assoc}
use Rattle.std.specs.Prelude.{map}
use Rattle.std.specs.List.{All, Contains}
use Rattle.std.proofs.lemmas.List.Elements.{All-append, All-cons, All-contains, All-head, All-nil, All-push, All-tail, All-weaker, Contains-append_cases, Contains-append_left, Contains-append_right, Contains-push_cases}
use Rattle.nc_protocol.specs.declared.asked.Asked.{Asked}
use Rattle.nc_protocol.specs.declared.asked.Asked.TheVariants.{Get, GetConfig, EditConfig, CopyConfig, DeleteConfig, Lock, Unlock, CloseSession, KillSession, Commit, DiscardChanges, CancelCommit, Validate, PartialLock, PartialUnlock}
use Rattle.nc_protocol.specs.declared.peer.Peer.{Peer}
use Rattle.nc_protocol.specs.declared.request.Cause.{Cause}
use Rattle.nc_protocol.specs.declared.request.Request.{Request}
use Rattle.nc_model.proofs.HistoryLemmas.{histories_join, legal_histories_join}
use Rattle.nc_model.specs.History.{IsLegal, after}
use Rattle.nc_model.specs.Laws.{EndsSession, IsOf, ended_by}
use Rattle.nc_model.specs.State.{State}
use Rattle.nc_model.specs.Step.{Fits, next}
use Rattle.nc_model.specs.declared.entry.Entry.{Entry}
use Rattle.nc_model.specs.declared.event.Event.{Event}
use Rattle.nc_model.specs.declared.event.Event.TheVariants.{Start, Request as Requested, End as Ending, Reading as ClockRead}
use Rattle.nc_model.specs.declared.event.Outcome.{Outcome}
use Rattle.nc_model.specs.declared.event.Outcome.TheVariants.{Started, Full as IsFull, Answered, NotLive, Ended, Noted}
use Rattle.nc_session.specs.Serves.{Course}
use Rattle.nc_session.specs.declared.end.SessionEnd.{SessionEnd}
use Rattle.nc_session.specs.declared.end.SessionEnd.TheVariants.{Killed}
use Rattle.nc_script.proofs.Kills.{HasEnder, all_left, all_right, has_ender, of_end}
use Rattle.nc_script.proofs.LastIds.{full_last, kept_last, noted_last, started_last, started_next}
use Rattle.nc_script.specs.Connections.{Board, Connection, GoesOn, no_connections}
use Rattle.nc_script.specs.Laws.{KilledByAnother, WasKilledBy}
use Rattle.nc_script.specs.Runs.{DoesAll}
use Rattle.nc_script.specs.Steps.{AreOf, Begins, Comes, DoesTo, Ends, Greeted, HasEnded, Hears, HearsBy, Leaves, Stops, StopsDead, Unplaced, Waits, WasClosed, WasDead, WasKilled, WasOver}
use Rattle.nc_script_text.specs.declared.step.ScriptStep.{ScriptStep}
use Rattle.nc_script_text.specs.declared.step.ScriptStep.TheVariants.{Begin, Piece, End, Reading}

-- ---- session-ids of connections
abbrev ids : List Connection → List ℕ
ids connections = map (λ c. c.session) connections

ids_of : (front behind : List Connection) (c : Connection) → ids (front ++ c ∷ behind) ≡ ids front ++ c.session ∷ ids behind
ids_of [] behind c = refl
ids_of (d ∷ front) behind c = ap (λ ns. d.session ∷ ns) (ids_of front behind c)

all_ids : (P : ℕ → Type 0) (connections : List Connection) → All P (ids connections) → All (λ c. P c.session) connections
all_ids P [] all = All-nil (λ c. P c.session)
all_ids P (c ∷ connections) all =
    All-cons (λ x. P x.session) c connections (All-head P c.session (ids connections) all)
    (all_ids P connections (All-tail P c.session (ids connections) all))

-- no two of them are one, but 0, which is none
abbrev Apart : List ℕ → Type 0
Apart [] = Unit {0}
Apart (n ∷ ns) = All (λ m. m ≡ n → m ≡ 0) ns × Apart ns

apart_push : (ns : List ℕ) (n : ℕ) → Apart ns → All (λ m. m ≡ n → m ≡ 0) ns → Apart (ns ++ n ∷ [])
apart_push [] n apart all = (All-nil (λ m. m ≡ n → m ≡ 0), tt)
apart_push (k ∷ ns) n apart all = (
  All-push (λ m. m ≡ k → m ≡ 0) ns n apart.0 (λ same. same ∙ All-head (λ m. m ≡ n → m ≡ 0) k ns all (sym same)),
  apart_push ns n apart.1 (All-tail (λ m. m ≡ n → m ≡ 0) k ns all),
)

apart_at : (front behind : List ℕ) (n : ℕ) → Apart (front ++ n ∷ behind)
    → All (λ m. m ≡ n → m ≡ 0) front × All (λ m. m ≡ n → m ≡ 0) behind
apart_at [] behind n apart = (All-nil (λ m. m ≡ n → m ≡ 0), apart.0)
apart_at (k ∷ front) behind n apart =
    let rest = apart_at front behind n apart.1 in
    let here = All-head (λ m. m ≡ k → m ≡ 0) n behind (all_right (λ m. m ≡ k → m ≡ 0) front (n ∷ behind) apart.0) in
    (All-cons (λ m. m ≡ n → m ≡ 0) k front (λ same. same ∙ here (sym same)) rest.0, rest.1)

-- ---- what is kept from step to step
one_session : (event : Event) (m n : ℕ) → IsOf m event → IsOf n event → m ≡ n
one_session (Start peer) m n of is = absurd of
one_session ClockRead m n of is = absurd of
one_session (Requested own request) m n of is = sym of ∙ is
one_session (Ending own) m n of is = sym of ∙ is

-- the entries of a session's events are its connection's
abbrev Owns : List Entry → Connection → Type 0
Owns past c = c.session ≢ 0 → (e : Entry) → Contains past e → IsOf c.session e.event → Contains c.course.entries e

-- an entry of a session that was begun before
abbrev Older : ℕ → Entry → Type 0
Older highest e = (n : ℕ) → IsOf n e.event → n ≤ highest

-- a connection without a session has an end, and was not killed
abbrev Placed : Connection → Type 0
Placed c = c.session ≡ 0 → (c.end ≢ None) × (c.end ≢ Some Killed)

record Kept (s : State) (past : List Entry) (connections : List Connection) : Type 0 where
  apart : Apart (ids connections)
  low : All (λ n. n ≤ s.last) (ids connections)
  older : All (Older s.last) past
  own : All (Owns past) connections
  placed : All Placed connections

-- ---- a connection goes on by entries of its own
record Grows (group : List Entry) (c d : Connection) : Type 0 where
  same : d.session ≡ c.session
  grown : d.course.entries ≡ c.course.entries ++ group
  of : All (λ e. IsOf c.session e.event) group
  placed : Placed c → Placed d

other_owns : (past group : List Entry) (n : ℕ) (c : Connection) → All (λ e. IsOf n e.event) group → Owns past c
    → (c.session ≡ n → c.session ≡ 0) → Owns (past ++ group) c
other_owns past group n c of owns apart some e there is = by (Contains-append_cases past group e there)
  where
    by : Contains past e ⊎ Contains group e → Contains c.course.entries e
    by (inl before) = owns some e before is
    by (inr later) =
        absurd (some (apart (one_session e.event c.session n is (All-contains (λ x. IsOf n x.event) group e of later))))

others_own : (past group : List Entry) (n : ℕ) (connections : List Connection) → All (λ e. IsOf n e.event) group
    → All (Owns past) connections → All (λ c. c.session ≡ n → c.session ≡ 0) connections → All (Owns (past ++ group)) connections
others_own past group n [] of own apart = All-nil (Owns (past ++ group))
others_own past group n (c ∷ connections) of own apart =
    All-cons (Owns (past ++ group)) c connections
    (other_owns past group n c of (All-head (Owns past) c connections own)
    (All-head (λ x. x.session ≡ n → x.session ≡ 0) c connections apart))
    (others_own past group n connections of (All-tail (Owns past) c connections own)
    (All-tail (λ x. x.session ≡ n → x.session ≡ 0) c connections apart))

grown_owns : (past group : List Entry) (c d : Connection) → Grows group c d → Owns past c → Owns (past ++ group) d
grown_owns past group c d g owns some e there is =
    subst (λ es. Contains es e) (sym g.grown) (by (Contains-append_cases past group e there))
  where
    by : Contains past e ⊎ Contains group e → Contains (c.course.entries ++ group) e
    by (inl before) =
        Contains-append_left c.course.entries group e
        (owns (λ zero. some (g.same ∙ zero)) e before (subst (λ n. IsOf n e.event) g.same is))
    by (inr later) = Contains-append_right c.course.entries group e later

goes_kept : (s : State) (past group : List Entry) (Goes : Connection → Connection → Type 0) (number : ℕ)
    (connections next : List Connection) → ((c d : Connection) → Goes c d → Grows group c d)
    → GoesOn Goes number connections next → Kept s past connections → Kept (after s group) (past ++ group) next
goes_kept s past group Goes number connections next grows g k = record {
  apart = subst Apart (sym same_ids) k.apart;
  low = subst (λ l. All (λ n. n ≤ l) (ids next)) (sym same_last) (subst (All (λ n. n ≤ s.last)) (sym same_ids) k.low);
  older = subst (λ l. All (Older l) (past ++ group)) (sym same_last)
      (All-append (Older s.last) past group k.older
      (All-weaker (λ e. IsOf g.old.session e.event) (Older s.last)
      (λ e of n is. subst (λ m. m ≤ s.last) (one_session e.event g.old.session n of is) old_low) group gr.of));
  own = subst (All (Owns (past ++ group))) (sym g.next_is)
      (All-append (Owns (past ++ group)) g.front (g.new ∷ g.behind)
      (others_own past group g.old.session g.front gr.of (all_left (Owns past) g.front (g.old ∷ g.behind) owned)
      (all_ids (λ m. m ≡ g.old.session → m ≡ 0) g.front alone.0))
      (All-cons (Owns (past ++ group)) g.new g.behind
      (grown_owns past group g.old g.new gr (All-head (Owns past) g.old g.behind owned_right))
      (others_own past group g.old.session g.behind gr.of (All-tail (Owns past) g.old g.behind owned_right)
      (all_ids (λ m. m ≡ g.old.session → m ≡ 0) g.behind alone.1))));
  placed = subst (All Placed) (sym g.next_is)
      (All-append Placed g.front (g.new ∷ g.behind) (all_left Placed g.front (g.old ∷ g.behind) places)
      (All-cons Placed g.new g.behind (gr.placed (All-head Placed g.old g.behind places_right))
      (All-tail Placed g.old g.behind places_right)));
}
  where
    gr : Grows group g.old g.new
    gr = grows g.old g.new g.goes

    split_ids : ids connections ≡ ids g.front ++ g.old.session ∷ ids g.behind
    split_ids = ap ids g.board_is ∙ ids_of g.front g.behind g.old

    same_ids : ids next ≡ ids connections
    same_ids =
        ap ids g.next_is ∙ (ids_of g.front g.behind g.new
        ∙ (ap (λ n. ids g.front ++ n ∷ ids g.behind) gr.same ∙ sym split_ids))

    same_last : (after s group).last ≡ s.last
    same_last = kept_last s group g.old.session gr.of

    old_low : g.old.session ≤ s.last
    old_low =
        All-head (λ n. n ≤ s.last) g.old.session (ids g.behind)
        (all_right (λ n. n ≤ s.last) (ids g.front) (g.old.session ∷ ids g.behind)
        (subst (All (λ n. n ≤ s.last)) split_ids k.low))

    alone : All (λ m. m ≡ g.old.session → m ≡ 0) (ids g.front) × All (λ m. m ≡ g.old.session → m ≡ 0) (ids g.behind)
    alone = apart_at (ids g.front) (ids g.behind) g.old.session (subst Apart split_ids k.apart)

    owned : All (Owns past) (g.front ++ g.old ∷ g.behind)
    owned = subst (All (Owns past)) g.board_is k.own

    owned_right : All (Owns past) (g.old ∷ g.behind)
    owned_right = all_right (Owns past) g.front (g.old ∷ g.behind) owned

    places : All Placed (g.front ++ g.old ∷ g.behind)
    places = subst (All Placed) g.board_is k.placed

    places_right : All Placed (g.old ∷ g.behind)
    places_right = all_right Placed g.front (g.old ∷ g.behind) places

-- ---- bytes come
asked_of : (session : ℕ) (asked : List Request) (answers : List Entry) → AreOf session asked answers
    → All (λ e. IsOf session e.event) answers
asked_of session [] [] are = All-nil (λ e. IsOf session e.event)
asked_of session (request ∷ asked) [] are = absurd (cc are)
asked_of session [] (e ∷ answers) are = absurd (cc are)
asked_of session (request ∷ asked) (e ∷ answers) are =
    let is : e.event ≡ Requested session request = cc are in
    let rest : AreOf session asked answers = cc are in
    All-cons (λ x. IsOf session x.event) e answers (subst (IsOf session) (sym is) refl) (asked_of session asked answers rest)

one_of : (session : ℕ) (e : Entry) → e.event ≡ Ending session → All (λ x. IsOf session x.event) (e ∷ [])
one_of session e is = All-cons (λ x. IsOf session x.event) e [] (of_end session e is) (All-nil (λ x. IsOf session x.event))

ended_of : (session : ℕ) (course : Course) (answers ended : List Entry) (end : Option SessionEnd)
    → Comes session course answers ended end → All (λ e. IsOf session e.event) ended
ended_of session course answers ended end (Waits live all) = All-nil (λ e. IsOf session e.event)
ended_of session course answers ended end (WasClosed last first) = All-nil (λ e. IsOf session e.event)
ended_of session course answers ended end (WasDead last first) = All-nil (λ e. IsOf session e.event)
ended_of session course answers ended end (Stops stop e live all event out) = one_of session e event
ended_of session course answers ended end (StopsDead stop e live all event out) = one_of session e event

heard_grows : (piece : List ℕ) (group : List Entry) (c d : Connection) → c.end ≡ None → Hears piece group c d → Grows group c d
heard_grows piece group c d none h =
    let same : d.session ≡ c.session = ap (λ x. x.session) h.same in
    record {
      same = same;
      grown = h.entries_are;
      of = subst (All (λ e. IsOf c.session e.event)) (sym h.group_is)
          (All-append (λ e. IsOf c.session e.event) h.answers h.ended (asked_of c.session h.asked h.answers h.are)
          (ended_of c.session d.course h.answers h.ended d.end h.comes));
      placed = λ p zero. absurd ((p (sym same ∙ zero)).0 none);
    }

heard_by_grows : (piece : List ℕ) (group : List Entry) (c d : Connection) (end : Option SessionEnd) → c.end ≡ end
    → HearsBy end piece group c d → Grows group c d
heard_by_grows piece group c d None is hears = heard_grows piece group c d is hears
heard_by_grows piece group c d (Some end) is (none, same) = record {
  same = ap (λ x. x.session) same;
  grown = ap (λ x. x.course.entries) same
      ∙ (sym (append-nil c.course.entries) ∙ ap (λ es. c.course.entries ++ es) (sym none));
  of = subst (All (λ e. IsOf c.session e.event)) (sym none) (All-nil (λ e. IsOf c.session e.event));
  placed = λ p. subst Placed (sym same) p;
}

-- ---- a connection ends
left_of : (session : ℕ) (was end : Option SessionEnd) (group : List Entry) → Leaves session was group end
    → All (λ e. IsOf session e.event) group
left_of session was end group (WasOver over) = All-nil (λ e. IsOf session e.event)
left_of session was end group (HasEnded e event out) = one_of session e event
left_of session was end group (WasKilled e event out) = one_of session e event

left_placed : (c d : Connection) (session : ℕ) (was end : Option SessionEnd) (group : List Entry) → c.end ≡ was → d.end ≡ end
    → d.session ≡ c.session → Leaves session was group end → Placed c → Placed d
left_placed c d session was end group was_is is same (WasOver over) p zero =
    let q = p (sym same ∙ zero) in
    ((λ none. q.0 (was_is ∙ (sym is ∙ none))), (λ killed. q.1 (was_is ∙ (sym is ∙ killed))))
left_placed c d session was end group was_is is same (HasEnded e event out) p zero =
    absurd ((p (sym same ∙ zero)).0 was_is)
left_placed c d session was end group was_is is same (WasKilled e event out) p zero =
    absurd ((p (sym same ∙ zero)).0 was_is)

ended_grows : (group : List Entry) (c d : Connection) → Ends group c d → Grows group c d
ended_grows group c d ends =
    let same : d.session ≡ c.session = ap (λ x. x.session) ends.new_is in
    record {
      same = same;
      grown = ap (λ x. x.course.entries) ends.new_is;
      of = left_of c.session c.end d.end group ends.leaves;
      placed = left_placed c d c.session c.end d.end group refl refl same ends.leaves;
    }

-- ---- a connection begins, and the clock is read
not_start : (n : ℕ) (e x : Entry) (peer : Peer) → e.event ≡ Start peer → e ≡ x → ¬ IsOf n x.event
not_start n e x peer event same is = subst (IsOf n) (ap (λ y. y.event) (sym same) ∙ event) is

not_read : (n : ℕ) (e x : Entry) → e.event ≡ ClockRead → e ≡ x → ¬ IsOf n x.event
not_read n e x event same is = subst (IsOf n) (ap (λ y. y.event) (sym same) ∙ event) is

-- an entry of no session leaves each connection with its own
still_owns : (past : List Entry) (e : Entry) (c : Connection) → ((x : Entry) → e ≡ x → ¬ IsOf c.session x.event) → Owns past c
    → Owns (past ++ e ∷ []) c
still_owns past e c none owns some x there is = by (Contains-push_cases past e x there)
  where
    by : Contains past x ⊎ (e ≡ x) → Contains c.course.entries x
    by (inl before) = owns some x before is
    by (inr same) = absurd (none x same is)

more_ids : (s : State) (connections : List Connection) (c : Connection) (past : List Entry) (highest : ℕ) → Kept s past connections
    → s.last ≤ highest → c.session ≤ highest → All (λ n. n ≤ highest) (ids (connections ++ c ∷ []))
more_ids s connections c past highest k grows low =
    subst (All (λ n. n ≤ highest)) (sym (ids_of connections [] c))
    (All-push (λ n. n ≤ highest) (ids connections) c.session
    (All-weaker (λ n. n ≤ s.last) (λ n. n ≤ highest) (λ n before. omega (arith, before, grows)) (ids connections) k.low) low)

still_older : (s : State) (past : List Entry) (connections : List Connection) (e : Entry) (highest : ℕ) → Kept s past connections
    → s.last ≤ highest → ((n : ℕ) → ¬ IsOf n e.event) → All (Older highest) (past ++ e ∷ [])
still_older s past connections e highest k grows none =
    All-push (Older highest) past e
    (All-weaker (Older s.last) (Older highest) (λ x before n of. let low = before n of in omega (arith, low, grows)) past k.older)
    (λ n of. absurd (none n of))

begun_kept : (s : State) (past group : List Entry) (connections : List Connection) (number : ℕ) (peer : Peer) (c : Connection)
    → ((e : Entry) → group ≡ e ∷ [] → Fits s e) → Begins number peer group c → Kept s past connections
    → Kept (after s group) (past ++ group) (connections ++ c ∷ [])
begun_kept s past group connections number peer c fits (Greeted e session event out) k =
    let given : session ≡ s.last + 1 = started_next s e peer session (fits e refl) event out in
    let highest : (next s e).last ≡ session = started_last s e peer session event out in
    record {
      apart = subst Apart (sym (ids_of connections [] c))
          (apart_push (ids connections) session k.apart
          (All-weaker (λ n. n ≤ s.last) (λ m. m ≡ session → m ≡ 0) (λ m low same. absurd (omega (arith, low, same, given)))
          (ids connections) k.low));
      low = more_ids s connections c past (next s e).last k (omega (arith, given, highest)) (omega (arith, highest));
      older = still_older s past connections e (next s e).last k (omega (arith, given, highest))
          (λ n. not_start n e e peer event refl);
      own = All-push (Owns (past ++ e ∷ [])) connections c
          (All-weaker (Owns past) (Owns (past ++ e ∷ []))
          (λ d owns. still_owns past e d (λ x. not_start d.session e x peer event) owns) connections k.own)
          (still_owns past e c (λ x. not_start session e x peer event)
          (λ some x before is.
          let low = All-contains (Older s.last) past x k.older before session is in absurd (omega (arith, low, given))));
      placed = All-push Placed connections c k.placed (λ zero. absurd (omega (arith, zero, given)));
    }
begun_kept s past group connections number peer c fits (Unplaced e live last event out) k =
    let highest : (next s e).last ≡ s.last = full_last s e peer live last event out in
    record {
      apart = subst Apart (sym (ids_of connections [] c))
          (apart_push (ids connections) 0 k.apart
          (All-weaker (λ n. n ≤ s.last) (λ m. m ≡ 0 → m ≡ 0) (λ m low same. same) (ids connections) k.low));
      low = more_ids s connections c past (next s e).last k (omega (arith, highest)) (omega arith);
      older = still_older s past connections e (next s e).last k (omega (arith, highest))
          (λ n. not_start n e e peer event refl);
      own = All-push (Owns (past ++ e ∷ [])) connections c
          (All-weaker (Owns past) (Owns (past ++ e ∷ []))
          (λ d owns. still_owns past e d (λ x. not_start d.session e x peer event) owns) connections k.own)
          (λ some. absurd (some refl));
      placed = All-push Placed connections c k.placed (λ zero. ((λ none. cc), (λ killed. cc)));
    }

read_kept : (s : State) (past : List Entry) (connections : List Connection) (e : Entry) → e.event ≡ ClockRead
    → Kept s past connections → Kept (next s e) (past ++ e ∷ []) connections
read_kept s past connections e event k =
    let highest : (next s e).last ≡ s.last = noted_last s e event in
    record {
      apart = k.apart;
      low = subst (λ l. All (λ n. n ≤ l) (ids connections)) (sym highest) k.low;
      older = still_older s past connections e (next s e).last k (omega (arith, highest)) (λ n. not_read n e e event refl);
      own = All-weaker (Owns past) (Owns (past ++ e ∷ []))
          (λ d owns. still_owns past e d (λ x. not_read d.session e x event) owns) connections k.own;
      placed = k.placed;
    }

-- ---- a step, and all of them
first_fits : (first : ℕ) (opening : State) (past group : List Entry) (e : Entry) → IsLegal first opening (past ++ group)
    → group ≡ e ∷ [] → Fits (after opening past) e
first_fits first opening past group e legal is = (legal past [] e (ap (λ es. past ++ es) is)).1

step_kept : (first : ℕ) (opening : State) (past : List Entry) (step : ScriptStep) (board : Board) (group : List Entry)
    (next : Board) → IsLegal first opening (past ++ group) → DoesTo step board group next
    → Kept (after opening past) past board.connections → Kept (after (after opening past) group) (past ++ group) next.connections
step_kept first opening past (Begin number peer) board group next legal (fresh, (c, begins, is)) k =
    subst (λ b. Kept (after (after opening past) group) (past ++ group) b.connections) (sym is)
    (begun_kept (after opening past) past group board.connections number peer c
    (λ e one. first_fits first opening past group e legal one) begins k)
step_kept first opening past (Piece number piece) board group next legal (goes, same) k =
    goes_kept (after opening past) past group (λ old new. HearsBy old.end piece group old new) number board.connections
    next.connections (λ c d hears. heard_by_grows piece group c d c.end refl hears) goes k
step_kept first opening past (End number) board group next legal (goes, same) k =
    goes_kept (after opening past) past group (Ends group) number board.connections next.connections
    (λ c d ends. ended_grows group c d ends) goes k
step_kept first opening past (Reading at) board group next legal (reads, is) k =
    let here = read_kept (after opening past) past board.connections reads.e reads.event_is k in
    subst (λ b. Kept (after (after opening past) group) (past ++ group) b.connections) (sym is)
    (subst (λ es. Kept (after (after opening past) es) (past ++ es) board.connections) (sym reads.group_is) here)

all_kept : (first : ℕ) (opening : State) (past : List Entry) (script : List ScriptStep) (board : Board) (entries : List Entry)
    (last : Board) → IsLegal first opening (past ++ entries) → DoesAll script board entries last
    → Kept (after opening past) past board.connections
    → Kept (after opening (past ++ entries)) (past ++ entries) last.connections
all_kept first opening past [] board entries last legal (none, same) k =
    subst (λ es. Kept (after opening es) es last.connections) (sym (ap (λ es. past ++ es) none ∙ append-nil past))
    (subst (λ b. Kept (after opening past) past b.connections) (sym same) k)
all_kept first opening past (step ∷ script) board entries last legal (next, group, more, is, does, rest) k =
    let joined : past ++ entries ≡ (past ++ group) ++ more = ap (λ es. past ++ es) is ∙ sym (append_assoc past group more) in
    let whole = subst (IsLegal first opening) joined legal in
    let here = ((legal_histories_join first opening (past ++ group) more).0 whole).0 in
    let after_step = subst (λ t. Kept t (past ++ group) next.connections) (sym (histories_join opening past group))
    (step_kept first opening past step board group next here does.does k) in
    subst (λ es. Kept (after opening es) es last.connections) (sym joined)
    (all_kept first opening (past ++ group) script next more last whole rest after_step)

before_all : (s : State) → Kept s [] []
before_all s = record {
  apart = tt;
  low = All-nil (λ n. n ≤ s.last);
  older = All-nil (Older s.last);
  own = All-nil (Owns []);
  placed = All-nil Placed;
}

-- ---- who ended it
killed_by : (entries : List Entry) (c : Connection) → HasEnder entries c → Owns entries c → Placed c → c.end ≡ Some Killed
    → WasKilledBy entries c
killed_by entries c h owns placed killed = by h.ender.event h.ender.outcome refl h.ends
  where
    some : c.session ≢ 0
    some zero = (placed zero).1 killed

    not_its : ¬ IsOf c.session h.ender.event
    not_its is = h.another (owns some h.ender h.there is)

    not_own : (event : Event) → h.ender.event ≡ event → ¬ IsOf c.session event
    not_own event is of = not_its (subst (IsOf c.session) (sym is) of)

    kill : (own : ℕ) (request : Request) (number : ℕ) → h.ender.event ≡ Requested own request
        → request.asked ≡ Ok (KillSession number) → number ≡ c.session → WasKilledBy entries c
    kill own request number is asked same = record {
      ender = h.ender;
      there = h.there;
      kills = record {
        killer = own;
        request = request;
        event_is = is;
        names = asked ∙ ap (λ n. Ok (KillSession n)) same;
        other = λ it. not_own (Requested own request) is it;
        done = h.ends;
      };
    }

    asks : (own : ℕ) (request : Request) (found : Result Asked Cause) → h.ender.event ≡ Requested own request
        → request.asked ≡ found → ended_by own found ≡ Some c.session → WasKilledBy entries c
    asks own request (Ok CloseSession) is asked ends =
        let same : own ≡ c.session = cc ends in absurd (not_own (Requested own request) is same)
    asks own request (Ok (KillSession number)) is asked ends =
        let same : number ≡ c.session = cc ends in kill own request number is asked same
    asks own request (Err cause) is asked ends = absurd (cc ends)
    asks own request (Ok (Get filter)) is asked ends = absurd (cc ends)
    asks own request (Ok (GetConfig source filter)) is asked ends = absurd (cc ends)
    asks own request (Ok (EditConfig target default_operation test on_error config)) is asked ends = absurd (cc ends)
    asks own request (Ok (CopyConfig target source)) is asked ends = absurd (cc ends)
    asks own request (Ok (DeleteConfig target)) is asked ends = absurd (cc ends)
    asks own request (Ok (Lock target)) is asked ends = absurd (cc ends)
    asks own request (Ok (Unlock target)) is asked ends = absurd (cc ends)
    asks own request (Ok (Commit confirmed timeout persist persist_id)) is asked ends = absurd (cc ends)
    asks own request (Ok DiscardChanges) is asked ends = absurd (cc ends)
    asks own request (Ok (CancelCommit persist_id)) is asked ends = absurd (cc ends)
    asks own request (Ok (Validate source)) is asked ends = absurd (cc ends)
    asks own request (Ok (PartialLock selects)) is asked ends = absurd (cc ends)
    asks own request (Ok (PartialUnlock lock)) is asked ends = absurd (cc ends)

    by : (event : Event) (outcome : Outcome) → h.ender.event ≡ event → EndsSession c.session event outcome
        → WasKilledBy entries c
    by (Requested own request) (Answered verdict reply) is ends = asks own request request.asked is refl ends.0
    by (Ending own) Ended is ends = absurd (not_own (Ending own) is ends)
    by (Start peer) outcome is ends = absurd ends
    by ClockRead outcome is ends = absurd ends
    by (Requested own request) (Started n) is ends = absurd ends
    by (Requested own request) (IsFull l n) is ends = absurd ends
    by (Requested own request) NotLive is ends = absurd ends
    by (Requested own request) Ended is ends = absurd ends
    by (Requested own request) Noted is ends = absurd ends
    by (Ending own) (Started n) is ends = absurd ends
    by (Ending own) (IsFull l n) is ends = absurd ends
    by (Ending own) (Answered verdict reply) is ends = absurd ends
    by (Ending own) NotLive is ends = absurd ends
    by (Ending own) Noted is ends = absurd ends

each_killed : (entries : List Entry) (connections : List Connection)
    → All (λ c. c.end ≡ Some Killed → HasEnder entries c) connections → All (Owns entries) connections
    → All Placed connections → All (λ c. c.end ≡ Some Killed → WasKilledBy entries c) connections
each_killed entries [] ended own placed = All-nil (λ c. c.end ≡ Some Killed → WasKilledBy entries c)
each_killed entries (c ∷ connections) ended own placed =
    All-cons (λ x. x.end ≡ Some Killed → WasKilledBy entries x) c connections
    (λ killed. killed_by entries c (All-head (λ x. x.end ≡ Some Killed → HasEnder entries x) c connections ended killed)
    (All-head (Owns entries) c connections own) (All-head Placed c connections placed) killed)
    (each_killed entries connections (All-tail (λ x. x.end ≡ Some Killed → HasEnder entries x) c connections ended)
    (All-tail (Owns entries) c connections own) (All-tail Placed c connections placed))

pub killed_by_another : KilledByAnother
killed_by_another first opening script entries board legal does =
    let kept = all_kept first opening [] script no_connections entries board legal does (before_all opening) in
    each_killed entries board.connections (has_ender first opening script entries board legal does) kept.own kept.placed
