-- A good state stays good.
use Rattle.std.proofs.Common.{◌≡◌, ◌≢◌, ◌⊎◌, ◌≤◌, ◌<◌, ◌+◌, ◌==◌, ◌||◌, ◌&&◌, ℕ, Bool, true, false, cond, List, [], ◌∷◌, ◌++◌, length, refl, sym, ap, subst, ◌∙◌, inl, inr, arith, length-append, get_or}
use Rattle.std.specs.Prelude.{Option, Some, None, IfSome, Result, Ok, Err, unwrap_or, if◌then◌else◌, not, is_some, option_map, slice_get}
use Rattle.std.specs.List.{filter}
use Rattle.std.specs.Option.{option_map_or}
use Rattle.std.proofs.lemmas.Bool.{ltb-false}
use Rattle.std.proofs.lemmas.Bool.Decides.{eqb_tells}
use Rattle.std.proofs.lemmas.List.Elements.{filter-append}
use Rattle.nc_names.specs.Same.{is_same_rows}
use Rattle.nc_names.specs.declared.path.Path.{Path}
use Rattle.nc_names.specs.declared.path.Row.{Row}
use Rattle.nc_message.specs.declared.tree.Elem.{Elem}
use Rattle.nc_schema.specs.Configuration.{IsConfiguration}
use Rattle.nc_schema.specs.Record.{record_size}
use Rattle.nc_names.specs.Limits.{body_limit}
use Rattle.nc_schema.specs.Tables.{Tables}
use Rattle.nc_schema.specs.Violations.{violations, IsValid}
use Rattle.nc_schema.specs.declared.violation.Violation.{Violation}
use Rattle.nc_protocol.specs.declared.asked.Asked.{Asked}
use Rattle.nc_protocol.specs.declared.asked.Asked.TheVariants.{Get, GetConfig, EditConfig, CopyConfig, DeleteConfig, Lock, Unlock, CloseSession, KillSession, Commit, DiscardChanges, CancelCommit, Validate, PartialLock, PartialUnlock}
use Rattle.nc_protocol.specs.declared.asked.Default3.{Default3}
use Rattle.nc_protocol.specs.declared.asked.ErrorOption.{ErrorOption}
use Rattle.nc_protocol.specs.declared.asked.Select.{Select}
use Rattle.nc_protocol.specs.declared.asked.TestOption.{TestOption}
use Rattle.nc_protocol.specs.declared.asked.TestOption.TheVariants.{TestThenSet, Set, TestOnly}
use Rattle.nc_protocol.specs.declared.datastore.Datastore.{Datastore}
use Rattle.nc_protocol.specs.declared.datastore.Datastore.TheVariants.{Running, Candidate, Startup, Url}
use Rattle.nc_protocol.specs.declared.datastore.Origin.{Origin}
use Rattle.nc_protocol.specs.declared.datastore.Origin.TheVariants.{Store, Inline}
use Rattle.nc_protocol.specs.declared.edit.Edit.{Edit}
use Rattle.nc_protocol.specs.declared.peer.Peer.{Peer}
use Rattle.nc_protocol.specs.declared.request.Cause.{Cause}
use Rattle.nc_protocol.specs.declared.verdict.Verdict.{Verdict}
use Rattle.nc_protocol.specs.declared.verdict.Verdict.TheVariants.{Done, Selected, Locked, Refused}
use Rattle.nc_protocol.specs.Applied.{Applied, applied}
use Rattle.nc_names.specs.declared.cause.CauseKind.TheVariants.{LockPartial, Limit}
use Rattle.nc_protocol.specs.Asking.{plain_cause}
use Rattle.nc_model.specs.Words.{partial_locks_word, lock_ids_word, record_word}
use Rattle.nc_protocol.specs.Payload.{edits_of}
use Rattle.nc_protocol.specs.Refusals.{checked, violation_in, violation_cause, result_unless}
use Rattle.nc_model.specs.declared.entry.Entry.{Entry}
use Rattle.nc_model.specs.declared.event.Event.{Event}
use Rattle.nc_model.specs.declared.event.Event.TheVariants.{Start, Request as Requested, End, Reading}
use Rattle.nc_model.specs.declared.event.Outcome.{Outcome}
use Rattle.nc_model.specs.declared.event.Outcome.TheVariants.{Started, Full, NotLive, Ended}
use Rattle.nc_model.specs.declared.session.Session.{Session}
use Rattle.nc_model.specs.Access.{access_policy, peer_of, rights_of, visible}
use Rattle.nc_model.specs.Laws.{OpeningIsGood, GoodStays}
use Rattle.nc_model.specs.State.{State, Holders, NodeLock, Pending, IsGood, IsBase, IsPendingOf, IsSessionId, IsAmong, AreLocks, AreSessions, ShareNone, base_of, candidate_in_force, expired, holders_without, is_due, is_held_by, is_live, left_by_end, locks_of, locks_some, read_at, released, reverted, session_ended, unless_held_by, without_session}
use Rattle.nc_model.specs.Step.{Fits, next, changed, changed_by, outcome_of, answer_to, answered_unless, committed, is_full, pending_by, with_candidate, with_holder, with_lock, with_partial, without_lock, rows_of_ok, has_failed}
use Rattle.nc_model.specs.Verdict.{verdict_on, asked_verdict, operation_refused, commit_checks, commit_refusal, is_candidate, kept_unless, edits_made, made_by, rows_set, copied, unless_denied, rows_copied, stored, lock_of_other, nodes_selected, partial_lock_cause, partial_lock_checks, partial_lock_refusal, record_refusal, is_too_large}
use Rattle.nc_protocol.proofs.PayloadLaws.{payload_keeps_configuration, inline_is_configuration}
use Rattle.nc_protocol.proofs.ListLemmas.{all_one, all_append, pairs_last, all_filter, pairs_filter, filter_shorter}
use Rattle.nc_model.proofs.HistoryLemmas.{rest_legal}
use Rattle.nc_model.proofs.SessionLemmas.{all_none, other_among, more_among, not_same, where_none, none_found, filter_both, filter_with}
use Rattle.nc_model.proofs.VisibleLemmas.{visible_is_configuration}

pub opening_is_good : OpeningIsGood
opening_is_good schema running faults proper configuration valid = record {
  stores = record { schema = proper; running = configuration; valid = valid; candidate = tt };
  sessions = record {
    given = λ k d within. absurd (omega (arith, within));
    distinct = λ i j d less within. absurd (omega (arith, within));
    few = omega arith;
    last = omega arith;
  };
  locks = record {
    running = tt;
    candidate = tt;
    owners = λ k d within. absurd (omega (arith, within));
    ids = λ k d within. absurd (omega (arith, within));
    rise = λ i j d less within. absurd (omega (arith, within));
    apart = λ i j d less within. absurd (omega (arith, within));
    few = λ number. omega arith;
    last = omega arith;
  };
  pending = tt;
}

-- ---- the base
base_is : (P : List Row → Type 0) (pending : Option Pending) (running : List Row) → P running → IfSome pending (λ found. P found.base) →
    P (option_map_or (λ found. found.base) pending running)
base_is P None running otherwise each = otherwise
base_is P (Some found) running otherwise each = each

base_of_each : (schema : Tables) (sessions : List Session) (pending : Option Pending) → IfSome pending (IsBase schema sessions) → IfSome pending (λ found. IsConfiguration schema found.base)
base_of_each schema sessions None each = tt
base_of_each schema sessions (Some found) each = each.base

valid_of_each : (schema : Tables) (sessions : List Session) (pending : Option Pending) → IfSome pending (IsBase schema sessions) → IfSome pending (λ found. IsValid schema found.base)
valid_of_each schema sessions None each = tt
valid_of_each schema sessions (Some found) each = each.valid

pub base_is_configuration : (s : State) → IsGood s → IsConfiguration s.schema (base_of s)
base_is_configuration s good =
    base_is (IsConfiguration s.schema) s.pending s.running good.stores.running (base_of_each s.schema s.sessions s.pending good.pending)

pub base_is_valid : (s : State) → IsGood s → IsValid s.schema (base_of s)
base_is_valid s good = base_is (IsValid s.schema) s.pending s.running good.stores.valid (valid_of_each s.schema s.sessions s.pending good.pending)

pub good_reverted : (s : State) → IsGood s → IsGood (reverted s)
good_reverted s good = record {
  stores = record {
    schema = good.stores.schema;
    running = base_is_configuration s good;
    valid = base_is_valid s good;
    candidate = good.stores.candidate;
  };
  sessions = good.sessions;
  locks = good.locks;
  pending = tt;
}

-- ---- the end of a session
sessions_ended : (sessions : List Session) (last n : ℕ) → AreSessions sessions last → AreSessions (filter (λ session. not (session.number == n)) sessions) last
sessions_ended sessions last n good = record {
  given = all_filter (λ (x : Session). IsSessionId last x.number) (λ x. not (x.number == n)) sessions good.given;
  distinct = pairs_filter (λ (x : Session) (later : Session). x.number ≢ later.number) (λ x. not (x.number == n)) sessions good.distinct;
  few = omega (arith, good.few, filter_shorter (λ (x : Session). not (x.number == n)) sessions);
  last = good.last;
}

-- fewer partial locks
locks_fewer : (sessions : List Session) (holders : Holders) (partial : List NodeLock) (last : ℕ) (t : NodeLock → Bool) →
    AreLocks sessions holders partial last → AreLocks sessions holders (filter t partial) last
locks_fewer sessions holders partial last t good = record {
  running = good.running;
  candidate = good.candidate;
  owners = all_filter (λ (lock : NodeLock). IsAmong sessions lock.session) t partial good.owners;
  ids = all_filter (λ (lock : NodeLock). (1 ≤ lock.id) × (lock.id ≤ last)) t partial good.ids;
  rise = pairs_filter (λ (lock : NodeLock) (later : NodeLock). lock.id < later.id) t partial good.rise;
  apart = pairs_filter ShareNone t partial good.apart;
  few = λ number. omega (arith, filter_both (λ (lock : NodeLock). lock.session == number) t partial, good.few number);
  last = good.last;
}

-- other sessions, among which all that hold locks are
locks_among : (sessions others : List Session) (holders : Holders) (partial : List NodeLock) (last : ℕ) →
    ((n : ℕ) → IsAmong sessions n → IsAmong others n) → AreLocks sessions holders partial last → AreLocks others holders partial last
locks_among sessions others holders partial last each good = record {
  running = on holders.running good.running;
  candidate = on holders.candidate good.candidate;
  owners = λ k d within. each (get_or partial k d).session (good.owners k d within);
  ids = good.ids;
  rise = good.rise;
  apart = good.apart;
  few = good.few;
  last = good.last;
}
  where
    on : (holder : Option ℕ) → IfSome holder (IsAmong sessions) → IfSome holder (IsAmong others)
    on None is = tt
    on (Some number) is = each number is

holder_released : (sessions : List Session) (n : ℕ) (holder : Option ℕ) → IfSome holder (IsAmong sessions) →
    IfSome (unless_held_by n holder) (IsAmong (filter (λ session. not (session.number == n)) sessions))
holder_released sessions n None is = tt
holder_released sessions n (Some other) is = by (eqb_tells other n)
  where
    Left : Bool → Type 0
    Left b = IfSome (if b then None else Some other) (IsAmong (filter (λ session. not (session.number == n)) sessions))

    by : (((other == n) ≡ true) × (other ≡ n)) ⊎ (((other == n) ≡ false) × (other ≢ n)) → Left (other == n)
    by (inl (holds, same)) = subst Left (sym holds) tt
    by (inr (fails, differs)) = subst Left (sym fails) (other_among sessions n other (λ e. differs (sym e)) is)

locks_released : (sessions : List Session) (holders : Holders) (partial : List NodeLock) (last n : ℕ) → AreLocks sessions holders partial last →
    AreLocks (filter (λ session. not (session.number == n)) sessions) (holders_without n holders) (filter (λ lock. not (lock.session == n)) partial) last
locks_released sessions holders partial last n good =
    let fewer = locks_fewer sessions holders partial last (λ lock. not (lock.session == n)) good in
    record {
      running = holder_released sessions n holders.running good.running;
      candidate = holder_released sessions n holders.candidate good.candidate;
      owners = filter_with (λ (lock : NodeLock). IsAmong sessions lock.session)
          (λ (lock : NodeLock). IsAmong (filter (λ session. not (session.number == n)) sessions) lock.session)
          (λ (lock : NodeLock). not (lock.session == n)) partial
          (λ lock differs is. other_among sessions n lock.session (other lock differs) is) good.owners;
      ids = fewer.ids;
      rise = fewer.rise;
      apart = fewer.apart;
      few = fewer.few;
      last = fewer.last;
    }
  where
    other : (lock : NodeLock) → not (lock.session == n) ≡ true → n ≢ lock.session
    other lock differs same = by (eqb_tells lock.session n)
      where
        by : (((lock.session == n) ≡ true) × (lock.session ≡ n)) ⊎ (((lock.session == n) ≡ false) × (lock.session ≢ n)) → ⊥
        by (inl (holds, is)) = let clash : false ≡ true = sym (ap not holds) ∙ differs in cc
        by (inr (fails, apart)) = apart (sym same)

-- a session is over, and its pending commit is not looked at yet
abbrev over : State → ℕ → State
over s n = released (without_session s n) n

candidate_released : (P : List Row → Type 0) (b : Bool) (candidate : Option (List Row)) → IfSome candidate P → IfSome (if b then None else candidate) P
candidate_released P true candidate is = tt
candidate_released P false candidate is = is

module _ (s : State) (n : ℕ) (good : IsGood s) where
  abbrev fewer : List Session
  fewer = filter (λ session. not (session.number == n)) s.sessions

  -- what of the state does not depend on the pending commit
  over_with : (running : List Row) (pending : Option Pending) → IsConfiguration s.schema running → IsValid s.schema running → IfSome pending (IsBase s.schema fewer) →
      IsGood (record (over s n) { running = running; pending = pending })
  over_with running pending configuration valid each = record {
    stores = record {
      schema = good.stores.schema;
      running = configuration;
      valid = valid;
      candidate = candidate_released (IsConfiguration s.schema) (is_held_by n s.holders.candidate) s.candidate good.stores.candidate;
    };
    sessions = sessions_ended s.sessions s.last n good.sessions;
    locks = locks_released s.sessions s.holders s.partial s.last_lock n good.locks;
    pending = each;
  }

  -- a pending commit of another session, or of none
  other_base : (pending : Pending) → (pending.session == n) ≡ false → IsBase s.schema s.sessions pending → IsBase s.schema fewer pending
  other_base pending fails is = record { base = is.base; valid = is.valid; session = by is.session }
    where
      differs : n ≢ pending.session
      differs same = at (eqb_tells pending.session n)
        where
          at : (((pending.session == n) ≡ true) × (pending.session ≡ n)) ⊎ (((pending.session == n) ≡ false) × (pending.session ≢ n)) → ⊥
          at (inl (holds, e)) = let clash : false ≡ true = sym fails ∙ holds in cc
          at (inr (no_more, apart)) = apart (sym same)

      by : IsPendingOf s.sessions pending → IsPendingOf fewer pending
      by (inl live) = inl (other_among s.sessions n pending.session differs live)
      by (inr gone) = inr gone

  -- the state as it stands, where what is pending is known
  standing : (pending : Option Pending) → s.pending ≡ pending → IfSome pending (IsBase s.schema fewer) → IsGood (over s n)
  standing pending is each =
      over_with s.running s.pending good.stores.running good.stores.valid (subst (λ (p : Option Pending). IfSome p (IsBase s.schema fewer)) (sym is) each)

  ended_by : (pending : Option Pending) → s.pending ≡ pending → IfSome pending (IsBase s.schema s.sessions) → IsGood (left_by_end (over s n) n pending)
  ended_by None is each = standing None is tt
  ended_by (Some pending) is each = by (pending.session == n) refl (is_some pending.token) refl
    where
      by : (own : Bool) → (pending.session == n) ≡ own → (persists : Bool) → is_some pending.token ≡ persists →
          IsGood (if not own then over s n else (if persists then record (over s n) { pending = Some (record pending { session = 0 }) } else reverted (over s n)))
      by false other persists token = standing (Some pending) is (other_base pending other each)
      by true own true token =
          over_with s.running (Some (record pending { session = 0 })) good.stores.running good.stores.valid
          (record { base = each.base; valid = each.valid; session = inr (refl, token) })
      by true own false token = over_with (base_of s) None (base_is_configuration s good) (base_is_valid s good) tt

  pub good_ended : IsGood (session_ended s n)
  good_ended = ended_by s.pending refl good.pending

-- ---- a session more
room_left : (a m b l : ℕ) → (a == m || b == l) ≡ false → (a ≢ m) × (b ≢ l)
room_left a m b l e = grind arith

base_among : (schema : Tables) (sessions others : List Session) (pending : Option Pending) → ((n : ℕ) → IsAmong sessions n → IsAmong others n) →
    IfSome pending (IsBase schema sessions) → IfSome pending (IsBase schema others)
base_among schema sessions others None each is = tt
base_among schema sessions others (Some pending) each is = record { base = is.base; valid = is.valid; session = by is.session }
  where
    by : IsPendingOf sessions pending → IsPendingOf others pending
    by (inl live) = inl (each pending.session live)
    by (inr gone) = inr gone

good_started : (s : State) (peer : Peer) → is_full s ≡ false → IsGood s →
    IsGood (record s { sessions = s.sessions ++ record { number = s.last + 1; peer = peer } ∷ []; last = s.last + 1 })
good_started s peer room good =
    let new : Session = record { number = s.last + 1; peer = peer } in
    let free = room_left (length s.sessions) 64 s.last 4294967295 room in
    record {
      stores = good.stores;
      sessions = record {
        given = all_append (λ (x : Session). IsSessionId (s.last + 1) x.number) s.sessions (new ∷ [])
            (λ k d within. let g = good.sessions.given k d within in (g.0, omega (arith, g.1)))
            (all_one (λ (x : Session). IsSessionId (s.last + 1) x.number) new (omega arith, omega arith));
        distinct = pairs_last (λ (x : Session) (later : Session). x.number ≢ later.number) s.sessions new good.sessions.distinct
            (λ k d within same. absurd (omega (arith, (good.sessions.given k d within).1, same)));
        few = omega (arith, good.sessions.few, free.0, length-append s.sessions (new ∷ []));
        last = omega (arith, good.sessions.last, free.1);
      };
      locks = locks_among s.sessions (s.sessions ++ new ∷ []) s.holders s.partial s.last_lock (λ n live. more_among s.sessions (new ∷ []) n live) good.locks;
      pending = base_among s.schema s.sessions (s.sessions ++ new ∷ []) s.pending (λ n live. more_among s.sessions (new ∷ []) n live) good.pending;
    }

-- ---- the candidate and commits
in_force : (P : List Row → Type 0) (candidate : Option (List Row)) (running : List Row) → IfSome candidate P → P running → P (unwrap_or candidate running)
in_force P None running some otherwise = otherwise
in_force P (Some rows) running some otherwise = some

pub in_force_is : (s : State) → IsGood s → IsConfiguration s.schema (candidate_in_force s)
in_force_is s good = in_force (IsConfiguration s.schema) s.candidate s.running good.stores.candidate good.stores.running

good_committed : (s : State) (pending : Option Pending) → IsGood s → IsValid s.schema (candidate_in_force s) → IfSome pending (IsBase s.schema s.sessions) → IsGood (committed s pending)
good_committed s pending good valid each = record {
  stores = record { schema = good.stores.schema; running = in_force_is s good; valid = valid; candidate = tt };
  sessions = good.sessions;
  locks = good.locks;
  pending = each;
}

base_awaiting : (s : State) (n timeout : ℕ) (persist : Option (List ℕ)) → IsGood s → is_live s n ≡ true → IsBase s.schema s.sessions (pending_by s n timeout persist)
base_awaiting s n timeout persist good live = record { base = base_is_configuration s good; valid = base_is_valid s good; session = inl live }

good_without : (s : State) → IsGood s → IsGood (record s { candidate = None })
good_without s good = record {
  stores = record { schema = good.stores.schema; running = good.stores.running; valid = good.stores.valid; candidate = tt };
  sessions = good.sessions;
  locks = good.locks;
  pending = good.pending;
}

good_with : (s : State) (rows : List Row) → IsConfiguration s.schema rows → IsGood s → IsGood (with_candidate s (Some rows))
good_with s rows configuration good = by (is_same_rows rows (candidate_in_force s))
  where
    by : (same : Bool) → IsGood (if same then s else record s { candidate = Some rows })
    by true = good
    by false = record {
      stores = record { schema = good.stores.schema; running = good.stores.running; valid = good.stores.valid; candidate = configuration };
      sessions = good.sessions;
      locks = good.locks;
      pending = good.pending;
    }

good_candidate : (s : State) (rows : Option (List Row)) → IfSome rows (IsConfiguration s.schema) → IsGood s → IsGood (with_candidate s rows)
good_candidate s None each good = good
good_candidate s (Some rows) each good = good_with s rows each good

-- where no violation is answered there is none
no_violation : (tables : Tables) (rows : List Row) → violation_in tables rows ≡ None → IsValid tables rows
no_violation tables rows none = by (violations tables rows) none
  where
    by : (found : List Violation) → option_map violation_cause (slice_get found 0) ≡ None → found ≡ []
    by [] e = refl
    by (violation ∷ more) e = cc

pub checked_done : (refused : Option Cause) (decided : Verdict) → checked refused decided ≡ Done → (refused ≡ None) × (decided ≡ Done)
checked_done None decided e = (refl, e)
checked_done (Some cause) decided e = cc

pub checked_locked : (refused : Option Cause) (decided : Verdict) (lock : ℕ) (nodes : List Path) → checked refused decided ≡ Locked lock nodes → (refused ≡ None) × (decided ≡ Locked lock nodes)
checked_locked None decided lock nodes e = (refl, e)
checked_locked (Some cause) decided lock nodes e = cc

-- a commit that is done makes a valid configuration running
pub commit_is_valid : (s : State) (n : ℕ) (persist_id : Option (List ℕ)) → commit_refusal s n persist_id ≡ None → IsValid s.schema (candidate_in_force s)
commit_is_valid s n persist_id none =
    no_violation s.schema (candidate_in_force s) (all_none (commit_checks s n persist_id) none).1.1.1.1.1.0

-- one whose record is within the limit
pub commit_is_small : (s : State) (n : ℕ) (persist_id : Option (List ℕ)) → commit_refusal s n persist_id ≡ None → record_size (candidate_in_force s) ≤ body_limit
commit_is_small s n persist_id none =
    let refusal : record_refusal s ≡ None = (all_none (commit_checks s n persist_id) none).1.1.1.1.1.1.0 in
    ltb-false body_limit (record_size (candidate_in_force s))
    (where_none (is_too_large (candidate_in_force s)) (plain_cause Limit (record_word ∷ [])) refusal)

-- ---- locks
good_locks : (s : State) (holders : Holders) (partial : List NodeLock) (last : ℕ) → IsGood s → AreLocks s.sessions holders partial last →
    IsGood (record s { holders = holders; partial = partial; last_lock = last })
good_locks s holders partial last good locks = record { stores = good.stores; sessions = good.sessions; locks = locks; pending = good.pending }

held_by : (sessions : List Session) (holders : Holders) (partial : List NodeLock) (last : ℕ) (target : Datastore) (holder : Option ℕ) → IfSome holder (IsAmong sessions) →
    AreLocks sessions holders partial last → AreLocks sessions (with_holder holders target holder) partial last
held_by sessions holders partial last Running holder is good = record {
  running = is;
  candidate = good.candidate;
  owners = good.owners;
  ids = good.ids;
  rise = good.rise;
  apart = good.apart;
  few = good.few;
  last = good.last;
}
held_by sessions holders partial last Candidate holder is good = record {
  running = good.running;
  candidate = is;
  owners = good.owners;
  ids = good.ids;
  rise = good.rise;
  apart = good.apart;
  few = good.few;
  last = good.last;
}
held_by sessions holders partial last Startup holder is good = good
held_by sessions holders partial last Url holder is good = good

good_locked : (s : State) (n : ℕ) (target : Datastore) → IsGood s → is_live s n ≡ true → IsGood (with_lock s n target)
good_locked s n target good live =
    good_locks s (with_holder s.holders target (Some n)) s.partial s.last_lock good (held_by s.sessions s.holders s.partial s.last_lock target (Some n) live good.locks)

good_unlocked : (s : State) (target : Datastore) → IsGood s → IsGood (without_lock s target)
good_unlocked s target good = record {
  stores = record {
    schema = good.stores.schema;
    running = good.stores.running;
    valid = good.stores.valid;
    candidate = candidate_released (IsConfiguration s.schema) (is_candidate target) s.candidate good.stores.candidate;
  };
  sessions = good.sessions;
  locks = held_by s.sessions s.holders s.partial s.last_lock target None tt good.locks;
  pending = good.pending;
}

few_more : (count : ℕ) → (count == 64) ≡ false → count ≤ 64 → count + 1 ≤ 64
few_more count e few = grind arith

same_pair : (a b : ℕ) (xs ys : List Path) → Locked a xs ≡ Locked b ys → (a ≡ b) × (xs ≡ ys)
same_pair a b xs ys e = (cc, cc)

no_lock : {X : Type 0} (f : X → Cause) (o : Option X) → option_map f o ≡ None → o ≡ None
no_lock f None e = refl
no_lock f (Some x) e = cc

apart_from : (a b : Bool) → a ≡ true → (a && b) ≡ false → b ≡ false
apart_from true b is e = e
apart_from false b is e = cc

-- one partial lock more, which was not refused
module _ (s : State) (n : ℕ) (selects : List Select) (good : IsGood s) (live : is_live s n ≡ true) (none : partial_lock_refusal s n selects ≡ None) where
  abbrev chosen : List Path
  chosen = nodes_selected s n selects

  abbrev new : NodeLock
  new = record { id = s.last_lock + 1; session = n; nodes = chosen }

  record Passed : Type 0 where
    others : lock_of_other s n (locks_some chosen) ≡ None
    few : (length (locks_of n s.partial) == 64) ≡ false
    last : (s.last_lock == 4294967295) ≡ false

  passed : Passed
  passed =
      let later = (all_none (partial_lock_checks s n selects) none).1.1.1.1 in
      record {
        others = no_lock (partial_lock_cause LockPartial) (lock_of_other s n (locks_some chosen)) later.0;
        few = where_none (length (locks_of n s.partial) == 64) (plain_cause Limit (partial_locks_word ∷ [])) later.1.0;
        last = where_none (s.last_lock == 4294967295) (plain_cause Limit (lock_ids_word ∷ [])) later.1.1.0;
      }

  few_of : (number : ℕ) → length (locks_of number (s.partial ++ new ∷ [])) ≤ 64
  few_of number = by (eqb_tells n number)
    where
      whole : length (locks_of number (s.partial ++ new ∷ [])) ≡ length (locks_of number s.partial) + length (locks_of number (new ∷ []))
      whole = ap length (filter-append (λ (lock : NodeLock). lock.session == number) s.partial (new ∷ [])) ∙ length-append (locks_of number s.partial) (locks_of number (new ∷ []))

      by : (((n == number) ≡ true) × (n ≡ number)) ⊎ (((n == number) ≡ false) × (n ≢ number)) → length (locks_of number (s.partial ++ new ∷ [])) ≤ 64
      by (inl (holds, same)) =
          let one : length (locks_of number (new ∷ [])) ≡ 1 = ap (λ (b : Bool). length (cond b (new ∷ []) [])) holds in
          let few : length (locks_of number s.partial) + 1 ≤ 64 =
          subst (λ (m : ℕ). length (locks_of m s.partial) + 1 ≤ 64) same (few_more (length (locks_of n s.partial)) passed.few (good.locks.few n)) in
          omega (arith, whole, one, few)
      by (inr (fails, differs)) =
          let one : length (locks_of number (new ∷ [])) ≡ 0 = ap (λ (b : Bool). length (cond b (new ∷ []) [])) fails in
          omega (arith, whole, one, good.locks.few number)

  room : s.last_lock + 1 ≤ 4294967295
  room = at s.last_lock passed.last good.locks.last
    where
      at : (last : ℕ) → (last == 4294967295) ≡ false → last ≤ 4294967295 → last + 1 ≤ 4294967295
      at last e within = grind arith

  good_partial : IsGood (with_partial s n (s.last_lock + 1) chosen)
  good_partial = good_locks s s.holders (s.partial ++ new ∷ []) (s.last_lock + 1) good (record {
    running = good.locks.running;
    candidate = good.locks.candidate;
    owners = all_append (λ (lock : NodeLock). IsAmong s.sessions lock.session) s.partial (new ∷ []) good.locks.owners
        (all_one (λ (lock : NodeLock). IsAmong s.sessions lock.session) new live);
    ids = all_append (λ (lock : NodeLock). (1 ≤ lock.id) × (lock.id ≤ s.last_lock + 1)) s.partial (new ∷ [])
        (λ k d within. let g = good.locks.ids k d within in (g.0, omega (arith, g.1)))
        (all_one (λ (lock : NodeLock). (1 ≤ lock.id) × (lock.id ≤ s.last_lock + 1)) new (omega arith, omega arith));
    rise = pairs_last (λ (lock : NodeLock) (later : NodeLock). lock.id < later.id) s.partial new good.locks.rise
        (λ k d within. omega (arith, (good.locks.ids k d within).1));
    apart = pairs_last ShareNone s.partial new good.locks.apart
        (λ k d within differs. apart_from (not ((get_or s.partial k d).session == n)) (locks_some chosen (get_or s.partial k d)) (not_same (get_or s.partial k d).session n differs)
        (none_found (λ (lock : NodeLock). not (lock.session == n) && locks_some chosen lock) s.partial passed.others k d within));
    few = few_of;
    last = room;
  })

good_partly : (s : State) (n : ℕ) (selects : List Select) (lock : ℕ) (nodes : List Path) (failed : Bool) → IsGood s → is_live s n ≡ true →
    asked_verdict s n (PartialLock selects) failed ≡ Locked lock nodes → IsGood (with_partial s n lock nodes)
good_partly s n selects lock nodes failed good live decided =
    let parts = checked_locked (partial_lock_refusal s n selects) (Locked (s.last_lock + 1) (nodes_selected s n selects)) lock nodes decided in
    let same = same_pair (s.last_lock + 1) lock (nodes_selected s n selects) nodes parts.1 in
    subst (λ (m : ℕ). IsGood (with_partial s n m nodes)) same.0
    (subst (λ (xs : List Path). IsGood (with_partial s n (s.last_lock + 1) xs)) same.1 (good_partial s n selects good live parts.0))

-- ---- edits and copies

-- what edits leave that are set
module _ (s : State) (good : IsGood s) where
  set_is : (test : TestOption) (made : Result Applied Cause) → ((it : Applied) → made ≡ Ok it → IsConfiguration s.schema it.rows) → IfSome (rows_set s.schema test made) (IsConfiguration s.schema)
  set_is test (Err cause) each = tt
  set_is Set (Ok it) each = each it refl
  set_is TestThenSet (Ok it) each = by (is_some (violation_in s.schema it.rows))
    where
      by : (broken : Bool) → IfSome (if broken then None else Some it.rows) (IsConfiguration s.schema)
      by true = tt
      by false = each it refl
  set_is TestOnly (Ok it) each = tt

  made_is : (n : ℕ) (on_error : ErrorOption) (default_operation : Default3) (config : Elem) (edits : Result (List Edit) Cause) → edits_of s.schema default_operation config ≡ edits →
      (it : Applied) → made_by s n on_error edits ≡ Ok it → IsConfiguration s.schema it.rows
  made_is n on_error default_operation config (Err cause) are it is = cc
  made_is n on_error default_operation config (Ok edits) are it is =
      subst (λ (a : Applied). IsConfiguration s.schema a.rows) (same is)
      (payload_keeps_configuration s.schema (rights_of s n) on_error default_operation config (candidate_in_force s) edits good.stores.schema (in_force_is s good) are)
    where
      same : made_by s n on_error (Ok edits) ≡ Ok it → applied s.schema (rights_of s n) on_error (candidate_in_force s) edits ≡ it
      same e = cc

  unless_is : (refused : Option Cause) (result : Result Applied Cause) (it : Applied) → result_unless refused result ≡ Ok it → result ≡ Ok it
  unless_is None result it e = e
  unless_is (Some cause) result it e = cc

  edits_are : (n : ℕ) (target : Datastore) (default_operation : Default3) (on_error : ErrorOption) (config : Elem) (it : Applied) →
      edits_made s n target default_operation on_error config ≡ Ok it → IsConfiguration s.schema it.rows
  edits_are n target default_operation on_error config it is =
      made_is n on_error default_operation config (edits_of s.schema default_operation config) refl it
      (unless_is _ (made_by s n on_error (edits_of s.schema default_operation config)) it is)

  -- what is copied
  stored_is : (store : Datastore) → IsConfiguration s.schema (stored s store)
  stored_is Running = good.stores.running
  stored_is Candidate = in_force_is s good
  stored_is Startup = good.stores.running
  stored_is Url = good.stores.running

  abbrev rows_are : List Row → Result (List Row) Cause
  rows_are rows = Ok rows

  ok_rows : (some others : List Row) → rows_are some ≡ rows_are others → some ≡ others
  ok_rows some others e = cc

  source_is : (n : ℕ) (source : Origin) (rows : List Row) → rows_copied s n source ≡ Ok rows → IsConfiguration s.schema rows
  source_is n (Store store) rows is =
      subst (IsConfiguration s.schema) (ok_rows (visible s n (stored s store)) rows is)
      (visible_is_configuration s.schema (access_policy s) (peer_of s n) (stored s store) good.stores.schema (stored_is store))
  source_is n (Inline config) rows is = inline_is_configuration s.schema config rows good.stores.schema is

  unless_rows : (refused : Option Cause) (result : Result (List Row) Cause) (rows : List Row) → result_unless refused result ≡ Ok rows → result ≡ Ok rows
  unless_rows None result rows e = e
  unless_rows (Some cause) result rows e = cc

  denied_rows : (n : ℕ) (result : Result (List Row) Cause) (rows : List Row) → unless_denied s n result ≡ Ok rows → result ≡ Ok rows
  denied_rows n (Err cause) rows e = cc
  denied_rows n (Ok made) rows e = unless_rows _ (Ok made) rows e

  copied_is : (n : ℕ) (target : Datastore) (source : Origin) (result : Result (List Row) Cause) → copied s n target source ≡ result → IfSome (rows_of_ok result) (IsConfiguration s.schema)
  copied_is n target source (Err cause) is = tt
  copied_is n target source (Ok rows) is = source_is n source rows (denied_rows n (rows_copied s n source) rows (unless_rows _ (unless_denied s n (rows_copied s n source)) rows is))

-- ---- what is asked for
good_commit : (s : State) (n : ℕ) (confirmed : Bool) (timeout : ℕ) (persist persist_id : Option (List ℕ)) (failed : Bool) → IsGood s → is_live s n ≡ true →
    asked_verdict s n (Commit confirmed timeout persist persist_id) failed ≡ Done → IsGood (changed_by s n (Commit confirmed timeout persist persist_id) Done)
good_commit s n true timeout persist persist_id failed good live done =
    good_committed s (Some (pending_by s n timeout persist)) good (commit_is_valid s n persist_id (checked_done (commit_refusal s n persist_id) (kept_unless false) done).0)
    (base_awaiting s n timeout persist good live)
good_commit s n false timeout persist persist_id failed good live done =
    good_committed s None good (commit_is_valid s n persist_id (checked_done (commit_refusal s n persist_id) (kept_unless failed) done).0) tt

-- whatever is asked for, a verdict that does no more than the one that is due leaves a good state
abbrev Agrees : State → ℕ → Asked → Verdict → Bool → Type 0
Agrees s n asked decided failed =
    (decided ≡ Done → asked_verdict s n asked failed ≡ Done)
    × ((lock : ℕ) (nodes : List Path) → decided ≡ Locked lock nodes → asked_verdict s n asked failed ≡ Locked lock nodes)

good_asked : (s : State) (n : ℕ) (asked : Asked) (decided : Verdict) (failed : Bool) → IsGood s → is_live s n ≡ true → Agrees s n asked decided failed → IsGood (changed_by s n asked decided)
good_asked s n (EditConfig target default_operation test on_error config) decided failed good live agrees =
    good_candidate s (rows_set s.schema test (edits_made s n target default_operation on_error config))
    (set_is s good test (edits_made s n target default_operation on_error config) (λ it is. edits_are s good n target default_operation on_error config it is)) good
good_asked s n (CopyConfig target source) decided failed good live agrees =
    good_candidate s (rows_of_ok (copied s n target source)) (copied_is s good n target source (copied s n target source) refl) good
good_asked s n (Lock target) Done failed good live agrees = good_locked s n target good live
good_asked s n (Lock target) (Selected rows) failed good live agrees = good
good_asked s n (Lock target) (Locked lock nodes) failed good live agrees = good
good_asked s n (Lock target) (Refused causes) failed good live agrees = good
good_asked s n (Unlock target) Done failed good live agrees = good_unlocked s target good
good_asked s n (Unlock target) (Selected rows) failed good live agrees = good
good_asked s n (Unlock target) (Locked lock nodes) failed good live agrees = good
good_asked s n (Unlock target) (Refused causes) failed good live agrees = good
good_asked s n CloseSession Done failed good live agrees = good_ended s n good
good_asked s n CloseSession (Selected rows) failed good live agrees = good
good_asked s n CloseSession (Locked lock nodes) failed good live agrees = good
good_asked s n CloseSession (Refused causes) failed good live agrees = good
good_asked s n (KillSession number) Done failed good live agrees = good_ended s number good
good_asked s n (KillSession number) (Selected rows) failed good live agrees = good
good_asked s n (KillSession number) (Locked lock nodes) failed good live agrees = good
good_asked s n (KillSession number) (Refused causes) failed good live agrees = good
good_asked s n (Commit confirmed timeout persist persist_id) Done failed good live agrees =
    good_commit s n confirmed timeout persist persist_id failed good live (agrees.0 refl)
good_asked s n (Commit true timeout persist persist_id) (Selected rows) failed good live agrees = good
good_asked s n (Commit true timeout persist persist_id) (Locked lock nodes) failed good live agrees = good
good_asked s n (Commit true timeout persist persist_id) (Refused causes) failed good live agrees = good
good_asked s n (Commit false timeout persist persist_id) (Selected rows) failed good live agrees = good
good_asked s n (Commit false timeout persist persist_id) (Locked lock nodes) failed good live agrees = good
good_asked s n (Commit false timeout persist persist_id) (Refused causes) failed good live agrees = good
good_asked s n DiscardChanges Done failed good live agrees = good_without s good
good_asked s n DiscardChanges (Selected rows) failed good live agrees = good
good_asked s n DiscardChanges (Locked lock nodes) failed good live agrees = good
good_asked s n DiscardChanges (Refused causes) failed good live agrees = good
good_asked s n (CancelCommit persist_id) Done failed good live agrees = good_reverted s good
good_asked s n (CancelCommit persist_id) (Selected rows) failed good live agrees = good
good_asked s n (CancelCommit persist_id) (Locked lock nodes) failed good live agrees = good
good_asked s n (CancelCommit persist_id) (Refused causes) failed good live agrees = good
good_asked s n (PartialLock selects) Done failed good live agrees = good
good_asked s n (PartialLock selects) (Selected rows) failed good live agrees = good
good_asked s n (PartialLock selects) (Locked lock nodes) failed good live agrees = good_partly s n selects lock nodes failed good live (agrees.1 lock nodes refl)
good_asked s n (PartialLock selects) (Refused causes) failed good live agrees = good
good_asked s n (PartialUnlock lock) Done failed good live agrees =
    good_locks s s.holders (filter (λ held. not (held.id == lock)) s.partial) s.last_lock good (locks_fewer s.sessions s.holders s.partial s.last_lock (λ held. not (held.id == lock)) good.locks)
good_asked s n (PartialUnlock lock) (Selected rows) failed good live agrees = good
good_asked s n (PartialUnlock lock) (Locked held nodes) failed good live agrees = good
good_asked s n (PartialUnlock lock) (Refused causes) failed good live agrees = good
good_asked s n (Get filter) decided failed good live agrees = good
good_asked s n (GetConfig source filter) decided failed good live agrees = good
good_asked s n (DeleteConfig target) decided failed good live agrees = good
good_asked s n (Validate source) decided failed good live agrees = good

good_answered : (s : State) (n : ℕ) (refused : Option Cause) (asked : Result Asked Cause) (failed : Bool) → IsGood s → is_live s n ≡ true →
    IsGood (answered_unless refused s n asked (checked refused (verdict_on s n asked failed)))
good_answered s n (Some cause) asked failed good live = good
good_answered s n None (Err cause) failed good live = good
good_answered s n None (Ok asked) failed good live = good_asked s n asked (asked_verdict s n asked failed) failed good live ((λ e. e), (λ lock nodes e. e))

good_changed : (s : State) (event : Event) (failed : Bool) → IsGood s → IsGood (changed s event (outcome_of s event failed))
good_changed s (Start peer) failed good = by (is_full s) refl
  where
    by : (full : Bool) → is_full s ≡ full → IsGood (changed s (Start peer) (if full then Full (length s.sessions) s.last else Started (s.last + 1)))
    by true is = good
    by false is = good_started s peer is good
good_changed s (Requested n request) failed good = by (is_live s n) refl
  where
    by : (live : Bool) → is_live s n ≡ live → IsGood (changed s (Requested n request) (if live then answer_to s n request failed else NotLive))
    by true is = good_answered s n (operation_refused s n request.operation) request.asked failed good is
    by false is = good
good_changed s (End n) failed good = by (is_live s n)
  where
    by : (live : Bool) → IsGood (changed s (End n) (if live then Ended else NotLive))
    by true = good_ended s n good
    by false = good
good_changed s Reading failed good = good

good_read : (s : State) (at : ℕ) → IsGood s → IsGood (read_at s at)
good_read s at good = record { stores = good.stores; sessions = good.sessions; locks = good.locks; pending = good.pending }

pub good_now : (s : State) (at : ℕ) → IsGood s → IsGood (expired s at)
good_now s at good = by (is_due (read_at s at))
  where
    by : (due : Bool) → IsGood (if due then reverted (read_at s at) else read_at s at)
    by true = good_reverted (read_at s at) (good_read s at good)
    by false = good_read s at good

good_counted : (s : State) (faults : ℕ) → IsGood s → IsGood (record s { faults = faults })
good_counted s faults good = record { stores = good.stores; sessions = good.sessions; locks = good.locks; pending = good.pending }

pub good_next : (s : State) (e : Entry) → IsGood s → Fits s e → IsGood (next s e)
good_next s e good fits =
    subst (λ (outcome : Outcome). IsGood (record (changed (expired s e.at) e.event outcome) { faults = e.faults_after })) (sym fits.outcome)
    (good_counted (changed (expired s e.at) e.event (outcome_of (expired s e.at) e.event (has_failed e.outcome))) e.faults_after
    (good_changed (expired s e.at) e.event (has_failed e.outcome) (good_now s e.at good)))

pub good_stays : GoodStays
good_stays first s [] good legal = good
good_stays first s (e ∷ rest) good legal =
    good_stays (first + length (e ∷ [])) (next s e) rest (good_next s e good (legal [] rest e refl).1) (rest_legal first s (e ∷ []) rest legal)
