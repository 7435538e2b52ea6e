-- The pending commit, as it is looked at and changed.
use Rattle.std.proofs.Common.{◌≡◌, ◌==◌, ◌+◌, ◌&&◌, ℕ, Bool, true, false, not, cond, List, [], refl, sym, ap, ◌∙◌, Option, Some, None, Result, Ok, Err}
use Rattle.std.specs.Option.{option_map_or, option_or}
use Rattle.std.specs.Prelude.{is_some, option_and_then}
use Rattle.nc_names.specs.declared.cause.CauseKind.TheVariants.{BadToken, NoPending}
use Rattle.nc_names.specs.declared.path.Row.{Row}
use Rattle.nc_protocol.specs.Asking.{plain_cause}
use Rattle.nc_protocol.specs.Edited.{cause_where}
use Rattle.nc_model.specs.State.{Pending, State, candidate_in_force, left_by_end, released, reverted, session_ended, without_session}
use Rattle.nc_model.specs.Step.{committed, milliseconds, pending_by}
use Rattle.nc_model.specs.Verdict.{admission, cancel_admission, commit_admission}
use Rattle.nc_pending.specs.Pending as calls
use Rattle.nc_pending.specs.declared.pending.PendingFault.{PendingFault}
use Rattle.nc_courses.specs.declared.course.Change.TheVariants.{Confirm}
use Rattle.nc_courses.specs.inner.Courses.{confirming, is_reverted_by, left_of, made, pending_from, token_refusal}

-- ---- who may follow, confirm or cancel it
pub admitted : (session : ℕ) (pending : Pending) (given : Option (List ℕ)) (told : Result (Unit {0}) PendingFault) (it : Unit {0}) →
    calls.refusal told ≡ admission session pending given → told ≡ Ok it → None ≡ admission session pending given
admitted session pending given told it is ok = sym (ap calls.refusal ok) ∙ is

pub not_admitted : (session : ℕ) (pending : Pending) (given : Option (List ℕ)) (told : Result (Unit {0}) PendingFault)
    (fault : PendingFault) → calls.refusal told ≡ admission session pending given → told ≡ Err fault →
    Some (calls.cause_of fault) ≡ admission session pending given
not_admitted session pending given told fault is err = sym (ap calls.refusal err) ∙ is

pub commit_admits : (s : State) (session : ℕ) (given : Option (List ℕ)) (pending : Pending) → Some pending ≡ s.pending →
    admission session pending given ≡ commit_admission s session given
commit_admits s session given pending is =
    ap (λ (it : Option Pending). option_map_or (λ found. admission session found given) it
    (cause_where (is_some given) (plain_cause BadToken []))) is

pub commit_unasked : (s : State) (session : ℕ) (given : Option (List ℕ)) → None ≡ s.pending →
    token_refusal given ≡ commit_admission s session given
commit_unasked s session given is =
    ap (λ (it : Option Pending). option_map_or (λ found. admission session found given) it
    (cause_where (is_some given) (plain_cause BadToken []))) is

pub cancel_admits : (s : State) (session : ℕ) (given : Option (List ℕ)) (pending : Pending) → Some pending ≡ s.pending →
    admission session pending given ≡ cancel_admission s session given
cancel_admits s session given pending is =
    ap (λ (it : Option Pending). option_map_or (λ found. admission session found given) it (Some (plain_cause NoPending []))) is

pub none_cancelled : (s : State) (session : ℕ) (given : Option (List ℕ)) → None ≡ s.pending →
    Some (plain_cause NoPending []) ≡ cancel_admission s session given
none_cancelled s session given is =
    ap (λ (it : Option Pending). option_map_or (λ found. admission session found given) it (Some (plain_cause NoPending []))) is

-- ---- the end of a session
pub left_reverted : (s : State) (number : ℕ) → true ≡ is_reverted_by s.pending number →
    reverted (record s { pending = left_of s.pending number }) ≡ left_by_end s number s.pending
left_reverted s number ends = by s.pending refl ends
  where
    some : (pending : Pending) (own persists : Bool) → s.pending ≡ Some pending → true ≡ (own && not persists) →
        reverted (record s { pending = Some (cond (own && persists) (record pending { session = 0 }) pending) })
        ≡ cond (not own) s (cond persists (record s { pending = Some (record pending { session = 0 }) }) (reverted s))
    some pending true false is reverts =
        ap (λ (q : Option Pending). record s { running = option_map_or (λ found. found.base) q s.running; pending = None }) (sym is)
    some pending true true is reverts = cc
    some pending false persists is reverts = cc

    by : (pending : Option Pending) → s.pending ≡ pending → true ≡ is_reverted_by pending number →
        reverted (record s { pending = left_of pending number }) ≡ left_by_end s number pending
    by None is reverts = cc
    by (Some pending) is reverts = some pending (pending.session == number) (is_some pending.token) is reverts

pub left_stays : (s : State) (number : ℕ) → false ≡ is_reverted_by s.pending number →
    record s { pending = left_of s.pending number } ≡ left_by_end s number s.pending
left_stays s number stays = by s.pending refl stays
  where
    some : (pending : Pending) (own persists : Bool) → s.pending ≡ Some pending → false ≡ (own && not persists) →
        record s { pending = Some (cond (own && persists) (record pending { session = 0 }) pending) }
        ≡ cond (not own) s (cond persists (record s { pending = Some (record pending { session = 0 }) }) (reverted s))
    some pending true true is reverts = refl
    some pending true false is reverts = cc
    some pending false persists is reverts = ap (λ (q : Option Pending). record s { pending = q }) (sym is)

    by : (pending : Option Pending) → s.pending ≡ pending → false ≡ is_reverted_by pending number →
        record s { pending = left_of pending number } ≡ left_by_end s number pending
    by None is reverts = ap (λ (q : Option Pending). record s { pending = q }) (sym is)
    by (Some pending) is reverts = some pending (pending.session == number) (is_some pending.token) is reverts

pub ended_is : (s one other last : State) (number : ℕ) → one ≡ without_session s number → other ≡ released one number →
    last ≡ left_by_end other number other.pending → last ≡ session_ended s number
ended_is s one other last number first second third =
    third ∙ ap (λ (t : State). left_by_end t number t.pending) (second ∙ ap (λ (t : State). released t number) first)

-- ---- a confirmed commit
or_none : (token : Option (List ℕ)) → token ≡ option_or token None
or_none None = refl
or_none (Some text) = refl

pending_is : (pending : Option Pending) (before : List Row) (deadline : ℕ) (token : Option (List ℕ)) (session : ℕ) →
    record {
      base = option_map_or (λ found. found.base) pending before;
      deadline = deadline;
      token = option_or token (option_and_then (λ found. found.token) pending);
      session = session;
    } ≡ pending_from pending before deadline token session
pending_is None before deadline token session =
    ap (λ (it : Option (List ℕ)). record { base = before; deadline = deadline; token = it; session = session }) (sym (or_none token))
pending_is (Some pending) before deadline token session = refl

pub confirmed_is : (s : State) (session timeout : ℕ) (persist : Option (List ℕ)) →
    committed s (Some (pending_by s session timeout persist)) ≡ made s session (Confirm (candidate_in_force s) timeout persist)
unfolding made confirming
confirmed_is s session timeout persist =
    ap (λ (it : Pending). record s { running = candidate_in_force s; candidate = None; pending = Some it })
    (pending_is s.pending s.running (s.now + milliseconds timeout) persist session)

-- the base is the same
pub confirming_base : (pending : Option Pending) (before : List Row) (deadline : ℕ) (token : Option (List ℕ)) (session : ℕ) →
    (pending_from pending before deadline token session).base ≡ option_map_or (λ found. found.base) pending before
confirming_base None before deadline token session = refl
confirming_base (Some pending) before deadline token session = refl
