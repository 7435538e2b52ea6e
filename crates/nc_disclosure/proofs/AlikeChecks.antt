-- Of states that are alike for a session the checks match, one by one.
use Rattle.std.proofs.Common.{◌≡◌, ◌==◌, ◌&&◌, ◌||◌, ◌∙◌, ℕ, Bool, true, false, not, List, [], ◌∷◌, map, refl, sym, ap, inl, inr, Option, Some, None}
use Rattle.std.specs.Prelude.{if◌then◌else◌, is_some, option_map, option_and_then}
use Rattle.std.specs.Fmt.{decimal}
use Rattle.std.specs.List.{filter, filter_map, list_any}
use Rattle.std.specs.Option.{option_map_or}
use Rattle.nc_names.specs.declared.cause.CauseKind.TheVariants.{BadToken, InUseGlobal, InUsePending, LockHeld, LockModified, LockPartial, LockPending, NoPending, NotHeld, NotLiveTarget, BadSelect, BadParameter}
use Rattle.nc_names.specs.declared.path.Path.{Path}
use Rattle.nc_names.specs.declared.path.Row.{Row}
use Rattle.nc_message.specs.declared.tree.Elem.{Elem}
use Rattle.nc_schema.specs.Tables.{Tables}
use Rattle.nc_protocol.specs.Asking.{plain_cause}
use Rattle.nc_protocol.specs.Edited.{cause_where}
use Rattle.nc_protocol.specs.Refusals.{datastore_name}
use Rattle.nc_protocol.specs.Words.{lock_id_word}
use Rattle.nc_protocol.specs.declared.asked.Select.{Select}
use Rattle.nc_protocol.specs.declared.datastore.Datastore.{Datastore}
use Rattle.nc_protocol.specs.declared.datastore.Datastore.TheVariants.{Running, Candidate, Startup, Url}
use Rattle.nc_protocol.specs.declared.request.Cause.{Cause}
use Rattle.nc_protocol.proofs.ListLemmas.{some_same}
use Rattle.nc_model.specs.Access.{visible}
use Rattle.nc_model.specs.Alike.{AreAlike, owner, waiting}
use Rattle.nc_model.specs.State.{State, Holders, NodeLock, Pending, is_among, is_held_by}
use Rattle.nc_model.specs.declared.session.Session.{Session}
use Rattle.nc_model.specs.Verdict.{admission, are_selects, cancel_admission, commit_admission, each_once, filtered, global_lock_cause, holder_of, in_use, is_candidate, is_matched, is_running, kill_refusal, lock_of_other, nodes_selected, partial_unlock_refusal, partly_locked, pending_cause, pending_of_other, refused_by, selected_path, shown, stored}
use Rattle.nc_disclosure.proofs.AgreeLemmas.{Match}
use Rattle.nc_disclosure.proofs.MuteLemmas.{partial_mute}

-- ---- the pending commit, of which its session and its `persist` text are known
session_same : (p q : Pending) → waiting p ≡ waiting q → p.session ≡ q.session
session_same p q e = ap (λ (known : ℕ × Option (List ℕ)). known.0) e

refused_same : (n : ℕ) (p q : Pending) → p.session ≡ q.session → (token given : Option (List ℕ)) →
    refused_by n p token given ≡ refused_by n q token given
refused_same n p q e (Some token) (Some text) = refl
refused_same n p q e (Some token) None = ap (λ (session : ℕ). Some (plain_cause InUsePending (decimal session ∷ []))) e
refused_same n p q e None (Some text) = refl
refused_same n p q e None None =
    ap (λ (session : ℕ). cause_where (not (session == n)) (plain_cause InUsePending (decimal session ∷ []))) e

admitted_same : (n : ℕ) (given : Option (List ℕ)) (otherwise : Option Cause) (p q : Option Pending) → option_map waiting p ≡ option_map waiting q →
    option_map_or (λ found. admission n found given) p otherwise ≡ option_map_or (λ found. admission n found given) q otherwise
admitted_same n given otherwise None None e = refl
admitted_same n given otherwise None (Some q) e = cc
admitted_same n given otherwise (Some p) None e = cc
admitted_same n given otherwise (Some p) (Some q) e =
    let known : waiting p ≡ waiting q = some_same (waiting p) (waiting q) e in
    refused_same n p q (session_same p q known) p.token given
    ∙ ap (λ (token : Option (List ℕ)). refused_by n q token given) (ap (λ (pair : ℕ × Option (List ℕ)). pair.1) known)

other_same : (n : ℕ) (p q : Option Pending) → option_map waiting p ≡ option_map waiting q → pending_of_other n p ≡ pending_of_other n q
other_same n None None e = refl
other_same n None (Some q) e = cc
other_same n (Some p) None e = cc
other_same n (Some p) (Some q) e =
    ap (λ (session : ℕ). cause_where (not (session == n)) (plain_cause LockPending (decimal session ∷ [])))
    (session_same p q (some_same (waiting p) (waiting q) e))

outstanding_same : (p q : Option Pending) → option_map waiting p ≡ option_map waiting q →
    option_map (pending_cause LockPending) p ≡ option_map (pending_cause LockPending) q
outstanding_same None None e = refl
outstanding_same None (Some q) e = cc
outstanding_same (Some p) None e = cc
outstanding_same (Some p) (Some q) e =
    ap (λ (session : ℕ). Some (plain_cause LockPending (decimal session ∷ []))) (session_same p q (some_same (waiting p) (waiting q) e))

-- ---- a lock-id of the session's own
own_by : ℕ → ℕ → ℕ × ℕ → Bool
own_by n id known = known.0 == id && known.1 == n

owned : (n id : ℕ) (partial : List NodeLock) →
    list_any (λ (lock : NodeLock). lock.id == id && lock.session == n) partial ≡ list_any (own_by n id) (map owner partial)
unfolding own_by
owned n id [] = refl
owned n id (lock ∷ partial) = ap (λ (b : Bool). (lock.id == id && lock.session == n) || b) (owned n id partial)

module _ (s t : State) (n : ℕ) (alike : AreAlike s t n) where
  -- ---- locks of datastores
  pub in_use_same : (store : Datastore) → in_use s n store ≡ in_use t n store
  in_use_same store =
      ap (λ (holders : Holders). option_and_then (λ other. cause_where (not (other == n)) (global_lock_cause InUseGlobal store other)) (holder_of holders store))
      alike.holders

  pub held_same : (store : Datastore) →
      option_map (global_lock_cause LockHeld store) (holder_of s.holders store) ≡ option_map (global_lock_cause LockHeld store) (holder_of t.holders store)
  held_same store = ap (λ (holders : Holders). option_map (global_lock_cause LockHeld store) (holder_of holders store)) alike.holders

  pub modified_same : (target : Datastore) →
      cause_where (is_candidate target && is_some s.candidate) (plain_cause LockModified [])
      ≡ cause_where (is_candidate target && is_some t.candidate) (plain_cause LockModified [])
  modified_same target = ap (λ (b : Bool). cause_where (is_candidate target && b) (plain_cause LockModified [])) alike.modified

  pub waiting_same : (target : Datastore) →
      (if is_running target then pending_of_other n s.pending else None) ≡ (if is_running target then pending_of_other n t.pending else None)
  waiting_same target = ap (λ (found : Option Cause). if is_running target then found else None) (other_same n s.pending t.pending alike.pending)

  pub partly_match : (target : Datastore) →
      Match (if is_running target then partly_locked s n else None) (if is_running target then partly_locked t n else None)
  partly_match target = by (is_running target)
    where
      by : (b : Bool) → Match (if b then partly_locked s n else None) (if b then partly_locked t n else None)
      by true = inr (partial_mute LockPartial refl (lock_of_other s n (λ lock. true)), partial_mute LockPartial refl (lock_of_other t n (λ lock. true)))
      by false = inl refl

  pub not_held_same : (target : Datastore) →
      cause_where (not (is_held_by n (holder_of s.holders target))) (plain_cause NotHeld (datastore_name target ∷ []))
      ≡ cause_where (not (is_held_by n (holder_of t.holders target))) (plain_cause NotHeld (datastore_name target ∷ []))
  not_held_same target =
      ap (λ (holders : Holders). cause_where (not (is_held_by n (holder_of holders target))) (plain_cause NotHeld (datastore_name target ∷ []))) alike.holders

  -- ---- kill-session
  pub kill_same : (number : ℕ) → kill_refusal s n number ≡ kill_refusal t n number
  kill_same number =
      ap (λ (sessions : List Session). cause_where (number == n || not (is_among sessions number)) (plain_cause NotLiveTarget [])) alike.sessions

  -- ---- commits
  pub commit_admitted : (given : Option (List ℕ)) → commit_admission s n given ≡ commit_admission t n given
  commit_admitted given = admitted_same n given (cause_where (is_some given) (plain_cause BadToken [])) s.pending t.pending alike.pending

  pub cancel_admitted : (given : Option (List ℕ)) → cancel_admission s n given ≡ cancel_admission t n given
  cancel_admitted given = admitted_same n given (Some (plain_cause NoPending [])) s.pending t.pending alike.pending

  -- ---- partial locks
  pub pending_same : option_map (pending_cause LockPending) s.pending ≡ option_map (pending_cause LockPending) t.pending
  pending_same = outstanding_same s.pending t.pending alike.pending

  pub selects_same : (selects : List Select) →
      cause_where (not (are_selects s.schema selects)) (plain_cause BadSelect []) ≡ cause_where (not (are_selects t.schema selects)) (plain_cause BadSelect [])
  selects_same selects = ap (λ (tables : Tables). cause_where (not (are_selects tables selects)) (plain_cause BadSelect [])) alike.schema

  pub nodes_same : (selects : List Select) → nodes_selected s n selects ≡ nodes_selected t n selects
  nodes_same selects =
      let nodes : Tables → List Row → List Path = λ tables rows. each_once (filter (is_matched tables rows) (filter_map (selected_path tables) selects)) in
      ap (λ (tables : Tables). nodes tables (visible s n s.running)) alike.schema ∙ ap (nodes t.schema) alike.running

  pub own_same : (id : ℕ) → partial_unlock_refusal s n id ≡ partial_unlock_refusal t n id
  own_same id =
      ap (λ (b : Bool). cause_where (not b) (plain_cause BadParameter (lock_id_word ∷ [])))
      (owned n id s.partial ∙ ap (list_any (own_by n id)) alike.owners ∙ sym (owned n id t.partial))

  -- ---- what is shown
  stored_same : (store : Datastore) → visible s n (stored s store) ≡ visible t n (stored t store)
  stored_same Candidate = alike.candidate
  stored_same Running = alike.running
  stored_same Startup = alike.running
  stored_same Url = alike.running

  pub shown_same : (store : Datastore) (through : Option Elem) → shown s n store through ≡ shown t n store through
  shown_same store through =
      ap (λ (tables : Tables). filtered tables through (visible s n (stored s store))) alike.schema
      ∙ ap (filtered t.schema through) (stored_same store)
