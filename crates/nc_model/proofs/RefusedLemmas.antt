-- A refused request changes nothing but the clock, and what edits before a refused one set.
use Rattle.std.proofs.Common.{◌≡◌, ◌⊎◌, ◌++◌, ℕ, Bool, true, false, List, [], ◌∷◌, refl, sym, ap, subst, ◌∙◌, inl, inr, Option, Some, None, Result, Ok, Err}
use Rattle.std.specs.Prelude.{fold, if◌then◌else◌, is_some}
use Rattle.std.specs.Option.{option_to_list}
use Rattle.nc_names.proofs.SameLemmas.{rows_decide}
use Rattle.nc_names.specs.Same.{is_same_rows}
use Rattle.nc_names.specs.declared.path.Row.{Row}
use Rattle.nc_message.specs.declared.tree.Elem.{Elem}
use Rattle.nc_message.specs.declared.tree.Tree.{Tree}
use Rattle.nc_protocol.specs.declared.asked.Asked.{Asked}
use Rattle.nc_protocol.specs.declared.asked.Asked.TheVariants.{Get, GetConfig, EditConfig, CopyConfig, DeleteConfig, Lock, Unlock, CloseSession, KillSession, Commit, DiscardChanges, CancelCommit, Validate, PartialLock, PartialUnlock}
use Rattle.nc_protocol.specs.declared.asked.Default3.{Default3}
use Rattle.nc_protocol.specs.declared.asked.ErrorOption.TheVariants.{Stop, Continue, Rollback}
use Rattle.nc_protocol.specs.declared.asked.TestOption.{TestOption}
use Rattle.nc_protocol.specs.declared.asked.TestOption.TheVariants.{TestThenSet, Set, TestOnly}
use Rattle.nc_protocol.specs.declared.datastore.Datastore.{Datastore}
use Rattle.nc_protocol.specs.declared.edit.Edit.{Edit}
use Rattle.nc_protocol.specs.declared.request.Cause.{Cause}
use Rattle.nc_protocol.specs.declared.request.Request.{Request}
use Rattle.nc_protocol.specs.declared.verdict.Verdict.{Verdict}
use Rattle.nc_protocol.specs.declared.verdict.Verdict.TheVariants.{Done, Refused}
use Rattle.nc_protocol.specs.Applied.{Applied, applied, is_empty, rolled_back, stopped}
use Rattle.nc_protocol.specs.Payload.{edits_of}
use Rattle.nc_protocol.specs.Refusals.{checked, done_unless, result_unless, violation_in}
use Rattle.nc_model.specs.declared.event.Event.{Event}
use Rattle.nc_model.specs.declared.event.Event.TheVariants.{Request as Requested}
use Rattle.nc_model.specs.declared.event.Outcome.{Outcome}
use Rattle.nc_model.specs.declared.event.Outcome.TheVariants.{Answered, NotLive}
use Rattle.nc_model.specs.Access.{rights_of}
use Rattle.nc_model.specs.Laws.{ChangesCandidate, RefusedChangesNothing, keeps_edits}
use Rattle.nc_model.specs.State.{State, candidate_in_force, expired, is_live}
use Rattle.nc_model.specs.Step.{answer_to, answered_unless, changed, changed_by, has_failed, outcome_of, rows_of_ok, with_candidate}
use Rattle.nc_model.specs.Verdict.{asked_verdict, copied, done_where, edit_verdict, edits_made, made_by, operation_refused, rows_set, verdict, verdict_on}

-- ---- edits that are rolled back
-- nothing is changed by rows that are those of the candidate
same_rows_change_nothing : (s : State) (rows : List Row) → rows ≡ candidate_in_force s → with_candidate s (Some rows) ≡ s
same_rows_change_nothing s rows same = by (is_same_rows rows (candidate_in_force s)) ((rows_decide rows (candidate_in_force s)).1 same)
  where
    by : (b : Bool) → b ≡ true → (if b then s else record s { candidate = Some rows }) ≡ s
    by true e = refl
    by false e = cc

abbrev has_cause : List Cause → Bool
has_cause [] = false
has_cause (cause ∷ causes) = true

no_cause : (causes : List Cause) → has_cause causes ≡ true → is_empty causes ≡ true → ⊥
no_cause [] has empty = cc
no_cause (cause ∷ causes) has empty = cc

rolled : (rows : List Row) (so_far : Applied) → has_cause (rolled_back rows so_far).causes ≡ true → (rolled_back rows so_far).rows ≡ rows
rolled rows so_far = by (is_empty so_far.causes) refl
  where
    by : (empty : Bool) → is_empty so_far.causes ≡ empty → has_cause (if empty then so_far else record so_far { rows = rows }).causes ≡ true →
        (if empty then so_far else record so_far { rows = rows }).rows ≡ rows
    by true is has = absurd (no_cause so_far.causes has is)
    by false is has = refl

made_rolled : (s : State) (n : ℕ) (edits : Result (List Edit) Cause) (it : Applied) → made_by s n Rollback edits ≡ Ok it → has_cause it.causes ≡ true → it.rows ≡ candidate_in_force s
made_rolled s n (Err cause) it is has = cc
made_rolled s n (Ok edits) it is has =
    subst (λ (a : Applied). has_cause a.causes ≡ true → a.rows ≡ candidate_in_force s) (same is)
    (rolled (candidate_in_force s) (fold (stopped s.schema (rights_of s n)) (record { rows = candidate_in_force s; causes = [] }) edits)) has
  where
    same : made_by s n Rollback (Ok edits) ≡ Ok it → applied s.schema (rights_of s n) Rollback (candidate_in_force s) edits ≡ it
    same e = cc

unless_made : (refused : Option Cause) (result : Result Applied Cause) (it : Applied) → result_unless refused result ≡ Ok it → result ≡ Ok it
unless_made None result it e = e
unless_made (Some cause) result it e = cc

edits_rolled : (s : State) (n : ℕ) (target : Datastore) (default_operation : Default3) (config : Elem) (it : Applied) →
    edits_made s n target default_operation Rollback config ≡ Ok it → has_cause it.causes ≡ true → it.rows ≡ candidate_in_force s
edits_rolled s n target default_operation config it is =
    made_rolled s n (edits_of s.schema default_operation config) it (unless_made _ (made_by s n Rollback (edits_of s.schema default_operation config)) it is)

-- a verdict that refuses without a violation has causes of edits
refused_has : (made causes : List Cause) → done_unless (made ++ []) ≡ Refused causes → has_cause made ≡ true
refused_has [] causes e = cc
refused_has (cause ∷ made) causes e = refl

module _ (s : State) (n : ℕ) (causes : List Cause) where
  rollback_by : (test : TestOption) (made : Result Applied Cause) → ((it : Applied) → made ≡ Ok it → has_cause it.causes ≡ true → it.rows ≡ candidate_in_force s) →
      edit_verdict s.schema test made ≡ Refused causes → with_candidate s (rows_set s.schema test made) ≡ s
  rollback_by test (Err cause) each refused = refl
  rollback_by TestOnly (Ok it) each refused = refl
  rollback_by Set (Ok it) each refused = same_rows_change_nothing s it.rows (each it refl (refused_has it.causes causes refused))
  rollback_by TestThenSet (Ok it) each refused = by (violation_in s.schema it.rows) refused
    where
      by : (violated : Option Cause) → done_unless (it.causes ++ option_to_list violated) ≡ Refused causes → with_candidate s (if is_some violated then None else Some it.rows) ≡ s
      by (Some violation) e = refl
      by None e = same_rows_change_nothing s it.rows (each it refl (refused_has it.causes causes e))

  copy_by : (result : Result (List Row) Cause) → done_where result ≡ Refused causes → with_candidate s (rows_of_ok result) ≡ s
  copy_by (Ok rows) e = cc
  copy_by (Err cause) e = refl

-- ---- edits that stay
changes_candidate : (s : State) (rows : Option (List Row)) → ChangesCandidate s (with_candidate s rows)
changes_candidate s None = refl
changes_candidate s (Some rows) = by (is_same_rows rows (candidate_in_force s))
  where
    by : (same : Bool) → ChangesCandidate s (if same then s else record s { candidate = Some rows })
    by true = refl
    by false = refl

-- ---- what is asked for
abbrev Unchanged : State → Result Asked Cause → State → Type 0
Unchanged s asked t = (t ≡ s) ⊎ ((keeps_edits asked ≡ true) × ChangesCandidate s t)

asked_refused : (s : State) (n : ℕ) (asked : Asked) (failed : Bool) (causes : List Cause) → asked_verdict s n asked failed ≡ Refused causes →
    Unchanged s (Ok asked) (changed_by s n asked (Refused causes))
asked_refused s n (EditConfig target default_operation test Rollback config) failed causes is =
    inl (rollback_by s n causes test (edits_made s n target default_operation Rollback config) (λ it made. edits_rolled s n target default_operation config it made) is)
asked_refused s n (EditConfig target default_operation test Stop config) failed causes is =
    inr (refl, changes_candidate s (rows_set s.schema test (edits_made s n target default_operation Stop config)))
asked_refused s n (EditConfig target default_operation test Continue config) failed causes is =
    inr (refl, changes_candidate s (rows_set s.schema test (edits_made s n target default_operation Continue config)))
asked_refused s n (CopyConfig target source) failed causes is = inl (copy_by s n causes (copied s n target source) is)
asked_refused s n (Lock target) failed causes is = inl refl
asked_refused s n (Unlock target) failed causes is = inl refl
asked_refused s n CloseSession failed causes is = inl refl
asked_refused s n (KillSession number) failed causes is = inl refl
asked_refused s n (Commit true timeout persist persist_id) failed causes is = inl refl
asked_refused s n (Commit false timeout persist persist_id) failed causes is = inl refl
asked_refused s n DiscardChanges failed causes is = inl refl
asked_refused s n (CancelCommit persist_id) failed causes is = inl refl
asked_refused s n (PartialLock selects) failed causes is = inl refl
asked_refused s n (PartialUnlock id) failed causes is = inl refl
asked_refused s n (Get filter) failed causes is = inl refl
asked_refused s n (GetConfig source filter) failed causes is = inl refl
asked_refused s n (DeleteConfig target) failed causes is = inl refl
asked_refused s n (Validate source) failed causes is = inl refl

request_refused : (s : State) (n : ℕ) (refused : Option Cause) (asked : Result Asked Cause) (failed : Bool) (causes : List Cause) →
    checked refused (verdict_on s n asked failed) ≡ Refused causes → Unchanged s asked (answered_unless refused s n asked (Refused causes))
request_refused s n (Some cause) asked failed causes is = inl refl
request_refused s n None (Err cause) failed causes is = inl refl
request_refused s n None (Ok asked) failed causes is = asked_refused s n asked failed causes is

abbrev verdict_in : Outcome → Verdict
verdict_in (Answered verdict reply) = verdict
verdict_in outcome = Done

-- an answered request has the verdict that is due
answered_is : (s : State) (n : ℕ) (request : Request) (failed : Bool) (decided : Verdict) (reply : Tree) →
    Answered decided reply ≡ outcome_of s (Requested n request) failed → verdict s n request failed ≡ decided
answered_is s n request failed decided reply is = by (is_live s n) is
  where
    by : (live : Bool) → Answered decided reply ≡ (if live then answer_to s n request failed else NotLive) → verdict s n request failed ≡ decided
    by true e = sym (ap verdict_in e)
    by false e = cc

pub refused_changes_nothing : RefusedChangesNothing
refused_changes_nothing s e session request causes reply fits event outcome =
    subst (λ (v : Event). Left (changed u v e.outcome)) (sym event)
    (subst (λ (o : Outcome). Left (changed u (Requested session request) o)) (sym outcome) (counted (answered_unless (operation_refused u session request.operation) u session request.asked (Refused causes)) left))
  where
    u : State
    u = expired s e.at

    before : State
    before = record u { faults = e.faults_after }

    Left : State → Type 0
    Left t = (record t { faults = e.faults_after } ≡ before) ⊎ ((keeps_edits request.asked ≡ true) × ChangesCandidate before (record t { faults = e.faults_after }))

    due : verdict u session request (has_failed e.outcome) ≡ Refused causes
    due = answered_is u session request (has_failed e.outcome) (Refused causes) reply (sym outcome ∙ fits.outcome ∙ ap (λ (v : Event). outcome_of u v (has_failed e.outcome)) event)

    left : Unchanged u request.asked (answered_unless (operation_refused u session request.operation) u session request.asked (Refused causes))
    left = request_refused u session (operation_refused u session request.operation) request.asked (has_failed e.outcome) causes due

    counted : (t : State) → Unchanged u request.asked t → Left t
    counted t (inl same) = inl (ap (λ (x : State). record x { faults = e.faults_after }) same)
    counted t (inr (keeps, alone)) = inr (keeps, ap (λ (x : State). record x { faults = e.faults_after }) alone)
