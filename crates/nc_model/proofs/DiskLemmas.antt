-- A disk fault is answered only to a commit that reached the disk.
use Rattle.std.proofs.Common.{◌≡◌, ◌+◌, ◌&&◌, ◌||◌, ℕ, Bool, true, false, List, [], ◌∷◌, length, refl, sym, ap, subst, ◌∙◌, Option, Some, None, Result, Ok, Err, suc, arith}
use Rattle.std.specs.Prelude.{if◌then◌else◌, not, IfSome}
use Rattle.std.specs.List.{All, list_any}
use Rattle.nc_names.specs.declared.cause.CauseKind.{CauseKind}
use Rattle.nc_names.specs.declared.cause.CauseKind.TheVariants.{Malformed, NoMessageId, NoOperation, TwoOperations, UnknownOperation, ExecDenied, UnknownParameter, RepeatedParameter, MissingParameter, BadParameter, BadFilterType, UnsupportedTarget, LockHeld, LockModified, LockPending, LockPartial, NotHeld, InUseGlobal, InUsePartial, InUsePending, NoPending, BadToken, NotLiveTarget, BadSelect, NoMatch, Limit, UnknownElement, UnknownNamespace, UnknownAttribute, BadAttribute, MissingKey, BadElement, BadValue, Exists, Absent, MissingInstance, DataDenied, Mandatory, MandatoryChoice, TooFew, TooMany, NotUnique, DeadLeafref, DeadInstance, DiskFault}
use Rattle.nc_names.specs.declared.path.Row.{Row}
use Rattle.nc_schema.specs.Violations.{violations}
use Rattle.nc_protocol.specs.declared.asked.Asked.{Asked}
use Rattle.nc_protocol.specs.declared.asked.Asked.TheVariants.{Get, GetConfig, EditConfig, CopyConfig, DeleteConfig, Lock, Unlock, CloseSession, KillSession, Commit, DiscardChanges, CancelCommit, Validate, PartialLock, PartialUnlock}
use Rattle.nc_protocol.specs.declared.asked.Default3.{Default3}
use Rattle.nc_protocol.specs.declared.asked.ErrorOption.{ErrorOption}
use Rattle.nc_protocol.specs.declared.asked.Operation.{Operation}
use Rattle.nc_message.specs.declared.tree.Elem.{Elem}
use Rattle.nc_protocol.specs.declared.edit.Edit.{Edit}
use Rattle.nc_model.specs.declared.event.Event.{Event}
use Rattle.nc_model.specs.declared.event.Event.TheVariants.{Start, Request as Requested, End, Reading}
use Rattle.nc_model.specs.declared.event.Outcome.TheVariants.{Started, Full, NotLive, Ended}
use Rattle.nc_protocol.specs.declared.request.Cause.{Cause}
use Rattle.nc_protocol.specs.declared.verdict.Verdict.{Verdict}
use Rattle.nc_protocol.specs.declared.verdict.Verdict.TheVariants.{Done, Selected, Locked, Refused}
use Rattle.nc_model.specs.Access.{rights_of}
use Rattle.nc_protocol.specs.Applied.{applied}
use Rattle.nc_model.specs.Laws.{DiskFaultHasCause}
use Rattle.nc_protocol.specs.Payload.{edits_of, rows_of}
use Rattle.nc_protocol.specs.Proper.{message_names, parameter_names, IsAskedOf}
use Rattle.nc_model.specs.ProperEvents.{IsProperEvent}
use Rattle.nc_protocol.specs.RequestLaws.{CausesAre}
use Rattle.nc_model.specs.State.{State, candidate_in_force, expired, is_live}
use Rattle.nc_model.specs.Step.{CountsFaults, outcome_of, has_failed, has_disk_fault, is_of_disk, is_full, is_done, reaches_disk, appends_record, answer_to}
use Rattle.nc_model.specs.Verdict.{verdict, verdict_on, operation_refused, asked_verdict, commit_refusal, kept_unless}
use Rattle.nc_protocol.specs.Asking.{plain_cause}
use Rattle.nc_protocol.specs.Refusals.{checked, violation_cause}
use Rattle.nc_model.proofs.KindLemmas.{ErrIs, edits_cause, rows_cause, applied_causes}
use Rattle.nc_schema.proofs.ViolationLemmas.{violation_kinds}
use Rattle.nc_model.proofs.VerdictCauses.{asked_is, commit_is, refused_is, server_names}

abbrev IsNoFault : Cause → Type 0
IsNoFault cause = is_of_disk cause.kind ≡ false

none_faults : (causes : List Cause) → All IsNoFault causes → list_any (λ cause. is_of_disk cause.kind) causes ≡ false
none_faults [] each = refl
none_faults (cause ∷ causes) each =
    ap (λ b. b || list_any (λ cause. is_of_disk cause.kind) causes) (each 0 cause (omega arith))
    ∙ none_faults causes (λ k d within. each (suc k) d (omega (arith, within)))

no_fault : (decided : Verdict) → CausesAre IsNoFault decided → has_disk_fault decided ≡ false
no_fault Done each = refl
no_fault (Selected rows) each = refl
no_fault (Locked lock nodes) each = refl
no_fault (Refused causes) each = none_faults causes each

-- what the server says by itself is of no disk
no_server_kind : (kind : CauseKind) (count : ℕ) → server_names kind ≡ Some count → is_of_disk kind ≡ false
no_server_kind Malformed count e = refl
no_server_kind NoMessageId count e = refl
no_server_kind NoOperation count e = refl
no_server_kind TwoOperations count e = refl
no_server_kind UnknownOperation count e = refl
no_server_kind ExecDenied count e = refl
no_server_kind UnknownParameter count e = refl
no_server_kind RepeatedParameter count e = refl
no_server_kind MissingParameter count e = refl
no_server_kind BadParameter count e = refl
no_server_kind BadFilterType count e = refl
no_server_kind UnsupportedTarget count e = refl
no_server_kind LockHeld count e = refl
no_server_kind LockModified count e = refl
no_server_kind LockPending count e = refl
no_server_kind LockPartial count e = refl
no_server_kind NotHeld count e = refl
no_server_kind InUseGlobal count e = refl
no_server_kind InUsePartial count e = refl
no_server_kind InUsePending count e = refl
no_server_kind NoPending count e = refl
no_server_kind BadToken count e = refl
no_server_kind NotLiveTarget count e = refl
no_server_kind BadSelect count e = refl
no_server_kind NoMatch count e = refl
no_server_kind Limit count e = refl
no_server_kind UnknownElement count e = refl
no_server_kind UnknownNamespace count e = refl
no_server_kind UnknownAttribute count e = refl
no_server_kind BadAttribute count e = refl
no_server_kind MissingKey count e = refl
no_server_kind BadElement count e = refl
no_server_kind BadValue count e = refl
no_server_kind Exists count e = refl
no_server_kind Absent count e = refl
no_server_kind MissingInstance count e = refl
no_server_kind DataDenied count e = refl
no_server_kind Mandatory count e = refl
no_server_kind MandatoryChoice count e = refl
no_server_kind TooFew count e = refl
no_server_kind TooMany count e = refl
no_server_kind NotUnique count e = refl
no_server_kind DeadLeafref count e = refl
no_server_kind DeadInstance count e = refl
no_server_kind DiskFault count e = cc

no_server : (kind : CauseKind) (names : List (List ℕ)) → server_names kind ≡ Some (length names) → IsNoFault (plain_cause kind names)
no_server kind names e = no_server_kind kind (length names) e

-- whatever is asked for, its causes are of no disk while the disk does not fail
module _ (s : State) (n : ℕ) where
  payload_is : (default_operation : Default3) (config : Elem) → ErrIs IsNoFault (edits_of s.schema default_operation config)
  payload_is default_operation config =
      edits_cause IsNoFault (λ steps name. refl) (λ steps name space. refl) (λ above step attr name. refl) (λ above step attr name. refl)
      (λ steps key. refl) (λ steps name. refl) (λ above step. refl) s.schema default_operation config

  inline_is : (config : Elem) → ErrIs IsNoFault (rows_of s.schema config)
  inline_is config =
      rows_cause IsNoFault (λ steps name. refl) (λ steps name space. refl) (λ above step attr name. refl) (λ above step attr name. refl)
      (λ steps key. refl) (λ steps name. refl) (λ above step. refl) s.schema config

  edits_are : (on_error : ErrorOption) (default_operation : Default3) (config : Elem) (edits : List Edit) → edits_of s.schema default_operation config ≡ Ok edits →
      All IsNoFault (applied s.schema (rights_of s n) on_error (candidate_in_force s) edits).causes
  edits_are on_error default_operation config edits is =
      applied_causes IsNoFault s.schema (rights_of s n) (λ path. refl) (λ path. refl) (λ path right. refl) on_error (candidate_in_force s) edits (λ k edit within. refl)

  invalid_is : (rows : List Row) → All (λ violation. IsNoFault (violation_cause violation)) (violations s.schema rows)
  invalid_is rows = violation_kinds (λ kind. is_of_disk kind ≡ false) refl refl refl refl refl refl refl s.schema rows

  commit_none : (persist_id : Option (List ℕ)) → IfSome (commit_refusal s n persist_id) IsNoFault
  commit_none = commit_is IsNoFault s n payload_is inline_is edits_are invalid_is (λ path right. refl) no_server (λ operation. refl)

  refused_none : (operation : Option Operation) → IfSome (operation_refused s n operation) IsNoFault
  refused_none = refused_is IsNoFault s n payload_is inline_is edits_are invalid_is (λ path right. refl) no_server (λ operation. refl)

  asked_none : (asked : Asked) → has_disk_fault (asked_verdict s n asked false) ≡ false
  asked_none asked = no_fault (asked_verdict s n asked false)
      (asked_is IsNoFault s n payload_is inline_is edits_are invalid_is (λ path right. refl) no_server (λ operation. refl) asked false (λ e. cc))

-- a commit that is answered with a disk fault would have been done
abbrev WouldBeDone : Bool → Verdict → Type 0
WouldBeDone confirmed decided = (confirmed ≡ false) × (is_done decided ≡ true)

commit_fails : (s : State) (n : ℕ) (confirmed : Bool) (persist_id : Option (List ℕ)) (found : Option Cause) → commit_refusal s n persist_id ≡ found →
    has_disk_fault (checked found (kept_unless (not confirmed && true))) ≡ true → WouldBeDone confirmed (checked found (kept_unless (not confirmed && false)))
commit_fails s n confirmed persist_id (Some cause) is failed =
    let none = subst (λ found. IfSome found IsNoFault) is (commit_none s n persist_id) in
    absurd (apart (sym (ap (λ b. b || false) none) ∙ failed))
  where
    apart : false ≡ true → ⊥
    apart e = cc
commit_fails s n true persist_id None is failed = cc
commit_fails s n false persist_id None is failed = (refl, refl)

-- what is asked for, other than a commit, is not answered with a disk fault
abbrev FaultIsOfCommit : State → ℕ → Asked → Type 0
FaultIsOfCommit s n asked =
    has_disk_fault (asked_verdict s n asked true) ≡ true → appends_record (Ok asked) && is_done (asked_verdict s n asked false) ≡ true

not_both : {X : Type 0} (b : Bool) → b ≡ false → b ≡ true → X
not_both true e f = cc
not_both false e f = cc

both_are : (a b : Bool) → a ≡ true → b ≡ true → a && b ≡ true
both_are true b e f = f
both_are false b e f = cc

fault_of : (s : State) (n : ℕ) (asked : Asked) → FaultIsOfCommit s n asked
fault_of s n (Commit confirmed timeout persist persist_id) failed =
    let done = commit_fails s n confirmed persist_id (commit_refusal s n persist_id) refl failed in
    both_are (not confirmed) (is_done (asked_verdict s n (Commit confirmed timeout persist persist_id) false)) (ap not done.0) done.1
fault_of s n (Get filter) failed = not_both (has_disk_fault (asked_verdict s n (Get filter) false)) (asked_none s n (Get filter)) failed
fault_of s n (GetConfig source filter) failed = not_both (has_disk_fault (asked_verdict s n (GetConfig source filter) false)) (asked_none s n (GetConfig source filter)) failed
fault_of s n (EditConfig target default_operation test on_error config) failed = not_both (has_disk_fault (asked_verdict s n (EditConfig target default_operation test on_error config) false)) (asked_none s n (EditConfig target default_operation test on_error config)) failed
fault_of s n (CopyConfig target source) failed = not_both (has_disk_fault (asked_verdict s n (CopyConfig target source) false)) (asked_none s n (CopyConfig target source)) failed
fault_of s n (DeleteConfig target) failed = not_both (has_disk_fault (asked_verdict s n (DeleteConfig target) false)) (asked_none s n (DeleteConfig target)) failed
fault_of s n (Lock target) failed = not_both (has_disk_fault (asked_verdict s n (Lock target) false)) (asked_none s n (Lock target)) failed
fault_of s n (Unlock target) failed = not_both (has_disk_fault (asked_verdict s n (Unlock target) false)) (asked_none s n (Unlock target)) failed
fault_of s n CloseSession failed = not_both (has_disk_fault (asked_verdict s n CloseSession false)) (asked_none s n CloseSession) failed
fault_of s n (KillSession number) failed = not_both (has_disk_fault (asked_verdict s n (KillSession number) false)) (asked_none s n (KillSession number)) failed
fault_of s n DiscardChanges failed = not_both (has_disk_fault (asked_verdict s n DiscardChanges false)) (asked_none s n DiscardChanges) failed
fault_of s n (CancelCommit persist_id) failed = not_both (has_disk_fault (asked_verdict s n (CancelCommit persist_id) false)) (asked_none s n (CancelCommit persist_id)) failed
fault_of s n (Validate source) failed = not_both (has_disk_fault (asked_verdict s n (Validate source) false)) (asked_none s n (Validate source)) failed
fault_of s n (PartialLock selects) failed = not_both (has_disk_fault (asked_verdict s n (PartialLock selects) false)) (asked_none s n (PartialLock selects)) failed
fault_of s n (PartialUnlock id) failed = not_both (has_disk_fault (asked_verdict s n (PartialUnlock id) false)) (asked_none s n (PartialUnlock id)) failed

-- a cause of the reading of a request is of no disk
no_message : (kind : CauseKind) (count : ℕ) → message_names kind ≡ Some count → is_of_disk kind ≡ false
no_message Malformed count e = refl
no_message NoMessageId count e = refl
no_message NoOperation count e = refl
no_message TwoOperations count e = refl
no_message UnknownOperation count e = refl
no_message ExecDenied count e = refl
no_message UnknownParameter count e = refl
no_message RepeatedParameter count e = refl
no_message MissingParameter count e = refl
no_message BadParameter count e = refl
no_message BadFilterType count e = refl
no_message UnsupportedTarget count e = refl
no_message LockHeld count e = refl
no_message LockModified count e = refl
no_message LockPending count e = refl
no_message LockPartial count e = refl
no_message NotHeld count e = refl
no_message InUseGlobal count e = refl
no_message InUsePartial count e = refl
no_message InUsePending count e = refl
no_message NoPending count e = refl
no_message BadToken count e = refl
no_message NotLiveTarget count e = refl
no_message BadSelect count e = refl
no_message NoMatch count e = refl
no_message Limit count e = refl
no_message UnknownElement count e = refl
no_message UnknownNamespace count e = refl
no_message UnknownAttribute count e = refl
no_message BadAttribute count e = refl
no_message MissingKey count e = refl
no_message BadElement count e = refl
no_message BadValue count e = refl
no_message Exists count e = refl
no_message Absent count e = refl
no_message MissingInstance count e = refl
no_message DataDenied count e = refl
no_message Mandatory count e = refl
no_message MandatoryChoice count e = refl
no_message TooFew count e = refl
no_message TooMany count e = refl
no_message NotUnique count e = refl
no_message DeadLeafref count e = refl
no_message DeadInstance count e = refl
no_message DiskFault count e = cc

no_parameter : (kind : CauseKind) (count : ℕ) → parameter_names kind ≡ Some count → is_of_disk kind ≡ false
no_parameter Malformed count e = refl
no_parameter NoMessageId count e = refl
no_parameter NoOperation count e = refl
no_parameter TwoOperations count e = refl
no_parameter UnknownOperation count e = refl
no_parameter ExecDenied count e = refl
no_parameter UnknownParameter count e = refl
no_parameter RepeatedParameter count e = refl
no_parameter MissingParameter count e = refl
no_parameter BadParameter count e = refl
no_parameter BadFilterType count e = refl
no_parameter UnsupportedTarget count e = refl
no_parameter LockHeld count e = refl
no_parameter LockModified count e = refl
no_parameter LockPending count e = refl
no_parameter LockPartial count e = refl
no_parameter NotHeld count e = refl
no_parameter InUseGlobal count e = refl
no_parameter InUsePartial count e = refl
no_parameter InUsePending count e = refl
no_parameter NoPending count e = refl
no_parameter BadToken count e = refl
no_parameter NotLiveTarget count e = refl
no_parameter BadSelect count e = refl
no_parameter NoMatch count e = refl
no_parameter Limit count e = refl
no_parameter UnknownElement count e = refl
no_parameter UnknownNamespace count e = refl
no_parameter UnknownAttribute count e = refl
no_parameter BadAttribute count e = refl
no_parameter MissingKey count e = refl
no_parameter BadElement count e = refl
no_parameter BadValue count e = refl
no_parameter Exists count e = refl
no_parameter Absent count e = refl
no_parameter MissingInstance count e = refl
no_parameter DataDenied count e = refl
no_parameter Mandatory count e = refl
no_parameter MandatoryChoice count e = refl
no_parameter TooFew count e = refl
no_parameter TooMany count e = refl
no_parameter NotUnique count e = refl
no_parameter DeadLeafref count e = refl
no_parameter DeadInstance count e = refl
no_parameter DiskFault count e = cc

read_none : (operation : Option Operation) (cause : Cause) → IsAskedOf operation (Err cause) → IsNoFault cause
read_none None cause is = no_message cause.kind (length cause.names) is.0
read_none (Some operation) cause is = no_parameter cause.kind (length cause.names) is.0

-- a request that is answered with a disk fault
request_fails : (s : State) (n : ℕ) (operation : Option Operation) (asked : Result Asked Cause) (found : Option Cause) → IsAskedOf operation asked → IfSome found IsNoFault →
    has_disk_fault (checked found (verdict_on s n asked true)) ≡ true → appends_record asked && is_done (checked found (verdict_on s n asked false)) ≡ true
request_fails s n operation asked (Some cause) proper none failed = not_both _ (ap (λ b. b || false) none) failed
request_fails s n operation (Err cause) None proper none failed = not_both _ (ap (λ b. b || false) (read_none operation cause proper)) failed
request_fails s n operation (Ok asked) None proper none failed = fault_of s n asked failed

event_fails : (s : State) (event : Event) → IsProperEvent event → has_failed (outcome_of s event true) ≡ true → reaches_disk s event ≡ true
event_fails s (Start peer) proper failed = by (is_full s) failed
  where
    by : (full : Bool) → has_failed (if full then Full (length s.sessions) s.last else Started (s.last + 1)) ≡ true → reaches_disk s (Start peer) ≡ true
    by true e = cc
    by false e = cc
event_fails s (Requested n request) proper failed = by (is_live s n) refl failed
  where
    by : (live : Bool) → is_live s n ≡ live → has_failed (if live then answer_to s n request true else NotLive) ≡ true → reaches_disk s (Requested n request) ≡ true
    by true is e =
        let reaches : Bool → Type 0 = λ live. live && appends_record request.asked && is_done (verdict s n request false) ≡ true in
        subst reaches (sym is) (request_fails s n request.operation request.asked (operation_refused s n request.operation) proper (refused_none s n request.operation) e)
    by false is e = cc
event_fails s (End n) proper failed = by (is_live s n) failed
  where
    by : (live : Bool) → has_failed (if live then Ended else NotLive) ≡ true → reaches_disk s (End n) ≡ true
    by true e = cc
    by false e = cc
event_fails s Reading proper failed = cc

pub disk_fault_has_cause : DiskFaultHasCause
disk_fault_has_cause s e fits failed =
    let u = expired s e.at in
    let P : Bool → Type 0 = λ b. has_failed (outcome_of u e.event b) ≡ true in
    let now : P true = subst P failed (ap has_failed (sym fits.outcome) ∙ failed) in
    let reached = event_fails u e.event fits.proper now in
    let Q : Bool → Type 0 = λ b. CountsFaults b true e.faults_before e.faults_after in
    let R : Bool → Type 0 = λ b. CountsFaults (reaches_disk u e.event) b e.faults_before e.faults_after in
    subst Q reached (subst R failed fits.faults)
