-- What is so of each cause that may come of a request is so of the causes of its verdict.
use Rattle.std.proofs.Common.{◌≡◌, ◌++◌, ◌==◌, ◌&&◌, ◌+◌, ℕ, Bool, true, false, List, [], ◌∷◌, length, map, refl, Option, Some, None, Result, Ok, Err, arith}
use Rattle.std.specs.Prelude.{not, is_some, option_map, option_and_then, slice_get, IfSome, if◌then◌else◌}
use Rattle.std.specs.List.{All, find}
use Rattle.std.specs.Option.{option_map_or, option_or, option_to_list}
use Rattle.nc_names.specs.declared.cause.CauseKind.{CauseKind}
use Rattle.nc_names.specs.declared.cause.CauseKind.TheVariants.{UnknownOperation, ExecDenied, UnknownParameter, BadParameter, UnsupportedTarget, LockHeld, LockModified, LockPending, LockPartial, NotHeld, InUseGlobal, InUsePartial, InUsePending, NoPending, BadToken, NotLiveTarget, BadSelect, NoMatch, Limit, DataDenied, DiskFault}
use Rattle.nc_names.specs.declared.path.Path.{Path}
use Rattle.nc_names.specs.declared.path.Right.{Right}
use Rattle.nc_names.specs.declared.path.Right.TheVariants.{Create as MayCreate, Update as MayUpdate, Delete as MayDelete, Exec as MayExec}
use Rattle.nc_names.specs.declared.path.Row.{Row}
use Rattle.nc_message.specs.declared.tree.Elem.{Elem}
use Rattle.nc_schema.specs.Violations.{violations}
use Rattle.nc_schema.specs.declared.violation.Violation.{Violation}
use Rattle.nc_protocol.specs.declared.asked.Asked.{Asked}
use Rattle.nc_protocol.specs.declared.asked.Asked.TheVariants.{Get, GetConfig, EditConfig, CopyConfig, DeleteConfig, Lock, Unlock, CloseSession, KillSession, Commit, DiscardChanges, CancelCommit, Validate, PartialLock, PartialUnlock}
use Rattle.nc_protocol.specs.declared.asked.Default3.{Default3}
use Rattle.nc_protocol.specs.declared.asked.ErrorOption.{ErrorOption}
use Rattle.nc_protocol.specs.declared.asked.Operation.{Operation}
use Rattle.nc_protocol.specs.declared.asked.Select.{Select}
use Rattle.nc_protocol.specs.declared.asked.TestOption.{TestOption}
use Rattle.nc_protocol.specs.declared.asked.TestOption.TheVariants.{TestThenSet, Set, TestOnly}
use Rattle.nc_protocol.specs.declared.changes.Changes.{Changes}
use Rattle.nc_protocol.specs.declared.datastore.Datastore.{Datastore}
use Rattle.nc_protocol.specs.declared.datastore.Datastore.TheVariants.{Running, Candidate}
use Rattle.nc_protocol.specs.declared.datastore.Origin.{Origin}
use Rattle.nc_protocol.specs.declared.datastore.Origin.TheVariants.{Store, Inline}
use Rattle.nc_protocol.specs.declared.edit.Edit.{Edit}
use Rattle.nc_protocol.specs.declared.request.Cause.{Cause}
use Rattle.nc_protocol.specs.declared.verdict.Verdict.{Verdict}
use Rattle.nc_protocol.specs.declared.verdict.Verdict.TheVariants.{Done, Selected, Locked}
use Rattle.nc_protocol.specs.Applied.{Applied, applied}
use Rattle.nc_protocol.specs.Asking.{plain_cause}
use Rattle.nc_protocol.specs.Changes.{changes_between}
use Rattle.nc_protocol.specs.Edited.{cause_at, cause_where, decision_names, first_cause}
use Rattle.nc_protocol.specs.Payload.{edits_of, rows_of}
use Rattle.nc_protocol.specs.Refusals.{checked, violation_in, violation_cause, done_unless, result_unless, datastore_name}
use Rattle.nc_protocol.specs.RequestLaws.{CausesAre}
use Rattle.nc_protocol.specs.Words.{source_word, lock_id_word}
use Rattle.nc_model.specs.Access.{exec_of, rights_of}
use Rattle.nc_model.specs.State.{State, Pending, NodeLock, candidate_in_force, is_held_by, last_lock_id, locks_of, locks_some, most_locks}
use Rattle.nc_model.specs.Verdict.{operation_refused, asked_verdict, unsupported, unsupported_origin, is_source, is_target, is_same_store, is_too_large, stored, shown, edit_verdict, edits_made, edit_checks, made_by, causes_of_test, done_where, copied, copy_checks, unless_denied, rows_copied, changes_denied, denied_among, validated, rows_to_validate, kept_unless, holder_of, global_lock_cause, partial_lock_cause, pending_cause, in_use, in_use_at, in_use_partial, lock_of_other, covers_path, is_candidate, is_running, pending_of_other, partly_locked, lock_checks, lock_refusal, unlock_checks, unlock_refusal, kill_refusal, refused_by, admission, commit_changes, commit_checks, commit_refusal, cancel_changes, cancel_checks, cancel_refusal, are_selects, is_none_of, nodes_selected, partial_lock_checks, partial_lock_refusal, has_lock, partial_unlock_refusal}
use Rattle.nc_model.specs.Words.{partial_locks_word, lock_ids_word, record_word}
use Rattle.nc_model.proofs.KindLemmas.{ErrIs}
use Rattle.nc_protocol.proofs.ListLemmas.{all_one, all_append}
use Rattle.nc_model.proofs.SessionLemmas.{first_is, where_is}

-- the causes that the server gives by itself, about no data node, and how many names each has
abbrev pub server_names : CauseKind → Option ℕ
server_names UnknownOperation = Some 0
server_names UnknownParameter = Some 1
server_names BadParameter = Some 1
server_names UnsupportedTarget = Some 1
server_names LockHeld = Some 2
server_names LockModified = Some 0
server_names LockPending = Some 1
server_names LockPartial = Some 2
server_names NotHeld = Some 1
server_names InUseGlobal = Some 2
server_names InUsePartial = Some 2
server_names InUsePending = Some 1
server_names NoPending = Some 0
server_names BadToken = Some 0
server_names NotLiveTarget = Some 0
server_names BadSelect = Some 0
server_names NoMatch = Some 0
server_names Limit = Some 1
server_names kind = None

module _ (P : Cause → Type 0) (s : State) (n : ℕ)
    (bad_payload : (default_operation : Default3) (config : Elem) → ErrIs P (edits_of s.schema default_operation config))
    (bad_rows : (config : Elem) → ErrIs P (rows_of s.schema config))
    (refused_edits : (on_error : ErrorOption) (default_operation : Default3) (config : Elem) (edits : List Edit) →
    edits_of s.schema default_operation config ≡ Ok edits →
    All P (applied s.schema (rights_of s n) on_error (candidate_in_force s) edits).causes)
    (invalid : (rows : List Row) → All (λ violation. P (violation_cause violation)) (violations s.schema rows))
    (denied : (path : Path) (right : Right) → P (cause_at DataDenied path (decision_names right (rights_of s n path right).by)))
    (plain : (kind : CauseKind) (names : List (List ℕ)) → server_names kind ≡ Some (length names) → P (plain_cause kind names))
    (no_exec : (operation : Operation) → P (plain_cause ExecDenied (decision_names MayExec (exec_of s n operation).by))) where
  or_is : (a b : Option Cause) → IfSome a P → IfSome b P → IfSome (option_or a b) P
  or_is None b first second = second
  or_is (Some cause) b first second = first

  -- a check by a test
  where_plain : (b : Bool) (kind : CauseKind) (names : List (List ℕ)) → server_names kind ≡ Some (length names) → IfSome (cause_where b (plain_cause kind names)) P
  where_plain b kind names named = where_is P b (plain_cause kind names) (plain kind names named)

  none_is : All P []
  none_is k d within = absurd (omega (arith, within))

  checked_is : (found : Option Cause) (decided : Verdict) → IfSome found P → CausesAre P decided → CausesAre P (checked found decided)
  checked_is None decided each is = is
  checked_is (Some cause) decided each is = all_one P cause each

  violation_is : (rows : List Row) → IfSome (violation_in s.schema rows) P
  violation_is rows = by (violations s.schema rows) (invalid rows)
    where
      by : (found : List Violation) → All (λ violation. P (violation_cause violation)) found → IfSome (option_map violation_cause (slice_get found 0)) P
      by [] each = tt
      by (violation ∷ more) each = each 0 violation (omega arith)

  denied_is : (right : Right) (paths : List Path) → IfSome (denied_among (rights_of s n) right paths) P
  denied_is right paths = by (find (λ path. not (rights_of s n path right).permit) paths)
    where
      by : (found : Option Path) → IfSome (option_map (λ path. cause_at DataDenied path (decision_names right (rights_of s n path right).by)) found) P
      by None = tt
      by (Some path) = denied path right

  changes_are : (changes : Changes) → IfSome (changes_denied (rights_of s n) changes) P
  changes_are changes =
      let updates = denied_among (rights_of s n) MayUpdate changes.updated in
      let creates = denied_among (rights_of s n) MayCreate changes.created in
      or_is (denied_among (rights_of s n) MayDelete changes.deleted) (option_or updates creates)
      (denied_is MayDelete changes.deleted) (or_is updates creates (denied_is MayUpdate changes.updated) (denied_is MayCreate changes.created))

  unsupported_is : (offers : Datastore → Bool) (store : Datastore) → IfSome (unsupported offers store) P
  unsupported_is offers store = where_plain (not (offers store)) UnsupportedTarget (datastore_name store ∷ []) refl

  origin_is : (source : Origin) → IfSome (unsupported_origin source) P
  origin_is (Store store) = unsupported_is is_source store
  origin_is (Inline config) = tt

  -- ---- locks in the way
  in_use_is : (store : Datastore) → IfSome (in_use s n store) P
  in_use_is store = by (holder_of s.holders store)
    where
      by : (holder : Option ℕ) → IfSome (option_and_then (λ other. cause_where (not (other == n)) (global_lock_cause InUseGlobal store other)) holder) P
      by None = tt
      by (Some other) = where_is P (not (other == n)) (global_lock_cause InUseGlobal store other) (plain InUseGlobal _ refl)

  held_is : (store : Datastore) (holder : Option ℕ) → IfSome (option_map (global_lock_cause LockHeld store) holder) P
  held_is store None = tt
  held_is store (Some other) = plain LockHeld _ refl

  partial_in_use : (lock : Option NodeLock) → IfSome (option_map (partial_lock_cause InUsePartial) lock) P
  partial_in_use None = tt
  partial_in_use (Some lock) = plain InUsePartial _ refl

  partial_denied : (lock : Option NodeLock) → IfSome (option_map (partial_lock_cause LockPartial) lock) P
  partial_denied None = tt
  partial_denied (Some lock) = plain LockPartial _ refl

  one_more : (found : Option Cause) (more : List (Option Cause)) → IfSome found P → IfSome (first_cause more) P → IfSome (first_cause (found ∷ more)) P
  one_more None more is rest = rest
  one_more (Some cause) more is rest = is

  paths_are : (paths : List Path) → IfSome (first_cause (map (in_use_at s n) paths)) P
  paths_are [] = tt
  paths_are (path ∷ paths) =
      one_more (in_use_at s n path) (map (in_use_at s n) paths) (partial_in_use (lock_of_other s n (covers_path path))) (paths_are paths)

  in_use_partial_is : (changes : Changes) → IfSome (in_use_partial s n changes) P
  in_use_partial_is changes = paths_are (changes.deleted ++ changes.updated ++ changes.created)

  -- ---- locks of datastores
  where_running : (target : Datastore) (found : Option Cause) → IfSome found P → IfSome (if is_running target then found else None) P
  where_running target found is = by (is_running target)
    where
      by : (b : Bool) → IfSome (if b then found else None) P
      by true = is
      by false = tt

  pending_is : (pending : Option Pending) → IfSome (pending_of_other n pending) P
  pending_is None = tt
  pending_is (Some pending) = where_is P (not (pending.session == n)) (pending_cause LockPending pending) (plain LockPending _ refl)

  lock_is : (target : Datastore) → IfSome (lock_refusal s n target) P
  lock_is target = first_is P (lock_checks s n target) (
    unsupported_is is_source target,
    (
      held_is target (holder_of s.holders target),
      (
        where_plain (is_candidate target && is_some s.candidate) LockModified [] refl,
        (
          where_running target (pending_of_other n s.pending) (pending_is s.pending),
          (where_running target (partly_locked s n) (partial_denied (lock_of_other s n (λ lock. true))), tt),
        ),
      ),
    ),
  )

  unlock_is : (target : Datastore) → IfSome (unlock_refusal s n target) P
  unlock_is target = first_is P (unlock_checks s n target) (
    unsupported_is is_source target,
    (where_plain (not (is_held_by n (holder_of s.holders target))) NotHeld (datastore_name target ∷ []) refl, tt),
  )

  unless_is : {A : Type 0} (found : Option Cause) (result : Result A Cause) → IfSome found P → ErrIs P result → ErrIs P (result_unless found result)
  unless_is None result each is = is
  unless_is (Some cause) result each is = each

  done_where_is : {A : Type 0} (result : Result A Cause) → ErrIs P result → CausesAre P (done_where result)
  done_where_is (Ok it) is = tt
  done_where_is (Err cause) is = all_one P cause is

  done_unless_is : (causes : List Cause) → All P causes → CausesAre P (done_unless causes)
  done_unless_is [] each = tt
  done_unless_is (cause ∷ causes) each = each

  listed_is : (found : Option Cause) → IfSome found P → All P (option_to_list found)
  listed_is None each = none_is
  listed_is (Some cause) each = all_one P cause each

  tested_is : (test : TestOption) (rows : List Row) → All P (causes_of_test s.schema test rows)
  tested_is Set rows = none_is
  tested_is TestThenSet rows = listed_is (violation_in s.schema rows) (violation_is rows)
  tested_is TestOnly rows = listed_is (violation_in s.schema rows) (violation_is rows)

  abbrev AreMade : Result Applied Cause → Type 0
  AreMade (Ok made) = All P made.causes
  AreMade (Err cause) = P cause

  made_is : (on_error : ErrorOption) (default_operation : Default3) (config : Elem) → AreMade (made_by s n on_error (edits_of s.schema default_operation config))
  made_is on_error default_operation config = by (edits_of s.schema default_operation config) refl (bad_payload default_operation config)
    where
      by : (edits : Result (List Edit) Cause) → edits_of s.schema default_operation config ≡ edits → ErrIs P edits → AreMade (made_by s n on_error edits)
      by (Ok edits) is each = refused_edits on_error default_operation config edits is
      by (Err cause) is each = each

  before_edits : (target : Datastore) → IfSome (first_cause (edit_checks s n target)) P
  before_edits target = first_is P (edit_checks s n target) (unsupported_is is_target target, (in_use_is Candidate, tt))

  edits_are : (found : Option Cause) (made : Result Applied Cause) → IfSome found P → AreMade made → AreMade (result_unless found made)
  edits_are None made each is = is
  edits_are (Some cause) made each is = each

  edit_is : (test : TestOption) (made : Result Applied Cause) → AreMade made → CausesAre P (edit_verdict s.schema test made)
  edit_is test (Err cause) is = all_one P cause is
  edit_is test (Ok made) is =
      done_unless_is (made.causes ++ causes_of_test s.schema test made.rows)
      (all_append P made.causes (causes_of_test s.schema test made.rows) is (tested_is test made.rows))

  rows_are : (source : Origin) → ErrIs P (rows_copied s n source)
  rows_are (Store store) = tt
  rows_are (Inline config) = bad_rows config

  denied_rows_are : (result : Result (List Row) Cause) → ErrIs P result → ErrIs P (unless_denied s n result)
  denied_rows_are (Err cause) is = is
  denied_rows_are (Ok rows) is =
      let changes = changes_between s.schema (candidate_in_force s) rows in
      unless_is (changes_denied (rights_of s n) changes) (Ok rows) (changes_are changes) tt

  before_copy : (target : Datastore) (source : Origin) → IfSome (first_cause (copy_checks s n target source)) P
  before_copy target source = first_is P (copy_checks s n target source) (
    unsupported_is is_target target,
    (origin_is source, (where_plain (is_same_store target source) BadParameter (source_word ∷ []) refl, (in_use_is Candidate, tt))),
  )

  copied_is : (target : Datastore) (source : Origin) → ErrIs P (copied s n target source)
  copied_is target source =
      unless_is (first_cause (copy_checks s n target source)) (unless_denied s n (rows_copied s n source)) (before_copy target source)
      (denied_rows_are (rows_copied s n source) (rows_are source))

  validated_is : (result : Result (List Row) Cause) → ErrIs P result → CausesAre P (validated s.schema result)
  validated_is (Err cause) is = all_one P cause is
  validated_is (Ok rows) is = checked_is (violation_in s.schema rows) Done (violation_is rows) tt

  to_validate_is : (source : Origin) → ErrIs P (rows_to_validate s source)
  to_validate_is (Store store) = unless_is (unsupported is_source store) (Ok (stored s store)) (unsupported_is is_source store) tt
  to_validate_is (Inline config) = bad_rows config

  -- ---- commits
  refused_by_is : (pending : Pending) (token given : Option (List ℕ)) → IfSome (refused_by n pending token given) P
  refused_by_is pending (Some token) (Some text) = where_plain _ BadToken [] refl
  refused_by_is pending (Some token) None = plain InUsePending _ refl
  refused_by_is pending None (Some text) = plain BadToken [] refl
  refused_by_is pending None None = where_is P (not (pending.session == n)) (pending_cause InUsePending pending) (plain InUsePending _ refl)

  commit_admitted : (given : Option (List ℕ)) (pending : Option Pending) →
      IfSome (option_map_or (λ found. admission n found given) pending (cause_where (is_some given) (plain_cause BadToken []))) P
  commit_admitted given None = where_plain (is_some given) BadToken [] refl
  commit_admitted given (Some pending) = refused_by_is pending pending.token given

  cancel_admitted : (given : Option (List ℕ)) (pending : Option Pending) →
      IfSome (option_map_or (λ found. admission n found given) pending (Some (plain_cause NoPending []))) P
  cancel_admitted given None = plain NoPending [] refl
  cancel_admitted given (Some pending) = refused_by_is pending pending.token given

  pub commit_is : (persist_id : Option (List ℕ)) → IfSome (commit_refusal s n persist_id) P
  commit_is persist_id = first_is P (commit_checks s n persist_id) (
    commit_admitted persist_id s.pending,
    (
      in_use_is Running,
      (
        in_use_is Candidate,
        (
          in_use_partial_is (commit_changes s),
          (
            changes_are (commit_changes s),
            (
              violation_is (candidate_in_force s),
              (where_plain (is_too_large (candidate_in_force s)) Limit (record_word ∷ []) refl, tt),
            ),
          ),
        ),
      ),
    ),
  )

  cancel_is : (persist_id : Option (List ℕ)) → IfSome (cancel_refusal s n persist_id) P
  cancel_is persist_id =
      first_is P (cancel_checks s n persist_id) (cancel_admitted persist_id s.pending, (in_use_is Running, (in_use_partial_is (cancel_changes s), tt)))

  -- ---- partial locks
  outstanding_is : (pending : Option Pending) → IfSome (option_map (pending_cause LockPending) pending) P
  outstanding_is None = tt
  outstanding_is (Some pending) = plain LockPending _ refl

  partial_lock_is : (selects : List Select) → IfSome (partial_lock_refusal s n selects) P
  partial_lock_is selects = first_is P (partial_lock_checks s n selects) (
    outstanding_is s.pending,
    (
      held_is Running s.holders.running,
      (
        where_plain (not (are_selects s.schema selects)) BadSelect [] refl,
        (
          where_plain (is_none_of (nodes_selected s n selects)) NoMatch [] refl,
          (
            partial_denied (lock_of_other s n (locks_some (nodes_selected s n selects))),
            (
              where_plain (length (locks_of n s.partial) == most_locks) Limit (partial_locks_word ∷ []) refl,
              (where_plain (s.last_lock == last_lock_id) Limit (lock_ids_word ∷ []) refl, tt),
            ),
          ),
        ),
      ),
    ),
  )

  kept_is : (failed : Bool) → (failed ≡ true → P (plain_cause DiskFault [])) → CausesAre P (kept_unless failed)
  kept_is true disk = all_one P (plain_cause DiskFault []) (disk refl)
  kept_is false disk = tt

  kept_alone : (confirmed failed : Bool) → (failed ≡ true → P (plain_cause DiskFault [])) → CausesAre P (kept_unless (not confirmed && failed))
  kept_alone true failed disk = tt
  kept_alone false failed disk = kept_is failed disk

  pub asked_is : (asked : Asked) (failed : Bool) → (failed ≡ true → P (plain_cause DiskFault [])) → CausesAre P (asked_verdict s n asked failed)
  asked_is (Get filter) failed disk = tt
  asked_is (GetConfig source filter) failed disk = checked_is (unsupported is_source source) (Selected (shown s n source filter)) (unsupported_is is_source source) tt
  asked_is (EditConfig target default_operation test on_error config) failed disk =
      edit_is test (edits_made s n target default_operation on_error config)
      (edits_are (first_cause (edit_checks s n target)) (made_by s n on_error (edits_of s.schema default_operation config)) (before_edits target)
      (made_is on_error default_operation config))
  asked_is (CopyConfig target source) failed disk = done_where_is (copied s n target source) (copied_is target source)
  asked_is (DeleteConfig target) failed disk =
      all_one P (plain_cause UnsupportedTarget (datastore_name target ∷ [])) (plain UnsupportedTarget (datastore_name target ∷ []) refl)
  asked_is (Lock target) failed disk = checked_is (lock_refusal s n target) Done (lock_is target) tt
  asked_is (Unlock target) failed disk = checked_is (unlock_refusal s n target) Done (unlock_is target) tt
  asked_is CloseSession failed disk = tt
  asked_is (KillSession number) failed disk = checked_is (kill_refusal s n number) Done (where_plain _ NotLiveTarget [] refl) tt
  asked_is (Commit confirmed timeout persist persist_id) failed disk =
      checked_is (commit_refusal s n persist_id) (kept_unless (not confirmed && failed)) (commit_is persist_id) (kept_alone confirmed failed disk)
  asked_is DiscardChanges failed disk = checked_is (in_use s n Candidate) Done (in_use_is Candidate) tt
  asked_is (CancelCommit persist_id) failed disk = checked_is (cancel_refusal s n persist_id) Done (cancel_is persist_id) tt
  asked_is (Validate source) failed disk = validated_is (rows_to_validate s source) (to_validate_is source)
  asked_is (PartialLock selects) failed disk =
      checked_is (partial_lock_refusal s n selects) (Locked (s.last_lock + 1) (nodes_selected s n selects)) (partial_lock_is selects) tt
  asked_is (PartialUnlock id) failed disk = checked_is (partial_unlock_refusal s n id) Done (where_plain (not (has_lock s n id)) BadParameter (lock_id_word ∷ []) refl) tt

  pub refused_is : (operation : Option Operation) → IfSome (operation_refused s n operation) P
  refused_is None = tt
  refused_is (Some operation) =
      where_is P (not (exec_of s n operation).permit) (plain_cause ExecDenied (decision_names MayExec (exec_of s n operation).by)) (no_exec operation)
