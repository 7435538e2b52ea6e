-- What a refusal names besides what denied an access, operation by operation.
use Rattle.std.proofs.Common.{◌≡◌, ◌++◌, ◌==◌, ◌&&◌, ◌+◌, ℕ, Bool, true, false, not, cond, List, [], ◌∷◌, length, map, refl, sym, ap, subst, inl, inr, Option, Some, None, Result, Ok, Err, arith, get_or}
use Rattle.std.specs.Prelude.{if◌then◌else◌, IfSome, is_some, option_map, option_and_then, slice_get}
use Rattle.std.specs.Fmt.{decimal}
use Rattle.std.specs.List.{All, Contains, find, last_or}
use Rattle.std.specs.Option.{option_map_or, option_or, option_to_list}
use Rattle.nc_names.specs.declared.cause.CauseKind.{CauseKind}
use Rattle.nc_names.specs.declared.cause.CauseKind.TheVariants.{BadParameter, BadSelect, BadToken, DataDenied, DiskFault, ExecDenied, InUseGlobal, InUsePartial, InUsePending, Limit, LockHeld, LockModified, LockPartial, LockPending, NoMatch, NoPending, NotHeld, NotLiveTarget, UnsupportedTarget}
use Rattle.nc_names.specs.declared.path.Path.{Path}
use Rattle.nc_names.specs.declared.path.Right.{Right}
use Rattle.nc_names.specs.declared.path.Right.TheVariants.{Create as MayCreate, Update as MayUpdate, Delete as MayDelete, Exec}
use Rattle.nc_names.specs.declared.path.Row.{Row}
use Rattle.nc_schema.specs.Kinds.{has_value}
use Rattle.nc_schema.specs.Standing.{node_of}
use Rattle.nc_schema.specs.Tables.{Tables}
use Rattle.nc_schema.specs.Violations.{violations}
use Rattle.nc_schema.specs.declared.node.Node.{Node}
use Rattle.nc_names.specs.declared.path.Step.{Step}
use Rattle.nc_schema.specs.declared.violation.Violation.{Violation}
use Rattle.nc_protocol.specs.Applied.{applied}
use Rattle.nc_protocol.specs.Asking.{plain_cause}
use Rattle.nc_protocol.specs.Changes.{changes_between}
use Rattle.nc_protocol.specs.Edited.{anchor_names, anchor_word, cause_at, cause_where, decision_names, first_cause}
use Rattle.nc_protocol.specs.Payload.{edits_of, rows_of}
use Rattle.nc_protocol.specs.Refusals.{checked, datastore_name, done_unless, violation_cause, violation_in}
use Rattle.nc_protocol.specs.RequestLaws.{CausesAre}
use Rattle.nc_protocol.specs.Words.{key_word, lock_id_word, source_word, value_word}
use Rattle.nc_protocol.specs.declared.asked.Asked.{Asked}
use Rattle.nc_protocol.specs.declared.asked.Asked.TheVariants.{Get, GetConfig, EditConfig, CopyConfig, DeleteConfig, Lock, Unlock, CloseSession, KillSession, Commit, DiscardChanges, CancelCommit, Validate, PartialLock, PartialUnlock}
use Rattle.nc_protocol.specs.declared.asked.ErrorOption.{ErrorOption}
use Rattle.nc_protocol.specs.declared.asked.Operation.{Operation}
use Rattle.nc_protocol.specs.declared.asked.Select.{Select}
use Rattle.nc_protocol.specs.declared.asked.TestOption.{TestOption}
use Rattle.nc_protocol.specs.declared.asked.TestOption.TheVariants.{TestThenSet, Set, TestOnly}
use Rattle.nc_protocol.specs.declared.changes.Changes.{Changes}
use Rattle.nc_protocol.specs.declared.datastore.Datastore.{Datastore}
use Rattle.nc_protocol.specs.declared.datastore.Datastore.TheVariants.{Running, Candidate, Startup, Url}
use Rattle.nc_protocol.specs.declared.datastore.Origin.{Origin}
use Rattle.nc_protocol.specs.declared.datastore.Origin.TheVariants.{Store, Inline}
use Rattle.nc_protocol.specs.declared.edit.Edit.{Edit}
use Rattle.nc_protocol.specs.declared.request.Cause.{Cause}
use Rattle.nc_protocol.specs.declared.verdict.Verdict.{Verdict}
use Rattle.nc_protocol.specs.declared.verdict.Verdict.TheVariants.{Done, Selected, Locked}
use Rattle.nc_protocol.proofs.ListLemmas.{all_append, all_one, contains_at, contains_behind, contains_here, some_same}
use Rattle.nc_model.specs.Access.{exec_of, rights_of}
use Rattle.nc_model.specs.State.{NodeLock, Pending, State, candidate_in_force, is_held_by, last_lock_id, locks_of, locks_some, most_locks}
use Rattle.nc_model.specs.Verdict.{admission, are_selects, asked_verdict, cancel_changes, cancel_checks, cancel_refusal, causes_of_test, changes_denied, commit_changes, commit_checks, commit_refusal, copied, copy_checks, covers_path, denied_among, done_where, edit_checks, edit_verdict, global_lock_cause, has_lock, holder_of, in_use, in_use_at, in_use_partial, is_candidate, is_none_of, is_running, is_same_store, is_source, is_target, is_too_large, kept_unless, kill_refusal, lock_checks, lock_of_other, lock_refusal, made_by, nodes_selected, operation_refused, partial_lock_cause, partial_lock_checks, partial_lock_refusal, partial_unlock_refusal, partly_locked, pending_cause, pending_of_other, refused_by, rows_copied, shown, stored, unless_denied, unlock_checks, unlock_refusal, unsupported, unsupported_origin, validated, verdict_on}
use Rattle.nc_model.specs.Words.{lock_ids_word, partial_locks_word, record_word}
use Rattle.nc_model.proofs.KindLemmas.{applied_causes}
use Rattle.nc_model.proofs.SessionLemmas.{first_is, where_is}
use Rattle.nc_disclosure.specs.Laws.{RefusalsNameNoData}
use Rattle.nc_disclosure.specs.Names.{Holds, Waits, IsLock, HasLock, NamesNoData, TellsNoData, IsWord, IsNumber, IsNode, cause_in, fault_of, fixed_words}
use Rattle.nc_disclosure.proofs.AgreeLemmas.{done_checked, edit_checked, validated_checked}

-- what is found stands in the list
found_in : {X : Type 0} (p : X → Bool) (xs : List X) (x : X) → find p xs ≡ Some x → Contains xs x
found_in p [] x e = cc
found_in {X} p (y ∷ ys) x e = by (p y) e (found_in p ys x)
  where
    by : (b : Bool) → cond b (Some y) (find p ys) ≡ Some x → (find p ys ≡ Some x → Contains ys x) → Contains (y ∷ ys) x
    by true f rest = subst (λ (it : X). Contains (y ∷ ys) it) (some_same y x f) (contains_here [] ys y)
    by false f rest = contains_behind y ys x (rest f)

none_all : {X : Type 0} (P : X → Type 0) → All P []
none_all P k d within = absurd (omega (arith, within))

two_all : {X : Type 0} (P : X → Type 0) (x y : X) → P x → P y → All P (x ∷ y ∷ [])
two_all P x y is also = all_append P (x ∷ []) (y ∷ []) (all_one P x is) (all_one P y also)

checked_are : (P : Cause → Type 0) (found : Option Cause) (decided : Verdict) → IfSome found P → CausesAre P decided → CausesAre P (checked found decided)
checked_are P None decided each are = are
checked_are P (Some cause) decided each are = all_one P cause each

unless_are : (P : Cause → Type 0) (causes : List Cause) → All P causes → CausesAre P (done_unless causes)
unless_are P [] each = tt
unless_are P (cause ∷ causes) each = each

-- the node to which steps lead is one of the schema
node_stands : (tables : Tables) (steps : List Step) → IfSome (node_of tables steps) (Contains tables.nodes)
node_stands tables steps = by (last_or None steps)
  where
    found : (number : ℕ) (node : Option Node) → slice_get tables.nodes number ≡ node → IfSome node (Contains tables.nodes)
    found number None e = tt
    found number (Some node) e = contains_at tables.nodes number node e

    by : (last : Option Step) → IfSome (option_and_then (λ step. slice_get tables.nodes step.node) last) (Contains tables.nodes)
    by None = tt
    by (Some step) = found step.node (slice_get tables.nodes step.node) refl

module _ (s : State) (n : ℕ) where
  -- ---- names
  word_at : (place : ℕ) (word : List ℕ) → slice_get fixed_words place ≡ Some word → TellsNoData s word
  word_at place word is = IsWord (contains_at fixed_words place word is)

  store_told : (store : Datastore) → TellsNoData s (datastore_name store)
  store_told Running = word_at 2 (datastore_name Running) refl
  store_told Candidate = word_at 3 (datastore_name Candidate) refl
  store_told Startup = word_at 4 (datastore_name Startup) refl
  store_told Url = word_at 5 (datastore_name Url) refl

  -- the attribute that names an anchor, and the element that has it
  anchor_told : (path : Path) → All (TellsNoData s) (anchor_names s.schema path)
  anchor_told path = by (node_of s.schema path.steps) (node_stands s.schema path.steps)
    where
      attribute : (b : Bool) → TellsNoData s (if b then value_word else key_word)
      attribute true = word_at 10 value_word refl
      attribute false = word_at 9 key_word refl

      by : (found : Option Node) → IfSome found (Contains s.schema.nodes) → All (TellsNoData s) (option_map_or (λ node. anchor_word node ∷ node.name.name ∷ []) found [])
      by None there = none_all (TellsNoData s)
      by (Some node) there = two_all (TellsNoData s) (anchor_word node) node.name.name (attribute (has_value node.kind)) (IsNode node there refl)

  lock_told : (lock : NodeLock) → Contains s.partial lock → All (TellsNoData s) (decimal lock.id ∷ decimal lock.session ∷ [])
  lock_told lock has =
      two_all (TellsNoData s) (decimal lock.id) (decimal lock.session) (IsNumber lock.id (IsLock lock has refl) refl) (IsNumber lock.session (HasLock lock has refl) refl)

  module _ (asked : Result Asked Cause) where
    abbrev Named : Cause → Type 0
    Named cause = NamesNoData s asked cause

    without_names : (kind : CauseKind) (path : Option Path) → Named (record { kind = kind; path = path; names = [] })
    without_names kind path = inr (inr (none_all (TellsNoData s)))

    one_name : (kind : CauseKind) (name : List ℕ) → TellsNoData s name → Named (plain_cause kind (name ∷ []))
    one_name kind name told = inr (inr (all_one (TellsNoData s) name told))

    denied_named : (path : Path) (names : List (List ℕ)) → Named (cause_at DataDenied path names)
    denied_named path names = inr (inl refl)

    where_bare : (b : Bool) (kind : CauseKind) → IfSome (cause_where b (plain_cause kind [])) Named
    where_bare b kind = where_is Named b (plain_cause kind []) (without_names kind None)

    where_word : (b : Bool) (kind : CauseKind) (name : List ℕ) → TellsNoData s name → IfSome (cause_where b (plain_cause kind (name ∷ []))) Named
    where_word b kind name told = where_is Named b (plain_cause kind (name ∷ [])) (one_name kind name told)

    -- ---- datastores and their locks
    unsupported_named : (offers : Datastore → Bool) (store : Datastore) → IfSome (unsupported offers store) Named
    unsupported_named offers store = where_word (not (offers store)) UnsupportedTarget (datastore_name store) (store_told store)

    origin_named : (source : Origin) → IfSome (unsupported_origin source) Named
    origin_named (Store store) = unsupported_named is_source store
    origin_named (Inline config) = tt

    holder_named : (kind : CauseKind) (store : Datastore) (number : ℕ) → holder_of s.holders store ≡ Some number → Named (global_lock_cause kind store number)
    holder_named kind store number e =
        inr (inr (two_all (TellsNoData s) (datastore_name store) (decimal number) (store_told store) (IsNumber number (Holds store e) refl)))

    in_use_named : (store : Datastore) → IfSome (in_use s n store) Named
    in_use_named store = by (holder_of s.holders store) refl
      where
        by : (holder : Option ℕ) → holder_of s.holders store ≡ holder →
            IfSome (option_and_then (λ other. cause_where (not (other == n)) (global_lock_cause InUseGlobal store other)) holder) Named
        by None e = tt
        by (Some other) e = where_is Named (not (other == n)) (global_lock_cause InUseGlobal store other) (holder_named InUseGlobal store other e)

    held_named : (store : Datastore) → IfSome (option_map (global_lock_cause LockHeld store) (holder_of s.holders store)) Named
    held_named store = by (holder_of s.holders store) refl
      where
        by : (holder : Option ℕ) → holder_of s.holders store ≡ holder → IfSome (option_map (global_lock_cause LockHeld store) holder) Named
        by None e = tt
        by (Some other) e = holder_named LockHeld store other e

    -- ---- partial locks
    partial_named : (kind : CauseKind) (test : NodeLock → Bool) → IfSome (option_map (partial_lock_cause kind) (lock_of_other s n test)) Named
    partial_named kind test = by (lock_of_other s n test) refl
      where
        by : (found : Option NodeLock) → lock_of_other s n test ≡ found → IfSome (option_map (partial_lock_cause kind) found) Named
        by None e = tt
        by (Some lock) e = inr (inr (lock_told lock (found_in (λ (it : NodeLock). not (it.session == n) && test it) s.partial lock e)))

    one_more : (found : Option Cause) (more : List (Option Cause)) → IfSome found Named → IfSome (first_cause more) Named → IfSome (first_cause (found ∷ more)) Named
    one_more None more is rest = rest
    one_more (Some cause) more is rest = is

    paths_named : (paths : List Path) → IfSome (first_cause (map (in_use_at s n) paths)) Named
    paths_named [] = tt
    paths_named (path ∷ paths) =
        one_more (in_use_at s n path) (map (in_use_at s n) paths) (partial_named InUsePartial (covers_path path)) (paths_named paths)

    in_use_partial_named : (changes : Changes) → IfSome (in_use_partial s n changes) Named
    in_use_partial_named changes = paths_named (changes.deleted ++ changes.updated ++ changes.created)

    where_running : (target : Datastore) (found : Option Cause) → IfSome found Named → IfSome (if is_running target then found else None) Named
    where_running target found is = by (is_running target)
      where
        by : (b : Bool) → IfSome (if b then found else None) Named
        by true = is
        by false = tt

    -- ---- the pending commit
    waits_named : (kind : CauseKind) (pending : Pending) → s.pending ≡ Some pending → Named (pending_cause kind pending)
    waits_named kind pending e = one_name kind (decimal pending.session) (IsNumber pending.session (Waits pending e refl) refl)

    other_named : IfSome (pending_of_other n s.pending) Named
    other_named = by s.pending refl
      where
        by : (pending : Option Pending) → s.pending ≡ pending → IfSome (pending_of_other n pending) Named
        by None e = tt
        by (Some pending) e = where_is Named (not (pending.session == n)) (pending_cause LockPending pending) (waits_named LockPending pending e)

    outstanding_named : IfSome (option_map (pending_cause LockPending) s.pending) Named
    outstanding_named = by s.pending refl
      where
        by : (pending : Option Pending) → s.pending ≡ pending → IfSome (option_map (pending_cause LockPending) pending) Named
        by None e = tt
        by (Some pending) e = waits_named LockPending pending e

    refused_named : (pending : Pending) → s.pending ≡ Some pending → (token given : Option (List ℕ)) → IfSome (refused_by n pending token given) Named
    refused_named pending e (Some token) (Some text) = where_bare _ BadToken
    refused_named pending e (Some token) None = waits_named InUsePending pending e
    refused_named pending e None (Some text) = without_names BadToken None
    refused_named pending e None None = where_is Named (not (pending.session == n)) (pending_cause InUsePending pending) (waits_named InUsePending pending e)

    admitted_named : (given : Option (List ℕ)) (otherwise : Option Cause) → IfSome otherwise Named →
        IfSome (option_map_or (λ pending. admission n pending given) s.pending otherwise) Named
    admitted_named given otherwise is = by s.pending refl
      where
        by : (pending : Option Pending) → s.pending ≡ pending → IfSome (option_map_or (λ found. admission n found given) pending otherwise) Named
        by None e = is
        by (Some pending) e = refused_named pending e pending.token given

    -- ---- changes and violations
    among_named : (right : Right) (paths : List Path) → IfSome (denied_among (rights_of s n) right paths) Named
    among_named right paths = by (find (λ path. not (rights_of s n path right).permit) paths)
      where
        by : (found : Option Path) → IfSome (option_map (λ path. cause_at DataDenied path (decision_names right (rights_of s n path right).by)) found) Named
        by None = tt
        by (Some path) = denied_named path (decision_names right (rights_of s n path right).by)

    or_named : (found other : Option Cause) → IfSome found Named → IfSome other Named → IfSome (option_or found other) Named
    or_named None other is also = also
    or_named (Some cause) other is also = is

    changes_named : (changes : Changes) → IfSome (changes_denied (rights_of s n) changes) Named
    changes_named changes =
        let updates = denied_among (rights_of s n) MayUpdate changes.updated in
        let creates = denied_among (rights_of s n) MayCreate changes.created in
        or_named (denied_among (rights_of s n) MayDelete changes.deleted) (option_or updates creates) (among_named MayDelete changes.deleted)
        (or_named updates creates (among_named MayUpdate changes.updated) (among_named MayCreate changes.created))

    violation_named : (rows : List Row) → IfSome (violation_in s.schema rows) Named
    violation_named rows = by (slice_get (violations s.schema rows) 0)
      where
        by : (found : Option Violation) → IfSome (option_map violation_cause found) Named
        by None = tt
        by (Some violation) = without_names violation.kind (violation_cause violation).path

    -- ---- payloads
    listed_named : (found : Option Cause) → IfSome found Named → All Named (option_to_list found)
    listed_named None is = none_all Named
    listed_named (Some cause) is = all_one Named cause is

    tested_named : (test : TestOption) (rows : List Row) → All Named (causes_of_test s.schema test rows)
    tested_named Set rows = none_all Named
    tested_named TestThenSet rows = listed_named (violation_in s.schema rows) (violation_named rows)
    tested_named TestOnly rows = listed_named (violation_in s.schema rows) (violation_named rows)

    applied_named : (on_error : ErrorOption) (edits : List Edit) → All Named (applied s.schema (rights_of s n) on_error (candidate_in_force s) edits).causes
    applied_named on_error edits =
        applied_causes Named s.schema (rights_of s n) (λ path. inr (inr (none_all (TellsNoData s)))) (λ path. inr (inr (none_all (TellsNoData s))))
        (λ path right. inr (inl refl)) on_error (candidate_in_force s) edits (λ k edit within. inr (inr (anchor_told (get_or edits k edit).path)))

    edits_named : (test : TestOption) (on_error : ErrorOption) (edits : Result (List Edit) Cause) →
        ((cause : Cause) → edits ≡ Err cause → fault_of s.schema asked ≡ Some cause) → CausesAre Named (edit_verdict s.schema test (made_by s n on_error edits))
    edits_named test on_error (Err cause) fault = all_one Named cause (inl (fault cause refl))
    edits_named test on_error (Ok edits) fault =
        let made = applied s.schema (rights_of s n) on_error (candidate_in_force s) edits in
        unless_are Named (made.causes ++ causes_of_test s.schema test made.rows)
        (all_append Named made.causes (causes_of_test s.schema test made.rows) (applied_named on_error edits) (tested_named test made.rows))

    copied_named : (rows : Result (List Row) Cause) → ((cause : Cause) → rows ≡ Err cause → fault_of s.schema asked ≡ Some cause) →
        CausesAre Named (done_where (unless_denied s n rows))
    copied_named (Err cause) fault = all_one Named cause (inl (fault cause refl))
    copied_named (Ok rows) fault =
        let denied = changes_denied (rights_of s n) (changes_between s.schema (candidate_in_force s) rows) in
        subst (CausesAre Named) (sym (done_checked denied (Ok rows)))
        (checked_are Named denied Done (changes_named (changes_between s.schema (candidate_in_force s) rows)) tt)

    valid_named : (rows : Result (List Row) Cause) → ((cause : Cause) → rows ≡ Err cause → fault_of s.schema asked ≡ Some cause) →
        CausesAre Named (validated s.schema rows)
    valid_named (Err cause) fault = all_one Named cause (inl (fault cause refl))
    valid_named (Ok rows) fault = checked_are Named (violation_in s.schema rows) Done (violation_named rows) tt

    kept_named : (failed : Bool) → CausesAre Named (kept_unless failed)
    kept_named true = all_one Named (plain_cause DiskFault []) (without_names DiskFault None)
    kept_named false = tt

    -- ---- checks
    lock_named : (target : Datastore) → IfSome (lock_refusal s n target) Named
    lock_named target = first_is Named (lock_checks s n target) (
      unsupported_named is_source target,
      (
        held_named target,
        (
          where_bare (is_candidate target && is_some s.candidate) LockModified,
          (
            where_running target (pending_of_other n s.pending) other_named,
            (where_running target (partly_locked s n) (partial_named LockPartial (λ lock. true)), tt),
          ),
        ),
      ),
    )

    unlock_named : (target : Datastore) → IfSome (unlock_refusal s n target) Named
    unlock_named target = first_is Named (unlock_checks s n target) (
      unsupported_named is_source target,
      (where_word (not (is_held_by n (holder_of s.holders target))) NotHeld (datastore_name target) (store_told target), tt),
    )

    commit_named : (persist_id : Option (List ℕ)) → IfSome (commit_refusal s n persist_id) Named
    commit_named persist_id = first_is Named (commit_checks s n persist_id) (
      admitted_named persist_id (cause_where (is_some persist_id) (plain_cause BadToken [])) (where_bare (is_some persist_id) BadToken),
      (
        in_use_named Running,
        (
          in_use_named Candidate,
          (
            in_use_partial_named (commit_changes s),
            (
              changes_named (commit_changes s),
              (
                violation_named (candidate_in_force s),
                (where_word (is_too_large (candidate_in_force s)) Limit record_word (word_at 8 record_word refl), tt),
              ),
            ),
          ),
        ),
      ),
    )

    cancel_named : (persist_id : Option (List ℕ)) → IfSome (cancel_refusal s n persist_id) Named
    cancel_named persist_id = first_is Named (cancel_checks s n persist_id) (
      admitted_named persist_id (Some (plain_cause NoPending [])) (without_names NoPending None),
      (in_use_named Running, (in_use_partial_named (cancel_changes s), tt)),
    )

    partial_lock_named : (selects : List Select) → IfSome (partial_lock_refusal s n selects) Named
    partial_lock_named selects = first_is Named (partial_lock_checks s n selects) (
      outstanding_named,
      (
        held_named Running,
        (
          where_bare (not (are_selects s.schema selects)) BadSelect,
          (
            where_bare (is_none_of (nodes_selected s n selects)) NoMatch,
            (
              partial_named LockPartial (locks_some (nodes_selected s n selects)),
              (
                where_word (length (locks_of n s.partial) == most_locks) Limit partial_locks_word (word_at 6 partial_locks_word refl),
                (where_word (s.last_lock == last_lock_id) Limit lock_ids_word (word_at 7 lock_ids_word refl), tt),
              ),
            ),
          ),
        ),
      ),
    )

    copy_named : (target : Datastore) (source : Origin) → CausesAre Named (done_where (unless_denied s n (rows_copied s n source))) →
        CausesAre Named (done_where (copied s n target source))
    copy_named target source rows =
        subst (CausesAre Named) (sym (done_checked (first_cause (copy_checks s n target source)) (unless_denied s n (rows_copied s n source))))
        (checked_are Named (first_cause (copy_checks s n target source)) (done_where (unless_denied s n (rows_copied s n source)))
        (first_is Named (copy_checks s n target source) (
          unsupported_named is_target target,
          (origin_named source, (where_word (is_same_store target source) BadParameter source_word (word_at 0 source_word refl), (in_use_named Candidate, tt))),
        ))
        rows)

  -- ---- each operation
  asked_named : (asked : Asked) (failed : Bool) → CausesAre (NamesNoData s (Ok asked)) (asked_verdict s n asked failed)
  asked_named (Get filter) failed = tt
  asked_named (GetConfig source filter) failed =
      let asked : Result Asked Cause = Ok (GetConfig source filter) in
      checked_are (NamesNoData s asked) (unsupported is_source source) (Selected (shown s n source filter)) (unsupported_named asked is_source source) tt
  asked_named (EditConfig target default_operation test on_error config) failed =
      let asked : Result Asked Cause = Ok (EditConfig target default_operation test on_error config) in
      let edits = edits_of s.schema default_operation config in
      subst (CausesAre (NamesNoData s asked)) (sym (edit_checked s.schema test (first_cause (edit_checks s n target)) (made_by s n on_error edits)))
      (checked_are (NamesNoData s asked) (first_cause (edit_checks s n target)) (edit_verdict s.schema test (made_by s n on_error edits))
      (first_is (NamesNoData s asked) (edit_checks s n target) (unsupported_named asked is_target target, (in_use_named asked Candidate, tt)))
      (edits_named asked test on_error edits (λ cause e. ap (λ (it : Result (List Edit) Cause). cause_in it) e)))
  asked_named (CopyConfig target (Store store)) failed =
      let asked : Result Asked Cause = Ok (CopyConfig target (Store store)) in
      copy_named asked target (Store store) (copied_named asked (rows_copied s n (Store store)) (λ cause e. cc))
  asked_named (CopyConfig target (Inline config)) failed =
      let asked : Result Asked Cause = Ok (CopyConfig target (Inline config)) in
      copy_named asked target (Inline config) (copied_named asked (rows_of s.schema config) (λ cause e. ap (λ (it : Result (List Row) Cause). cause_in it) e))
  asked_named (DeleteConfig target) failed =
      all_one (NamesNoData s (Ok (DeleteConfig target))) (plain_cause UnsupportedTarget (datastore_name target ∷ []))
      (one_name (Ok (DeleteConfig target)) UnsupportedTarget (datastore_name target) (store_told target))
  asked_named (Lock target) failed = checked_are (NamesNoData s (Ok (Lock target))) (lock_refusal s n target) Done (lock_named (Ok (Lock target)) target) tt
  asked_named (Unlock target) failed = checked_are (NamesNoData s (Ok (Unlock target))) (unlock_refusal s n target) Done (unlock_named (Ok (Unlock target)) target) tt
  asked_named CloseSession failed = tt
  asked_named (KillSession number) failed =
      checked_are (NamesNoData s (Ok (KillSession number))) (kill_refusal s n number) Done (where_bare (Ok (KillSession number)) _ NotLiveTarget) tt
  asked_named (Commit confirmed timeout persist persist_id) failed =
      let asked : Result Asked Cause = Ok (Commit confirmed timeout persist persist_id) in
      checked_are (NamesNoData s asked) (commit_refusal s n persist_id) (kept_unless (not confirmed && failed)) (commit_named asked persist_id)
      (kept_named asked (not confirmed && failed))
  asked_named DiscardChanges failed = checked_are (NamesNoData s (Ok DiscardChanges)) (in_use s n Candidate) Done (in_use_named (Ok DiscardChanges) Candidate) tt
  asked_named (CancelCommit persist_id) failed =
      checked_are (NamesNoData s (Ok (CancelCommit persist_id))) (cancel_refusal s n persist_id) Done (cancel_named (Ok (CancelCommit persist_id)) persist_id) tt
  asked_named (Validate (Store store)) failed =
      let asked : Result Asked Cause = Ok (Validate (Store store)) in
      subst (CausesAre (NamesNoData s asked)) (sym (validated_checked s.schema (unsupported is_source store) (Ok (stored s store))))
      (checked_are (NamesNoData s asked) (unsupported is_source store) (validated s.schema (Ok (stored s store))) (unsupported_named asked is_source store)
      (valid_named asked (Ok (stored s store)) (λ cause e. cc)))
  asked_named (Validate (Inline config)) failed =
      valid_named (Ok (Validate (Inline config))) (rows_of s.schema config) (λ cause e. ap (λ (it : Result (List Row) Cause). cause_in it) e)
  asked_named (PartialLock selects) failed =
      checked_are (NamesNoData s (Ok (PartialLock selects))) (partial_lock_refusal s n selects) (Locked (s.last_lock + 1) (nodes_selected s n selects))
      (partial_lock_named (Ok (PartialLock selects)) selects) tt
  asked_named (PartialUnlock id) failed =
      checked_are (NamesNoData s (Ok (PartialUnlock id))) (partial_unlock_refusal s n id) Done
      (where_word (Ok (PartialUnlock id)) (not (has_lock s n id)) BadParameter lock_id_word (word_at 1 lock_id_word refl)) tt

  exec_named : (asked : Result Asked Cause) (operation : Option Operation) → IfSome (operation_refused s n operation) (NamesNoData s asked)
  exec_named asked None = tt
  exec_named asked (Some operation) =
      where_is (NamesNoData s asked) (not (exec_of s n operation).permit) (plain_cause ExecDenied (decision_names Exec (exec_of s n operation).by)) (inr (inl refl))

  on_named : (asked : Result Asked Cause) (failed : Bool) → CausesAre (NamesNoData s asked) (verdict_on s n asked failed)
  on_named (Err cause) failed = all_one (NamesNoData s (Err cause)) cause (inl refl)
  on_named (Ok asked) failed = asked_named asked failed

pub refusals_name_no_data : RefusalsNameNoData
refusals_name_no_data s n request failed =
    checked_are (NamesNoData s request.asked) (operation_refused s n request.operation) (verdict_on s n request.asked failed)
    (exec_named s n request.asked request.operation) (on_named s n request.asked failed)
