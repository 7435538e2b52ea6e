-- Of states that are alike for a session the verdicts on what it asks for agree, operation by operation.
use Rattle.std.proofs.Common.{◌≡◌, ◌==◌, ◌&&◌, ◌+◌, ◌∙◌, ℕ, Bool, not, List, [], ◌∷◌, length, refl, ap, subst, inl, inr, Option, Result, Ok, Err}
use Rattle.nc_names.specs.declared.cause.CauseKind.TheVariants.{Limit, LockPartial, NoMatch}
use Rattle.nc_names.specs.declared.path.Path.{Path}
use Rattle.nc_names.specs.declared.path.Row.{Row}
use Rattle.nc_message.specs.declared.tree.Elem.{Elem}
use Rattle.nc_schema.specs.Tables.{Tables}
use Rattle.nc_protocol.specs.Asking.{plain_cause}
use Rattle.nc_protocol.specs.Edited.{cause_where, first_cause}
use Rattle.nc_protocol.specs.Payload.{edits_of, rows_of}
use Rattle.nc_protocol.specs.declared.asked.Asked.{Asked}
use Rattle.nc_protocol.specs.declared.asked.Asked.TheVariants.{Get, GetConfig, EditConfig, CopyConfig, DeleteConfig, Lock, Unlock, CloseSession, KillSession, Commit, DiscardChanges, CancelCommit, Validate, PartialLock, PartialUnlock}
use Rattle.nc_protocol.specs.declared.asked.Default3.{Default3}
use Rattle.nc_protocol.specs.declared.asked.ErrorOption.{ErrorOption}
use Rattle.nc_protocol.specs.declared.asked.Select.{Select}
use Rattle.nc_protocol.specs.declared.asked.TestOption.{TestOption}
use Rattle.nc_protocol.specs.declared.datastore.Datastore.{Datastore}
use Rattle.nc_protocol.specs.declared.datastore.Datastore.TheVariants.{Running, Candidate}
use Rattle.nc_protocol.specs.declared.datastore.Origin.{Origin}
use Rattle.nc_protocol.specs.declared.datastore.Origin.TheVariants.{Store, Inline}
use Rattle.nc_protocol.specs.declared.edit.Edit.{Edit}
use Rattle.nc_protocol.specs.declared.request.Cause.{Cause}
use Rattle.nc_protocol.specs.declared.verdict.Verdict.TheVariants.{Done, Selected, Locked}
use Rattle.nc_model.specs.Access.{rights_of, visible}
use Rattle.nc_model.specs.Alike.{AreAlike}
use Rattle.nc_model.specs.State.{State, candidate_in_force, last_lock_id, locks_of, locks_some, most_locks}
use Rattle.nc_model.specs.Verdict.{asked_verdict, cancel_changes, cancel_checks, commit_changes, commit_checks, copied, copy_checks, done_where, edit_checks, edit_verdict, edits_made, in_use, is_none_of, is_source, is_too_large, kept_unless, kill_refusal, lock_checks, lock_of_other, made_by, nodes_selected, partial_lock_checks, partial_unlock_refusal, rows_copied, rows_to_validate, shown, stored, unless_denied, unlock_checks, unsupported, validated, verdict_on}
use Rattle.nc_model.specs.Words.{lock_ids_word, partial_locks_word, record_word}
use Rattle.nc_model.proofs.SessionLemmas.{where_is}
use Rattle.nc_disclosure.proofs.AgreeLemmas.{Agree, AllMatch, IsUnseen, agree_by, done_checked, edit_checked, first_agree, muted_agree, one_agree, validated_checked}
use Rattle.nc_disclosure.proofs.AlikeChecks.{cancel_admitted, commit_admitted, held_same, in_use_same, kill_same, modified_same, nodes_same, not_held_same, own_same, partly_match, pending_same, selects_same, shown_same, waiting_same}
use Rattle.nc_disclosure.proofs.MuteLemmas.{changes_mute, copied_muted, edits_muted, in_use_mute, kept_muted, partial_mute, valid_muted, violation_mute}

module _ (s t : State) (n : ℕ) (alike : AreAlike s t n) where
  -- ---- edit-config
  edits_agree : (test : TestOption) (on_error : ErrorOption) (edits : Result (List Edit) Cause) →
      Agree (edit_verdict s.schema test (made_by s n on_error edits)) (edit_verdict t.schema test (made_by t n on_error edits))
  edits_agree test on_error (Err cause) = inl refl
  edits_agree test on_error (Ok edits) =
      muted_agree (edit_verdict s.schema test (made_by s n on_error (Ok edits))) (edit_verdict t.schema test (made_by t n on_error (Ok edits)))
      (edits_muted s n test on_error edits) (edits_muted t n test on_error edits)

  edit_agrees : (target : Datastore) (default_operation : Default3) (test : TestOption) (on_error : ErrorOption) (config : Elem) →
      Agree (edit_verdict s.schema test (edits_made s n target default_operation on_error config))
      (edit_verdict t.schema test (edits_made t n target default_operation on_error config))
  edit_agrees target default_operation test on_error config =
      agree_by (edit_verdict s.schema test (edits_made s n target default_operation on_error config)) _
      (edit_verdict t.schema test (edits_made t n target default_operation on_error config)) _
      (edit_checked s.schema test (first_cause (edit_checks s n target)) (made_by s n on_error (edits_of s.schema default_operation config)))
      (edit_checked t.schema test (first_cause (edit_checks t n target)) (made_by t n on_error (edits_of t.schema default_operation config)))
      (first_agree (edit_checks s n target) (edit_checks t n target) (inl refl, (inl (in_use_same s t n alike Candidate), tt))
      (edit_verdict s.schema test (made_by s n on_error (edits_of s.schema default_operation config)))
      (edit_verdict t.schema test (made_by t n on_error (edits_of t.schema default_operation config)))
      (subst (λ (edits : Result (List Edit) Cause).
      Agree (edit_verdict s.schema test (made_by s n on_error (edits_of s.schema default_operation config))) (edit_verdict t.schema test (made_by t n on_error edits)))
      (ap (λ (tables : Tables). edits_of tables default_operation config) alike.schema)
      (edits_agree test on_error (edits_of s.schema default_operation config))))

  -- ---- copy-config
  rows_agree : (rows : Result (List Row) Cause) → Agree (done_where (unless_denied s n rows)) (done_where (unless_denied t n rows))
  rows_agree (Err cause) = inl refl
  rows_agree (Ok rows) =
      muted_agree (done_where (unless_denied s n (Ok rows))) (done_where (unless_denied t n (Ok rows))) (copied_muted s n rows) (copied_muted t n rows)

  copied_agree : (source : Origin) → Agree (done_where (unless_denied s n (rows_copied s n source))) (done_where (unless_denied t n (rows_copied t n source)))
  copied_agree (Store store) =
      muted_agree (done_where (unless_denied s n (Ok (visible s n (stored s store))))) (done_where (unless_denied t n (Ok (visible t n (stored t store)))))
      (copied_muted s n (visible s n (stored s store))) (copied_muted t n (visible t n (stored t store)))
  copied_agree (Inline config) =
      subst (λ (rows : Result (List Row) Cause). Agree (done_where (unless_denied s n (rows_of s.schema config))) (done_where (unless_denied t n rows)))
      (ap (λ (tables : Tables). rows_of tables config) alike.schema) (rows_agree (rows_of s.schema config))

  copy_agrees : (target : Datastore) (source : Origin) → Agree (done_where (copied s n target source)) (done_where (copied t n target source))
  copy_agrees target source =
      agree_by (done_where (copied s n target source)) _ (done_where (copied t n target source)) _
      (done_checked (first_cause (copy_checks s n target source)) (unless_denied s n (rows_copied s n source)))
      (done_checked (first_cause (copy_checks t n target source)) (unless_denied t n (rows_copied t n source)))
      (first_agree (copy_checks s n target source) (copy_checks t n target source)
      (inl refl, (inl refl, (inl refl, (inl (in_use_same s t n alike Candidate), tt))))
      (done_where (unless_denied s n (rows_copied s n source))) (done_where (unless_denied t n (rows_copied t n source)))
      (copied_agree source))

  -- ---- validate
  inline_agrees : (rows : Result (List Row) Cause) → Agree (validated s.schema rows) (validated t.schema rows)
  inline_agrees (Err cause) = inl refl
  inline_agrees (Ok rows) =
      muted_agree (validated s.schema (Ok rows)) (validated t.schema (Ok rows)) (valid_muted s.schema rows) (valid_muted t.schema rows)

  validate_agrees : (source : Origin) → Agree (validated s.schema (rows_to_validate s source)) (validated t.schema (rows_to_validate t source))
  validate_agrees (Store store) =
      agree_by (validated s.schema (rows_to_validate s (Store store))) _ (validated t.schema (rows_to_validate t (Store store))) _
      (validated_checked s.schema (unsupported is_source store) (Ok (stored s store)))
      (validated_checked t.schema (unsupported is_source store) (Ok (stored t store)))
      (one_agree (unsupported is_source store) (unsupported is_source store) (inl refl)
      (validated s.schema (Ok (stored s store))) (validated t.schema (Ok (stored t store)))
      (muted_agree (validated s.schema (Ok (stored s store))) (validated t.schema (Ok (stored t store)))
      (valid_muted s.schema (stored s store)) (valid_muted t.schema (stored t store))))
  validate_agrees (Inline config) =
      subst (λ (rows : Result (List Row) Cause). Agree (validated s.schema (rows_of s.schema config)) (validated t.schema rows))
      (ap (λ (tables : Tables). rows_of tables config) alike.schema) (inline_agrees (rows_of s.schema config))

  -- ---- locks of datastores
  lock_match : (target : Datastore) → AllMatch (lock_checks s n target) (lock_checks t n target)
  lock_match target = (
    inl refl,
    (
      inl (held_same s t n alike target),
      (inl (modified_same s t n alike target), (inl (waiting_same s t n alike target), (partly_match s t n alike target, tt))),
    ),
  )

  unlock_match : (target : Datastore) → AllMatch (unlock_checks s n target) (unlock_checks t n target)
  unlock_match target = (inl refl, (inl (not_held_same s t n alike target), tt))

  -- ---- commits
  commit_match : (persist_id : Option (List ℕ)) → AllMatch (commit_checks s n persist_id) (commit_checks t n persist_id)
  commit_match persist_id = (
    inl (commit_admitted s t n alike persist_id),
    (
      inl (in_use_same s t n alike Running),
      (
        inl (in_use_same s t n alike Candidate),
        (
          inr (in_use_mute s n (commit_changes s), in_use_mute t n (commit_changes t)),
          (
            inr (changes_mute (rights_of s n) (commit_changes s), changes_mute (rights_of t n) (commit_changes t)),
            (
              inr (violation_mute s.schema (candidate_in_force s), violation_mute t.schema (candidate_in_force t)),
              (
                inr (
                  where_is IsUnseen (is_too_large (candidate_in_force s)) (plain_cause Limit (record_word ∷ [])) refl,
                  where_is IsUnseen (is_too_large (candidate_in_force t)) (plain_cause Limit (record_word ∷ [])) refl,
                ),
                tt,
              ),
            ),
          ),
        ),
      ),
    ),
  )

  cancel_match : (persist_id : Option (List ℕ)) → AllMatch (cancel_checks s n persist_id) (cancel_checks t n persist_id)
  cancel_match persist_id = (
    inl (cancel_admitted s t n alike persist_id),
    (inl (in_use_same s t n alike Running), (inr (in_use_mute s n (cancel_changes s), in_use_mute t n (cancel_changes t)), tt)),
  )

  -- ---- partial locks
  partial_match : (selects : List Select) → AllMatch (partial_lock_checks s n selects) (partial_lock_checks t n selects)
  partial_match selects = (
    inl (pending_same s t n alike),
    (
      inl (held_same s t n alike Running),
      (
        inl (selects_same s t n alike selects),
        (
          inl (ap (λ (nodes : List Path). cause_where (is_none_of nodes) (plain_cause NoMatch [])) (nodes_same s t n alike selects)),
          (
            inr (
              partial_mute LockPartial refl (lock_of_other s n (locks_some (nodes_selected s n selects))),
              partial_mute LockPartial refl (lock_of_other t n (locks_some (nodes_selected t n selects))),
            ),
            (
              inr (
                where_is IsUnseen (length (locks_of n s.partial) == most_locks) (plain_cause Limit (partial_locks_word ∷ [])) refl,
                where_is IsUnseen (length (locks_of n t.partial) == most_locks) (plain_cause Limit (partial_locks_word ∷ [])) refl,
              ),
              (
                inr (
                  where_is IsUnseen (s.last_lock == last_lock_id) (plain_cause Limit (lock_ids_word ∷ [])) refl,
                  where_is IsUnseen (t.last_lock == last_lock_id) (plain_cause Limit (lock_ids_word ∷ [])) refl,
                ),
                tt,
              ),
            ),
          ),
        ),
      ),
    ),
  )

  locked_same : (selects : List Select) →
      Locked (s.last_lock + 1) (nodes_selected s n selects) ≡ Locked (t.last_lock + 1) (nodes_selected t n selects)
  locked_same selects =
      ap (λ (last : ℕ). Locked (last + 1) (nodes_selected s n selects)) alike.last_lock
      ∙ ap (λ (nodes : List Path). Locked (t.last_lock + 1) nodes) (nodes_same s t n alike selects)

  -- ---- each operation
  pub reads_same : (store : Datastore) (through : Option Elem) → Selected (shown s n store through) ≡ Selected (shown t n store through)
  reads_same store through = ap (λ (rows : List Row). Selected rows) (shown_same s t n alike store through)

  pub asked_agree : (asked : Asked) (failed failing : Bool) → Agree (asked_verdict s n asked failed) (asked_verdict t n asked failing)
  asked_agree (Get filter) failed failing = inl (reads_same Running filter)
  asked_agree (GetConfig source filter) failed failing =
      one_agree (unsupported is_source source) (unsupported is_source source) (inl refl) (Selected (shown s n source filter)) (Selected (shown t n source filter))
      (inl (reads_same source filter))
  asked_agree (EditConfig target default_operation test on_error config) failed failing = edit_agrees target default_operation test on_error config
  asked_agree (CopyConfig target source) failed failing = copy_agrees target source
  asked_agree (DeleteConfig target) failed failing = inl refl
  asked_agree (Lock target) failed failing = first_agree (lock_checks s n target) (lock_checks t n target) (lock_match target) Done Done (inl refl)
  asked_agree (Unlock target) failed failing = first_agree (unlock_checks s n target) (unlock_checks t n target) (unlock_match target) Done Done (inl refl)
  asked_agree CloseSession failed failing = inl refl
  asked_agree (KillSession number) failed failing =
      one_agree (kill_refusal s n number) (kill_refusal t n number) (inl (kill_same s t n alike number)) Done Done (inl refl)
  asked_agree (Commit confirmed timeout persist persist_id) failed failing =
      first_agree (commit_checks s n persist_id) (commit_checks t n persist_id) (commit_match persist_id)
      (kept_unless (not confirmed && failed)) (kept_unless (not confirmed && failing))
      (muted_agree (kept_unless (not confirmed && failed)) (kept_unless (not confirmed && failing)) (kept_muted (not confirmed && failed)) (kept_muted (not confirmed && failing)))
  asked_agree DiscardChanges failed failing =
      one_agree (in_use s n Candidate) (in_use t n Candidate) (inl (in_use_same s t n alike Candidate)) Done Done (inl refl)
  asked_agree (CancelCommit persist_id) failed failing =
      first_agree (cancel_checks s n persist_id) (cancel_checks t n persist_id) (cancel_match persist_id) Done Done (inl refl)
  asked_agree (Validate source) failed failing = validate_agrees source
  asked_agree (PartialLock selects) failed failing =
      first_agree (partial_lock_checks s n selects) (partial_lock_checks t n selects) (partial_match selects)
      (Locked (s.last_lock + 1) (nodes_selected s n selects)) (Locked (t.last_lock + 1) (nodes_selected t n selects)) (inl (locked_same selects))
  asked_agree (PartialUnlock id) failed failing =
      one_agree (partial_unlock_refusal s n id) (partial_unlock_refusal t n id) (inl (own_same s t n alike id)) Done Done (inl refl)

  pub on_agree : (asked : Result Asked Cause) (failed failing : Bool) → Agree (verdict_on s n asked failed) (verdict_on t n asked failing)
  on_agree (Err cause) failed failing = inl refl
  on_agree (Ok asked) failed failing = asked_agree asked failed failing
