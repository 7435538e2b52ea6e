-- What nothing stands against is granted.
use Rattle.std.proofs.Common.{◌≡◌, ◌+◌, ◌&&◌, ℕ, Bool, true, false, not, List, [], ◌∷◌, refl, sym, ap, subst, ◌∙◌, Option, Some, None, Result, Ok}
use Rattle.std.specs.Prelude.{cond, fold, option_map, slice_get}
use Rattle.std.specs.Option.{option_to_list}
use Rattle.std.proofs.lemmas.Bool.{le-ltb}
use Rattle.nc_message.specs.declared.tree.Elem.{Elem}
use Rattle.nc_message.specs.declared.tree.Tree.{Tree}
use Rattle.nc_names.specs.declared.cause.CauseKind.TheVariants.{ExecDenied, Limit, UnsupportedTarget}
use Rattle.nc_names.specs.declared.path.Path.{Path}
use Rattle.nc_names.specs.declared.path.Right.{Right}
use Rattle.nc_names.specs.declared.path.Right.TheVariants.{Exec}
use Rattle.nc_names.specs.declared.path.Row.{Row}
use Rattle.nc_schema.specs.Record.{record_size}
use Rattle.nc_names.specs.Limits.{body_limit}
use Rattle.nc_schema.specs.Tables.{Tables}
use Rattle.nc_schema.specs.Violations.{IsValid}
use Rattle.nc_schema.specs.declared.violation.Violation.{Violation}
use Rattle.nc_protocol.specs.declared.access.Decision.{Decision}
use Rattle.nc_protocol.specs.declared.asked.Asked.{Asked}
use Rattle.nc_protocol.specs.declared.asked.Asked.TheVariants.{Get, GetConfig, EditConfig, CopyConfig, DeleteConfig, Lock, Unlock, CloseSession, KillSession, Commit, DiscardChanges, CancelCommit, Validate, PartialLock, PartialUnlock}
use Rattle.nc_protocol.specs.declared.asked.ErrorOption.{ErrorOption}
use Rattle.nc_protocol.specs.declared.asked.ErrorOption.TheVariants.{Stop, Continue, Rollback}
use Rattle.nc_protocol.specs.declared.asked.Operation.{Operation}
use Rattle.nc_protocol.specs.declared.asked.TestOption.{TestOption}
use Rattle.nc_protocol.specs.declared.asked.TestOption.TheVariants.{TestThenSet, Set, TestOnly}
use Rattle.nc_protocol.specs.declared.datastore.Datastore.{Datastore}
use Rattle.nc_protocol.specs.declared.datastore.Datastore.TheVariants.{Running, Candidate}
use Rattle.nc_protocol.specs.declared.datastore.Origin.{Origin}
use Rattle.nc_protocol.specs.declared.datastore.Origin.TheVariants.{Store, Inline}
use Rattle.nc_protocol.specs.declared.edit.Edit.{Edit}
use Rattle.nc_protocol.specs.declared.request.Cause.{Cause}
use Rattle.nc_protocol.specs.declared.request.Request.{Request}
use Rattle.nc_protocol.specs.declared.verdict.Verdict.{Verdict}
use Rattle.nc_protocol.specs.declared.verdict.Verdict.TheVariants.{Done, Locked, Selected}
use Rattle.nc_protocol.specs.Applied.{Applied, applied, continued, rolled_back, stopped, with_result}
use Rattle.nc_protocol.specs.Asking.{plain_cause}
use Rattle.nc_protocol.specs.Changes.{changes_between}
use Rattle.nc_protocol.specs.Edited.{cause_where, decision_names, edited, first_cause}
use Rattle.nc_protocol.specs.Payload.{edits_of}
use Rattle.nc_protocol.specs.Refusals.{checked, datastore_name, done_unless, result_unless, violation_cause, violation_in}
use Rattle.nc_protocol.specs.Reply.{reply_of}
use Rattle.nc_model.specs.declared.event.Event.{Event}
use Rattle.nc_model.specs.declared.event.Outcome.TheVariants.{Answered, NotLive}
use Rattle.nc_model.specs.Access.{exec_of, rights_of, sees_of}
use Rattle.nc_model.specs.State.{State, candidate_in_force, expired}
use Rattle.nc_model.specs.Step.{answer_to, has_failed, outcome_of}
use Rattle.nc_model.specs.Verdict.{asked_verdict, commit_changes, commit_checks, copied, done_where, edit_verdict, edits_made, in_use, is_source, is_too_large, kept_unless, made_by, nodes_selected, operation_refused, rows_copied, shown, stored, unless_denied, unsupported, validated, verdict, verdict_on}
use Rattle.nc_model.specs.Words.{record_word}
use Rattle.nc_model.proofs.DiskLemmas.{disk_fault_has_cause}
use Rattle.nc_machine.specs.Laws.{AreMade, ArePermitted, IsCommittable, IsFree, IsGranted, IsUnopposed, MayAsk, PassesTest, UnopposedIsGranted}
use Rattle.nc_machine.proofs.Free.{cancel_is_granted, changes_are_free, commit_is_admitted, kill_is_granted, lock_is_granted, none_first, none_is_denied, partial_lock_is_granted, partial_unlock_is_granted, store_is_free, unlock_is_granted, where_false}

-- ---- edits that are all made

all_made : List Row → Applied
all_made rows = record { rows = rows; causes = [] }

module _ (tables : Tables) (rights : Path → Right → Decision) where
  continued_made : (rows between : List Row) (edit : Edit) → edited tables rights rows edit ≡ Ok between →
      continued tables rights (all_made rows) edit ≡ all_made between
  unfolding all_made
  continued_made rows between edit is = ap (with_result (record { rows = rows; causes = [] })) is

  stopped_made : (rows between : List Row) (edit : Edit) → edited tables rights rows edit ≡ Ok between →
      stopped tables rights (all_made rows) edit ≡ all_made between
  unfolding all_made
  stopped_made rows between edit is = ap (with_result (record { rows = rows; causes = [] })) is

  fold_made : (f : Applied → Edit → Applied) →
      ((rows between : List Row) (edit : Edit) → edited tables rights rows edit ≡ Ok between →
      f (all_made rows) edit ≡ all_made between) →
      (rows left : List Row) (edits : List Edit) → AreMade tables rights rows edits left → fold f (all_made rows) edits ≡ all_made left
  fold_made f step rows left [] made = ap all_made made
  fold_made f step rows left (edit ∷ edits) (between, is, made) =
      ap (λ (so_far : Applied). fold f so_far edits) (step rows between edit is) ∙ fold_made f step between left edits made

  applied_made : (on_error : ErrorOption) (rows left : List Row) (edits : List Edit) → AreMade tables rights rows edits left →
      applied tables rights on_error rows edits ≡ all_made left
  unfolding all_made
  applied_made Stop rows left edits made = fold_made (stopped tables rights) stopped_made rows left edits made
  applied_made Continue rows left edits made = fold_made (continued tables rights) continued_made rows left edits made
  applied_made Rollback rows left edits made =
      ap (rolled_back rows) (fold_made (stopped tables rights) stopped_made rows left edits made)

module _ (tables : Tables) where
  none_violated : (rows : List Row) → IsValid tables rows → violation_in tables rows ≡ None
  none_violated rows valid = ap (λ (found : List Violation). option_map violation_cause (slice_get found 0)) valid

  tested_done : (test : TestOption) (left : List Row) → PassesTest tables test left →
      edit_verdict tables test (Ok (all_made left)) ≡ Done
  unfolding all_made
  tested_done Set left passes = refl
  tested_done TestThenSet left passes =
      ap (λ (why : Option Cause). done_unless (option_to_list why)) (none_violated left passes)
  tested_done TestOnly left passes =
      ap (λ (why : Option Cause). done_unless (option_to_list why)) (none_violated left passes)

-- ---- what is asked for, and nothing stands against

-- a verdict that grants
record IsGranting (v : Verdict) : Type 0 where
  granted : Verdict
  is : v ≡ granted
  grants : (reply : Tree) → IsGranted (Answered granted reply)

is_done : (v : Verdict) → v ≡ Done → IsGranting v
is_done v is = record { granted = Done; is = is; grants = λ reply. tt }

module _ (s : State) (session : ℕ) where
  config_granted : (source : Datastore) (filter : Option Elem) → is_source source ≡ true →
      IsGranting (asked_verdict s session (GetConfig source filter) false)
  config_granted source filter offered = record {
    granted = Selected (shown s session source filter);
    is = ap (λ (b : Bool). checked (cause_where (not b) (plain_cause UnsupportedTarget (datastore_name source ∷ [])))
        (Selected (shown s session source filter))) offered;
    grants = λ reply. tt;
  }

  edits_done : (test : TestOption) (on_error : ErrorOption) (read : Result (List Edit) Cause) (edits : List Edit) (left : List Row) →
      read ≡ Ok edits → AreMade s.schema (rights_of s session) (candidate_in_force s) edits left → PassesTest s.schema test left →
      edit_verdict s.schema test (made_by s session on_error read) ≡ Done
  edits_done test on_error read edits left is made passes =
      ap (λ (r : Result (List Edit) Cause). edit_verdict s.schema test (made_by s session on_error r)) is
      ∙ (ap (λ (a : Applied). edit_verdict s.schema test (Ok a))
      (applied_made s.schema (rights_of s session) on_error (candidate_in_force s) left edits made)
      ∙ tested_done s.schema test left passes)

  -- the candidate's lock alone is looked at
  unlocked : {A : Type 0} (result : Result A Cause) → IsFree s session Candidate →
      result_unless (first_cause (in_use s session Candidate ∷ [])) result ≡ result
  unlocked result free =
      ap (λ (why : Option Cause). result_unless (first_cause (why ∷ [])) result) (store_is_free s session Candidate free)

  rows_done : (rows : List Row) → ArePermitted (rights_of s session) (changes_between s.schema (candidate_in_force s) rows) →
      done_where (unless_denied s session (Ok rows)) ≡ Done
  rows_done rows permitted =
      ap (λ (denied : Option Cause). done_where (result_unless denied (Ok rows)))
      (none_is_denied (rights_of s session) (changes_between s.schema (candidate_in_force s) rows) permitted)

  copy_done : (source : Origin) (rows : List Row) → rows_copied s session source ≡ Ok rows → IsFree s session Candidate →
      ArePermitted (rights_of s session) (changes_between s.schema (candidate_in_force s) rows) →
      done_where (result_unless (first_cause (in_use s session Candidate ∷ [])) (unless_denied s session (rows_copied s session source)))
      ≡ Done
  copy_done source rows is free permitted =
      ap done_where (unlocked (unless_denied s session (rows_copied s session source)) free)
      ∙ (ap (λ (r : Result (List Row) Cause). done_where (unless_denied s session r)) is ∙ rows_done rows permitted)

  -- where no disk fails
  kept : (confirmed : Bool) → kept_unless (not confirmed && false) ≡ Done
  kept true = refl
  kept false = refl

  commit_done : (confirmed : Bool) (timeout : ℕ) (persist persist_id : Option (List ℕ)) → IsCommittable s session persist_id →
      asked_verdict s session (Commit confirmed timeout persist persist_id) false ≡ Done
  commit_done confirmed timeout persist persist_id may =
      ap (λ (why : Option Cause). checked why (kept_unless (not confirmed && false)))
      (none_first (commit_checks s session persist_id) (
        commit_is_admitted s session persist_id may.admitted,
        (
          store_is_free s session Running may.running,
          (
            store_is_free s session Candidate may.candidate,
            (
              changes_are_free s session (commit_changes s) may.nodes,
              (
                none_is_denied (rights_of s session) (commit_changes s) may.rights,
                (
                  none_violated s.schema (candidate_in_force s) may.valid,
                  (
                    where_false (is_too_large (candidate_in_force s)) (plain_cause Limit (record_word ∷ []))
                        (le-ltb body_limit (record_size (candidate_in_force s)) may.small),
                    tt,
                  ),
                ),
              ),
            ),
          ),
        ),
      )) ∙ kept confirmed

  valid_done : (read : Result (List Row) Cause) (rows : List Row) → read ≡ Ok rows → IsValid s.schema rows →
      validated s.schema read ≡ Done
  valid_done read rows is valid =
      ap (validated s.schema) is ∙ ap (λ (why : Option Cause). checked why Done) (none_violated s.schema rows valid)

  store_had : (store : Datastore) (rows : List Row) → is_source store ≡ true → stored s store ≡ rows →
      result_unless (unsupported is_source store) (Ok (stored s store)) ≡ Ok rows
  store_had store rows offered is =
      ap (λ (b : Bool). result_unless (cause_where (not b) (plain_cause UnsupportedTarget (datastore_name store ∷ [])))
      (Ok (stored s store))) offered ∙ ap Ok is

  -- what a check does not refuse is granted
  granted_by : (why : Option Cause) (v : Verdict) → why ≡ None → ((reply : Tree) → IsGranted (Answered v reply)) →
      IsGranting (checked why v)
  granted_by why v none grants = record { granted = v; is = ap (λ (w : Option Cause). checked w v) none; grants = grants }

  asked_granted : (asked : Asked) → IsUnopposed s session asked → IsGranting (asked_verdict s session asked false)
  asked_granted (Get filter) free =
      record { granted = Selected (shown s session Running filter); is = refl; grants = λ reply. tt }
  asked_granted (GetConfig source filter) free = config_granted source filter free
  asked_granted (EditConfig target default_operation test on_error config) (is, free, edits, left, read, made, passes) =
      is_done _ (ap (λ (t : Datastore). edit_verdict s.schema test (edits_made s session t default_operation on_error config)) is
      ∙ (ap (edit_verdict s.schema test) (unlocked (made_by s session on_error (edits_of s.schema default_operation config)) free)
      ∙ edits_done test on_error (edits_of s.schema default_operation config) edits left read made passes))
  asked_granted (CopyConfig target (Store source)) (is, free, rows, (from, seen), permitted) =
      is_done _ (ap (λ (t : Datastore). done_where (copied s session t (Store source))) is
      ∙ (ap (λ (d : Datastore). done_where (copied s session Candidate (Store d))) from
      ∙ copy_done (Store Running) rows (ap Ok seen) free permitted))
  asked_granted (CopyConfig target (Inline config)) (is, free, rows, read, permitted) =
      is_done _ (ap (λ (t : Datastore). done_where (copied s session t (Inline config))) is
      ∙ copy_done (Inline config) rows read free permitted)
  asked_granted (DeleteConfig target) free = absurd free
  asked_granted (Lock target) free = granted_by _ Done (lock_is_granted s session target free) (λ reply. tt)
  asked_granted (Unlock target) free = granted_by _ Done (unlock_is_granted s session target free) (λ reply. tt)
  asked_granted CloseSession free = is_done _ refl
  asked_granted (KillSession number) (other, live) =
      granted_by _ Done (kill_is_granted s session number other live) (λ reply. tt)
  asked_granted (Commit confirmed timeout persist persist_id) may =
      is_done _ (commit_done confirmed timeout persist persist_id may)
  asked_granted DiscardChanges free = granted_by _ Done (store_is_free s session Candidate free) (λ reply. tt)
  asked_granted (CancelCommit persist_id) (may, free, nodes) =
      granted_by _ Done (cancel_is_granted s session persist_id may free nodes) (λ reply. tt)
  asked_granted (Validate (Store store)) (rows, (offered, is), valid) =
      is_done _ (valid_done _ rows (store_had store rows offered is) valid)
  asked_granted (Validate (Inline config)) (rows, read, valid) = is_done _ (valid_done _ rows read valid)
  asked_granted (PartialLock selects) (named, may) =
      granted_by _ (Locked (s.last_lock + 1) (nodes_selected s session selects))
      (partial_lock_is_granted s session selects named may) (λ reply. tt)
  asked_granted (PartialUnlock lock) has = granted_by _ Done (partial_unlock_is_granted s session lock has) (λ reply. tt)

  -- the operation is not refused, so the verdict is that on what is asked for
  may_ask : (operation : Option Operation) → MayAsk s session operation → operation_refused s session operation ≡ None
  may_ask None may = absurd may
  may_ask (Some operation) permits =
      ap (λ (b : Bool). cause_where (not b) (plain_cause ExecDenied (decision_names Exec (exec_of s session operation).by))) permits

  verdict_is : (request : Request) (asked : Asked) → request.asked ≡ Ok asked → MayAsk s session request.operation →
      verdict s session request false ≡ asked_verdict s session asked false
  verdict_is request asked is may =
      ap (λ (why : Option Cause). checked why (verdict_on s session request.asked false)) (may_ask request.operation may)
      ∙ ap (λ (a : Result Asked Cause). verdict_on s session a false) is

  answer_granted : (request : Request) (asked : Asked) → request.asked ≡ Ok asked → MayAsk s session request.operation →
      IsUnopposed s session asked → IsGranted (answer_to s session request false)
  answer_granted request asked is may free =
      let granting = asked_granted asked free in
      let leads : verdict s session request false ≡ granting.granted = verdict_is request asked is may ∙ granting.is in
      subst (λ (v : Verdict). IsGranted (Answered v (reply_of s.schema (sees_of s session) request v))) (sym leads)
      (granting.grants (reply_of s.schema (sees_of s session) request granting.granted))

pub unopposed_is_granted : UnopposedIsGranted
unopposed_is_granted s e session request asked it may free still =
    subst IsGranted (sym (outcome_is (has_failed e.outcome) refl))
    (answer_granted (expired s e.at) session request asked it.asked_is may free)
  where
    outcome_is : (failed : Bool) → has_failed e.outcome ≡ failed → e.outcome ≡ answer_to (expired s e.at) session request false
    outcome_is true failed = absurd (still (disk_fault_has_cause s e it.fits failed))
    outcome_is false failed =
        it.fits.outcome
        ∙ (ap (outcome_of (expired s e.at) e.event) failed
        ∙ (ap (λ (event : Event). outcome_of (expired s e.at) event false) it.event_is
        ∙ ap (λ (b : Bool). cond b (answer_to (expired s e.at) session request false) NotLive) it.live))
