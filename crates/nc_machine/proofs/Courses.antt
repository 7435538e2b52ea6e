-- What a request comes to is its verdict, and what it changes is what the verdict says.
use Rattle.std.proofs.Common.{◌≡◌, ◌≤◌, ◌&&◌, ◌+◌, ℕ, Bool, true, false, List, [], ◌∷◌, refl, sym, ap, ◌∙◌, Option, Some, None, Result, Ok, Err}
use Rattle.nc_names.specs.declared.cause.CauseKind.TheVariants.{DiskFault}
use Rattle.nc_names.specs.declared.path.Path.{Path}
use Rattle.nc_names.specs.declared.path.Row.{Row}
use Rattle.nc_schema.specs.Record.{record_size}
use Rattle.nc_names.specs.Limits.{body_limit}
use Rattle.nc_schema.specs.Violations.{IsValid}
use Rattle.nc_protocol.specs.declared.asked.Asked.{Asked}
use Rattle.nc_protocol.specs.declared.asked.Asked.TheVariants.{Get, GetConfig, EditConfig, CopyConfig, DeleteConfig, Lock, Unlock, CloseSession, KillSession, Commit as AsksCommit, DiscardChanges, CancelCommit, Validate, PartialLock, PartialUnlock}
use Rattle.nc_protocol.specs.declared.datastore.Datastore.TheVariants.{Candidate as CandidateStore}
use Rattle.nc_protocol.specs.declared.request.Cause.{Cause}
use Rattle.nc_protocol.specs.declared.request.Request.{Request}
use Rattle.nc_protocol.specs.declared.verdict.Verdict.{Verdict}
use Rattle.nc_protocol.specs.declared.verdict.Verdict.TheVariants.{Done, Locked, Refused}
use Rattle.nc_model.specs.State.{State, candidate_in_force}
use Rattle.nc_model.specs.Step.{answered, answered_unless, appends_record, committed, is_done, rows_of_ok, with_candidate}
use Rattle.nc_model.specs.Verdict.{commit_refusal, copied, edits_made, in_use, kept_unless, kill_refusal, nodes_selected, operation_refused, partial_lock_refusal, partial_unlock_refusal, rows_set, verdict, verdict_on}
use Rattle.nc_protocol.specs.Refusals.{checked, refused_for}
use Rattle.nc_model.proofs.GoodLemmas.{commit_is_small, commit_is_valid}
use Rattle.nc_courses.specs.declared.course.Change.{Change}
use Rattle.nc_courses.specs.declared.course.Change.TheVariants.{Nothing, Discard, Grant, Release, Confirm, Revert, Over, GrantNodes, ReleaseNodes}
use Rattle.nc_courses.specs.declared.course.Course.TheVariants.{Answer, Commit}
use Rattle.nc_courses.specs.inner.Courses.{asked_course, cancel_course, cancel_refused, changed_to, commit_asked_course, commit_refused, copy_config_course, course, course_on, discard_course, done_unless, edit_config_course, edit_course, get_config_course, get_course, kill_course, lock_course, lock_refused, made, partial_unlock_course, unless_refused, unlock_course, unlock_refused, validate_course}
use Rattle.nc_machine.proofs.Checks.{cancel_checked, commit_checked, lock_checked, unlock_checked}
use Rattle.nc_machine.proofs.Confirmed.{confirmed_is}
use Rattle.nc_machine.proofs.Held.{lock_granted, lock_released}
use Rattle.nc_machine.proofs.NodeLocks.{locking, nodes_granted, nodes_released, partial_lock_is}

-- what is asked for has that verdict and changes that, whatever the disk does
pub record IsSettled (s : State) (session : ℕ) (asked : Result Asked Cause) (v : Verdict) (change : Change) : Type 0 where
  pub verdict_is : (failed : Bool) → verdict_on s session asked failed ≡ v
  pub disk : (appends_record asked && is_done v) ≡ false
  pub state_is : answered s session asked v ≡ made s session change

verdict_same : (x v : Verdict) (y c : Change) → Answer x y ≡ Answer v c → x ≡ v
verdict_same x v y c is = cc

change_same : (x v : Verdict) (y c : Change) → Answer x y ≡ Answer v c → y ≡ c
change_same x v y c is = cc

changed_to_is : (s : State) (session : ℕ) (rows : Option (List Row)) → with_candidate s rows ≡ made s session (changed_to rows)
unfolding made
changed_to_is s session None = refl
changed_to_is s session (Some rows) = refl

changes_nothing : (s : State) (session : ℕ) (c : Change) → Nothing ≡ c → s ≡ made s session c
unfolding made
changes_nothing s session c is = ap (made s session) is

and_false : (b : Bool) → (b && false) ≡ false
and_false true = refl
and_false false = refl

-- an operation that changes nothing
plain : (s : State) (session : ℕ) (asked : Result Asked Cause) (x v : Verdict) (c : Change) →
    ((failed : Bool) → verdict_on s session asked failed ≡ x) → appends_record asked ≡ false →
    ((w : Verdict) → answered s session asked w ≡ s) → Answer x Nothing ≡ Answer v c → IsSettled s session asked v c
unfolding made
plain s session asked x v c verdicts appends stays is = record {
  verdict_is = λ failed. verdicts failed ∙ verdict_same x v Nothing c is;
  disk = ap (λ (b : Bool). b && is_done v) appends;
  state_is = stays v ∙ ap (made s session) (change_same x v Nothing c is);
}

-- one that may change the candidate
setting : (s : State) (session : ℕ) (asked : Result Asked Cause) (x v : Verdict) (rows : Option (List Row)) (c : Change) →
    ((failed : Bool) → verdict_on s session asked failed ≡ x) → appends_record asked ≡ false →
    ((w : Verdict) → answered s session asked w ≡ with_candidate s rows) → Answer x (changed_to rows) ≡ Answer v c →
    IsSettled s session asked v c
setting s session asked x v rows c verdicts appends sets is = record {
  verdict_is = λ failed. verdicts failed ∙ verdict_same x v (changed_to rows) c is;
  disk = ap (λ (b : Bool). b && is_done v) appends;
  state_is = sets v ∙ (changed_to_is s session rows ∙ ap (made s session) (change_same x v (changed_to rows) c is));
}

-- one that is done, and changes something else
doing : (s : State) (session : ℕ) (asked : Result Asked Cause) (v : Verdict) (change c : Change) →
    ((failed : Bool) → verdict_on s session asked failed ≡ Done) → appends_record asked ≡ false →
    answered s session asked Done ≡ made s session change → Answer Done change ≡ Answer v c → IsSettled s session asked v c
doing s session asked v change c verdicts appends does is = record {
  verdict_is = λ failed. verdicts failed ∙ verdict_same Done v change c is;
  disk = ap (λ (b : Bool). b && is_done v) appends;
  state_is = ap (answered s session asked) (sym (verdict_same Done v change c is))
      ∙ (does ∙ ap (made s session) (change_same Done v change c is));
}

-- one that is done with a change unless a check fails
checking : (s : State) (session : ℕ) (asked : Result Asked Cause) (why : Option Cause) (v : Verdict) (change c : Change) →
    ((failed : Bool) → verdict_on s session asked failed ≡ checked why Done) → appends_record asked ≡ false →
    (why ≡ None → answered s session asked Done ≡ made s session change) →
    ((causes : List Cause) → answered s session asked (Refused causes) ≡ s) → done_unless why change ≡ Answer v c →
    IsSettled s session asked v c
unfolding made
checking s session asked None v change c verdicts appends does stays is =
    doing s session asked v change c verdicts appends (does refl) is
checking s session asked (Some cause) v change c verdicts appends does stays is =
    let same = verdict_same (Refused (cause ∷ [])) v Nothing c is in
    record {
      verdict_is = λ failed. verdicts failed ∙ same;
      disk = ap (λ (b : Bool). b && is_done v) appends;
      state_is = ap (answered s session asked) (sym same)
          ∙ (stays (cause ∷ []) ∙ ap (made s session) (change_same (Refused (cause ∷ [])) v Nothing c is));
    }

-- one that locks nodes unless a check fails
locking_nodes : (s : State) (session : ℕ) (asked : Result Asked Cause) (why : Option Cause) (v : Verdict) (lock : ℕ) (nodes : List Path)
    (c : Change) → ((failed : Bool) → verdict_on s session asked failed ≡ checked why (Locked lock nodes)) →
    appends_record asked ≡ false →
    (why ≡ None → answered s session asked (Locked lock nodes) ≡ made s session (GrantNodes nodes)) →
    ((causes : List Cause) → answered s session asked (Refused causes) ≡ s) → locking why lock nodes ≡ Answer v c →
    IsSettled s session asked v c
unfolding made
locking_nodes s session asked None v lock nodes c verdicts appends locks stays is =
    let same = verdict_same (Locked lock nodes) v (GrantNodes nodes) c is in
    record {
      verdict_is = λ failed. verdicts failed ∙ same;
      disk = ap (λ (b : Bool). b && is_done v) appends;
      state_is = ap (answered s session asked) (sym same)
          ∙ (locks refl ∙ ap (made s session) (change_same (Locked lock nodes) v (GrantNodes nodes) c is));
    }
locking_nodes s session asked (Some cause) v lock nodes c verdicts appends locks stays is =
    let same = verdict_same (Refused (cause ∷ [])) v Nothing c is in
    record {
      verdict_is = λ failed. verdicts failed ∙ same;
      disk = ap (λ (b : Bool). b && is_done v) appends;
      state_is = ap (answered s session asked) (sym same)
          ∙ (stays (cause ∷ []) ∙ ap (made s session) (change_same (Refused (cause ∷ [])) v Nothing c is));
    }

-- a commit that is refused, whatever it would come to
refused_commit : (s : State) (session : ℕ) (asked : Result Asked Cause) (why : Option Cause) (otherwise : Bool → Verdict) (v : Verdict)
    (c : Change) → ((failed : Bool) → verdict_on s session asked failed ≡ checked why (otherwise failed)) →
    ((causes : List Cause) → answered s session asked (Refused causes) ≡ s) → unless_refused why Commit ≡ Answer v c →
    IsSettled s session asked v c
unfolding made
refused_commit s session asked None otherwise v c verdicts stays is = absurd (by is)
  where
    by : Commit ≡ Answer v c → ⊥
    by e = cc
refused_commit s session asked (Some cause) otherwise v c verdicts stays is =
    let same = verdict_same (Refused (cause ∷ [])) v Nothing c is in
    record {
      verdict_is = λ failed. verdicts failed ∙ same;
      disk = ap (λ (w : Verdict). appends_record asked && is_done w) (sym same) ∙ and_false (appends_record asked);
      state_is = ap (answered s session asked) (sym same)
          ∙ (stays (cause ∷ []) ∙ ap (made s session) (change_same (Refused (cause ∷ [])) v Nothing c is));
    }

commit_stays : (s : State) (session : ℕ) (confirmed : Bool) (timeout : ℕ) (persist persist_id : Option (List ℕ)) (causes : List Cause) →
    answered s session (Ok (AsksCommit confirmed timeout persist persist_id)) (Refused causes) ≡ s
commit_stays s session true timeout persist persist_id causes = refl
commit_stays s session false timeout persist persist_id causes = refl

as_done : (why : Option Cause) (change : Change) → done_unless why change ≡ unless_refused why (Answer Done change)
as_done None change = refl
as_done (Some cause) change = refl

asked_settles : (s : State) (session : ℕ) (asked : Asked) (v : Verdict) (c : Change) →
    asked_course s session asked ≡ Answer v c → IsSettled s session (Ok asked) v c
unfolding asked_course get_course get_config_course edit_config_course edit_course copy_config_course commit_asked_course discard_course lock_course unlock_course kill_course cancel_course partial_unlock_course validate_course made
asked_settles s session (Get filter) v c is =
    plain s session (Ok (Get filter)) _ v c (λ failed. refl) refl (λ w. refl) is
asked_settles s session (GetConfig source filter) v c is =
    plain s session (Ok (GetConfig source filter)) _ v c (λ failed. refl) refl (λ w. refl) is
asked_settles s session (EditConfig target default_operation test on_error config) v c is =
    setting s session (Ok (EditConfig target default_operation test on_error config)) _ v
    (rows_set s.schema test (edits_made s session target default_operation on_error config)) c
    (λ failed. refl) refl (λ w. refl) is
asked_settles s session (CopyConfig target source) v c is =
    setting s session (Ok (CopyConfig target source)) _ v (rows_of_ok (copied s session target source)) c
    (λ failed. refl) refl (λ w. refl) is
asked_settles s session (DeleteConfig target) v c is =
    plain s session (Ok (DeleteConfig target)) _ v c (λ failed. refl) refl (λ w. refl) is
asked_settles s session CloseSession v c is =
    doing s session (Ok CloseSession) v (Over session) c (λ failed. refl) refl refl is
asked_settles s session DiscardChanges v c is =
    checking s session (Ok DiscardChanges) (in_use s session CandidateStore) v Discard c (λ failed. refl) refl (λ free. refl)
    (λ causes. refl) is
asked_settles s session (AsksCommit false timeout persist persist_id) v c is =
    refused_commit s session (Ok (AsksCommit false timeout persist persist_id)) (commit_refused s session persist_id) kept_unless v c
    (λ failed. ap (λ (why : Option Cause). checked why (kept_unless failed)) (commit_checked s session persist_id))
    (commit_stays s session false timeout persist persist_id) is
asked_settles s session (AsksCommit true timeout persist persist_id) v c is =
    let change : Change = Confirm (candidate_in_force s) timeout persist in
    checking s session (Ok (AsksCommit true timeout persist persist_id)) (commit_refused s session persist_id) v change c
    (λ failed. ap (λ (why : Option Cause). checked why Done) (commit_checked s session persist_id)) refl
    (λ free. confirmed_is s session timeout persist) (commit_stays s session true timeout persist persist_id)
    (as_done (commit_refused s session persist_id) change ∙ is)
asked_settles s session (Validate source) v c is =
    plain s session (Ok (Validate source)) _ v c (λ failed. refl) refl (λ w. refl) is
asked_settles s session (Lock target) v c is =
    checking s session (Ok (Lock target)) (lock_refused s session target) v (Grant target) c
    (λ failed. ap (λ (why : Option Cause). checked why Done) (lock_checked s session target)) refl
    (λ free. lock_granted s session target (lock_checked s session target ∙ free)) (λ causes. refl) is
asked_settles s session (Unlock target) v c is =
    checking s session (Ok (Unlock target)) (unlock_refused s session target) v (Release target) c
    (λ failed. ap (λ (why : Option Cause). checked why Done) (unlock_checked s session target)) refl
    (λ free. lock_released s session target (unlock_checked s session target ∙ free)) (λ causes. refl) is
asked_settles s session (KillSession number) v c is =
    checking s session (Ok (KillSession number)) (kill_refusal s session number) v (Over number) c (λ failed. refl) refl
    (λ free. refl) (λ causes. refl) is
asked_settles s session (CancelCommit persist_id) v c is =
    checking s session (Ok (CancelCommit persist_id)) (cancel_refused s session persist_id) v Revert c
    (λ failed. ap (λ (why : Option Cause). checked why Done) (cancel_checked s session persist_id)) refl (λ free. refl)
    (λ causes. refl) is
asked_settles s session (PartialLock selects) v c is =
    locking_nodes s session (Ok (PartialLock selects)) (partial_lock_refusal s session selects) v (s.last_lock + 1)
    (nodes_selected s session selects) c (λ failed. refl) refl (nodes_granted s session selects) (λ causes. refl)
    (partial_lock_is s session selects ∙ is)
asked_settles s session (PartialUnlock lock) v c is =
    checking s session (Ok (PartialUnlock lock)) (partial_unlock_refusal s session lock) v (ReleaseNodes lock) c (λ failed. refl) refl
    (nodes_released s session lock) (λ causes. refl) is

settles : (s : State) (session : ℕ) (asked : Result Asked Cause) (v : Verdict) (c : Change) →
    course_on s session asked ≡ Answer v c → IsSettled s session asked v c
settles s session (Ok asked) v c is = asked_settles s session asked v c is
settles s session (Err cause) v c is =
    plain s session (Err cause) (Refused (cause ∷ [])) v c (λ failed. refl) refl (λ w. refl) is

-- a request has that verdict and changes that, whatever the disk does
pub record IsAnswer (s : State) (session : ℕ) (request : Request) (v : Verdict) (change : Change) : Type 0 where
  pub verdict_is : (failed : Bool) → verdict s session request failed ≡ v
  pub disk : (appends_record request.asked && is_done v) ≡ false
  pub state_is : answered_unless (operation_refused s session request.operation) s session request.asked v ≡ made s session change

-- where an operation is refused before its parameters are looked at, and where it is not
by_refusal : (s : State) (session : ℕ) (request : Request) (v : Verdict) (c : Change) (why : Option Cause) →
    operation_refused s session request.operation ≡ why →
    unless_refused why (course_on s session request.asked) ≡ Answer v c → IsAnswer s session request v c
by_refusal s session request v c None free is =
    let settled = settles s session request.asked v c is in
    record {
      verdict_is = λ failed.
          ap (λ (why : Option Cause). checked why (verdict_on s session request.asked failed)) free ∙ settled.verdict_is failed;
      disk = settled.disk;
      state_is = ap (λ (why : Option Cause). answered_unless why s session request.asked v) free ∙ settled.state_is;
    }
by_refusal s session request v c (Some cause) refused is =
    let same = verdict_same (Refused (cause ∷ [])) v Nothing c is in
    record {
      verdict_is = λ failed.
          ap (λ (why : Option Cause). checked why (verdict_on s session request.asked failed)) refused ∙ same;
      disk = ap (λ (w : Verdict). appends_record request.asked && is_done w) (sym same) ∙ and_false (appends_record request.asked);
      state_is = ap (λ (why : Option Cause). answered_unless why s session request.asked v) refused
          ∙ changes_nothing s session c (change_same (Refused (cause ∷ [])) v Nothing c is);
    }

pub answers : (s : State) (session : ℕ) (request : Request) (v : Verdict) (c : Change) → course s session request ≡ Answer v c →
    IsAnswer s session request v c
unfolding course
answers s session request v c is =
    by_refusal s session request v c (operation_refused s session request.operation) refl is

-- a request that nothing but the disk makes fail
pub record IsCommit (s : State) (session : ℕ) (request : Request) : Type 0 where
  pub verdict_is : (failed : Bool) → verdict s session request failed ≡ kept_unless failed
  pub appends : appends_record request.asked ≡ true
  pub done : answered_unless (operation_refused s session request.operation) s session request.asked Done ≡ committed s None
  pub failed :
      answered_unless (operation_refused s session request.operation) s session request.asked (refused_for DiskFault []) ≡ s
  pub valid : IsValid s.schema (candidate_in_force s)
  pub small : record_size (candidate_in_force s) ≤ body_limit

record IsCommitted (s : State) (session : ℕ) (asked : Result Asked Cause) : Type 0 where
  verdict_is : (failed : Bool) → verdict_on s session asked failed ≡ kept_unless failed
  appends : appends_record asked ≡ true
  done : answered s session asked Done ≡ committed s None
  failed : answered s session asked (refused_for DiskFault []) ≡ s
  valid : IsValid s.schema (candidate_in_force s)
  small : record_size (candidate_in_force s) ≤ body_limit

no_commit : (x : Verdict) (y : Change) → Answer x y ≡ Commit → ⊥
no_commit x y is = cc

none_commits : (why : Option Cause) (change : Change) → done_unless why change ≡ Commit → ⊥
none_commits None change is = cc
none_commits (Some cause) change is = cc

none_locks : (why : Option Cause) (lock : ℕ) (nodes : List Path) → locking why lock nodes ≡ Commit → ⊥
none_locks None lock nodes is = cc
none_locks (Some cause) lock nodes is = cc

-- a commit that is not refused, and not confirmed
committed_by : (s : State) (session : ℕ) (timeout : ℕ) (persist persist_id : Option (List ℕ)) (why : Option Cause) →
    commit_refusal s session persist_id ≡ why → unless_refused why Commit ≡ Commit →
    IsCommitted s session (Ok (AsksCommit false timeout persist persist_id))
committed_by s session timeout persist persist_id None why_is is = record {
  verdict_is = λ failed. ap (λ (why : Option Cause). checked why (kept_unless failed)) why_is;
  appends = refl;
  done = refl;
  failed = refl;
  valid = commit_is_valid s session persist_id why_is;
  small = commit_is_small s session persist_id why_is;
}
committed_by s session timeout persist persist_id (Some cause) why_is is = absurd (no_commit (Refused (cause ∷ [])) Nothing is)

asked_commits : (s : State) (session : ℕ) (asked : Asked) → asked_course s session asked ≡ Commit → IsCommitted s session (Ok asked)
unfolding asked_course get_course get_config_course edit_config_course edit_course copy_config_course commit_asked_course discard_course lock_course unlock_course kill_course cancel_course partial_unlock_course validate_course
asked_commits s session (AsksCommit false timeout persist persist_id) is =
    committed_by s session timeout persist persist_id (commit_refused s session persist_id) (commit_checked s session persist_id) is
asked_commits s session (AsksCommit true timeout persist persist_id) is =
    absurd (none_commits (commit_refused s session persist_id) (Confirm (candidate_in_force s) timeout persist)
    (as_done (commit_refused s session persist_id) (Confirm (candidate_in_force s) timeout persist) ∙ is))
asked_commits s session (Get filter) is = absurd (no_commit _ _ is)
asked_commits s session (GetConfig source filter) is = absurd (no_commit _ _ is)
asked_commits s session (EditConfig target default_operation test on_error config) is = absurd (no_commit _ _ is)
asked_commits s session (CopyConfig target source) is = absurd (no_commit _ _ is)
asked_commits s session (DeleteConfig target) is = absurd (no_commit _ _ is)
asked_commits s session CloseSession is = absurd (no_commit _ _ is)
asked_commits s session DiscardChanges is = absurd (none_commits (in_use s session CandidateStore) Discard is)
asked_commits s session (Validate source) is = absurd (no_commit _ _ is)
asked_commits s session (Lock target) is = absurd (none_commits (lock_refused s session target) (Grant target) is)
asked_commits s session (Unlock target) is = absurd (none_commits (unlock_refused s session target) (Release target) is)
asked_commits s session (KillSession number) is = absurd (none_commits (kill_refusal s session number) (Over number) is)
asked_commits s session (CancelCommit persist_id) is = absurd (none_commits (cancel_refused s session persist_id) Revert is)
asked_commits s session (PartialLock selects) is =
    absurd (none_locks (partial_lock_refusal s session selects) (s.last_lock + 1) (nodes_selected s session selects)
    (partial_lock_is s session selects ∙ is))
asked_commits s session (PartialUnlock lock) is = absurd (none_commits (partial_unlock_refusal s session lock) (ReleaseNodes lock) is)

on_commits : (s : State) (session : ℕ) (asked : Result Asked Cause) → course_on s session asked ≡ Commit → IsCommitted s session asked
on_commits s session (Ok asked) is = asked_commits s session asked is
on_commits s session (Err cause) is = absurd (no_commit _ _ is)

commits_by : (s : State) (session : ℕ) (request : Request) (why : Option Cause) →
    operation_refused s session request.operation ≡ why →
    unless_refused why (course_on s session request.asked) ≡ Commit → IsCommit s session request
commits_by s session request (Some cause) refused is = absurd (no_commit _ _ is)
commits_by s session request None free is =
    let made = on_commits s session request.asked is in
    record {
      verdict_is = λ failed.
          ap (λ (why : Option Cause). checked why (verdict_on s session request.asked failed)) free ∙ made.verdict_is failed;
      appends = made.appends;
      done = ap (λ (why : Option Cause). answered_unless why s session request.asked Done) free ∙ made.done;
      failed = ap (λ (why : Option Cause). answered_unless why s session request.asked (refused_for DiskFault [])) free
          ∙ made.failed;
      valid = made.valid;
      small = made.small;
    }

pub commits : (s : State) (session : ℕ) (request : Request) → course s session request ≡ Commit → IsCommit s session request
unfolding course
commits s session request is = commits_by s session request (operation_refused s session request.operation) refl is
