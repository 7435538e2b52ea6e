-- A verdict that refuses has a cause.
use Rattle.std.proofs.Common.{◌≢◌, ◌++◌, ◌+◌, ◌&&◌, ℕ, Bool, true, false, not, List, [], ◌∷◌, Option, Some, None, Result, Ok, Err}
use Rattle.nc_names.specs.declared.path.Row.{Row}
use Rattle.nc_schema.specs.Tables.{Tables}
use Rattle.nc_protocol.specs.declared.asked.Asked.{Asked}
use Rattle.nc_protocol.specs.declared.asked.Asked.TheVariants.{Get, GetConfig, EditConfig, CopyConfig, DeleteConfig, Lock, Unlock, CloseSession, KillSession, Commit, DiscardChanges, CancelCommit, Validate, PartialLock, PartialUnlock}
use Rattle.nc_protocol.specs.declared.asked.TestOption.{TestOption}
use Rattle.nc_protocol.specs.declared.datastore.Datastore.TheVariants.{Candidate}
use Rattle.nc_protocol.specs.declared.request.Cause.{Cause}
use Rattle.nc_protocol.specs.declared.request.Request.{Request}
use Rattle.nc_protocol.specs.declared.verdict.Verdict.{Verdict}
use Rattle.nc_protocol.specs.declared.verdict.Verdict.TheVariants.{Done, Selected, Locked, Refused}
use Rattle.nc_protocol.specs.Applied.{Applied}
use Rattle.nc_protocol.specs.Refusals.{checked, done_unless, violation_in}
use Rattle.nc_model.specs.State.{State}
use Rattle.nc_model.specs.Verdict.{asked_verdict, cancel_refusal, causes_of_test, commit_refusal, copied, done_where, edit_verdict, edits_made, in_use, is_source, kept_unless, kill_refusal, lock_refusal, nodes_selected, operation_refused, partial_lock_refusal, partial_unlock_refusal, rows_to_validate, shown, unlock_refusal, unsupported, validated, verdict, verdict_on}

abbrev HasCause : Verdict → Type 0
HasCause decided = decided ≢ Refused []

checked_has : (found : Option Cause) (decided : Verdict) → HasCause decided → HasCause (checked found decided)
checked_has None decided has e = has e
checked_has (Some cause) decided has e = cc

unless_has : (causes : List Cause) → HasCause (done_unless causes)
unless_has [] e = cc
unless_has (cause ∷ causes) e = cc

edit_has : (tables : Tables) (test : TestOption) (made : Result Applied Cause) → HasCause (edit_verdict tables test made)
edit_has tables test (Err cause) e = cc
edit_has tables test (Ok made) e = unless_has (made.causes ++ causes_of_test tables test made.rows) e

done_has : (result : Result (List Row) Cause) → HasCause (done_where result)
done_has (Ok rows) e = cc
done_has (Err cause) e = cc

kept_has : (failed : Bool) → HasCause (kept_unless failed)
kept_has true e = cc
kept_has false e = cc

validated_has : (tables : Tables) (result : Result (List Row) Cause) → HasCause (validated tables result)
validated_has tables (Err cause) e = cc
validated_has tables (Ok rows) e = checked_has (violation_in tables rows) Done (λ x. cc) e

asked_has : (s : State) (n : ℕ) (asked : Asked) (failed : Bool) → HasCause (asked_verdict s n asked failed)
asked_has s n (Get filter) failed e = cc
asked_has s n (GetConfig source filter) failed e = checked_has (unsupported is_source source) (Selected (shown s n source filter)) (λ x. cc) e
asked_has s n (EditConfig target default_operation test on_error config) failed e = edit_has s.schema test (edits_made s n target default_operation on_error config) e
asked_has s n (CopyConfig target source) failed e = done_has (copied s n target source) e
asked_has s n (DeleteConfig target) failed e = cc
asked_has s n (Lock target) failed e = checked_has (lock_refusal s n target) Done (λ x. cc) e
asked_has s n (Unlock target) failed e = checked_has (unlock_refusal s n target) Done (λ x. cc) e
asked_has s n CloseSession failed e = cc
asked_has s n (KillSession number) failed e = checked_has (kill_refusal s n number) Done (λ x. cc) e
asked_has s n (Commit confirmed timeout persist persist_id) failed e =
    checked_has (commit_refusal s n persist_id) (kept_unless (not confirmed && failed)) (kept_has (not confirmed && failed)) e
asked_has s n DiscardChanges failed e = checked_has (in_use s n Candidate) Done (λ x. cc) e
asked_has s n (CancelCommit persist_id) failed e = checked_has (cancel_refusal s n persist_id) Done (λ x. cc) e
asked_has s n (Validate source) failed e = validated_has s.schema (rows_to_validate s source) e
asked_has s n (PartialLock selects) failed e =
    checked_has (partial_lock_refusal s n selects) (Locked (s.last_lock + 1) (nodes_selected s n selects)) (λ x. cc) e
asked_has s n (PartialUnlock id) failed e = checked_has (partial_unlock_refusal s n id) Done (λ x. cc) e

on_has : (s : State) (n : ℕ) (asked : Result Asked Cause) (failed : Bool) → HasCause (verdict_on s n asked failed)
on_has s n (Err cause) failed e = cc
on_has s n (Ok asked) failed e = asked_has s n asked failed e

pub verdict_has_cause : (s : State) (n : ℕ) (request : Request) (failed : Bool) → verdict s n request failed ≢ Refused []
verdict_has_cause s n request failed = checked_has (operation_refused s n request.operation) (verdict_on s n request.asked failed) (on_has s n request.asked failed)
