-- No entry changes the schema.
use Rattle.std.proofs.Common.{◌≡◌, ◌==◌, ℕ, Bool, not, true, false, List, [], ◌∷◌, Option, None, Some, Result, Ok, Err, refl, ap, ◌∙◌}
use Rattle.std.specs.Prelude.{if◌then◌else◌, is_some}
use Rattle.nc_names.specs.Same.{is_same_rows}
use Rattle.nc_names.specs.declared.path.Row.{Row}
use Rattle.nc_machine.specs.Serving.{GoesOn, Serving}
use Rattle.nc_machine.specs.Lasting.{Lasting}
use Rattle.nc_protocol.specs.declared.asked.Asked.{Asked}
use Rattle.nc_protocol.specs.declared.asked.Asked.TheVariants.{EditConfig, CopyConfig, Lock, Unlock, CloseSession, KillSession, Commit, DiscardChanges, CancelCommit, PartialLock, PartialUnlock}
use Rattle.nc_protocol.specs.declared.request.Cause.{Cause}
use Rattle.nc_protocol.specs.declared.verdict.Verdict.{Verdict}
use Rattle.nc_protocol.specs.declared.verdict.Verdict.TheVariants.{Done, Locked}
use Rattle.nc_model.specs.declared.entry.Entry.{Entry}
use Rattle.nc_model.specs.declared.event.Event.{Event}
use Rattle.nc_model.specs.declared.event.Event.TheVariants.{Start, Request as Requested, End, Reading}
use Rattle.nc_model.specs.declared.event.Outcome.{Outcome}
use Rattle.nc_model.specs.declared.event.Outcome.TheVariants.{Started, Answered, Ended}
use Rattle.nc_model.specs.History.{after}
use Rattle.nc_model.specs.State.{Pending, State, candidate_in_force, expired, is_due, left_by_end, read_at, reverted, session_ended}
use Rattle.nc_model.specs.Step.{answered, answered_unless, changed, changed_by, next, rows_of_ok, with_candidate}
use Rattle.nc_model.specs.Verdict.{copied, edits_made, operation_refused, rows_set}

-- ---- the clock
reverted_same : (s : State) (due : Bool) → (if due then reverted s else s).schema ≡ s.schema
reverted_same s true = refl
reverted_same s false = refl

expired_same : (s : State) (at : ℕ) → (expired s at).schema ≡ s.schema
expired_same s at = reverted_same (read_at s at) (is_due (read_at s at))

-- ---- the end of a session
left_same : (s : State) (n : ℕ) (pending : Option Pending) → (left_by_end s n pending).schema ≡ s.schema
left_same s n None = refl
left_same s n (Some pending) = by (pending.session == n) (is_some pending.token)
  where
    by : (own persists : Bool) →
        (if not own then s else (if persists then record s { pending = Some (record pending { session = 0 }) } else reverted s)).schema ≡ s.schema
    by false persists = refl
    by true true = refl
    by true false = refl

end_same : (s : State) (n : ℕ) → (session_ended s n).schema ≡ s.schema
end_same s n = left_same _ n s.pending

-- ---- a request
candidate_same : (s : State) (rows : Option (List Row)) → (with_candidate s rows).schema ≡ s.schema
candidate_same s None = refl
candidate_same s (Some rows) = by (is_same_rows rows (candidate_in_force s))
  where
    by : (same : Bool) → (if same then s else record s { candidate = Some rows }).schema ≡ s.schema
    by true = refl
    by false = refl

by_asked : (s : State) (session : ℕ) (asked : Asked) (verdict : Verdict) → (changed_by s session asked verdict).schema ≡ s.schema
by_asked s session (EditConfig target default_operation test on_error config) verdict =
    candidate_same s (rows_set s.schema test (edits_made s session target default_operation on_error config))
by_asked s session (CopyConfig target source) verdict = candidate_same s (rows_of_ok (copied s session target source))
by_asked s session (Lock target) Done = refl
by_asked s session (Unlock target) Done = refl
by_asked s session CloseSession Done = end_same s session
by_asked s session (KillSession number) Done = end_same s number
by_asked s session (Commit true timeout persist persist_id) Done = refl
by_asked s session (Commit false timeout persist persist_id) Done = refl
by_asked s session (Commit true timeout persist persist_id) verdict = refl
by_asked s session (Commit false timeout persist persist_id) verdict = refl
by_asked s session DiscardChanges Done = refl
by_asked s session (CancelCommit persist_id) Done = refl
by_asked s session (PartialLock selects) (Locked lock nodes) = refl
by_asked s session (PartialUnlock lock) Done = refl
by_asked s session asked verdict = refl

by_request : (s : State) (session : ℕ) (asked : Result Asked Cause) (verdict : Verdict)
    → (answered s session asked verdict).schema ≡ s.schema
by_request s session (Err cause) verdict = refl
by_request s session (Ok asked) verdict = by_asked s session asked verdict

unless : (refused : Option Cause) (s : State) (session : ℕ) (asked : Result Asked Cause) (verdict : Verdict)
    → (answered_unless refused s session asked verdict).schema ≡ s.schema
unless (Some cause) s session asked verdict = refl
unless None s session asked verdict = by_request s session asked verdict

-- ---- an entry
by_event : (s : State) (event : Event) (outcome : Outcome) → (changed s event outcome).schema ≡ s.schema
by_event s (Start peer) (Started number) = refl
by_event s (Start peer) outcome = refl
by_event s (End session) Ended = end_same s session
by_event s (End session) outcome = refl
by_event s (Requested session request) (Answered verdict reply) =
    unless (operation_refused s session request.operation) s session request.asked verdict
by_event s (Requested session request) outcome = refl
by_event s Reading outcome = refl

next_schema : (s : State) (e : Entry) → (next s e).schema ≡ s.schema
next_schema s e = by_event (expired s e.at) e.event e.outcome ∙ expired_same s e.at

after_schema : (s : State) (entries : List Entry) → (after s entries).schema ≡ s.schema
after_schema s [] = refl
after_schema s (e ∷ entries) = after_schema (next s e) entries ∙ next_schema s e

pub same_schema : {K : Type 0} {words : Lasting K} (old new : Serving K) (entries : List Entry)
    → GoesOn words old new entries
    → new.state.schema ≡ old.state.schema
same_schema old new entries made = ap (λ s. s.schema) made.state_is ∙ after_schema old.state entries
