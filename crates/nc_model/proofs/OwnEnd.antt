-- Of its own requests a session is ended by its close-session alone: it does not kill itself (RFC 6241 7.8, 7.9).
use Rattle.std.proofs.Common.{◌≡◌, ℕ, Bool, true, false, refl, sym, subst, ◌∙◌, Option, Some, None, Result, Ok, Err}
use Rattle.std.specs.Prelude.{if◌then◌else◌}
use Rattle.std.proofs.lemmas.Bool.{eq-eqb}
use Rattle.nc_message.specs.declared.tree.Tree.{Tree}
use Rattle.nc_protocol.specs.declared.asked.Asked.{Asked}
use Rattle.nc_protocol.specs.declared.asked.Asked.TheVariants.{Get, GetConfig, EditConfig, CopyConfig, DeleteConfig, Lock, Unlock, CloseSession, KillSession, Commit, DiscardChanges, CancelCommit, Validate, PartialLock, PartialUnlock}
use Rattle.nc_protocol.specs.declared.request.Cause.{Cause}
use Rattle.nc_protocol.specs.declared.request.Request.{Request}
use Rattle.nc_protocol.specs.declared.verdict.Verdict.{Verdict}
use Rattle.nc_protocol.specs.Refusals.{checked}
use Rattle.nc_protocol.specs.Reply.{reply_of}
use Rattle.nc_model.specs.Access.{sees_of}
use Rattle.nc_model.specs.Laws.{EndsSession, asks_close, ended_by}
use Rattle.nc_model.specs.State.{State, expired, is_live}
use Rattle.nc_model.specs.Step.{Fits, has_failed, is_done, outcome_of}
use Rattle.nc_model.specs.Verdict.{asked_verdict, operation_refused, verdict, verdict_on}
use Rattle.nc_model.specs.declared.entry.Entry.{Entry}
use Rattle.nc_model.specs.declared.event.Event.{Event}
use Rattle.nc_model.specs.declared.event.Event.TheVariants.{Request as Requested}
use Rattle.nc_model.specs.declared.event.Outcome.{Outcome}
use Rattle.nc_model.specs.declared.event.Outcome.TheVariants.{Answered, NotLive}

not_itself : (s : State) (n : ℕ) (failed : Bool) → is_done (asked_verdict s n (KillSession n) failed) ≡ false
not_itself s n failed = rw (eq-eqb n n refl) refl

not_killed : (s : State) (n number : ℕ) (failed : Bool) → number ≡ n → is_done (asked_verdict s n (KillSession number) failed) ≡ true → false ≡ true
not_killed s n number failed is done =
    let P : ℕ → Type 0 = λ k. is_done (asked_verdict s n (KillSession k) failed) ≡ true in
    sym (not_itself s n failed) ∙ subst P is done

some_same : (number n : ℕ) → Some number ≡ Some n → number ≡ n
some_same number n is = cc

closing : (s : State) (n : ℕ) (found : Result Asked Cause) (failed : Bool) → ended_by n found ≡ Some n → is_done (verdict_on s n found failed) ≡ true → asks_close found ≡ true
closing s n (Ok CloseSession) failed ends done = refl
closing s n (Ok (KillSession number)) failed ends done = not_killed s n number failed (some_same number n ends) done
closing s n (Err cause) failed ends done = cc
closing s n (Ok (Get filter)) failed ends done = cc
closing s n (Ok (GetConfig source filter)) failed ends done = cc
closing s n (Ok (EditConfig target default_operation test on_error config)) failed ends done = cc
closing s n (Ok (CopyConfig target source)) failed ends done = cc
closing s n (Ok (DeleteConfig target)) failed ends done = cc
closing s n (Ok (Lock target)) failed ends done = cc
closing s n (Ok (Unlock target)) failed ends done = cc
closing s n (Ok (Commit confirmed timeout persist persist_id)) failed ends done = cc
closing s n (Ok DiscardChanges) failed ends done = cc
closing s n (Ok (CancelCommit persist_id)) failed ends done = cc
closing s n (Ok (Validate source)) failed ends done = cc
closing s n (Ok (PartialLock selects)) failed ends done = cc
closing s n (Ok (PartialUnlock id)) failed ends done = cc

checked_done : (refused : Option Cause) (decided : Verdict) → is_done (checked refused decided) ≡ true → is_done decided ≡ true
checked_done None decided is = is
checked_done (Some cause) decided is = cc

answered_done : (s : State) (n : ℕ) (request : Request) (failed : Bool) → ended_by n request.asked ≡ Some n → is_done (verdict s n request failed) ≡ true → asks_close request.asked ≡ true
answered_done s n request failed ends done =
    closing s n request.asked failed ends (checked_done (operation_refused s n request.operation) (verdict_on s n request.asked failed) done)

pub closes_itself : (s : State) (e : Entry) (n : ℕ) (request : Request) → Fits s e → e.event ≡ Requested n request → EndsSession n (Requested n request) e.outcome → asks_close request.asked ≡ true
closes_itself s e n request fits is ends =
    let t = expired s e.at in
    let failed = has_failed e.outcome in
    let decided = verdict t n request failed in
    let P : Event → Type 0 = λ event. e.outcome ≡ outcome_of t event failed in
    let Q : Outcome → Type 0 = λ outcome. EndsSession n (Requested n request) outcome in
    by (is_live t n) decided (reply_of t.schema (sees_of t n) request decided) (answered_done t n request failed) (subst Q (subst P is fits.outcome) ends)
  where
    by : (live : Bool) (decided : Verdict) (reply : Tree) → (ended_by n request.asked ≡ Some n → is_done decided ≡ true → asks_close request.asked ≡ true)
        → EndsSession n (Requested n request) (if live then Answered decided reply else NotLive) → asks_close request.asked ≡ true
    by true decided reply closes ends = closes ends.0 ends.1
    by false decided reply closes ends = absurd ends
