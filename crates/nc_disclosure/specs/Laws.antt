-- What follows from the definitions of the server of what a session learns by its replies (RFC 8341 3.2.4, 3.4.3).
use Rattle.std.specs.Prelude.{◌≡◌, ◌⊎◌, ℕ, Bool, true, false, List, Option, Some, None, Ok}
use Rattle.nc_names.specs.declared.path.Path.{Path}
use Rattle.nc_names.specs.declared.path.Row.{Row}
use Rattle.nc_message.specs.declared.tree.Tree.{Tree}
use Rattle.nc_schema.specs.Tables.{Tables}
use Rattle.nc_protocol.specs.Proper.{IsProper}
use Rattle.nc_protocol.specs.Reply.{named_by, reply_of}
use Rattle.nc_protocol.specs.RequestLaws.{CausesAre}
use Rattle.nc_protocol.specs.declared.asked.Asked.{Asked}
use Rattle.nc_protocol.specs.declared.request.Request.{Request}
use Rattle.nc_protocol.specs.declared.verdict.Verdict.{Verdict}
use Rattle.nc_protocol.specs.declared.verdict.Verdict.TheVariants.{Selected}
use Rattle.nc_model.specs.Access.{sees_of}
use Rattle.nc_model.specs.Alike.{AreAlike, has_unseen, is_reading}
use Rattle.nc_model.specs.State.{State, expired}
use Rattle.nc_model.specs.Step.{Fits}
use Rattle.nc_model.specs.Verdict.{is_source, operation_refused, verdict}
use Rattle.nc_model.specs.declared.entry.Entry.{Entry}
use Rattle.nc_model.specs.declared.event.Event.TheVariants.{Request as Requested}
use Rattle.nc_model.specs.declared.event.Outcome.{Outcome}
use Rattle.nc_model.specs.declared.event.Outcome.TheVariants.{Answered}
use Rattle.nc_disclosure.specs.Names.{NamesNoData}
use Rattle.nc_disclosure.specs.Shown.{AreSeenIn, Look, look_of, shown_to}
use Rattle.nc_disclosure.specs.Told.{IsTold, verdict_told}

-- a get or get-config, where the session may ask for it and the datastore is offered, shows the rows that its filter
-- keeps of those that the session sees; no other verdict has rows, and each of these is a row of that datastore, which
-- the session sees (RFC 6241 6, 7.1, 7.7; RFC 8341 3.2.4)
pub record ReadsShowSeen : Type 0 where
  pub shown :
      (s : State) (session : ℕ) (request : Request) (failed : Bool) (asked : Asked) (look : Look) →
      request.asked ≡ Ok asked → look_of asked ≡ Some look → is_source look.store ≡ true →
      operation_refused s session request.operation ≡ None →
      verdict s session request failed ≡ Selected (shown_to s session look)
  pub alone :
      (s : State) (session : ℕ) (request : Request) (failed : Bool) (rows : List Row) →
      verdict s session request failed ≡ Selected rows →
      (asked : Asked) × (look : Look) × (request.asked ≡ Ok asked) × (look_of asked ≡ Some look)
      × (rows ≡ shown_to s session look) × AreSeenIn s session look.store rows

-- a reply is that to the verdict without what the session does not see, and so verdicts that differ in nothing else
-- give one reply: what is not seen has no influence on it
pub record RepliesLeaveOut : Type 0 where
  pub told :
      (tables : Tables) (sees : Path → Bool) (request : Request) (decided : Verdict) →
      let named = named_by tables request.asked in
      reply_of tables sees request decided ≡ reply_of tables sees request (verdict_told sees named decided)
  pub same :
      (tables : Tables) (sees : Path → Bool) (request : Request) (decided other : Verdict) →
      let named = named_by tables request.asked in
      verdict_told sees named decided ≡ verdict_told sees named other →
      reply_of tables sees request decided ≡ reply_of tables sees request other

-- what is left of the verdict on a proper request: each row and each locked node is seen, each path of a cause is seen
-- or named by the request, and each rule that a denial names is seen (RFC 8341 3.2.4, 3.4.3; RFC 5717 2.4.1)
abbrev pub VerdictsTellSeen : Type 0
VerdictsTellSeen =
    (s : State) (session : ℕ) (request : Request) (failed : Bool) → IsProper request →
    let sees = sees_of s session in
    let named = named_by s.schema request.asked in
    IsTold sees named (verdict_told sees named (verdict s session request failed))

-- what else a refusal names comes of the request and the schema, or is a word, the id of a session or of a lock, or the
-- name of a data node: no value of the data (RFC 6241 4.3)
abbrev pub RefusalsNameNoData : Type 0
RefusalsNameNoData =
    (s : State) (session : ℕ) (request : Request) (failed : Bool) →
    CausesAre (NamesNoData s request.asked) (verdict s session request failed)

-- what comes of a request tells nothing of what its session does not see: its reply is one to a verdict that is told,
-- and what a refusal names besides is nothing of the data
abbrev pub IsAnswerTold : State → ℕ → Request → Outcome → Type 0
IsAnswerTold s session request (Answered decided reply) =
    let sees = sees_of s session in
    let told = verdict_told sees (named_by s.schema request.asked) decided in
    (reply ≡ reply_of s.schema sees request told) × IsTold sees (named_by s.schema request.asked) told
    × CausesAre (NamesNoData s request.asked) decided
IsAnswerTold s session request outcome = Unit {0}

-- the reply, if there is one
abbrev pub reply_in : Outcome → Option Tree
reply_in (Answered decided reply) = Some reply
reply_in outcome = None

-- the verdict has a cause that may come of what the session does not see
abbrev pub is_unseen_in : Outcome → Bool
is_unseen_in (Answered decided reply) = has_unseen decided
is_unseen_in outcome = false

-- two entries of a history, or of two, are one request of a session, where it may learn the same of both states
pub record AreAlikeEntries (s t : State) (e other : Entry) (session : ℕ) (request : Request) : Type 0 where
  pub fits : Fits s e
  pub fits_other : Fits t other
  pub event : e.event ≡ Requested session request
  pub event_other : other.event ≡ Requested session request
  pub alike : AreAlike (expired s e.at) (expired t other.at) session

-- so it is with each entry that fits a state, and so with each that the server enters: its reply tells what its session
-- sees; two that are alike have one reply, or one of them has such a cause; and two that read have one reply
pub record EntriesDiscloseLeast : Type 0 where
  pub told :
      (s : State) (e : Entry) (session : ℕ) (request : Request) → Fits s e → e.event ≡ Requested session request →
      IsAnswerTold (expired s e.at) session request e.outcome
  pub requests :
      (s t : State) (e other : Entry) (session : ℕ) (request : Request) → AreAlikeEntries s t e other session request →
      (reply_in e.outcome ≡ reply_in other.outcome)
      ⊎ ((is_unseen_in e.outcome ≡ true) ⊎ (is_unseen_in other.outcome ≡ true))
  pub reads :
      (s t : State) (e other : Entry) (session : ℕ) (request : Request) → AreAlikeEntries s t e other session request →
      is_reading request.operation ≡ true → reply_in e.outcome ≡ reply_in other.outcome
