-- States that are alike for a session: what it may learn of them is the same (RFC 8341 3.2.4, 3.4.3).
use Rattle.std.specs.Prelude.{◌≡◌, ◌⊎◌, ℕ, Bool, true, false, List, map, Option, Some, is_some, option_map}
use Rattle.std.specs.List.{list_any}
use Rattle.nc_names.specs.declared.cause.CauseKind.{CauseKind}
use Rattle.nc_names.specs.declared.cause.CauseKind.TheVariants.{LockPartial, InUsePartial, Limit, Exists, Absent, MissingInstance, DataDenied, Mandatory, MandatoryChoice, TooFew, TooMany, NotUnique, DeadLeafref, DeadInstance, DiskFault}
use Rattle.nc_message.specs.declared.tree.Tree.{Tree}
use Rattle.nc_names.specs.declared.path.Path.{Path}
use Rattle.nc_names.specs.declared.path.Right.{Right}
use Rattle.nc_names.specs.declared.path.Right.TheVariants.{Exec}
use Rattle.nc_protocol.specs.Edited.{decision_names}
use Rattle.nc_protocol.specs.Proper.{IsProper}
use Rattle.nc_protocol.specs.Reply.{reply_of, seen_names}
use Rattle.nc_protocol.specs.declared.access.Decision.{Decision}
use Rattle.nc_protocol.specs.declared.asked.Operation.{Operation}
use Rattle.nc_protocol.specs.declared.asked.Operation.TheVariants.{Get, GetConfig}
use Rattle.nc_protocol.specs.declared.request.Request.{Request}
use Rattle.nc_protocol.specs.declared.verdict.Verdict.{Verdict}
use Rattle.nc_protocol.specs.declared.verdict.Verdict.TheVariants.{Refused}
use Rattle.nc_model.specs.Access.{exec_of, rights_of, sees_of, visible}
use Rattle.nc_model.specs.State.{State, IsGood, NodeLock, Pending, candidate_in_force, locks_of}
use Rattle.nc_model.specs.Verdict.{verdict}

-- what a reply tells of a decision: whether it permits, and what decided, without the names of a rule that is not seen
-- (RFC 8341 3.4.3)
abbrev pub decision_told : (Path → Bool) → Right → Decision → Bool × List (List ℕ)
decision_told sees right decision = (decision.permit, seen_names sees (decision_names right decision.by))

-- a partial lock by its lock-id and the session that holds it
abbrev pub owner : NodeLock → ℕ × ℕ
owner lock = (lock.id, lock.session)

-- the session and the `persist` text of a pending commit
abbrev pub waiting : Pending → ℕ × Option (List ℕ)
waiting pending = (pending.session, pending.token)

-- two states are alike for a session: they differ in nothing but what it does not see, the nodes of other sessions'
-- partial locks, and the base and the deadline of the pending commit
pub record AreAlike (s t : State) (session : ℕ) : Type 0 where
  pub schema : s.schema ≡ t.schema
  pub now : s.now ≡ t.now
  pub sessions : s.sessions ≡ t.sessions
  pub last : s.last ≡ t.last
  pub last_lock : s.last_lock ≡ t.last_lock
  pub holders : s.holders ≡ t.holders
  pub owners : map owner s.partial ≡ map owner t.partial
  pub locks : locks_of session s.partial ≡ locks_of session t.partial
  pub pending : option_map waiting s.pending ≡ option_map waiting t.pending
  pub running : visible s session s.running ≡ visible t session t.running
  pub candidate : visible s session (candidate_in_force s) ≡ visible t session (candidate_in_force t)
  pub modified : is_some s.candidate ≡ is_some t.candidate
  pub operations : (operation : Operation) →
      decision_told (sees_of s session) Exec (exec_of s session operation)
      ≡ decision_told (sees_of t session) Exec (exec_of t session operation)
  pub rights : (path : Path) (right : Right) →
      decision_told (sees_of s session) right (rights_of s session path right)
      ≡ decision_told (sees_of t session) right (rights_of t session path right)

-- a cause that may come of what a session does not see: another session's partial lock, a limit, the data that edits
-- find or leave, or the disk
abbrev pub is_of_unseen : CauseKind → Bool
is_of_unseen LockPartial = true
is_of_unseen InUsePartial = true
is_of_unseen Limit = true
is_of_unseen Exists = true
is_of_unseen Absent = true
is_of_unseen MissingInstance = true
is_of_unseen DataDenied = true
is_of_unseen Mandatory = true
is_of_unseen MandatoryChoice = true
is_of_unseen TooFew = true
is_of_unseen TooMany = true
is_of_unseen NotUnique = true
is_of_unseen DeadLeafref = true
is_of_unseen DeadInstance = true
is_of_unseen DiskFault = true
is_of_unseen kind = false

-- the verdict has such a cause
abbrev pub has_unseen : Verdict → Bool
has_unseen (Refused causes) = list_any (λ cause. is_of_unseen cause.kind) causes
has_unseen verdict = false

-- the reply to a live session's request, where the disk fails or not
abbrev pub reply_to : State → ℕ → Request → Bool → Tree
reply_to s session request failed =
    reply_of s.schema (sees_of s session) request (verdict s session request failed)

-- get and get-config (RFC 6241 7.1, 7.7)
abbrev pub is_reading : Option Operation → Bool
is_reading (Some Get) = true
is_reading (Some GetConfig) = true
is_reading operation = false

-- least disclosure: states in which the clock was read, and that are alike for a session, give equal replies to its
-- request, or one of the verdicts has such a cause; to a get or get-config they give equal replies (RFC 8341 3.2.4,
-- 3.4.3)
pub record DisclosesLeast : Type 0 where
  pub requests :
      (s t : State) (session : ℕ) (request : Request) (failed failing : Bool) →
      IsGood s → IsGood t → AreAlike s t session → IsProper request →
      (reply_to s session request failed ≡ reply_to t session request failing)
      ⊎ ((has_unseen (verdict s session request failed) ≡ true)
      ⊎ (has_unseen (verdict t session request failing) ≡ true))
  pub reads :
      (s t : State) (session : ℕ) (request : Request) (failed failing : Bool) →
      IsGood s → IsGood t → AreAlike s t session → IsProper request → is_reading request.operation ≡ true →
      reply_to s session request failed ≡ reply_to t session request failing
