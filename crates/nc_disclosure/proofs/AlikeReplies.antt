-- States that are alike for a session give equal replies to it, or one of the verdicts has a cause that may come of what
-- it does not see.
use Rattle.std.proofs.Common.{◌≡◌, ◌⊎◌, ◌++◌, ◌∙◌, ℕ, Bool, true, false, not, List, [], ◌∷◌, refl, sym, ap, subst, inl, inr, Option, Some, None, Result, Ok, Err}
use Rattle.std.proofs.Math.Path.{fun_ext}
use Rattle.std.specs.List.{list_all}
use Rattle.nc_names.specs.declared.cause.CauseKind.TheVariants.{ExecDenied}
use Rattle.nc_names.specs.declared.path.Path.{Path}
use Rattle.nc_names.specs.declared.path.Right.TheVariants.{Exec, Read}
use Rattle.nc_names.specs.declared.path.Step.{Step}
use Rattle.nc_message.specs.declared.tree.Tree.{Tree}
use Rattle.nc_schema.specs.Tables.{Tables}
use Rattle.nc_protocol.specs.Asking.{plain_cause}
use Rattle.nc_protocol.specs.Edited.{cause_where, decision_names}
use Rattle.nc_protocol.specs.ErrorRows.{error_of}
use Rattle.nc_protocol.specs.Proper.{IsAskedOf, operation_of}
use Rattle.nc_protocol.specs.Refusals.{checked}
use Rattle.nc_protocol.specs.Reply.{error_part, info_parts, reply_of, reply_tree, seen_names}
use Rattle.nc_protocol.specs.declared.asked.Asked.{Asked}
use Rattle.nc_protocol.specs.declared.asked.Asked.TheVariants.{Get, GetConfig, EditConfig, CopyConfig, DeleteConfig, Lock, Unlock, CloseSession, KillSession, Commit, DiscardChanges, CancelCommit, Validate, PartialLock, PartialUnlock}
use Rattle.nc_protocol.specs.declared.asked.Operation.{Operation}
use Rattle.nc_protocol.specs.declared.datastore.Datastore.TheVariants.{Running}
use Rattle.nc_protocol.specs.declared.request.Cause.{Cause}
use Rattle.nc_protocol.specs.declared.request.Request.{Request}
use Rattle.nc_protocol.specs.declared.verdict.Verdict.{Verdict}
use Rattle.nc_protocol.specs.declared.verdict.Verdict.TheVariants.{Selected, Refused}
use Rattle.nc_model.specs.Access.{access_policy, exec_of, peer_of, sees_of}
use Rattle.nc_model.specs.Alike.{AreAlike, DisclosesLeast, has_unseen, is_reading}
use Rattle.nc_model.specs.Sight.{beginnings, may_read}
use Rattle.nc_model.specs.State.{State}
use Rattle.nc_model.specs.Verdict.{asked_verdict, is_source, operation_refused, shown, unsupported, verdict, verdict_on}
use Rattle.nc_disclosure.proofs.AgreeLemmas.{Agree}
use Rattle.nc_disclosure.proofs.AlikeVerdicts.{on_agree, reads_same}

-- the reply to a denied operation depends on what is told of the denial alone
denied_reply : Request → List (List ℕ) → Tree
denied_reply request names =
    reply_tree (error_part (error_of request.operation ExecDenied) ([] ++ info_parts ExecDenied names) ∷ []) request

denied_is : (tables : Tables) (sees : Path → Bool) (request : Request) (names : List (List ℕ)) →
    reply_of tables sees request (Refused (plain_cause ExecDenied names ∷ [])) ≡ denied_reply request (seen_names sees names)
unfolding denied_reply
denied_is tables sees request names = refl

module _ (s t : State) (n : ℕ) (alike : AreAlike s t n) where
  may_read_same : (steps : List Step) → may_read s.schema (access_policy s) (peer_of s n) steps ≡ may_read t.schema (access_policy t) (peer_of t n) steps
  may_read_same steps = ap (λ (told : Bool × List (List ℕ)). told.0) (alike.rights (record { steps = steps }) Read)

  sees_same : sees_of s n ≡ sees_of t n
  sees_same =
      let sight : (List Step → Bool) → Path → Bool = λ read path. list_all read (beginnings path.steps) in
      ap sight (fun_ext may_read_same)

  -- to one verdict the replies are equal
  reply_same : (request : Request) (decided : Verdict) → reply_of s.schema (sees_of s n) request decided ≡ reply_of t.schema (sees_of t n) request decided
  reply_same request decided =
      ap (λ (tables : Tables). reply_of tables (sees_of s n) request decided) alike.schema
      ∙ ap (λ (sees : Path → Bool). reply_of t.schema sees request decided) sees_same

  -- ---- whether the session may ask for the operation
  abbrev RepliesSame : Request → Verdict → Verdict → Type 0
  RepliesSame request decided beside = reply_of s.schema (sees_of s n) request decided ≡ reply_of t.schema (sees_of t n) request beside

  -- both are denied, with one reply, or neither is
  abbrev DeniedAlike : Request → Option Cause → Option Cause → Type 0
  DeniedAlike request found other =
      ((decided beside : Verdict) → RepliesSame request (checked found decided) (checked other beside)) ⊎ ((found ≡ None) × (other ≡ None))

  denied_alike : (request : Request) (permit also : Bool) (names beside : List (List ℕ)) → permit ≡ also → seen_names (sees_of s n) names ≡ seen_names (sees_of t n) beside →
      DeniedAlike request (cause_where (not permit) (plain_cause ExecDenied names)) (cause_where (not also) (plain_cause ExecDenied beside))
  denied_alike request true true names beside e told = inr (refl, refl)
  denied_alike request true false names beside e told = cc
  denied_alike request false true names beside e told = cc
  denied_alike request false false names beside e told =
      inl (λ decided other.
      denied_is s.schema (sees_of s n) request names ∙ ap (denied_reply request) told ∙ sym (denied_is t.schema (sees_of t n) request beside))

  asked_alike : (request : Request) (operation : Option Operation) → DeniedAlike request (operation_refused s n operation) (operation_refused t n operation)
  asked_alike request None = inr (refl, refl)
  asked_alike request (Some operation) =
      let told = alike.operations operation in
      denied_alike request (exec_of s n operation).permit (exec_of t n operation).permit
      (decision_names Exec (exec_of s n operation).by) (decision_names Exec (exec_of t n operation).by)
      (ap (λ (it : Bool × List (List ℕ)). it.0) told) (ap (λ (it : Bool × List (List ℕ)). it.1) told)

  -- ---- the replies
  abbrev Discloses : Request → Verdict → Verdict → Type 0
  Discloses request decided beside = RepliesSame request decided beside ⊎ ((has_unseen decided ≡ true) ⊎ (has_unseen beside ≡ true))

  agree_discloses : (request : Request) (decided beside : Verdict) → Agree decided beside → Discloses request decided beside
  agree_discloses request decided beside (inl e) =
      inl (reply_same request decided ∙ ap (λ (it : Verdict). reply_of t.schema (sees_of t n) request it) e)
  agree_discloses request decided beside (inr unseen) = inr unseen

  checked_discloses : (request : Request) (found other : Option Cause) (decided beside : Verdict) → DeniedAlike request found other → Agree decided beside →
      Discloses request (checked found decided) (checked other beside)
  checked_discloses request found other decided beside (inl denied) agree = inl (denied decided beside)
  checked_discloses request found other decided beside (inr none) agree =
      subst (λ (it : Option Cause). Discloses request (checked it decided) (checked other beside)) (sym none.0)
      (subst (λ (it : Option Cause). Discloses request decided (checked it beside)) (sym none.1) (agree_discloses request decided beside agree))

  pub requests_disclose : (request : Request) (failed failing : Bool) → Discloses request (verdict s n request failed) (verdict t n request failing)
  requests_disclose request failed failing =
      checked_discloses request (operation_refused s n request.operation) (operation_refused t n request.operation)
      (verdict_on s n request.asked failed) (verdict_on t n request.asked failing)
      (asked_alike request request.operation) (on_agree s t n alike request.asked failed failing)

  -- ---- reading
  config_same : (found : Option Cause) (decided beside : Verdict) → decided ≡ beside → checked found decided ≡ checked found beside
  config_same None decided beside e = e
  config_same (Some cause) decided beside e = refl

  read_same : (asked : Asked) (failed failing : Bool) → is_reading (Some (operation_of asked)) ≡ true → asked_verdict s n asked failed ≡ asked_verdict t n asked failing
  read_same (Get filter) failed failing e = reads_same s t n alike Running filter
  read_same (GetConfig source filter) failed failing e =
      config_same (unsupported is_source source) (Selected (shown s n source filter)) (Selected (shown t n source filter)) (reads_same s t n alike source filter)
  read_same (EditConfig target default_operation test on_error config) failed failing e = cc
  read_same (CopyConfig target source) failed failing e = cc
  read_same (DeleteConfig target) failed failing e = cc
  read_same (Lock target) failed failing e = cc
  read_same (Unlock target) failed failing e = cc
  read_same CloseSession failed failing e = cc
  read_same (KillSession number) failed failing e = cc
  read_same (Commit confirmed timeout persist persist_id) failed failing e = cc
  read_same DiscardChanges failed failing e = cc
  read_same (CancelCommit persist_id) failed failing e = cc
  read_same (Validate source) failed failing e = cc
  read_same (PartialLock selects) failed failing e = cc
  read_same (PartialUnlock lock) failed failing e = cc

  reading_same : (operation : Option Operation) (asked : Result Asked Cause) (failed failing : Bool) → IsAskedOf operation asked → is_reading operation ≡ true →
      verdict_on s n asked failed ≡ verdict_on t n asked failing
  reading_same None asked failed failing proper e = cc
  reading_same (Some operation) (Err cause) failed failing proper e = refl
  reading_same (Some operation) (Ok asked) failed failing proper e =
      read_same asked failed failing (ap (λ (it : Operation). is_reading (Some it)) proper ∙ e)

  checked_same : (request : Request) (found other : Option Cause) (decided beside : Verdict) → DeniedAlike request found other → decided ≡ beside →
      RepliesSame request (checked found decided) (checked other beside)
  checked_same request found other decided beside (inl denied) e = denied decided beside
  checked_same request found other decided beside (inr none) e =
      subst (λ (it : Option Cause). RepliesSame request (checked it decided) (checked other beside)) (sym none.0)
      (subst (λ (it : Option Cause). RepliesSame request decided (checked it beside)) (sym none.1)
      (reply_same request decided ∙ ap (λ (it : Verdict). reply_of t.schema (sees_of t n) request it) e))

  pub reads_disclose : (request : Request) (failed failing : Bool) → IsAskedOf request.operation request.asked → is_reading request.operation ≡ true →
      RepliesSame request (verdict s n request failed) (verdict t n request failing)
  reads_disclose request failed failing proper reading =
      checked_same request (operation_refused s n request.operation) (operation_refused t n request.operation)
      (verdict_on s n request.asked failed) (verdict_on t n request.asked failing)
      (asked_alike request request.operation) (reading_same request.operation request.asked failed failing proper reading)

pub discloses_least : DisclosesLeast
discloses_least = record {
  requests = λ s t session request failed failing good also alike proper. requests_disclose s t session alike request failed failing;
  reads = λ s t session request failed failing good also alike proper reading. reads_disclose s t session alike request failed failing proper reading;
}
