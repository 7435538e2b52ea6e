-- A cause that an access was denied names what denied it.
use Rattle.std.proofs.Common.{◌≡◌, ℕ, Bool, true, false, List, length, refl, sym, ◌∙◌, inl, inr, Option, Some, None, Result, Ok, Err}
use Rattle.std.specs.Prelude.{IfSome}
use Rattle.std.specs.List.{All}
use Rattle.nc_names.specs.declared.cause.CauseKind.{CauseKind}
use Rattle.nc_names.specs.declared.cause.CauseKind.TheVariants.{Malformed, NoMessageId, NoOperation, TwoOperations, UnknownOperation, ExecDenied, UnknownParameter, RepeatedParameter, MissingParameter, BadParameter, BadFilterType, UnsupportedTarget, LockHeld, LockModified, LockPending, LockPartial, NotHeld, InUseGlobal, InUsePartial, InUsePending, NoPending, BadToken, NotLiveTarget, BadSelect, NoMatch, Limit, UnknownElement, UnknownNamespace, UnknownAttribute, BadAttribute, MissingKey, BadElement, BadValue, Exists, Absent, MissingInstance, DataDenied, Mandatory, MandatoryChoice, TooFew, TooMany, NotUnique, DeadLeafref, DeadInstance, DiskFault}
use Rattle.nc_names.specs.declared.path.Path.{Path}
use Rattle.nc_names.specs.declared.path.Right.{Right}
use Rattle.nc_names.specs.declared.path.Right.TheVariants.{Exec as MayExec}
use Rattle.nc_names.specs.declared.path.Row.{Row}
use Rattle.nc_message.specs.declared.tree.Elem.{Elem}
use Rattle.nc_schema.specs.Violations.{violations}
use Rattle.nc_protocol.specs.declared.access.By.{By}
use Rattle.nc_protocol.specs.declared.access.By.TheVariants.{Off, Recovery, CloseSession, DenyAll, DenyWrite, OperationDefault, Default, Rule}
use Rattle.nc_protocol.specs.declared.asked.Asked.{Asked}
use Rattle.nc_protocol.specs.declared.asked.Default3.{Default3}
use Rattle.nc_protocol.specs.declared.asked.ErrorOption.{ErrorOption}
use Rattle.nc_protocol.specs.declared.asked.Operation.{Operation}
use Rattle.nc_protocol.specs.declared.edit.Edit.{Edit}
use Rattle.nc_protocol.specs.declared.request.Cause.{Cause}
use Rattle.nc_protocol.specs.declared.request.Request.{Request}
use Rattle.nc_protocol.specs.Applied.{applied}
use Rattle.nc_protocol.specs.Asking.{plain_cause}
use Rattle.nc_protocol.specs.Edited.{decision_names}
use Rattle.nc_protocol.specs.Payload.{edits_of, rows_of}
use Rattle.nc_protocol.specs.Proper.{IsAskedOf, IsProper, message_names, parameter_names}
use Rattle.nc_protocol.specs.Refusals.{checked, violation_cause}
use Rattle.nc_protocol.specs.RequestLaws.{CausesAre}
use Rattle.nc_protocol.proofs.ListLemmas.{all_one}
use Rattle.nc_schema.proofs.ViolationLemmas.{violation_kinds}
use Rattle.nc_model.specs.Access.{exec_of, rights_of}
use Rattle.nc_model.specs.State.{State, candidate_in_force}
use Rattle.nc_model.specs.Verdict.{asked_verdict, operation_refused, verdict, verdict_on}
use Rattle.nc_model.specs.VerdictLaws.{IsDecided, NamesDecision, is_denial}
use Rattle.nc_model.proofs.KindLemmas.{ErrIs, edits_cause, rows_cause, applied_causes}
use Rattle.nc_model.proofs.VerdictCauses.{asked_is, refused_is, server_names}

-- a rule by three names, all else by two
names_decision : (right : Right) (by : By) → NamesDecision (decision_names right by)
names_decision right (Rule list rule) = inr (refl, refl)
names_decision right DenyAll = inl refl
names_decision right DenyWrite = inl refl
names_decision right OperationDefault = inl refl
names_decision right Off = inl refl
names_decision right Recovery = inl refl
names_decision right CloseSession = inl refl
names_decision right Default = inl refl

no_denial : (kind : CauseKind) (path : Option Path) (names : List (List ℕ)) → is_denial kind ≡ false → IsDecided (record { kind = kind; path = path; names = names })
no_denial kind path names other denial = absurd (clash (sym other ∙ denial))
  where
    clash : false ≡ true → ⊥
    clash e = cc

no_server_kind : (kind : CauseKind) (count : ℕ) → server_names kind ≡ Some count → is_denial kind ≡ false
no_server_kind Malformed count e = refl
no_server_kind NoMessageId count e = refl
no_server_kind NoOperation count e = refl
no_server_kind TwoOperations count e = refl
no_server_kind UnknownOperation count e = refl
no_server_kind ExecDenied count e = cc
no_server_kind UnknownParameter count e = refl
no_server_kind RepeatedParameter count e = refl
no_server_kind MissingParameter count e = refl
no_server_kind BadParameter count e = refl
no_server_kind BadFilterType count e = refl
no_server_kind UnsupportedTarget count e = refl
no_server_kind LockHeld count e = refl
no_server_kind LockModified count e = refl
no_server_kind LockPending count e = refl
no_server_kind LockPartial count e = refl
no_server_kind NotHeld count e = refl
no_server_kind InUseGlobal count e = refl
no_server_kind InUsePartial count e = refl
no_server_kind InUsePending count e = refl
no_server_kind NoPending count e = refl
no_server_kind BadToken count e = refl
no_server_kind NotLiveTarget count e = refl
no_server_kind BadSelect count e = refl
no_server_kind NoMatch count e = refl
no_server_kind Limit count e = refl
no_server_kind UnknownElement count e = refl
no_server_kind UnknownNamespace count e = refl
no_server_kind UnknownAttribute count e = refl
no_server_kind BadAttribute count e = refl
no_server_kind MissingKey count e = refl
no_server_kind BadElement count e = refl
no_server_kind BadValue count e = refl
no_server_kind Exists count e = refl
no_server_kind Absent count e = refl
no_server_kind MissingInstance count e = refl
no_server_kind DataDenied count e = cc
no_server_kind Mandatory count e = refl
no_server_kind MandatoryChoice count e = refl
no_server_kind TooFew count e = refl
no_server_kind TooMany count e = refl
no_server_kind NotUnique count e = refl
no_server_kind DeadLeafref count e = refl
no_server_kind DeadInstance count e = refl
no_server_kind DiskFault count e = refl

no_message : (kind : CauseKind) (count : ℕ) → message_names kind ≡ Some count → is_denial kind ≡ false
no_message Malformed count e = refl
no_message NoMessageId count e = refl
no_message NoOperation count e = refl
no_message TwoOperations count e = refl
no_message UnknownOperation count e = refl
no_message ExecDenied count e = cc
no_message UnknownParameter count e = refl
no_message RepeatedParameter count e = refl
no_message MissingParameter count e = refl
no_message BadParameter count e = refl
no_message BadFilterType count e = refl
no_message UnsupportedTarget count e = refl
no_message LockHeld count e = refl
no_message LockModified count e = refl
no_message LockPending count e = refl
no_message LockPartial count e = refl
no_message NotHeld count e = refl
no_message InUseGlobal count e = refl
no_message InUsePartial count e = refl
no_message InUsePending count e = refl
no_message NoPending count e = refl
no_message BadToken count e = refl
no_message NotLiveTarget count e = refl
no_message BadSelect count e = refl
no_message NoMatch count e = refl
no_message Limit count e = refl
no_message UnknownElement count e = refl
no_message UnknownNamespace count e = refl
no_message UnknownAttribute count e = refl
no_message BadAttribute count e = refl
no_message MissingKey count e = refl
no_message BadElement count e = refl
no_message BadValue count e = refl
no_message Exists count e = refl
no_message Absent count e = refl
no_message MissingInstance count e = refl
no_message DataDenied count e = cc
no_message Mandatory count e = refl
no_message MandatoryChoice count e = refl
no_message TooFew count e = refl
no_message TooMany count e = refl
no_message NotUnique count e = refl
no_message DeadLeafref count e = refl
no_message DeadInstance count e = refl
no_message DiskFault count e = refl

no_parameter : (kind : CauseKind) (count : ℕ) → parameter_names kind ≡ Some count → is_denial kind ≡ false
no_parameter Malformed count e = refl
no_parameter NoMessageId count e = refl
no_parameter NoOperation count e = refl
no_parameter TwoOperations count e = refl
no_parameter UnknownOperation count e = refl
no_parameter ExecDenied count e = cc
no_parameter UnknownParameter count e = refl
no_parameter RepeatedParameter count e = refl
no_parameter MissingParameter count e = refl
no_parameter BadParameter count e = refl
no_parameter BadFilterType count e = refl
no_parameter UnsupportedTarget count e = refl
no_parameter LockHeld count e = refl
no_parameter LockModified count e = refl
no_parameter LockPending count e = refl
no_parameter LockPartial count e = refl
no_parameter NotHeld count e = refl
no_parameter InUseGlobal count e = refl
no_parameter InUsePartial count e = refl
no_parameter InUsePending count e = refl
no_parameter NoPending count e = refl
no_parameter BadToken count e = refl
no_parameter NotLiveTarget count e = refl
no_parameter BadSelect count e = refl
no_parameter NoMatch count e = refl
no_parameter Limit count e = refl
no_parameter UnknownElement count e = refl
no_parameter UnknownNamespace count e = refl
no_parameter UnknownAttribute count e = refl
no_parameter BadAttribute count e = refl
no_parameter MissingKey count e = refl
no_parameter BadElement count e = refl
no_parameter BadValue count e = refl
no_parameter Exists count e = refl
no_parameter Absent count e = refl
no_parameter MissingInstance count e = refl
no_parameter DataDenied count e = cc
no_parameter Mandatory count e = refl
no_parameter MandatoryChoice count e = refl
no_parameter TooFew count e = refl
no_parameter TooMany count e = refl
no_parameter NotUnique count e = refl
no_parameter DeadLeafref count e = refl
no_parameter DeadInstance count e = refl
no_parameter DiskFault count e = refl

read_none : (operation : Option Operation) (cause : Cause) → IsAskedOf operation (Err cause) → IsDecided cause
read_none None cause is = no_denial cause.kind cause.path cause.names (no_message cause.kind (length cause.names) is.0)
read_none (Some operation) cause is = no_denial cause.kind cause.path cause.names (no_parameter cause.kind (length cause.names) is.0)

module _ (s : State) (n : ℕ) where
  payload_is : (default_operation : Default3) (config : Elem) → ErrIs IsDecided (edits_of s.schema default_operation config)
  payload_is default_operation config =
      edits_cause IsDecided (λ steps name denial. cc) (λ steps name space denial. cc) (λ above step attr name denial. cc) (λ above step attr name denial. cc)
      (λ steps key denial. cc) (λ steps name denial. cc) (λ above step denial. cc) s.schema default_operation config

  inline_is : (config : Elem) → ErrIs IsDecided (rows_of s.schema config)
  inline_is config =
      rows_cause IsDecided (λ steps name denial. cc) (λ steps name space denial. cc) (λ above step attr name denial. cc) (λ above step attr name denial. cc)
      (λ steps key denial. cc) (λ steps name denial. cc) (λ above step denial. cc) s.schema config

  edits_are : (on_error : ErrorOption) (default_operation : Default3) (config : Elem) (edits : List Edit) → edits_of s.schema default_operation config ≡ Ok edits →
      All IsDecided (applied s.schema (rights_of s n) on_error (candidate_in_force s) edits).causes
  edits_are on_error default_operation config edits is =
      applied_causes IsDecided s.schema (rights_of s n) (λ path denial. cc) (λ path denial. cc) (λ path right denial. names_decision right (rights_of s n path right).by)
      on_error (candidate_in_force s) edits (λ k edit within denial. cc)

  invalid_is : (rows : List Row) → All (λ violation. IsDecided (violation_cause violation)) (violations s.schema rows)
  invalid_is rows =
      let all = violation_kinds (λ kind. is_denial kind ≡ false) refl refl refl refl refl refl refl s.schema rows in
      λ k d within denial. absurd (clash (sym (all k d within) ∙ denial))
    where
      clash : false ≡ true → ⊥
      clash e = cc

  server_is : (kind : CauseKind) (names : List (List ℕ)) → server_names kind ≡ Some (length names) → IsDecided (plain_cause kind names)
  server_is kind names named = no_denial kind None names (no_server_kind kind (length names) named)

  refused_named : (operation : Option Operation) → IfSome (operation_refused s n operation) IsDecided
  refused_named = refused_is IsDecided s n payload_is inline_is edits_are invalid_is (λ path right denial. names_decision right (rights_of s n path right).by) server_is
      (λ operation denial. names_decision MayExec (exec_of s n operation).by)

  asked_named : (asked : Asked) (failed : Bool) → CausesAre IsDecided (asked_verdict s n asked failed)
  asked_named asked failed = asked_is IsDecided s n payload_is inline_is edits_are invalid_is (λ path right denial. names_decision right (rights_of s n path right).by) server_is
      (λ operation denial. names_decision MayExec (exec_of s n operation).by) asked failed (λ disk denial. cc)

pub denials_are_named : (s : State) (n : ℕ) (request : Request) (failed : Bool) → IsProper request → CausesAre IsDecided (verdict s n request failed)
denials_are_named s n request failed is = by (operation_refused s n request.operation) (refused_named s n request.operation) request.asked is
  where
    by : (found : Option Cause) → IfSome found IsDecided → (asked : Result Asked Cause) → IsAskedOf request.operation asked →
        CausesAre IsDecided (checked found (verdict_on s n asked failed))
    by (Some cause) each asked proper_request = all_one IsDecided cause each
    by None each (Err cause) proper_request = all_one IsDecided cause (read_none request.operation cause proper_request)
    by None each (Ok asked) proper_request = asked_named s n asked failed
