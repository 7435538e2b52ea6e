-- The causes of a verdict have what their errors need.
use Rattle.std.proofs.Common.{◌≡◌, ◌≢◌, ◌++◌, ℕ, Bool, false, List, [], ◌∷◌, length, refl, sym, subst, Option, Some, None, Result, Ok, Err, get_or}
use Rattle.std.specs.Prelude.{◌⊎◌, IsTrue, IsSome, IfSome, IsSomeAnd, slice_get, option_and_then}
use Rattle.std.specs.List.{All, last_or}
use Rattle.std.specs.Option.{option_map_or}
use Rattle.nc_names.specs.declared.cause.CauseKind.{CauseKind}
use Rattle.nc_names.specs.declared.cause.CauseKind.TheVariants.{Malformed, NoMessageId, NoOperation, TwoOperations, UnknownOperation, ExecDenied, UnknownParameter, RepeatedParameter, MissingParameter, BadParameter, BadFilterType, UnsupportedTarget, LockHeld, LockModified, LockPending, LockPartial, NotHeld, InUseGlobal, InUsePartial, InUsePending, NoPending, BadToken, NotLiveTarget, BadSelect, NoMatch, Limit, UnknownElement, UnknownNamespace, UnknownAttribute, BadAttribute, MissingKey, BadElement, BadValue, Exists, Absent, MissingInstance, DataDenied, Mandatory, MandatoryChoice, TooFew, TooMany, NotUnique, DeadLeafref, DeadInstance, DiskFault}
use Rattle.nc_names.specs.declared.path.Path.{Path}
use Rattle.nc_names.specs.declared.path.Row.{Row}
use Rattle.nc_names.specs.declared.path.Step.{Step}
use Rattle.nc_message.specs.declared.tree.Elem.{Elem}
use Rattle.nc_schema.specs.Paths.{IsPathOf, LeadDown, HasAllKeys}
use Rattle.nc_schema.specs.Proper.{IsProperSchema}
use Rattle.nc_schema.specs.Standing.{node_of}
use Rattle.nc_schema.specs.Tables.{Tables}
use Rattle.nc_schema.specs.Violations.{violations}
use Rattle.nc_schema.specs.declared.node.Node.{Node}
use Rattle.nc_protocol.specs.declared.asked.Asked.{Asked}
use Rattle.nc_protocol.specs.declared.asked.Default3.{Default3}
use Rattle.nc_protocol.specs.declared.asked.ErrorOption.{ErrorOption}
use Rattle.nc_protocol.specs.declared.asked.Operation.{Operation}
use Rattle.nc_protocol.specs.declared.edit.Edit.{Edit}
use Rattle.nc_protocol.specs.declared.request.Cause.{Cause}
use Rattle.nc_protocol.specs.declared.request.Request.{Request}
use Rattle.nc_names.specs.declared.path.Right.TheVariants.{Exec as MayExec}
use Rattle.nc_model.specs.Access.{exec_of, rights_of}
use Rattle.nc_protocol.specs.Applied.{applied}
use Rattle.nc_protocol.specs.Attributes.{path_of}
use Rattle.nc_protocol.specs.Edited.{cause_at, anchor_names, anchor_word, decision_names}
use Rattle.nc_protocol.specs.ErrorRows.{name_count, is_of_node}
use Rattle.nc_protocol.specs.Payload.{edits_of, rows_of}
use Rattle.nc_protocol.specs.Proper.{IsAskedOf, IsProper, message_names, parameter_names}
use Rattle.nc_protocol.specs.RequestLaws.{IsWhole, CausesAre}
use Rattle.nc_model.specs.VerdictLaws.{VerdictIsWhole}
use Rattle.nc_model.specs.State.{State, candidate_in_force}
use Rattle.nc_protocol.specs.Asking.{plain_cause}
use Rattle.nc_model.specs.Verdict.{verdict, verdict_on, asked_verdict, operation_refused}
use Rattle.nc_protocol.specs.Refusals.{checked, violation_cause}
use Rattle.nc_schema.proofs.ViolationLemmas.{violation_kinds}
use Rattle.nc_protocol.proofs.DecodedLemmas.{named_properly}
use Rattle.nc_model.proofs.KindLemmas.{ErrIs, edits_cause, rows_cause, applied_causes}
use Rattle.nc_protocol.proofs.ListLemmas.{all_one}
use Rattle.nc_protocol.proofs.PayloadLaws.{payload_edits_fit}
use Rattle.nc_model.proofs.VerdictCauses.{asked_is, refused_is, server_names}
use Rattle.nc_model.proofs.SomeCause.{verdict_has_cause}
use Rattle.nc_model.proofs.DecidedCauses.{denials_are_named}

never : IsTrue false → ⊥
never e = cc

-- a path with one step or more
has_path : (above : List Step) (step : Step) → IsSome (path_of (above ++ step ∷ []))
has_path [] step = refl
has_path (first ∷ above) step = refl

-- a path of the schema leads to a node, so an anchor that is missing has two names
last_stands : (tables : Tables) (above : Option ℕ) (before : Option Step) (steps : List Step) → steps ≢ [] → LeadDown tables above steps →
    IsSome (option_and_then (λ step. slice_get tables.nodes step.node) (last_or before steps))
last_stands tables above before [] some down = absurd (some refl)
last_stands tables above before (step ∷ []) some down = by (slice_get tables.nodes step.node) down.0
  where
    by : (found : Option Node) → IsSomeAnd found (λ node. (node.parent ≡ above) × (HasAllKeys node step ⊎ (step.keys ≡ []))) → IsSome found
    by (Some node) is = refl
    by None is = absurd is
last_stands tables above before (step ∷ next ∷ rest) some down =
    last_stands tables (Some step.node) (Some step) (next ∷ rest) (λ e. cc) down.1

anchor_is_named : (tables : Tables) (path : Path) → IsPathOf tables path → IsWhole (cause_at MissingInstance path (anchor_names tables path))
anchor_is_named tables path is = record {
  names = by (node_of tables path.steps) (last_stands tables None None path.steps is.names.steps is.names.down);
  path = λ about. refl;
}
  where
    by : (found : Option Node) → IsSome found → 2 ≡ length (option_map_or (λ node. anchor_word node ∷ node.name.name ∷ []) found [])
    by (Some node) stands = refl
    by None stands = cc

-- a cause about a data node does not come of the reading of a request
is_not_read : (kind : CauseKind) → IsTrue (is_of_node kind) → (message_names kind ≡ None) × (parameter_names kind ≡ None)
is_not_read Malformed about = cc
is_not_read NoMessageId about = cc
is_not_read NoOperation about = cc
is_not_read TwoOperations about = cc
is_not_read UnknownOperation about = cc
is_not_read ExecDenied about = cc
is_not_read UnknownParameter about = cc
is_not_read RepeatedParameter about = cc
is_not_read MissingParameter about = cc
is_not_read BadParameter about = cc
is_not_read BadFilterType about = cc
is_not_read UnsupportedTarget about = cc
is_not_read LockHeld about = cc
is_not_read LockModified about = cc
is_not_read LockPending about = cc
is_not_read LockPartial about = cc
is_not_read NotHeld about = cc
is_not_read InUseGlobal about = cc
is_not_read InUsePartial about = cc
is_not_read InUsePending about = cc
is_not_read NoPending about = cc
is_not_read BadToken about = cc
is_not_read NotLiveTarget about = cc
is_not_read BadSelect about = cc
is_not_read NoMatch about = cc
is_not_read Limit about = cc
is_not_read UnknownElement about = cc
is_not_read UnknownNamespace about = cc
is_not_read UnknownAttribute about = (refl, refl)
is_not_read BadAttribute about = (refl, refl)
is_not_read MissingKey about = cc
is_not_read BadElement about = cc
is_not_read BadValue about = (refl, refl)
is_not_read Exists about = (refl, refl)
is_not_read Absent about = (refl, refl)
is_not_read MissingInstance about = (refl, refl)
is_not_read DataDenied about = (refl, refl)
is_not_read Mandatory about = (refl, refl)
is_not_read MandatoryChoice about = cc
is_not_read TooFew about = (refl, refl)
is_not_read TooMany about = (refl, refl)
is_not_read NotUnique about = (refl, refl)
is_not_read DeadLeafref about = (refl, refl)
is_not_read DeadInstance about = (refl, refl)
is_not_read DiskFault about = cc

no_count : {X : Type 0} (counted : Option ℕ) (count : ℕ) → counted ≡ None → counted ≡ Some count → X
no_count None count e f = cc
no_count (Some other) count e f = cc

read_is_whole : (operation : Option Operation) (cause : Cause) → IsAskedOf operation (Err cause) → IsWhole cause
read_is_whole None cause is = record {
  names = subst (λ count. IfSome count (λ many. many ≡ length cause.names)) (sym (named_properly None cause is)) refl;
  path = λ about. no_count (message_names cause.kind) (length cause.names) (is_not_read cause.kind about).0 is.0;
}
read_is_whole (Some operation) cause is = record {
  names = subst (λ count. IfSome count (λ many. many ≡ length cause.names)) (sym (named_properly (Some operation) cause is)) refl;
  path = λ about. no_count (parameter_names cause.kind) (length cause.names) (is_not_read cause.kind about).1 is.0;
}

-- whatever the causes of a payload, of edits and of a configuration are, they have what they need
payload_is_whole : (tables : Tables) (default_operation : Default3) (config : Elem) → ErrIs IsWhole (edits_of tables default_operation config)
payload_is_whole tables default_operation config =
    edits_cause IsWhole (λ steps name. record { names = refl; path = λ about. cc }) (λ steps name space. record { names = refl; path = λ about. cc })
    (λ above step attr name. record { names = refl; path = λ about. has_path above step }) (λ above step attr name. record { names = refl; path = λ about. has_path above step })
    (λ steps key. record { names = refl; path = λ about. cc }) (λ steps name. record { names = refl; path = λ about. cc })
    (λ above step. record { names = refl; path = λ about. has_path above step })
    tables default_operation config

inline_is_whole : (tables : Tables) (config : Elem) → ErrIs IsWhole (rows_of tables config)
inline_is_whole tables config =
    rows_cause IsWhole (λ steps name. record { names = refl; path = λ about. cc }) (λ steps name space. record { names = refl; path = λ about. cc })
    (λ above step attr name. record { names = refl; path = λ about. has_path above step }) (λ above step attr name. record { names = refl; path = λ about. has_path above step })
    (λ steps key. record { names = refl; path = λ about. cc }) (λ steps name. record { names = refl; path = λ about. cc })
    (λ above step. record { names = refl; path = λ about. has_path above step })
    tables config

edits_are_whole : (s : State) (n : ℕ) → IsProperSchema s.schema → (on_error : ErrorOption) (default_operation : Default3) (config : Elem) (edits : List Edit) →
    edits_of s.schema default_operation config ≡ Ok edits → All IsWhole (applied s.schema (rights_of s n) on_error (candidate_in_force s) edits).causes
edits_are_whole s n proper on_error default_operation config edits is =
    applied_causes IsWhole s.schema (rights_of s n) (λ path. record { names = refl; path = λ about. refl }) (λ path. record { names = refl; path = λ about. refl })
    (λ path right. record { names = tt; path = λ about. refl }) on_error (candidate_in_force s) edits
    (λ k d within. anchor_is_named s.schema (get_or edits k d).path (payload_edits_fit s.schema default_operation config edits proper is k d within).path)

invalid_is_whole : (tables : Tables) (rows : List Row) → All (λ violation. IsWhole (violation_cause violation)) (violations tables rows)
invalid_is_whole tables rows =
    let each : (kind : CauseKind) → Type 0 = λ kind. (path : Path) → IsWhole (violation_cause (record { kind = kind; path = path })) in
    let all = violation_kinds each (λ path. record { names = refl; path = λ about. refl }) (λ path. record { names = refl; path = λ about. cc })
    (λ path. record { names = refl; path = λ about. refl }) (λ path. record { names = refl; path = λ about. refl }) (λ path. record { names = refl; path = λ about. refl })
    (λ path. record { names = refl; path = λ about. refl }) (λ path. record { names = refl; path = λ about. refl }) tables rows in
    λ k d within. all k d within (get_or (violations tables rows) k d).path

-- what the server says by itself has its names, and is about no data node
server_kind : (kind : CauseKind) (count : ℕ) → server_names kind ≡ Some count → (name_count kind ≡ Some count) × (is_of_node kind ≡ false)
server_kind Malformed count e = cc
server_kind NoMessageId count e = cc
server_kind NoOperation count e = cc
server_kind TwoOperations count e = cc
server_kind UnknownOperation count e = (e, refl)
server_kind ExecDenied count e = cc
server_kind UnknownParameter count e = (e, refl)
server_kind RepeatedParameter count e = cc
server_kind MissingParameter count e = cc
server_kind BadParameter count e = (e, refl)
server_kind BadFilterType count e = cc
server_kind UnsupportedTarget count e = (e, refl)
server_kind LockHeld count e = (e, refl)
server_kind LockModified count e = (e, refl)
server_kind LockPending count e = (e, refl)
server_kind LockPartial count e = (e, refl)
server_kind NotHeld count e = (e, refl)
server_kind InUseGlobal count e = (e, refl)
server_kind InUsePartial count e = (e, refl)
server_kind InUsePending count e = (e, refl)
server_kind NoPending count e = (e, refl)
server_kind BadToken count e = (e, refl)
server_kind NotLiveTarget count e = (e, refl)
server_kind BadSelect count e = (e, refl)
server_kind NoMatch count e = (e, refl)
server_kind Limit count e = (e, refl)
server_kind UnknownElement count e = cc
server_kind UnknownNamespace count e = cc
server_kind UnknownAttribute count e = cc
server_kind BadAttribute count e = cc
server_kind MissingKey count e = cc
server_kind BadElement count e = cc
server_kind BadValue count e = cc
server_kind Exists count e = cc
server_kind Absent count e = cc
server_kind MissingInstance count e = cc
server_kind DataDenied count e = cc
server_kind Mandatory count e = cc
server_kind MandatoryChoice count e = cc
server_kind TooFew count e = cc
server_kind TooMany count e = cc
server_kind NotUnique count e = cc
server_kind DeadLeafref count e = cc
server_kind DeadInstance count e = cc
server_kind DiskFault count e = cc

server_is_whole : (kind : CauseKind) (names : List (List ℕ)) → server_names kind ≡ Some (length names) → IsWhole (plain_cause kind names)
server_is_whole kind names named =
    let parts = server_kind kind (length names) named in
    record {
      names = subst (λ count. IfSome count (λ many. many ≡ length names)) (sym parts.0) refl;
      path = λ about. absurd (never (subst IsTrue parts.1 about));
    }

denied_is_whole : (path : Path) (names : List (List ℕ)) → IsWhole (cause_at DataDenied path names)
denied_is_whole path names = record { names = tt; path = λ about. refl }

exec_is_whole : (names : List (List ℕ)) → IsWhole (plain_cause ExecDenied names)
exec_is_whole names = record { names = tt; path = λ about. absurd (never about) }

disk_is_whole : IsWhole (plain_cause DiskFault [])
disk_is_whole = record { names = refl; path = λ about. absurd (never about) }

causes_are_whole : (s : State) (n : ℕ) (request : Request) (failed : Bool) → IsProperSchema s.schema → IsProper request → CausesAre IsWhole (verdict s n request failed)
causes_are_whole s n request failed proper is = by (operation_refused s n request.operation) refused request.asked is
  where
    refused : IfSome (operation_refused s n request.operation) IsWhole
    refused = refused_is IsWhole s n (payload_is_whole s.schema) (inline_is_whole s.schema) (edits_are_whole s n proper) (invalid_is_whole s.schema)
        (λ path right. denied_is_whole path (decision_names right (rights_of s n path right).by)) server_is_whole
        (λ operation. exec_is_whole (decision_names MayExec (exec_of s n operation).by)) request.operation

    asked_whole : (asked : Asked) → CausesAre IsWhole (asked_verdict s n asked failed)
    asked_whole asked = asked_is IsWhole s n (payload_is_whole s.schema) (inline_is_whole s.schema) (edits_are_whole s n proper) (invalid_is_whole s.schema)
        (λ path right. denied_is_whole path (decision_names right (rights_of s n path right).by)) server_is_whole
        (λ operation. exec_is_whole (decision_names MayExec (exec_of s n operation).by)) asked failed (λ disk. disk_is_whole)

    by : (found : Option Cause) → IfSome found IsWhole → (asked : Result Asked Cause) → IsAskedOf request.operation asked →
        CausesAre IsWhole (checked found (verdict_on s n asked failed))
    by (Some cause) each asked proper_request = all_one IsWhole cause each
    by None each (Err cause) proper_request = all_one IsWhole cause (read_is_whole request.operation cause proper_request)
    by None each (Ok asked) proper_request = asked_whole asked

pub verdict_is_whole : VerdictIsWhole
verdict_is_whole s n request failed proper is = record {
  some = verdict_has_cause s n request failed;
  causes = causes_are_whole s n request failed proper is;
  denials = denials_are_named s n request failed is;
}
