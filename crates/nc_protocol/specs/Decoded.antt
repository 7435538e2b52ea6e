-- What a message asks for (RFC 6241 4.1 and 4.3): an operation with its parameters, or why there is none.
use Rattle.std.specs.Prelude.{◌&&◌, ℕ, Bool, not, if◌then◌else◌, List, [], ◌∷◌, ◌++◌, Option, Some, None, Result, Ok, Err}
use Rattle.std.specs.List.{find, list_any}
use Rattle.nc_names.specs.declared.cause.CauseKind.{CauseKind}
use Rattle.nc_names.specs.declared.cause.CauseKind.TheVariants.{Malformed, NoMessageId, NoOperation, TwoOperations, UnknownOperation, UnknownParameter, RepeatedParameter}
use Rattle.nc_names.specs.declared.name.QName.{QName}
use Rattle.nc_names.specs.Same.{is_same_name}
use Rattle.nc_message.specs.declared.tree.Attr.{Attr}
use Rattle.nc_message.specs.declared.tree.Elem.{Elem}
use Rattle.nc_message.specs.declared.tree.Tree.{Tree}
use Rattle.nc_message.specs.declared.tree.Why.{Why}
use Rattle.nc_protocol.specs.declared.asked.Asked.{Asked}
use Rattle.nc_protocol.specs.declared.asked.Operation.{Operation}
use Rattle.nc_protocol.specs.declared.asked.Operation.TheVariants.{Get, GetConfig, EditConfig, CopyConfig, DeleteConfig, Lock, Unlock, CloseSession, KillSession, Commit, DiscardChanges, CancelCommit, Validate, PartialLock, PartialUnlock}
use Rattle.nc_protocol.specs.declared.request.Cause.{Cause}
use Rattle.nc_protocol.specs.declared.request.Request.{Request}
use Rattle.nc_protocol.specs.Asking.{Asking, Parameter, asking, plain_cause}
use Rattle.nc_protocol.specs.Content.{base_name, children, partial_lock_name}
use Rattle.nc_protocol.specs.Words as w

-- the names of the operations
abbrev pub operation_name : Operation → QName
operation_name Get = base_name w.get_word
operation_name GetConfig = base_name w.get_config_word
operation_name EditConfig = base_name w.edit_config_word
operation_name CopyConfig = base_name w.copy_config_word
operation_name DeleteConfig = base_name w.delete_config_word
operation_name Lock = base_name w.lock_word
operation_name Unlock = base_name w.unlock_word
operation_name CloseSession = base_name w.close_session_word
operation_name KillSession = base_name w.kill_session_word
operation_name Commit = base_name w.commit_word
operation_name DiscardChanges = base_name w.discard_changes_word
operation_name CancelCommit = base_name w.cancel_commit_word
operation_name Validate = base_name w.validate_word
operation_name PartialLock = partial_lock_name w.partial_lock_word
operation_name PartialUnlock = partial_lock_name w.partial_unlock_word

-- all operations (RFC 6241 7, 8.3.4, 8.4.4, 8.4.5, 8.6.4; RFC 5717 2.4)
abbrev pub operations : List Operation
operations =
    Get ∷ GetConfig ∷ EditConfig ∷ CopyConfig ∷ DeleteConfig ∷ Lock ∷ Unlock ∷ CloseSession ∷ KillSession ∷ Commit
    ∷ DiscardChanges ∷ CancelCommit ∷ Validate ∷ PartialLock ∷ PartialUnlock ∷ []

-- the operation of that name among some
abbrev pub operation_among : List Operation → QName → Option Operation
operation_among operations name = find (λ operation. is_same_name name (operation_name operation)) operations

-- the operation of that name
abbrev pub operation_named : QName → Option Operation
operation_named name = operation_among operations name

-- the parameter of that name
abbrev pub parameter_named : List Parameter → QName → Option Parameter
parameter_named parameters name = find (λ parameter. is_same_name name parameter.name) parameters

-- an element of that name is among these
abbrev pub has_name : QName → List Elem → Bool
has_name name elems = list_any (λ elem. is_same_name elem.name name) elems

-- the fault of an element as a parameter, if it is one; `earlier` are the elements of the operation before it, and
-- `elems` are all of them
abbrev pub fault_as : List Elem → List Elem → Elem → Option Parameter → Option Cause
fault_as elems earlier elem None = Some (plain_cause UnknownParameter (elem.name.name ∷ []))
fault_as elems earlier elem (Some parameter) =
    if not parameter.repeats && has_name elem.name earlier
    then Some (plain_cause RepeatedParameter (elem.name.name ∷ []))
    else (if parameter.admits elems elem then None else Some parameter.refused)

-- the first fault, or the later one where there is none
abbrev pub fault_or : Option Cause → Option Cause → Option Cause
fault_or (Some cause) later = Some cause
fault_or None later = later

-- the first fault of the elements of an operation, in document order
abbrev pub first_fault : List Parameter → (elems earlier rest : List Elem) → Option Cause
first_fault parameters elems earlier [] = None
first_fault parameters elems earlier (elem ∷ rest) =
    fault_or (fault_as elems earlier elem (parameter_named parameters elem.name))
    (first_fault parameters elems (earlier ++ elem ∷ []) rest)

-- the reading, unless there is a fault
abbrev pub unless_faulty : {A : Type 0} → Option Cause → Result A Cause → Result A Cause
unless_faulty (Some cause) asked = Err cause
unless_faulty None asked = asked

-- what is asked for by the elements of an operation
abbrev pub asked_by : Asking Asked → List Elem → Result Asked Cause
asked_by asking elems = unless_faulty (first_fault asking.parameters elems [] elems) (asking.reading elems)

-- a request that asks for nothing known
abbrev pub refused_request : List Attr → CauseKind → List (List ℕ) → Request
refused_request attributes kind names =
    record { attributes = attributes; operation = None; asked = Err (plain_cause kind names) }

-- the request of an `rpc` with one child element, which is that operation or none
abbrev pub request_by : List Attr → Elem → Option Operation → Request
request_by attributes elem None = refused_request attributes UnknownOperation []
request_by attributes elem (Some operation) =
    let asked = asked_by (asking operation) (children elem.parts) in
    record { attributes = attributes; operation = Some operation; asked = asked }

-- by the child elements of an `rpc`
abbrev pub request_in : List Attr → List Elem → Request
request_in attributes [] = refused_request attributes NoOperation []
request_in attributes (elem ∷ []) = request_by attributes elem (operation_named elem.name)
request_in attributes (elem ∷ second ∷ more) = refused_request attributes TwoOperations (second.name.name ∷ [])

-- the attribute `message-id`, which is in no namespace (RFC 6241 4.1)
abbrev pub is_message_id : Attr → Bool
is_message_id attr = is_same_name attr.name (record { space = []; name = w.message_id_word })

-- by an `rpc`, with its attributes
abbrev pub request_of : Elem → Request
request_of rpc =
    if list_any is_message_id rpc.attrs then request_in rpc.attrs (children rpc.parts)
    else refused_request rpc.attrs NoMessageId []

-- what a message asks for: its tree, or why it has none
abbrev pub decoded : Result Tree Why → Request
decoded (Err why) = refused_request [] Malformed []
decoded (Ok tree) =
    if is_same_name tree.root.name (base_name w.rpc_word) then request_of tree.root else refused_request [] Malformed []
