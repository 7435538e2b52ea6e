-- Requests as the reading of messages gives them (RFC 6241 4.1 and 4.3).
use Rattle.std.specs.Prelude.{◌≡◌, ℕ, length, Option, Some, None, Result, Ok, Err}
use Rattle.nc_names.specs.declared.cause.CauseKind.{CauseKind}
use Rattle.nc_names.specs.declared.cause.CauseKind.TheVariants.{Malformed, NoMessageId, NoOperation, TwoOperations, UnknownOperation, UnknownParameter, RepeatedParameter, MissingParameter, BadParameter, BadFilterType}
use Rattle.nc_protocol.specs.declared.asked.Asked.{Asked}
use Rattle.nc_protocol.specs.declared.asked.Asked.TheVariants.{Get as AsksGet, GetConfig as AsksGetConfig, EditConfig as AsksEditConfig, CopyConfig as AsksCopyConfig, DeleteConfig as AsksDeleteConfig, Lock as AsksLock, Unlock as AsksUnlock, CloseSession as AsksCloseSession, KillSession as AsksKillSession, Commit as AsksCommit, DiscardChanges as AsksDiscardChanges, CancelCommit as AsksCancelCommit, Validate as AsksValidate, PartialLock as AsksPartialLock, PartialUnlock as AsksPartialUnlock}
use Rattle.nc_protocol.specs.declared.asked.Operation.{Operation}
use Rattle.nc_protocol.specs.declared.asked.Operation.TheVariants.{Get, GetConfig, EditConfig, CopyConfig, DeleteConfig, Lock, Unlock, CloseSession, KillSession, Commit, DiscardChanges, CancelCommit, Validate, PartialLock, PartialUnlock}
use Rattle.nc_protocol.specs.declared.request.Cause.{Cause}
use Rattle.nc_protocol.specs.declared.request.Request.{Request}

-- the operation that is asked for
abbrev pub operation_of : Asked → Operation
operation_of (AsksGet filter) = Get
operation_of (AsksGetConfig source filter) = GetConfig
operation_of (AsksEditConfig target default_operation test on_error config) = EditConfig
operation_of (AsksCopyConfig target source) = CopyConfig
operation_of (AsksDeleteConfig target) = DeleteConfig
operation_of (AsksLock target) = Lock
operation_of (AsksUnlock target) = Unlock
operation_of AsksCloseSession = CloseSession
operation_of (AsksKillSession session) = KillSession
operation_of (AsksCommit confirmed timeout persist persist_id) = Commit
operation_of AsksDiscardChanges = DiscardChanges
operation_of (AsksCancelCommit persist_id) = CancelCommit
operation_of (AsksValidate source) = Validate
operation_of (AsksPartialLock selects) = PartialLock
operation_of (AsksPartialUnlock lock) = PartialUnlock

-- how many names a message without a known operation gives to a cause of the kind; no other kind comes
-- of such a message
abbrev pub message_names : CauseKind → Option ℕ
message_names Malformed = Some 0
message_names NoMessageId = Some 0
message_names NoOperation = Some 0
message_names TwoOperations = Some 1
message_names UnknownOperation = Some 0
message_names kind = None

-- so many give the parameters of a known operation
abbrev pub parameter_names : CauseKind → Option ℕ
parameter_names UnknownParameter = Some 1
parameter_names RepeatedParameter = Some 1
parameter_names MissingParameter = Some 1
parameter_names BadParameter = Some 1
parameter_names BadFilterType = Some 0
parameter_names kind = None

-- the cause has so many names, and is about no data node
abbrev pub NamesSoMany : Option ℕ → Cause → Type 0
NamesSoMany count cause = (count ≡ Some (length cause.names)) × (cause.path ≡ None)

-- what is asked for is that operation; why nothing is asked for fits whether the operation is known
abbrev pub IsAskedOf : Option Operation → Result Asked Cause → Type 0
IsAskedOf None (Ok asked) = ⊥
IsAskedOf None (Err cause) = NamesSoMany (message_names cause.kind) cause
IsAskedOf (Some operation) (Ok asked) = operation_of asked ≡ operation
IsAskedOf (Some operation) (Err cause) = NamesSoMany (parameter_names cause.kind) cause

-- a request as reading a message gives it
abbrev pub IsProper : Request → Type 0
IsProper request = IsAskedOf request.operation request.asked
