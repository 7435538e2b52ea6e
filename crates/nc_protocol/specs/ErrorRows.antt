-- The errors of the causes: type, tag and app-tag, and what error-info holds (RFC 6241 4.3 and appendix A; RFC 7950
-- 15; RFC 5717 2.4.1; RFC 8341 3.4.3).
use Rattle.std.specs.Prelude.{◌-◌, ℕ, Bool, true, false, List, [], ◌∷◌, Option, Some, None, length, slice_get}
use Rattle.std.specs.List.{zip}
use Rattle.std.specs.Option.{option_map_or}
use Rattle.nc_names.specs.declared.cause.CauseKind.{CauseKind}
use Rattle.nc_names.specs.declared.cause.CauseKind.TheVariants.{Malformed, NoMessageId, NoOperation, TwoOperations, UnknownOperation, ExecDenied, UnknownParameter, RepeatedParameter, MissingParameter, BadParameter, BadFilterType, UnsupportedTarget, LockHeld, LockModified, LockPending, LockPartial, NotHeld, InUseGlobal, InUsePartial, InUsePending, NoPending, BadToken, NotLiveTarget, BadSelect, NoMatch, Limit, UnknownElement, UnknownNamespace, UnknownAttribute, BadAttribute, MissingKey, BadElement, BadValue, Exists, Absent, MissingInstance, DataDenied, Mandatory, MandatoryChoice, TooFew, TooMany, NotUnique, DeadLeafref, DeadInstance, DiskFault}
use Rattle.nc_protocol.specs.declared.asked.Operation.{Operation}
use Rattle.nc_protocol.specs.declared.asked.Operation.TheVariants.{PartialLock}
use Rattle.nc_protocol.specs.Words as w

-- an error-type, an error-tag and perhaps an error-app-tag
pub record ErrorRow : Type 0 where
  pub layer : List ℕ
  pub tag : List ℕ
  pub app_tag : Option (List ℕ)

-- an error of the layer `rpc` (RFC 6241 4.3)
abbrev pub rpc_error : List ℕ → ErrorRow
rpc_error tag = record { layer = w.rpc_word; tag = tag; app_tag = None }

-- an error of the layer `protocol` (RFC 6241 4.3)
abbrev pub protocol_error : List ℕ → ErrorRow
protocol_error tag = record { layer = w.protocol_word; tag = tag; app_tag = None }

-- an error of the layer `application` (RFC 6241 4.3)
abbrev pub application_error : List ℕ → ErrorRow
application_error tag = record { layer = w.application_word; tag = tag; app_tag = None }

-- the error with an app-tag
abbrev pub with_app_tag : ErrorRow → List ℕ → ErrorRow
with_app_tag row app_tag = record row { app_tag = Some app_tag }

-- the error of each cause
abbrev pub error_row : CauseKind → ErrorRow
error_row Malformed = rpc_error w.malformed_message_word
error_row NoMessageId = rpc_error w.missing_attribute_word
error_row NoOperation = protocol_error w.missing_element_word
error_row TwoOperations = protocol_error w.unknown_element_word
error_row UnknownOperation = protocol_error w.operation_not_supported_word
error_row ExecDenied = protocol_error w.access_denied_word
error_row UnknownParameter = protocol_error w.unknown_element_word
error_row RepeatedParameter = protocol_error w.bad_element_word
error_row MissingParameter = protocol_error w.missing_element_word
error_row BadParameter = protocol_error w.invalid_value_word
error_row BadFilterType = protocol_error w.bad_attribute_word
error_row UnsupportedTarget = protocol_error w.operation_not_supported_word
error_row LockHeld = protocol_error w.lock_denied_word
error_row LockModified = protocol_error w.lock_denied_word
error_row LockPending = protocol_error w.lock_denied_word
error_row LockPartial = protocol_error w.lock_denied_word
error_row NotHeld = protocol_error w.operation_failed_word
error_row InUseGlobal = protocol_error w.in_use_word
error_row InUsePartial = with_app_tag (protocol_error w.in_use_word) w.locked_word
error_row InUsePending = protocol_error w.in_use_word
error_row NoPending = protocol_error w.operation_failed_word
error_row BadToken = protocol_error w.invalid_value_word
error_row NotLiveTarget = protocol_error w.invalid_value_word
error_row BadSelect = with_app_tag (application_error w.invalid_value_word) w.invalid_lock_specification_word
error_row NoMatch = with_app_tag (application_error w.operation_failed_word) w.no_matches_word
error_row Limit = application_error w.resource_denied_word
error_row UnknownElement = application_error w.unknown_element_word
error_row UnknownNamespace = application_error w.unknown_namespace_word
error_row UnknownAttribute = application_error w.unknown_attribute_word
error_row BadAttribute = application_error w.bad_attribute_word
error_row MissingKey = application_error w.missing_element_word
error_row BadElement = application_error w.bad_element_word
error_row BadValue = application_error w.invalid_value_word
error_row Exists = application_error w.data_exists_word
error_row Absent = application_error w.data_missing_word
error_row MissingInstance = with_app_tag (application_error w.bad_attribute_word) w.missing_instance_word
error_row DataDenied = application_error w.access_denied_word
error_row Mandatory = application_error w.data_missing_word
error_row MandatoryChoice = with_app_tag (application_error w.data_missing_word) w.missing_choice_word
error_row TooFew = with_app_tag (application_error w.operation_failed_word) w.too_few_elements_word
error_row TooMany = with_app_tag (application_error w.operation_failed_word) w.too_many_elements_word
error_row NotUnique = with_app_tag (application_error w.operation_failed_word) w.data_not_unique_word
error_row DeadLeafref = with_app_tag (application_error w.data_missing_word) w.instance_required_word
error_row DeadInstance = with_app_tag (application_error w.data_missing_word) w.instance_required_word
error_row DiskFault = application_error w.operation_failed_word

-- at a partial-lock the app-tag tells that a confirmed commit is outstanding (RFC 5717 2.4.1)
abbrev pub error_of : Option Operation → CauseKind → ErrorRow
error_of (Some PartialLock) LockPending = with_app_tag (error_row LockPending) w.outstanding_confirmed_commit_word
error_of operation kind = error_row kind

-- an element of error-info by its name and text
abbrev pub Info : Type 0
Info = List ℕ × List ℕ

-- who holds what is in the way: the last name of the cause
abbrev pub holder : List (List ℕ) → List Info
holder names = option_map_or (λ name. (w.session_id_word, name) ∷ []) (slice_get names (length names - 1)) []

-- the elements of error-info that RFC 6241 has for the tags (appendix A), by the names of the cause. A lock that no
-- session holds has 0 (`lock-denied`)
abbrev pub standard_info : CauseKind → List (List ℕ) → List Info
standard_info NoMessageId names = (w.bad_attribute_word, w.message_id_word) ∷ (w.bad_element_word, w.rpc_word) ∷ []
standard_info NoOperation names = (w.bad_element_word, w.rpc_word) ∷ []
standard_info TwoOperations names = zip (w.bad_element_word ∷ []) names
standard_info UnknownParameter names = zip (w.bad_element_word ∷ []) names
standard_info RepeatedParameter names = zip (w.bad_element_word ∷ []) names
standard_info MissingParameter names = zip (w.bad_element_word ∷ []) names
standard_info BadFilterType names = (w.bad_attribute_word, w.type_word) ∷ (w.bad_element_word, w.filter_word) ∷ []
standard_info LockHeld names = holder names
standard_info LockModified names = (w.session_id_word, w.no_session_word) ∷ []
standard_info LockPending names = holder names
standard_info LockPartial names = holder names
standard_info UnknownElement names = zip (w.bad_element_word ∷ []) names
standard_info UnknownNamespace names = zip (w.bad_element_word ∷ w.bad_namespace_word ∷ []) names
standard_info UnknownAttribute names = zip (w.bad_attribute_word ∷ w.bad_element_word ∷ []) names
standard_info BadAttribute names = zip (w.bad_attribute_word ∷ w.bad_element_word ∷ []) names
standard_info MissingKey names = zip (w.bad_element_word ∷ []) names
standard_info BadElement names = zip (w.bad_element_word ∷ []) names
standard_info MissingInstance names = zip (w.bad_attribute_word ∷ w.bad_element_word ∷ []) names
standard_info kind names = []

-- what this server says more exactly: a kind and names; nothing where the tag says it all. A denied access names what
-- denied it
abbrev pub own_info : CauseKind → List (List ℕ) → List (List ℕ)
own_info ExecDenied names = names
own_info BadParameter names = w.parameter_word ∷ names
own_info UnsupportedTarget names = w.datastore_word ∷ names
own_info LockHeld names = w.global_lock_word ∷ names
own_info LockModified names = w.candidate_modified_word ∷ []
own_info LockPending names = w.confirmed_commit_word ∷ names
own_info LockPartial names = w.partial_lock_word ∷ names
own_info NotHeld names = w.no_lock_word ∷ names
own_info InUseGlobal names = w.global_lock_word ∷ names
own_info InUsePartial names = w.partial_lock_word ∷ names
own_info InUsePending names = w.confirmed_commit_word ∷ names
own_info NoPending names = w.no_confirmed_commit_word ∷ []
own_info BadToken names = w.persist_id_word ∷ []
own_info NotLiveTarget names = w.session_id_word ∷ []
own_info Limit names = w.limit_word ∷ names
own_info DataDenied names = names
own_info Mandatory names = w.constraint_word ∷ w.mandatory_word ∷ []
own_info MandatoryChoice names = w.constraint_word ∷ w.mandatory_choice_word ∷ []
own_info TooFew names = w.constraint_word ∷ w.min_elements_word ∷ []
own_info TooMany names = w.constraint_word ∷ w.max_elements_word ∷ []
own_info NotUnique names = w.constraint_word ∷ w.unique_word ∷ []
own_info DeadLeafref names = w.constraint_word ∷ w.leafref_word ∷ []
own_info DeadInstance names = w.constraint_word ∷ w.instance_word ∷ []
own_info DiskFault names = w.disk_fault_word ∷ []
own_info kind names = []

-- how many names a cause of the kind has, where these do not depend on what denied an access
abbrev pub name_count : CauseKind → Option ℕ
name_count ExecDenied = None
name_count DataDenied = None
name_count TwoOperations = Some 1
name_count UnknownParameter = Some 1
name_count RepeatedParameter = Some 1
name_count MissingParameter = Some 1
name_count BadParameter = Some 1
name_count UnsupportedTarget = Some 1
name_count LockHeld = Some 2
name_count LockPending = Some 1
name_count LockPartial = Some 2
name_count NotHeld = Some 1
name_count InUseGlobal = Some 2
name_count InUsePartial = Some 2
name_count InUsePending = Some 1
name_count Limit = Some 1
name_count UnknownElement = Some 1
name_count UnknownNamespace = Some 2
name_count UnknownAttribute = Some 2
name_count BadAttribute = Some 2
name_count MissingKey = Some 1
name_count BadElement = Some 1
name_count MissingInstance = Some 2
name_count kind = Some 0

-- a cause that is about one data node: its error has the node's path. A mandatory choice is about none where it stands
-- at the top level of the data tree
abbrev pub is_of_node : CauseKind → Bool
is_of_node UnknownAttribute = true
is_of_node BadAttribute = true
is_of_node BadValue = true
is_of_node Exists = true
is_of_node Absent = true
is_of_node MissingInstance = true
is_of_node DataDenied = true
is_of_node Mandatory = true
is_of_node TooFew = true
is_of_node TooMany = true
is_of_node NotUnique = true
is_of_node DeadLeafref = true
is_of_node DeadInstance = true
is_of_node kind = false
