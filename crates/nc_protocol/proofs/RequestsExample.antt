-- Requests with what they ask for, or why they ask for nothing (RFC 6241 7, 8.3.4, 8.4, 8.6; RFC 5717 2.4).
use Rattle.std.proofs.Common.{◌≡◌, ℕ, List, [], ◌∷◌, refl}
use Rattle.std.specs.Prelude.{codes, map, true, false, Some, None, Result, Ok, Err}
use Rattle.nc_message.specs.declared.tree.Attr.{Attr}
use Rattle.nc_message.specs.declared.tree.Elem.{Elem}
use Rattle.nc_message.specs.declared.tree.Part.{Part}
use Rattle.nc_message.specs.declared.tree.Part.TheVariants.{Child, Chars}
use Rattle.nc_message.specs.declared.tree.Part.TheBlock.{hidden-the_row-Part-0, hidden-the_row-Elem-1}
use Rattle.nc_message.specs.declared.tree.Tree.{Tree}
use denote.Hole.Carrier.{hidden}
use Rattle.nc_protocol.specs.Words.{key_word, value_word, rule_word, default_word, read_word, write_word, exec_word, operation_word, deny_all_word, deny_write_word, default_operation_word, running_word, candidate_word, startup_word, url_word, base_namespace, yang_namespace, merge_word, replace_word, create_word, delete_word, remove_word, insert_word, first_word, last_word, before_word, after_word, partial_lock_namespace, cause_namespace, rpc_word, message_id_word, get_word, get_config_word, edit_config_word, copy_config_word, delete_config_word, lock_word, unlock_word, close_session_word, kill_session_word, commit_word, discard_changes_word, cancel_commit_word, validate_word, partial_lock_word, partial_unlock_word, target_word, source_word, config_word, filter_word, test_option_word, error_option_word, confirmed_word, confirm_timeout_word, session_id_word, lock_id_word, persist_word, persist_id_word, select_word, none_word, test_then_set_word, set_word, test_only_word, stop_on_error_word, continue_on_error_word, rollback_on_error_word, type_word, subtree_word, rpc_reply_word, ok_word, data_word, locked_node_word, rpc_error_word, error_type_word, error_tag_word, error_severity_word, error_app_tag_word, error_path_word, error_info_word, bad_attribute_word, bad_element_word, bad_namespace_word, cause_word, kind_word, name_word, protocol_word, application_word, error_word, malformed_message_word, missing_attribute_word, missing_element_word, unknown_element_word, operation_not_supported_word, access_denied_word, invalid_value_word, lock_denied_word, operation_failed_word, in_use_word, resource_denied_word, unknown_namespace_word, unknown_attribute_word, data_exists_word, data_missing_word, outstanding_confirmed_commit_word, locked_word, invalid_lock_specification_word, no_matches_word, missing_instance_word, missing_choice_word, too_few_elements_word, too_many_elements_word, data_not_unique_word, instance_required_word, parameter_word, datastore_word, global_lock_word, candidate_modified_word, confirmed_commit_word, no_lock_word, no_confirmed_commit_word, limit_word, constraint_word, mandatory_word, mandatory_choice_word, min_elements_word, max_elements_word, unique_word, leafref_word, instance_word, disk_fault_word}
use Rattle.nc_message.specs.declared.tree.Why.TheVariants.{Depth}
use Rattle.nc_names.specs.declared.cause.CauseKind.{CauseKind}
use Rattle.nc_names.specs.declared.cause.CauseKind.TheVariants.{Malformed, NoMessageId, NoOperation, TwoOperations, UnknownOperation, UnknownParameter, RepeatedParameter, MissingParameter, BadParameter, BadFilterType}
use Rattle.nc_protocol.specs.declared.asked.Asked.{Asked}
use Rattle.nc_protocol.specs.declared.asked.Asked.TheVariants.{Get, GetConfig, EditConfig, CopyConfig, DeleteConfig, Lock, Unlock, CloseSession, KillSession, Commit, DiscardChanges, CancelCommit, Validate, PartialLock, PartialUnlock}
use Rattle.nc_protocol.specs.declared.asked.Default3.TheVariants.{Merge, Nothing}
use Rattle.nc_protocol.specs.declared.asked.ErrorOption.TheVariants.{Stop, Rollback}
use Rattle.nc_protocol.specs.declared.asked.TestOption.TheVariants.{Set, TestOnly}
use Rattle.nc_protocol.specs.declared.datastore.Datastore.TheVariants.{Running, Candidate, Startup}
use Rattle.nc_protocol.specs.declared.datastore.Origin.TheVariants.{Store, Inline}
use Rattle.nc_protocol.specs.declared.request.Cause.{Cause}
use Rattle.nc_protocol.specs.declared.request.Request.{Request}
use Rattle.nc_protocol.specs.Decoded.{decoded}

unfoldable pub in_space : List ℕ → List ℕ → List Part → Elem
in_space space name parts = record { name = record { space = space; name = name }; bounds = []; attrs = []; parts = parts }

-- an element of the base namespace, and one that is a part: empty, round a text, and round one element
unfoldable pub base : List ℕ → List Part → Elem
base name parts = in_space (codes "urn:ietf:params:xml:ns:netconf:base:1.0") name parts

unfoldable pub empty : List ℕ → Part
empty name = Child (base name [])

unfoldable pub text : List ℕ → List ℕ → Part
text name chars = Child (base name (Chars chars ∷ []))

unfoldable pub round : List ℕ → Part → Part
round name part = Child (base name (part ∷ []))

unfoldable pub locking : List ℕ → List Part → Elem
locking name parts = in_space (codes "urn:ietf:params:xml:ns:netconf:partial-lock:1.0") name parts

unfoldable pub message_id : Attr
message_id = record { name = record { space = []; name = codes "message-id" }; prefix = []; value = codes "1" }

-- an `rpc` with an operation
unfoldable pub rpc : Elem → Tree
rpc operation = record { root = record (base (codes "rpc") (Child operation ∷ [])) { attrs = message_id ∷ [] } }

unfoldable pub asked : Elem → Result Asked Cause
asked operation = (decoded (Ok (rpc operation))).asked

unfoldable pub refused : CauseKind → List (List ℕ) → Result Asked Cause
refused kind names = Err (record { kind = kind; path = None; names = names })

unfoldable pub target : Part
target = round (codes "target") (empty (codes "candidate"))

unfoldable pub source : Part
source = round (codes "source") (empty (codes "running"))

unfoldable pub config : Elem
config = base (codes "config") (Child (in_space (codes "urn:ex") (codes "top") []) ∷ [])

unfoldable pub filter : Elem
filter = base (codes "filter") []

operations_with_their_parameters :
    map asked (
    base (codes "get") []
    ∷ base (codes "get-config") (source ∷ Chars (codes " ") ∷ Child filter ∷ [])
    ∷ base (codes "edit-config") (target ∷ Child config ∷ [])
    ∷ base (codes "edit-config") (Child config ∷ text (codes "error-option") (codes " rollback-on-error\n") ∷ text (codes "test-option") (codes "test-only") ∷ text (codes "default-operation") (codes "none") ∷ target ∷ [])
    ∷ base (codes "copy-config") (target ∷ round (codes "source") (Child config) ∷ [])
    ∷ base (codes "delete-config") (round (codes "target") (empty (codes "startup")) ∷ [])
    ∷ [])
    ≡
    Ok (Get None)
    ∷ Ok (GetConfig Running (Some filter))
    ∷ Ok (EditConfig Candidate Merge Set Stop config)
    ∷ Ok (EditConfig Candidate Nothing TestOnly Rollback config)
    ∷ Ok (CopyConfig Candidate (Inline config))
    ∷ Ok (DeleteConfig Startup)
    ∷ []
unfolding in_space base empty text round locking message_id rpc asked refused target source config filter key_word value_word rule_word default_word read_word write_word exec_word operation_word deny_all_word deny_write_word default_operation_word running_word candidate_word startup_word url_word base_namespace yang_namespace merge_word replace_word create_word delete_word remove_word insert_word first_word last_word before_word after_word partial_lock_namespace cause_namespace rpc_word message_id_word get_word get_config_word edit_config_word copy_config_word delete_config_word lock_word unlock_word close_session_word kill_session_word commit_word discard_changes_word cancel_commit_word validate_word partial_lock_word partial_unlock_word target_word source_word config_word filter_word test_option_word error_option_word confirmed_word confirm_timeout_word session_id_word lock_id_word persist_word persist_id_word select_word none_word test_then_set_word set_word test_only_word stop_on_error_word continue_on_error_word rollback_on_error_word type_word subtree_word rpc_reply_word ok_word data_word locked_node_word rpc_error_word error_type_word error_tag_word error_severity_word error_app_tag_word error_path_word error_info_word bad_attribute_word bad_element_word bad_namespace_word cause_word kind_word name_word protocol_word application_word error_word malformed_message_word missing_attribute_word missing_element_word unknown_element_word operation_not_supported_word access_denied_word invalid_value_word lock_denied_word operation_failed_word in_use_word resource_denied_word unknown_namespace_word unknown_attribute_word data_exists_word data_missing_word outstanding_confirmed_commit_word locked_word invalid_lock_specification_word no_matches_word missing_instance_word missing_choice_word too_few_elements_word too_many_elements_word data_not_unique_word instance_required_word parameter_word datastore_word global_lock_word candidate_modified_word confirmed_commit_word no_lock_word no_confirmed_commit_word limit_word constraint_word mandatory_word mandatory_choice_word min_elements_word max_elements_word unique_word leafref_word instance_word disk_fault_word hidden-the_row-Part-0 hidden-the_row-Elem-1 hidden
operations_with_their_parameters = refl

operations_of_sessions_and_commits :
    map asked (
    base (codes "lock") (target ∷ [])
    ∷ base (codes "unlock") (target ∷ [])
    ∷ base (codes "close-session") []
    ∷ base (codes "kill-session") (text (codes "session-id") (codes " +007 ") ∷ [])
    ∷ base (codes "commit") []
    ∷ base (codes "commit") (text (codes "persist") (codes " t ") ∷ text (codes "confirm-timeout") (codes "120") ∷ empty (codes "confirmed") ∷ empty (codes "persist-id") ∷ [])
    ∷ base (codes "discard-changes") []
    ∷ base (codes "cancel-commit") (text (codes "persist-id") (codes "t") ∷ [])
    ∷ base (codes "validate") (source ∷ [])
    ∷ locking (codes "partial-lock") (Child (locking (codes "select") (Chars (codes " /ex:top ") ∷ [])) ∷ Child (locking (codes "select") []) ∷ [])
    ∷ locking (codes "partial-unlock") (Child (locking (codes "lock-id") (Chars (codes "1") ∷ [])) ∷ [])
    ∷ [])
    ≡
    Ok (Lock Candidate)
    ∷ Ok (Unlock Candidate)
    ∷ Ok CloseSession
    ∷ Ok (KillSession 7)
    ∷ Ok (Commit false 600 None None)
    ∷ Ok (Commit true 120 (Some (codes " t ")) (Some []))
    ∷ Ok DiscardChanges
    ∷ Ok (CancelCommit (Some (codes "t")))
    ∷ Ok (Validate (Store Running))
    ∷ Ok (PartialLock (record { text = codes "/ex:top"; bounds = [] } ∷ record { text = []; bounds = [] } ∷ []))
    ∷ Ok (PartialUnlock 1)
    ∷ []
unfolding in_space base empty text round locking message_id rpc asked refused target source config filter key_word value_word rule_word default_word read_word write_word exec_word operation_word deny_all_word deny_write_word default_operation_word running_word candidate_word startup_word url_word base_namespace yang_namespace merge_word replace_word create_word delete_word remove_word insert_word first_word last_word before_word after_word partial_lock_namespace cause_namespace rpc_word message_id_word get_word get_config_word edit_config_word copy_config_word delete_config_word lock_word unlock_word close_session_word kill_session_word commit_word discard_changes_word cancel_commit_word validate_word partial_lock_word partial_unlock_word target_word source_word config_word filter_word test_option_word error_option_word confirmed_word confirm_timeout_word session_id_word lock_id_word persist_word persist_id_word select_word none_word test_then_set_word set_word test_only_word stop_on_error_word continue_on_error_word rollback_on_error_word type_word subtree_word rpc_reply_word ok_word data_word locked_node_word rpc_error_word error_type_word error_tag_word error_severity_word error_app_tag_word error_path_word error_info_word bad_attribute_word bad_element_word bad_namespace_word cause_word kind_word name_word protocol_word application_word error_word malformed_message_word missing_attribute_word missing_element_word unknown_element_word operation_not_supported_word access_denied_word invalid_value_word lock_denied_word operation_failed_word in_use_word resource_denied_word unknown_namespace_word unknown_attribute_word data_exists_word data_missing_word outstanding_confirmed_commit_word locked_word invalid_lock_specification_word no_matches_word missing_instance_word missing_choice_word too_few_elements_word too_many_elements_word data_not_unique_word instance_required_word parameter_word datastore_word global_lock_word candidate_modified_word confirmed_commit_word no_lock_word no_confirmed_commit_word limit_word constraint_word mandatory_word mandatory_choice_word min_elements_word max_elements_word unique_word leafref_word instance_word disk_fault_word hidden-the_row-Part-0 hidden-the_row-Elem-1 hidden
operations_of_sessions_and_commits = refl

first_faults_of_parameters :
    map asked (
    base (codes "get") (empty (codes "with-defaults") ∷ [])
    ∷ base (codes "lock") (Child (locking (codes "target") []) ∷ [])
    ∷ base (codes "lock") (target ∷ target ∷ [])
    ∷ base (codes "copy-config") []
    ∷ base (codes "edit-config") (Child config ∷ [])
    ∷ base (codes "edit-config") (target ∷ [])
    ∷ base (codes "edit-config") (text (codes "test-option") (codes "maybe") ∷ empty (codes "other") ∷ [])
    ∷ base (codes "edit-config") (empty (codes "other") ∷ text (codes "test-option") (codes "maybe") ∷ [])
    ∷ base (codes "lock") (Child (base (codes "target") (Chars (codes "x") ∷ empty (codes "candidate") ∷ [])) ∷ [])
    ∷ base (codes "lock") (Child (base (codes "target") (empty (codes "candidate") ∷ empty (codes "running") ∷ [])) ∷ [])
    ∷ [])
    ≡
    refused UnknownParameter (codes "with-defaults" ∷ [])
    ∷ refused UnknownParameter (codes "target" ∷ [])
    ∷ refused RepeatedParameter (codes "target" ∷ [])
    ∷ refused MissingParameter (codes "target" ∷ [])
    ∷ refused MissingParameter (codes "target" ∷ [])
    ∷ refused MissingParameter (codes "config" ∷ [])
    ∷ refused BadParameter (codes "test-option" ∷ [])
    ∷ refused UnknownParameter (codes "other" ∷ [])
    ∷ refused BadParameter (codes "target" ∷ [])
    ∷ refused BadParameter (codes "target" ∷ [])
    ∷ []
unfolding in_space base empty text round locking message_id rpc asked refused target source config filter key_word value_word rule_word default_word read_word write_word exec_word operation_word deny_all_word deny_write_word default_operation_word running_word candidate_word startup_word url_word base_namespace yang_namespace merge_word replace_word create_word delete_word remove_word insert_word first_word last_word before_word after_word partial_lock_namespace cause_namespace rpc_word message_id_word get_word get_config_word edit_config_word copy_config_word delete_config_word lock_word unlock_word close_session_word kill_session_word commit_word discard_changes_word cancel_commit_word validate_word partial_lock_word partial_unlock_word target_word source_word config_word filter_word test_option_word error_option_word confirmed_word confirm_timeout_word session_id_word lock_id_word persist_word persist_id_word select_word none_word test_then_set_word set_word test_only_word stop_on_error_word continue_on_error_word rollback_on_error_word type_word subtree_word rpc_reply_word ok_word data_word locked_node_word rpc_error_word error_type_word error_tag_word error_severity_word error_app_tag_word error_path_word error_info_word bad_attribute_word bad_element_word bad_namespace_word cause_word kind_word name_word protocol_word application_word error_word malformed_message_word missing_attribute_word missing_element_word unknown_element_word operation_not_supported_word access_denied_word invalid_value_word lock_denied_word operation_failed_word in_use_word resource_denied_word unknown_namespace_word unknown_attribute_word data_exists_word data_missing_word outstanding_confirmed_commit_word locked_word invalid_lock_specification_word no_matches_word missing_instance_word missing_choice_word too_few_elements_word too_many_elements_word data_not_unique_word instance_required_word parameter_word datastore_word global_lock_word candidate_modified_word confirmed_commit_word no_lock_word no_confirmed_commit_word limit_word constraint_word mandatory_word mandatory_choice_word min_elements_word max_elements_word unique_word leafref_word instance_word disk_fault_word hidden-the_row-Part-0 hidden-the_row-Elem-1 hidden
first_faults_of_parameters = refl

values_that_have_no_reading :
    map asked (
    base (codes "get-config") (round (codes "source") (Child config) ∷ [])
    ∷ base (codes "kill-session") (text (codes "session-id") (codes "0") ∷ [])
    ∷ base (codes "kill-session") (text (codes "session-id") (codes "4294967296") ∷ [])
    ∷ base (codes "commit") (empty (codes "confirmed") ∷ text (codes "confirm-timeout") (codes "-1") ∷ [])
    ∷ base (codes "commit") (text (codes "persist") (codes "t") ∷ empty (codes "other") ∷ [])
    ∷ base (codes "commit") (round (codes "persist-id") (empty (codes "x")) ∷ [])
    ∷ base (codes "commit") (text (codes "confirmed") (codes "true") ∷ [])
    ∷ base (codes "get") (Child (record filter { attrs = record { name = record { space = []; name = codes "type" }; prefix = []; value = codes "xpath" } ∷ [] }) ∷ [])
    ∷ locking (codes "partial-lock") []
    ∷ base (codes "partial-lock") []
    ∷ [])
    ≡
    refused BadParameter (codes "source" ∷ [])
    ∷ refused BadParameter (codes "session-id" ∷ [])
    ∷ refused BadParameter (codes "session-id" ∷ [])
    ∷ refused BadParameter (codes "confirm-timeout" ∷ [])
    ∷ refused BadParameter (codes "persist" ∷ [])
    ∷ refused BadParameter (codes "persist-id" ∷ [])
    ∷ refused BadParameter (codes "confirmed" ∷ [])
    ∷ refused BadFilterType []
    ∷ refused MissingParameter (codes "select" ∷ [])
    ∷ refused UnknownOperation []
    ∷ []
unfolding in_space base empty text round locking message_id rpc asked refused target source config filter key_word value_word rule_word default_word read_word write_word exec_word operation_word deny_all_word deny_write_word default_operation_word running_word candidate_word startup_word url_word base_namespace yang_namespace merge_word replace_word create_word delete_word remove_word insert_word first_word last_word before_word after_word partial_lock_namespace cause_namespace rpc_word message_id_word get_word get_config_word edit_config_word copy_config_word delete_config_word lock_word unlock_word close_session_word kill_session_word commit_word discard_changes_word cancel_commit_word validate_word partial_lock_word partial_unlock_word target_word source_word config_word filter_word test_option_word error_option_word confirmed_word confirm_timeout_word session_id_word lock_id_word persist_word persist_id_word select_word none_word test_then_set_word set_word test_only_word stop_on_error_word continue_on_error_word rollback_on_error_word type_word subtree_word rpc_reply_word ok_word data_word locked_node_word rpc_error_word error_type_word error_tag_word error_severity_word error_app_tag_word error_path_word error_info_word bad_attribute_word bad_element_word bad_namespace_word cause_word kind_word name_word protocol_word application_word error_word malformed_message_word missing_attribute_word missing_element_word unknown_element_word operation_not_supported_word access_denied_word invalid_value_word lock_denied_word operation_failed_word in_use_word resource_denied_word unknown_namespace_word unknown_attribute_word data_exists_word data_missing_word outstanding_confirmed_commit_word locked_word invalid_lock_specification_word no_matches_word missing_instance_word missing_choice_word too_few_elements_word too_many_elements_word data_not_unique_word instance_required_word parameter_word datastore_word global_lock_word candidate_modified_word confirmed_commit_word no_lock_word no_confirmed_commit_word limit_word constraint_word mandatory_word mandatory_choice_word min_elements_word max_elements_word unique_word leafref_word instance_word disk_fault_word hidden-the_row-Part-0 hidden-the_row-Elem-1 hidden
values_that_have_no_reading = refl

-- messages that are no request with one operation
unfoldable pub with_attrs : List Attr → List Part → Request
with_attrs attrs parts = decoded (Ok (record { root = record (base (codes "rpc") parts) { attrs = attrs } }))

unfoldable pub nothing_asked : List Attr → CauseKind → List (List ℕ) → Request
nothing_asked attrs kind names = record { attributes = attrs; operation = None; asked = refused kind names }

messages_without_an_operation :
    decoded (Err Depth) ∷ decoded (Ok (record { root = base (codes "hello") [] })) ∷ with_attrs [] (empty (codes "get") ∷ [])
    ∷ with_attrs (message_id ∷ []) (Chars (codes "get") ∷ []) ∷ with_attrs (message_id ∷ []) (empty (codes "get") ∷ empty (codes "lock") ∷ [])
    ∷ []
    ≡
    nothing_asked [] Malformed [] ∷ nothing_asked [] Malformed [] ∷ nothing_asked [] NoMessageId []
    ∷ nothing_asked (message_id ∷ []) NoOperation [] ∷ nothing_asked (message_id ∷ []) TwoOperations (codes "lock" ∷ []) ∷ []
unfolding with_attrs nothing_asked in_space base empty text round locking message_id rpc asked refused target source config filter key_word value_word rule_word default_word read_word write_word exec_word operation_word deny_all_word deny_write_word default_operation_word running_word candidate_word startup_word url_word base_namespace yang_namespace merge_word replace_word create_word delete_word remove_word insert_word first_word last_word before_word after_word partial_lock_namespace cause_namespace rpc_word message_id_word get_word get_config_word edit_config_word copy_config_word delete_config_word lock_word unlock_word close_session_word kill_session_word commit_word discard_changes_word cancel_commit_word validate_word partial_lock_word partial_unlock_word target_word source_word config_word filter_word test_option_word error_option_word confirmed_word confirm_timeout_word session_id_word lock_id_word persist_word persist_id_word select_word none_word test_then_set_word set_word test_only_word stop_on_error_word continue_on_error_word rollback_on_error_word type_word subtree_word rpc_reply_word ok_word data_word locked_node_word rpc_error_word error_type_word error_tag_word error_severity_word error_app_tag_word error_path_word error_info_word bad_attribute_word bad_element_word bad_namespace_word cause_word kind_word name_word protocol_word application_word error_word malformed_message_word missing_attribute_word missing_element_word unknown_element_word operation_not_supported_word access_denied_word invalid_value_word lock_denied_word operation_failed_word in_use_word resource_denied_word unknown_namespace_word unknown_attribute_word data_exists_word data_missing_word outstanding_confirmed_commit_word locked_word invalid_lock_specification_word no_matches_word missing_instance_word missing_choice_word too_few_elements_word too_many_elements_word data_not_unique_word instance_required_word parameter_word datastore_word global_lock_word candidate_modified_word confirmed_commit_word no_lock_word no_confirmed_commit_word limit_word constraint_word mandatory_word mandatory_choice_word min_elements_word max_elements_word unique_word leafref_word instance_word disk_fault_word hidden-the_row-Part-0 hidden-the_row-Elem-1 hidden
messages_without_an_operation = refl
