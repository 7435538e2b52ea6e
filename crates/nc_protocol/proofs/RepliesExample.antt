-- Replies as they are written, worked from RFC 6241 4.2 to 4.4 and appendix A and RFC 5717 by hand.
use Rattle.std.proofs.Common.{◌≡◌, ℕ, List, [], ◌∷◌, ◌++◌, refl}
use Rattle.std.specs.Prelude.{codes, if◌then◌else◌, drop, map, Bool, true, Option, Some, None, Err}
use Rattle.nc_message.specs.Marks.{ampersand, less_than, greater_than, quotation_mark, carriage_return, tab, line_feed, default_namespace, prefixed_namespace, value_start, empty_end, end_tag, xml_prefix}
use Rattle.nc_message.specs.Written.{written}
use Rattle.nc_message.specs.declared.tree.Part.TheBlock.{hidden-the_row-Part-0, hidden-the_row-Elem-1}
use denote.Hole.Carrier.{hidden}
use Rattle.nc_names.specs.declared.path.Path.{Path}
use Rattle.nc_protocol.proofs.Example.{node}
use Rattle.nc_names.specs.declared.cause.CauseKind.{CauseKind}
use Rattle.nc_names.specs.declared.cause.CauseKind.TheVariants.{Malformed, NoMessageId, TwoOperations, ExecDenied, BadParameter, LockHeld, LockModified, LockPending, InUsePartial, NoMatch, UnknownNamespace, DataDenied, MandatoryChoice, DeadLeafref, DiskFault}
use Rattle.nc_names.specs.Same.{is_same_path}
use Rattle.nc_protocol.proofs.Example.{tables}
use Rattle.nc_protocol.specs.Refusals.{broken_at}
use Rattle.nc_protocol.specs.Reply.{answer_parts, reply_of, rule_path}
use Rattle.nc_protocol.specs.Words.{key_word, value_word, rule_word, default_word, read_word, write_word, exec_word, operation_word, deny_all_word, deny_write_word, default_operation_word, running_word, candidate_word, startup_word, url_word, base_namespace, yang_namespace, merge_word, replace_word, create_word, delete_word, remove_word, insert_word, first_word, last_word, before_word, after_word, partial_lock_namespace, cause_namespace, rpc_word, message_id_word, get_word, get_config_word, edit_config_word, copy_config_word, delete_config_word, lock_word, unlock_word, close_session_word, kill_session_word, commit_word, discard_changes_word, cancel_commit_word, validate_word, partial_lock_word, partial_unlock_word, target_word, source_word, config_word, filter_word, test_option_word, error_option_word, confirmed_word, confirm_timeout_word, session_id_word, lock_id_word, persist_word, persist_id_word, select_word, none_word, test_then_set_word, set_word, test_only_word, stop_on_error_word, continue_on_error_word, rollback_on_error_word, type_word, subtree_word, rpc_reply_word, ok_word, data_word, locked_node_word, rpc_error_word, error_type_word, error_tag_word, error_severity_word, error_app_tag_word, error_path_word, error_info_word, bad_attribute_word, bad_element_word, bad_namespace_word, no_session_word, cause_word, kind_word, name_word, protocol_word, application_word, error_word, malformed_message_word, missing_attribute_word, missing_element_word, unknown_element_word, operation_not_supported_word, access_denied_word, invalid_value_word, lock_denied_word, operation_failed_word, in_use_word, resource_denied_word, unknown_namespace_word, unknown_attribute_word, data_exists_word, data_missing_word, outstanding_confirmed_commit_word, locked_word, invalid_lock_specification_word, no_matches_word, missing_instance_word, missing_choice_word, too_few_elements_word, too_many_elements_word, data_not_unique_word, instance_required_word, parameter_word, datastore_word, global_lock_word, candidate_modified_word, confirmed_commit_word, no_lock_word, no_confirmed_commit_word, limit_word, constraint_word, mandatory_word, mandatory_choice_word, min_elements_word, max_elements_word, unique_word, leafref_word, instance_word, disk_fault_word}
use Rattle.nc_protocol.specs.declared.asked.Operation.{Operation}
use Rattle.nc_protocol.specs.declared.asked.Operation.TheVariants.{Lock, PartialLock}
use Rattle.nc_protocol.specs.declared.request.Request.{Request}
use Rattle.nc_protocol.specs.declared.verdict.Verdict.{Verdict}
use Rattle.nc_protocol.specs.declared.verdict.Verdict.TheVariants.{Done, Selected, Locked, Refused}

-- a request whose attributes are `nc:a="<"` and `message-id="1"`
abbrev request : Option Operation → Request
request operation = record {
  attributes = record { name = record { space = codes "urn:n"; name = codes "a" }; prefix = codes "nc"; value = codes "<" }
      ∷ record { name = record { space = []; name = codes "message-id" }; prefix = []; value = codes "1" } ∷ [];
  operation = operation;
  asked = Err (record { kind = Malformed; path = None; names = [] });
}

abbrev port : List ℕ → Path
port key = record { steps = record { node = 0; keys = [] } ∷ record { node = 1; keys = key ∷ [] } ∷ [] }

-- the session sees the port `b` and the rule `r` of the rule-list `l`
abbrev sees : Path → Bool
sees path = if is_same_path path.steps (port (codes "b")).steps then true else is_same_path path.steps (rule_path (codes "l") (codes "r")).steps

abbrev reply : Option Operation → Verdict → List ℕ
reply operation verdict = written (reply_of tables sees (request operation) verdict)

abbrev round : List ℕ → List ℕ
round inner = codes "<rpc-reply xmlns=\"urn:ietf:params:xml:ns:netconf:base:1.0\" xmlns:nc=\"urn:n\" nc:a=\"&lt;\" message-id=\"1\">" ++ inner ++ codes "</rpc-reply>"

done_and_empty :
    reply None Done ∷ reply None (Selected []) ∷ []
    ≡
    round (codes "<ok/>") ∷ round (codes "<data/>")
    ∷ []
unfolding node tables key_word value_word rule_word default_word read_word write_word exec_word operation_word deny_all_word deny_write_word default_operation_word running_word candidate_word startup_word url_word base_namespace yang_namespace merge_word replace_word create_word delete_word remove_word insert_word first_word last_word before_word after_word partial_lock_namespace cause_namespace rpc_word message_id_word get_word get_config_word edit_config_word copy_config_word delete_config_word lock_word unlock_word close_session_word kill_session_word commit_word discard_changes_word cancel_commit_word validate_word partial_lock_word partial_unlock_word target_word source_word config_word filter_word test_option_word error_option_word confirmed_word confirm_timeout_word session_id_word lock_id_word persist_word persist_id_word select_word none_word test_then_set_word set_word test_only_word stop_on_error_word continue_on_error_word rollback_on_error_word type_word subtree_word rpc_reply_word ok_word data_word locked_node_word rpc_error_word error_type_word error_tag_word error_severity_word error_app_tag_word error_path_word error_info_word bad_attribute_word bad_element_word bad_namespace_word no_session_word cause_word kind_word name_word protocol_word application_word error_word malformed_message_word missing_attribute_word missing_element_word unknown_element_word operation_not_supported_word access_denied_word invalid_value_word lock_denied_word operation_failed_word in_use_word resource_denied_word unknown_namespace_word unknown_attribute_word data_exists_word data_missing_word outstanding_confirmed_commit_word locked_word invalid_lock_specification_word no_matches_word missing_instance_word missing_choice_word too_few_elements_word too_many_elements_word data_not_unique_word instance_required_word parameter_word datastore_word global_lock_word candidate_modified_word confirmed_commit_word no_lock_word no_confirmed_commit_word limit_word constraint_word mandatory_word mandatory_choice_word min_elements_word max_elements_word unique_word leafref_word instance_word disk_fault_word ampersand less_than greater_than quotation_mark carriage_return tab line_feed default_namespace prefixed_namespace value_start empty_end end_tag xml_prefix hidden-the_row-Part-0 hidden-the_row-Elem-1 hidden
done_and_empty = refl

-- a locked node's path has the names of its modules bound
locked_nodes :
    map (λ part. written (record { root = record { name = record { space = []; name = [] }; bounds = []; attrs = []; parts = part ∷ [] } }))
    (drop 1 (answer_parts tables sees sees None (Locked 12 (port (codes "a") ∷ []))))
    ≡ codes "<><locked-node xmlns=\"urn:ietf:params:xml:ns:netconf:partial-lock:1.0\" xmlns:ex=\"urn:ex\">/ex:top/ex:port[ex:name='a']</locked-node></>" ∷ []
unfolding node tables key_word value_word rule_word default_word read_word write_word exec_word operation_word deny_all_word deny_write_word default_operation_word running_word candidate_word startup_word url_word base_namespace yang_namespace merge_word replace_word create_word delete_word remove_word insert_word first_word last_word before_word after_word partial_lock_namespace cause_namespace rpc_word message_id_word get_word get_config_word edit_config_word copy_config_word delete_config_word lock_word unlock_word close_session_word kill_session_word commit_word discard_changes_word cancel_commit_word validate_word partial_lock_word partial_unlock_word target_word source_word config_word filter_word test_option_word error_option_word confirmed_word confirm_timeout_word session_id_word lock_id_word persist_word persist_id_word select_word none_word test_then_set_word set_word test_only_word stop_on_error_word continue_on_error_word rollback_on_error_word type_word subtree_word rpc_reply_word ok_word data_word locked_node_word rpc_error_word error_type_word error_tag_word error_severity_word error_app_tag_word error_path_word error_info_word bad_attribute_word bad_element_word bad_namespace_word no_session_word cause_word kind_word name_word protocol_word application_word error_word malformed_message_word missing_attribute_word missing_element_word unknown_element_word operation_not_supported_word access_denied_word invalid_value_word lock_denied_word operation_failed_word in_use_word resource_denied_word unknown_namespace_word unknown_attribute_word data_exists_word data_missing_word outstanding_confirmed_commit_word locked_word invalid_lock_specification_word no_matches_word missing_instance_word missing_choice_word too_few_elements_word too_many_elements_word data_not_unique_word instance_required_word parameter_word datastore_word global_lock_word candidate_modified_word confirmed_commit_word no_lock_word no_confirmed_commit_word limit_word constraint_word mandatory_word mandatory_choice_word min_elements_word max_elements_word unique_word leafref_word instance_word disk_fault_word ampersand less_than greater_than quotation_mark carriage_return tab line_feed default_namespace prefixed_namespace value_start empty_end end_tag xml_prefix hidden-the_row-Part-0 hidden-the_row-Elem-1 hidden
locked_nodes = refl

abbrev error : Option Operation → CauseKind → Option Path → List (List ℕ) → List ℕ
error operation kind path names = reply operation (Refused (record { kind = kind; path = path; names = names } ∷ []))

abbrev error_text : List ℕ → List ℕ → List ℕ → List ℕ
error_text layer tag rest =
    round (codes "<rpc-error><error-type>" ++ layer ++ codes "</error-type><error-tag>" ++ tag
    ++ codes "</error-tag><error-severity>error</error-severity>" ++ rest ++ codes "</rpc-error>")

abbrev info : List ℕ → List ℕ
info inner = codes "<error-info>" ++ inner ++ codes "</error-info>"

abbrev named : List (List ℕ) → List ℕ
named [] = []
named (name ∷ names) = codes "<name>" ++ name ++ codes "</name>" ++ named names

abbrev cause : List ℕ → List (List ℕ) → List ℕ
cause kind names = codes "<cause xmlns=\"urn:netconfd:cause:1\"><kind>" ++ kind ++ codes "</kind>" ++ named names ++ codes "</cause>"

errors_of_messages_and_locks :
    error None NoMessageId None []
    ∷ error None TwoOperations None (codes "lock" ∷ [])
    ∷ error (Some Lock) ExecDenied None (codes "default" ∷ codes "exec" ∷ [])
    ∷ error (Some Lock) BadParameter None (codes "target" ∷ [])
    ∷ error (Some Lock) LockHeld None (codes "candidate" ∷ codes "2" ∷ [])
    ∷ error (Some Lock) LockModified None []
    ∷ error (Some Lock) LockPending None (codes "3" ∷ [])
    ∷ error (Some PartialLock) LockPending None (codes "3" ∷ [])
    ∷ error (Some Lock) InUsePartial None (codes "1" ∷ codes "4" ∷ [])
    ∷ error (Some PartialLock) NoMatch None []
    ∷ []
    ≡
    error_text (codes "rpc") (codes "missing-attribute") (info (codes "<bad-attribute>message-id</bad-attribute><bad-element>rpc</bad-element>"))
    ∷ error_text (codes "protocol") (codes "unknown-element") (info (codes "<bad-element>lock</bad-element>"))
    ∷ error_text (codes "protocol") (codes "access-denied") (info (cause (codes "default") (codes "exec" ∷ [])))
    ∷ error_text (codes "protocol") (codes "invalid-value") (info (cause (codes "parameter") (codes "target" ∷ [])))
    ∷ error_text (codes "protocol") (codes "lock-denied") (info (codes "<session-id>2</session-id>" ++ cause (codes "global-lock") (codes "candidate" ∷ codes "2" ∷ [])))
    ∷ error_text (codes "protocol") (codes "lock-denied") (info (codes "<session-id>0</session-id>" ++ cause (codes "candidate-modified") []))
    ∷ error_text (codes "protocol") (codes "lock-denied") (info (codes "<session-id>3</session-id>" ++ cause (codes "confirmed-commit") (codes "3" ∷ [])))
    ∷ error_text (codes "protocol") (codes "lock-denied") (codes "<error-app-tag>outstanding-confirmed-commit</error-app-tag>" ++ info (codes "<session-id>3</session-id>" ++ cause (codes "confirmed-commit") (codes "3" ∷ [])))
    ∷ error_text (codes "protocol") (codes "in-use") (codes "<error-app-tag>locked</error-app-tag>" ++ info (cause (codes "partial-lock") (codes "1" ∷ codes "4" ∷ [])))
    ∷ error_text (codes "application") (codes "operation-failed") (codes "<error-app-tag>no-matches</error-app-tag>")
    ∷ []
unfolding node tables key_word value_word rule_word default_word read_word write_word exec_word operation_word deny_all_word deny_write_word default_operation_word running_word candidate_word startup_word url_word base_namespace yang_namespace merge_word replace_word create_word delete_word remove_word insert_word first_word last_word before_word after_word partial_lock_namespace cause_namespace rpc_word message_id_word get_word get_config_word edit_config_word copy_config_word delete_config_word lock_word unlock_word close_session_word kill_session_word commit_word discard_changes_word cancel_commit_word validate_word partial_lock_word partial_unlock_word target_word source_word config_word filter_word test_option_word error_option_word confirmed_word confirm_timeout_word session_id_word lock_id_word persist_word persist_id_word select_word none_word test_then_set_word set_word test_only_word stop_on_error_word continue_on_error_word rollback_on_error_word type_word subtree_word rpc_reply_word ok_word data_word locked_node_word rpc_error_word error_type_word error_tag_word error_severity_word error_app_tag_word error_path_word error_info_word bad_attribute_word bad_element_word bad_namespace_word no_session_word cause_word kind_word name_word protocol_word application_word error_word malformed_message_word missing_attribute_word missing_element_word unknown_element_word operation_not_supported_word access_denied_word invalid_value_word lock_denied_word operation_failed_word in_use_word resource_denied_word unknown_namespace_word unknown_attribute_word data_exists_word data_missing_word outstanding_confirmed_commit_word locked_word invalid_lock_specification_word no_matches_word missing_instance_word missing_choice_word too_few_elements_word too_many_elements_word data_not_unique_word instance_required_word parameter_word datastore_word global_lock_word candidate_modified_word confirmed_commit_word no_lock_word no_confirmed_commit_word limit_word constraint_word mandatory_word mandatory_choice_word min_elements_word max_elements_word unique_word leafref_word instance_word disk_fault_word ampersand less_than greater_than quotation_mark carriage_return tab line_feed default_namespace prefixed_namespace value_start empty_end end_tag xml_prefix hidden-the_row-Part-0 hidden-the_row-Elem-1 hidden
errors_of_messages_and_locks = refl

-- a path and the names of a rule are written where the session sees them, and a choice at the top level has no path
errors_of_data :
    error None UnknownNamespace (Some (port (codes "b"))) (codes "x" ∷ [] ∷ [])
    ∷ error None DataDenied (Some (port (codes "a"))) (codes "rule" ∷ codes "l" ∷ codes "r" ∷ [])
    ∷ error None DataDenied (Some (port (codes "b"))) (codes "rule" ∷ codes "l" ∷ codes "s" ∷ [])
    ∷ error None DeadLeafref (Some (port (codes "b"))) []
    ∷ error None MandatoryChoice (broken_at MandatoryChoice (record { steps = [] })) []
    ∷ error None DiskFault None []
    ∷ []
    ≡
    error_text (codes "application") (codes "unknown-namespace") (codes "<error-path xmlns:ex=\"urn:ex\">/ex:top/ex:port[ex:name='b']</error-path>" ++ info (codes "<bad-element>x</bad-element><bad-namespace/>"))
    ∷ error_text (codes "application") (codes "access-denied") (info (cause (codes "rule") (codes "l" ∷ codes "r" ∷ [])))
    ∷ error_text (codes "application") (codes "access-denied") (codes "<error-path xmlns:ex=\"urn:ex\">/ex:top/ex:port[ex:name='b']</error-path>" ++ info (cause (codes "rule") []))
    ∷ error_text (codes "application") (codes "data-missing") (codes "<error-app-tag>instance-required</error-app-tag>" ++ codes "<error-path xmlns:ex=\"urn:ex\">/ex:top/ex:port[ex:name='b']</error-path>" ++ info (cause (codes "constraint") (codes "leafref" ∷ [])))
    ∷ error_text (codes "application") (codes "data-missing") (codes "<error-app-tag>missing-choice</error-app-tag>" ++ info (cause (codes "constraint") (codes "mandatory-choice" ∷ [])))
    ∷ error_text (codes "application") (codes "operation-failed") (info (cause (codes "disk-fault") []))
    ∷ []
unfolding node tables key_word value_word rule_word default_word read_word write_word exec_word operation_word deny_all_word deny_write_word default_operation_word running_word candidate_word startup_word url_word base_namespace yang_namespace merge_word replace_word create_word delete_word remove_word insert_word first_word last_word before_word after_word partial_lock_namespace cause_namespace rpc_word message_id_word get_word get_config_word edit_config_word copy_config_word delete_config_word lock_word unlock_word close_session_word kill_session_word commit_word discard_changes_word cancel_commit_word validate_word partial_lock_word partial_unlock_word target_word source_word config_word filter_word test_option_word error_option_word confirmed_word confirm_timeout_word session_id_word lock_id_word persist_word persist_id_word select_word none_word test_then_set_word set_word test_only_word stop_on_error_word continue_on_error_word rollback_on_error_word type_word subtree_word rpc_reply_word ok_word data_word locked_node_word rpc_error_word error_type_word error_tag_word error_severity_word error_app_tag_word error_path_word error_info_word bad_attribute_word bad_element_word bad_namespace_word no_session_word cause_word kind_word name_word protocol_word application_word error_word malformed_message_word missing_attribute_word missing_element_word unknown_element_word operation_not_supported_word access_denied_word invalid_value_word lock_denied_word operation_failed_word in_use_word resource_denied_word unknown_namespace_word unknown_attribute_word data_exists_word data_missing_word outstanding_confirmed_commit_word locked_word invalid_lock_specification_word no_matches_word missing_instance_word missing_choice_word too_few_elements_word too_many_elements_word data_not_unique_word instance_required_word parameter_word datastore_word global_lock_word candidate_modified_word confirmed_commit_word no_lock_word no_confirmed_commit_word limit_word constraint_word mandatory_word mandatory_choice_word min_elements_word max_elements_word unique_word leafref_word instance_word disk_fault_word ampersand less_than greater_than quotation_mark carriage_return tab line_feed default_namespace prefixed_namespace value_start empty_end end_tag xml_prefix hidden-the_row-Part-0 hidden-the_row-Elem-1 hidden
errors_of_data = refl
