-- The fixed texts of requests, replies and causes (RFC 6241, RFC 5717, RFC 7950, RFC 8341).
use Rattle.std.specs.Prelude.{ℕ, List, codes}

-- ---- attributes that name an anchor (RFC 7950 7.7.9, 7.8.6)

-- the attribute that names a list entry as anchor (RFC 7950 7.8.6)
unfoldable pub key_word : List ℕ
key_word = codes "key"

-- the attribute that names a leaf-list entry as anchor (RFC 7950 7.7.9)
unfoldable pub value_word : List ℕ
value_word = codes "value"

-- ---- what decided: a rule, or a default

-- a rule decided (RFC 8341 3.5.2)
unfoldable pub rule_word : List ℕ
rule_word = codes "rule"

-- a default decided (RFC 8341 3.4.4, 3.4.5)
unfoldable pub default_word : List ℕ
default_word = codes "default"

-- that for reading (`read-default`, RFC 8341 3.5.2)
unfoldable pub read_word : List ℕ
read_word = codes "read"

-- that for writing (`write-default`, RFC 8341 3.5.2)
unfoldable pub write_word : List ℕ
write_word = codes "write"

-- that for operations (`exec-default`, RFC 8341 3.5.2)
unfoldable pub exec_word : List ℕ
exec_word = codes "exec"

-- that of kill-session and delete-config (RFC 8341 3.4.4); also the attribute `operation` (RFC 6241 7.2)
unfoldable pub operation_word : List ℕ
operation_word = codes "operation"

-- `default-deny-all` at the node or above it (RFC 8341 3.4.5)
unfoldable pub deny_all_word : List ℕ
deny_all_word = codes "deny-all"

-- `default-deny-write` at the node or above it (RFC 8341 3.4.5)
unfoldable pub deny_write_word : List ℕ
deny_write_word = codes "deny-write"

-- ---- a parameter and the datastores, which causes name (RFC 6241 7.2, 8.7, 8.8)

-- the operation of an element that names none (RFC 6241 7.2)
unfoldable pub default_operation_word : List ℕ
default_operation_word = codes "default-operation"

-- the running configuration datastore (RFC 6241 5.1)
unfoldable pub running_word : List ℕ
running_word = codes "running"

-- the candidate configuration datastore (RFC 6241 8.3)
unfoldable pub candidate_word : List ℕ
candidate_word = codes "candidate"

-- the startup configuration datastore (RFC 6241 8.7)
unfoldable pub startup_word : List ℕ
startup_word = codes "startup"

-- a URL in place of a datastore (RFC 6241 8.8)
unfoldable pub url_word : List ℕ
url_word = codes "url"

-- ---- namespaces of the attributes of a payload (RFC 6241 3.1; RFC 7950 5.3.1)

-- the namespace of NETCONF (RFC 6241 3.1)
unfoldable pub base_namespace : List ℕ
base_namespace = codes "urn:ietf:params:xml:ns:netconf:base:1.0"

-- the namespace of the attributes of YANG (RFC 7950 5.3.1)
unfoldable pub yang_namespace : List ℕ
yang_namespace = codes "urn:ietf:params:xml:ns:yang:1"

-- ---- words of `operation` (RFC 6241 7.2)

-- the data is merged with what is there
unfoldable pub merge_word : List ℕ
merge_word = codes "merge"

-- the data replaces what is there
unfoldable pub replace_word : List ℕ
replace_word = codes "replace"

-- the data is created, and may not be there
unfoldable pub create_word : List ℕ
create_word = codes "create"

-- the data is deleted, and has to be there
unfoldable pub delete_word : List ℕ
delete_word = codes "delete"

-- the data is deleted, if it is there
unfoldable pub remove_word : List ℕ
remove_word = codes "remove"

-- ---- where an entry that the user orders goes, and the words of it (RFC 7950 7.7.9, 7.8.6)

-- the attribute that says where an entry goes
unfoldable pub insert_word : List ℕ
insert_word = codes "insert"

-- before all other entries
unfoldable pub first_word : List ℕ
first_word = codes "first"

-- after all other entries
unfoldable pub last_word : List ℕ
last_word = codes "last"

-- directly before the anchor
unfoldable pub before_word : List ℕ
before_word = codes "before"

-- directly after the anchor
unfoldable pub after_word : List ℕ
after_word = codes "after"

-- ---- namespaces of partial locks (RFC 5717 4) and of this server's own causes

-- that of partial locks (RFC 5717 4)
unfoldable pub partial_lock_namespace : List ℕ
partial_lock_namespace = codes "urn:ietf:params:xml:ns:netconf:partial-lock:1.0"

-- that of this server's own elements of error-info
unfoldable pub cause_namespace : List ℕ
cause_namespace = codes "urn:netconfd:cause:1"

-- ---- a request and its attribute (RFC 6241 4.1)

-- the element of a request (RFC 6241 4.1); also the layer of errors in it (RFC 6241 4.3)
unfoldable pub rpc_word : List ℕ
rpc_word = codes "rpc"

-- the attribute that a request has to have (RFC 6241 4.1)
unfoldable pub message_id_word : List ℕ
message_id_word = codes "message-id"

-- ---- operations (RFC 6241 7, 8.3.4, 8.4.4, 8.6.4; RFC 5717 2.4)

-- running and state data (RFC 6241 7.7)
unfoldable pub get_word : List ℕ
get_word = codes "get"

-- the configuration in a datastore (RFC 6241 7.1)
unfoldable pub get_config_word : List ℕ
get_config_word = codes "get-config"

-- changes of a datastore (RFC 6241 7.2)
unfoldable pub edit_config_word : List ℕ
edit_config_word = codes "edit-config"

-- a whole configuration put into a datastore (RFC 6241 7.3)
unfoldable pub copy_config_word : List ℕ
copy_config_word = codes "copy-config"

-- a datastore deleted (RFC 6241 7.4)
unfoldable pub delete_config_word : List ℕ
delete_config_word = codes "delete-config"

-- a datastore locked (RFC 6241 7.5)
unfoldable pub lock_word : List ℕ
lock_word = codes "lock"

-- a lock of a datastore given back (RFC 6241 7.6)
unfoldable pub unlock_word : List ℕ
unlock_word = codes "unlock"

-- the end of the own session (RFC 6241 7.8)
unfoldable pub close_session_word : List ℕ
close_session_word = codes "close-session"

-- the end of another session (RFC 6241 7.9)
unfoldable pub kill_session_word : List ℕ
kill_session_word = codes "kill-session"

-- running becomes the candidate (RFC 6241 8.3.4.1)
unfoldable pub commit_word : List ℕ
commit_word = codes "commit"

-- the candidate becomes running again (RFC 6241 8.3.4.2)
unfoldable pub discard_changes_word : List ℕ
discard_changes_word = codes "discard-changes"

-- an outstanding confirmed commit cancelled (RFC 6241 8.4.4.1)
unfoldable pub cancel_commit_word : List ℕ
cancel_commit_word = codes "cancel-commit"

-- a configuration validated (RFC 6241 8.6.4.1)
unfoldable pub validate_word : List ℕ
validate_word = codes "validate"

-- nodes of running locked (RFC 5717 2.4.1)
unfoldable pub partial_lock_word : List ℕ
partial_lock_word = codes "partial-lock"

-- such a lock given back (RFC 5717 2.4.2)
unfoldable pub partial_unlock_word : List ℕ
partial_unlock_word = codes "partial-unlock"

-- ---- parameters of operations

-- the datastore that is changed, deleted or locked (RFC 6241 7.2 to 7.6)
unfoldable pub target_word : List ℕ
target_word = codes "target"

-- the datastore or configuration that is read (RFC 6241 7.1, 7.3, 8.6.4.1)
unfoldable pub source_word : List ℕ
source_word = codes "source"

-- a configuration in the request (RFC 6241 7.2, 7.3)
unfoldable pub config_word : List ℕ
config_word = codes "config"

-- which part of the data is asked for (RFC 6241 6, 7.1, 7.7)
unfoldable pub filter_word : List ℕ
filter_word = codes "filter"

-- whether the edits are validated, and whether they are made (RFC 6241 7.2, 8.6.5.1)
unfoldable pub test_option_word : List ℕ
test_option_word = codes "test-option"

-- what becomes of the edits where one is refused (RFC 6241 7.2, 8.5)
unfoldable pub error_option_word : List ℕ
error_option_word = codes "error-option"

-- the commit has to be confirmed (RFC 6241 8.4.5.1)
unfoldable pub confirmed_word : List ℕ
confirmed_word = codes "confirmed"

-- the seconds in which it has to be (RFC 6241 8.4.5.1)
unfoldable pub confirm_timeout_word : List ℕ
confirm_timeout_word = codes "confirm-timeout"

-- the session that is ended (RFC 6241 7.9); in error-info the one that holds a lock (RFC 6241 appendix A)
unfoldable pub session_id_word : List ℕ
session_id_word = codes "session-id"

-- the number of a partial lock (RFC 5717 2.4)
unfoldable pub lock_id_word : List ℕ
lock_id_word = codes "lock-id"

-- the token by which any session can confirm a commit (RFC 6241 8.4.5.1)
unfoldable pub persist_word : List ℕ
persist_word = codes "persist"

-- the token of the commit that is confirmed or cancelled (RFC 6241 8.4.4.1, 8.4.5.1)
unfoldable pub persist_id_word : List ℕ
persist_id_word = codes "persist-id"

-- an expression that selects the nodes to lock (RFC 5717 2.4.1)
unfoldable pub select_word : List ℕ
select_word = codes "select"

-- ---- words of parameters (RFC 6241 6.1, 7.2, 8.5)

-- `default-operation`: an element without an operation only leads to those in it
unfoldable pub none_word : List ℕ
none_word = codes "none"

-- `test-option`: the edits are made where they leave a valid configuration
unfoldable pub test_then_set_word : List ℕ
test_then_set_word = codes "test-then-set"

-- `test-option`: the edits are made without a test
unfoldable pub set_word : List ℕ
set_word = codes "set"

-- `test-option`: the edits are tested and not made
unfoldable pub test_only_word : List ℕ
test_only_word = codes "test-only"

-- `error-option`: none is made after the first that is refused
unfoldable pub stop_on_error_word : List ℕ
stop_on_error_word = codes "stop-on-error"

-- `error-option`: those after one that is refused are made too
unfoldable pub continue_on_error_word : List ℕ
continue_on_error_word = codes "continue-on-error"

-- `error-option`: none is made where one is refused (RFC 6241 8.5)
unfoldable pub rollback_on_error_word : List ℕ
rollback_on_error_word = codes "rollback-on-error"

-- the attribute of a filter that says its kind (RFC 6241 6.1)
unfoldable pub type_word : List ℕ
type_word = codes "type"

-- the kind of a subtree filter (RFC 6241 6.1)
unfoldable pub subtree_word : List ℕ
subtree_word = codes "subtree"

-- ---- elements of a reply (RFC 6241 4.2 to 4.4, 7.1; RFC 5717 2.4.1)

-- the reply to a request (RFC 6241 4.2)
unfoldable pub rpc_reply_word : List ℕ
rpc_reply_word = codes "rpc-reply"

-- it was done (RFC 6241 4.4)
unfoldable pub ok_word : List ℕ
ok_word = codes "ok"

-- the data that was asked for (RFC 6241 7.1, 7.7)
unfoldable pub data_word : List ℕ
data_word = codes "data"

-- a node that a partial lock locks (RFC 5717 2.4.1)
unfoldable pub locked_node_word : List ℕ
locked_node_word = codes "locked-node"

-- an error (RFC 6241 4.3)
unfoldable pub rpc_error_word : List ℕ
rpc_error_word = codes "rpc-error"

-- its layer (RFC 6241 4.3)
unfoldable pub error_type_word : List ℕ
error_type_word = codes "error-type"

-- what kind of error it is (RFC 6241 4.3)
unfoldable pub error_tag_word : List ℕ
error_tag_word = codes "error-tag"

-- how severe it is (RFC 6241 4.3)
unfoldable pub error_severity_word : List ℕ
error_severity_word = codes "error-severity"

-- what tells errors of one tag apart (RFC 6241 4.3)
unfoldable pub error_app_tag_word : List ℕ
error_app_tag_word = codes "error-app-tag"

-- the node that it is about (RFC 6241 4.3)
unfoldable pub error_path_word : List ℕ
error_path_word = codes "error-path"

-- what more there is to say of it (RFC 6241 4.3)
unfoldable pub error_info_word : List ℕ
error_info_word = codes "error-info"

-- ---- elements of error-info (RFC 6241 appendix A)

-- the name of the attribute; also the tag of an attribute whose value is wrong
unfoldable pub bad_attribute_word : List ℕ
bad_attribute_word = codes "bad-attribute"

-- the name of the element; also the tag of an element whose value is wrong
unfoldable pub bad_element_word : List ℕ
bad_element_word = codes "bad-element"

-- the namespace of an element
unfoldable pub bad_namespace_word : List ℕ
bad_namespace_word = codes "bad-namespace"

-- the session-id where no session holds the lock (`lock-denied`)
unfoldable pub no_session_word : List ℕ
no_session_word = codes "0"

-- ---- this server's own elements of error-info

-- the cause of an error, more exactly than its tag
unfoldable pub cause_word : List ℕ
cause_word = codes "cause"

-- what kind of cause it is
unfoldable pub kind_word : List ℕ
kind_word = codes "kind"

-- a name that it gives
unfoldable pub name_word : List ℕ
name_word = codes "name"

-- ---- layers and severity of errors (RFC 6241 4.3)

-- the layer of the operations
unfoldable pub protocol_word : List ℕ
protocol_word = codes "protocol"

-- the layer of the data
unfoldable pub application_word : List ℕ
application_word = codes "application"

-- the one severity
unfoldable pub error_word : List ℕ
error_word = codes "error"

-- ---- tags of errors (RFC 6241 appendix A)

-- the message is not well formed, or is no request
unfoldable pub malformed_message_word : List ℕ
malformed_message_word = codes "malformed-message"

-- an attribute is missing
unfoldable pub missing_attribute_word : List ℕ
missing_attribute_word = codes "missing-attribute"

-- an element is missing
unfoldable pub missing_element_word : List ℕ
missing_element_word = codes "missing-element"

-- an element is not known in its place
unfoldable pub unknown_element_word : List ℕ
unknown_element_word = codes "unknown-element"

-- the operation is not offered
unfoldable pub operation_not_supported_word : List ℕ
operation_not_supported_word = codes "operation-not-supported"

-- access control denies it
unfoldable pub access_denied_word : List ℕ
access_denied_word = codes "access-denied"

-- a value is not acceptable
unfoldable pub invalid_value_word : List ℕ
invalid_value_word = codes "invalid-value"

-- the lock cannot be given now
unfoldable pub lock_denied_word : List ℕ
lock_denied_word = codes "lock-denied"

-- it failed, and no other tag says why
unfoldable pub operation_failed_word : List ℕ
operation_failed_word = codes "operation-failed"

-- what it needs is in use
unfoldable pub in_use_word : List ℕ
in_use_word = codes "in-use"

-- it needs more than a limit allows
unfoldable pub resource_denied_word : List ℕ
resource_denied_word = codes "resource-denied"

-- the namespace of an element is not known
unfoldable pub unknown_namespace_word : List ℕ
unknown_namespace_word = codes "unknown-namespace"

-- an attribute is not known in its place
unfoldable pub unknown_attribute_word : List ℕ
unknown_attribute_word = codes "unknown-attribute"

-- data that is created is there
unfoldable pub data_exists_word : List ℕ
data_exists_word = codes "data-exists"

-- data that has to be there is missing
unfoldable pub data_missing_word : List ℕ
data_missing_word = codes "data-missing"

-- ---- app-tags of errors (RFC 7950 15; RFC 5717 2.4.1)

-- a confirmed commit is outstanding (RFC 5717 2.4.1)
unfoldable pub outstanding_confirmed_commit_word : List ℕ
outstanding_confirmed_commit_word = codes "outstanding-confirmed-commit"

-- another session has a lock on it (RFC 5717 2.4.1)
unfoldable pub locked_word : List ℕ
locked_word = codes "locked"

-- an expression does not select nodes (RFC 5717 2.4.1)
unfoldable pub invalid_lock_specification_word : List ℕ
invalid_lock_specification_word = codes "invalid-lock-specification"

-- the expressions select no node (RFC 5717 2.4.1)
unfoldable pub no_matches_word : List ℕ
no_matches_word = codes "no-matches"

-- the anchor of an insertion is missing (RFC 7950 15.7)
unfoldable pub missing_instance_word : List ℕ
missing_instance_word = codes "missing-instance"

-- no node of a mandatory choice is there (RFC 7950 15.6)
unfoldable pub missing_choice_word : List ℕ
missing_choice_word = codes "missing-choice"

-- there are fewer entries than `min-elements` (RFC 7950 15.3)
unfoldable pub too_few_elements_word : List ℕ
too_few_elements_word = codes "too-few-elements"

-- there are more entries than `max-elements` (RFC 7950 15.2)
unfoldable pub too_many_elements_word : List ℕ
too_many_elements_word = codes "too-many-elements"

-- two entries agree where `unique` forbids it (RFC 7950 15.1)
unfoldable pub data_not_unique_word : List ℕ
data_not_unique_word = codes "data-not-unique"

-- what a reference names is missing (RFC 7950 15.5)
unfoldable pub instance_required_word : List ℕ
instance_required_word = codes "instance-required"

-- ---- kinds of this server's own causes, and their names

-- a parameter has no reading
unfoldable pub parameter_word : List ℕ
parameter_word = codes "parameter"

-- a datastore is not offered
unfoldable pub datastore_word : List ℕ
datastore_word = codes "datastore"

-- a session has locked the datastore
unfoldable pub global_lock_word : List ℕ
global_lock_word = codes "global-lock"

-- the candidate is modified
unfoldable pub candidate_modified_word : List ℕ
candidate_modified_word = codes "candidate-modified"

-- a confirmed commit is outstanding
unfoldable pub confirmed_commit_word : List ℕ
confirmed_commit_word = codes "confirmed-commit"

-- the session has no such lock
unfoldable pub no_lock_word : List ℕ
no_lock_word = codes "no-lock"

-- no confirmed commit is outstanding
unfoldable pub no_confirmed_commit_word : List ℕ
no_confirmed_commit_word = codes "no-confirmed-commit"

-- a limit of the server is reached
unfoldable pub limit_word : List ℕ
limit_word = codes "limit"

-- the configuration breaks a constraint; its name is one of those that follow
unfoldable pub constraint_word : List ℕ
constraint_word = codes "constraint"

-- `mandatory` at a leaf (RFC 7950 7.6.5)
unfoldable pub mandatory_word : List ℕ
mandatory_word = codes "mandatory"

-- `mandatory` at a choice (RFC 7950 7.9.4)
unfoldable pub mandatory_choice_word : List ℕ
mandatory_choice_word = codes "mandatory-choice"

-- `min-elements` (RFC 7950 7.7.5)
unfoldable pub min_elements_word : List ℕ
min_elements_word = codes "min-elements"

-- `max-elements` (RFC 7950 7.7.6)
unfoldable pub max_elements_word : List ℕ
max_elements_word = codes "max-elements"

-- `unique` (RFC 7950 7.8.3)
unfoldable pub unique_word : List ℕ
unique_word = codes "unique"

-- `require-instance` at a leafref (RFC 7950 9.9.3)
unfoldable pub leafref_word : List ℕ
leafref_word = codes "leafref"

-- `require-instance` at an instance-identifier (RFC 7950 9.13.2)
unfoldable pub instance_word : List ℕ
instance_word = codes "instance"

-- the disk failed
unfoldable pub disk_fault_word : List ℕ
disk_fault_word = codes "disk-fault"
