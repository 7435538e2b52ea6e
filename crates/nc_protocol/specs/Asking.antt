-- The operations with their parameters: how each parameter is read, and what is asked for with them (RFC 6241 7,
-- 8.3.4, 8.4.4, 8.4.5 and 8.6.4; RFC 5717 2.4).
use Rattle.std.specs.Prelude.{◌==◌, ◌&&◌, ◌||◌, ◌^◌, ℕ, Bool, true, false, not, if◌then◌else◌, nat_le, nat_lt, List, [], ◌∷◌, ◌++◌, length, map, ℤ, pos, negsuc, Option, Some, None, Result, Ok, Err, is_some, option_map, option_and_then}
use Rattle.std.specs.List.{filter, filter_map, find, list_all}
use Rattle.nc_names.specs.declared.cause.CauseKind.{CauseKind}
use Rattle.nc_names.specs.declared.cause.CauseKind.TheVariants.{MissingParameter, BadParameter, BadFilterType}
use Rattle.nc_names.specs.declared.name.QName.{QName}
use Rattle.nc_names.specs.Ends.{trimmed}
use Rattle.nc_names.specs.Same.{is_same_name, is_same_text}
use Rattle.nc_message.specs.declared.tree.Attr.{Attr}
use Rattle.nc_message.specs.declared.tree.Elem.{Elem}
use Rattle.nc_schema.specs.NumberTexts.{number_of}
use Rattle.nc_protocol.specs.declared.asked.Asked.{Asked}
use Rattle.nc_protocol.specs.declared.asked.Asked.TheVariants.{Get as AsksGet, GetConfig as AsksGetConfig, EditConfig as AsksEditConfig, CopyConfig as AsksCopyConfig, DeleteConfig as AsksDeleteConfig, Lock as AsksLock, Unlock as AsksUnlock, CloseSession as AsksCloseSession, KillSession as AsksKillSession, Commit as AsksCommit, DiscardChanges as AsksDiscardChanges, CancelCommit as AsksCancelCommit, Validate as AsksValidate, PartialLock as AsksPartialLock, PartialUnlock as AsksPartialUnlock}
use Rattle.nc_protocol.specs.declared.asked.Default3.{Default3}
use Rattle.nc_protocol.specs.declared.asked.Default3.TheVariants.{Merge, Replace, Nothing}
use Rattle.nc_protocol.specs.declared.asked.ErrorOption.{ErrorOption}
use Rattle.nc_protocol.specs.declared.asked.ErrorOption.TheVariants.{Stop, Continue, Rollback}
use Rattle.nc_protocol.specs.declared.asked.Operation.{Operation}
use Rattle.nc_protocol.specs.declared.asked.Operation.TheVariants.{Get, GetConfig, EditConfig, CopyConfig, DeleteConfig, Lock, Unlock, CloseSession, KillSession, Commit, DiscardChanges, CancelCommit, Validate, PartialLock, PartialUnlock}
use Rattle.nc_protocol.specs.declared.asked.Select.{Select}
use Rattle.nc_protocol.specs.declared.asked.TestOption.{TestOption}
use Rattle.nc_protocol.specs.declared.asked.TestOption.TheVariants.{TestThenSet, Set, TestOnly}
use Rattle.nc_protocol.specs.declared.datastore.Datastore.{Datastore}
use Rattle.nc_protocol.specs.declared.datastore.Datastore.TheVariants.{Running, Candidate, Startup, Url}
use Rattle.nc_protocol.specs.declared.datastore.Origin.{Origin}
use Rattle.nc_protocol.specs.declared.datastore.Origin.TheVariants.{Store, Inline}
use Rattle.nc_protocol.specs.declared.request.Cause.{Cause}
use Rattle.nc_protocol.specs.Content.{base_name, children, partial_lock_name}
use Rattle.nc_protocol.specs.Elements.{has_child, has_text, whole_text}
use Rattle.nc_protocol.specs.Words as w

-- a cause that is about no data node
abbrev pub plain_cause : CauseKind → List (List ℕ) → Cause
plain_cause kind names = record { kind = kind; path = None; names = names }

-- ---- how the content of a parameter is read; none where it has no reading

-- the text of an element without child elements
abbrev pub whole_text_in : Elem → Option (List ℕ)
whole_text_in elem = if has_child elem.parts then None else Some (whole_text elem.parts)

-- the same without the white space round it
abbrev pub text_in : Elem → Option (List ℕ)
text_in elem = option_map trimmed (whole_text_in elem)

-- a word by a table of what words mean
abbrev pub meaning : {A : Type 0} → List (List ℕ × A) → List ℕ → Option A
meaning words text = option_map (λ entry. entry.1) (find (λ entry. is_same_text entry.0 text) words)

-- the thing that a table has for the text of an element
abbrev pub word_in : {A : Type 0} → List (List ℕ × A) → Elem → Option A
word_in words elem = option_and_then (meaning words) (text_in elem)

-- the words of `default-operation` (RFC 6241 7.2)
abbrev pub default_operations : List (List ℕ × Default3)
default_operations = (w.merge_word, Merge) ∷ (w.replace_word, Replace) ∷ (w.none_word, Nothing) ∷ []

-- the words of `test-option` (RFC 6241 7.2, 8.6.5.1)
abbrev pub test_options : List (List ℕ × TestOption)
test_options = (w.test_then_set_word, TestThenSet) ∷ (w.set_word, Set) ∷ (w.test_only_word, TestOnly) ∷ []

-- the words of `error-option` (RFC 6241 7.2, 8.5)
abbrev pub error_options : List (List ℕ × ErrorOption)
error_options =
    (w.stop_on_error_word, Stop) ∷ (w.continue_on_error_word, Continue) ∷ (w.rollback_on_error_word, Rollback) ∷ []

-- the names of the datastores (RFC 6241 5.1, 8.3, 8.7), and of a URL in their place (RFC 6241 8.8)
abbrev pub datastores : List (List ℕ × Datastore)
datastores =
    (w.running_word, Running) ∷ (w.candidate_word, Candidate) ∷ (w.startup_word, Startup) ∷ (w.url_word, Url) ∷ []

-- the one element of a list of one
abbrev pub only : List Elem → Option Elem
only [] = None
only (elem ∷ []) = Some elem
only (elem ∷ other ∷ more) = None

-- the element that is all the content but for white space
abbrev pub only_child : Elem → Option Elem
only_child elem = if has_text elem.parts then None else only (children elem.parts)

-- the datastore that an element of the base namespace names
abbrev pub datastore_named : Elem → Option Datastore
datastore_named child =
    if is_same_text child.name.space w.base_namespace then meaning datastores child.name.name else None

-- the datastore that a `source` or `target` holds, and nothing else (RFC 6241 7.1 to 7.5)
abbrev pub datastore_in : Elem → Option Datastore
datastore_in elem = option_and_then datastore_named (only_child elem)

-- an inline configuration: a `config` of the base namespace (RFC 6241 7.2, 7.3)
abbrev pub is_config : Elem → Bool
is_config child = is_same_name child.name (base_name w.config_word)

-- the source that an element is: a datastore, or an inline configuration in `config`
abbrev pub origin_named : Elem → Option Origin
origin_named child =
    if is_config child then Some (Inline child)
    else option_map Store (datastore_named child)

-- the source that a `source` holds, and nothing else (RFC 6241 7.3, 8.6.4.1)
abbrev pub origin_in : Elem → Option Origin
origin_in elem = option_and_then origin_named (only_child elem)

-- the attribute `type` of a filter, which is in no namespace (RFC 6241 6.1)
abbrev pub is_type : Attr → Bool
is_type attr = is_same_name attr.name (record { space = []; name = w.type_word })

-- a subtree filter: its `type`, if it has one, is `subtree` (RFC 6241 6.1, 7.1)
abbrev pub is_filter : Elem → Bool
is_filter elem = list_all (λ attr. not (is_type attr) || is_same_text attr.value w.subtree_word) elem.attrs

-- the filter that an element is
abbrev pub filter_in : Elem → Option Elem
filter_in elem = if is_filter elem then Some elem else None

-- an empty element
abbrev pub presence_in : Elem → Option Bool
presence_in elem = option_and_then (λ text. if length text == 0 then Some true else None) (text_in elem)

-- a number from 1 to 2 ^ 32 - 1 (RFC 6241 appendix C, `session-id-type`; RFC 5717 5, `lock-id-type`), written as a
-- value of an integer type is (RFC 7950 9.2.1)
abbrev pub from_one : ℤ → Option ℕ
from_one (pos number) = if nat_le 1 number && nat_lt number (2 ^ 32) then Some number else None
from_one (negsuc number) = None

-- the number that an element holds: a session-id, a lock-id or a count of seconds
abbrev pub number_in : Elem → Option ℕ
number_in elem = option_and_then from_one (option_and_then number_of (text_in elem))

-- an expression, with the prefixes that are bound where it stands
abbrev pub select_in : Elem → Option Select
select_in elem = option_map (λ text. record { text = text; bounds = elem.bounds }) (text_in elem)

-- ---- parameters

-- a parameter: its name; whether it may be repeated; whether it has a reading, among all elements of the operation;
-- and why it is refused where it has none
pub record Parameter : Type 0 where
  pub name : QName
  pub repeats : Bool
  pub admits : List Elem → Elem → Bool
  pub refused : Cause

-- what is asked for by some parameters: what they are, and what their elements say
pub record Asking (A : Type 0) : Type 0 where
  pub parameters : List Parameter
  pub reading : List Elem → Result A Cause

-- the element of a name
abbrev pub element_named : QName → List Elem → Option Elem
element_named name elems = find (λ elem. is_same_name elem.name name) elems

-- the parameter of that name has no reading (`invalid-value`, RFC 6241 appendix A)
abbrev pub bad_parameter : QName → Cause
bad_parameter name = plain_cause BadParameter (name.name ∷ [])

-- there is no parameter of that name (`missing-element`, RFC 6241 appendix A)
abbrev pub missing_parameter : QName → Cause
missing_parameter name = plain_cause MissingParameter (name.name ∷ [])

-- the value, or the cause where there is none
abbrev pub or_cause : {A : Type 0} → Cause → Option A → Result A Cause
or_cause cause None = Err cause
or_cause cause (Some value) = Ok value

-- the reading of an element, if there is one
abbrev pub read_or : {A : Type 0} → Result A Cause → Cause → (Elem → Option A) → Option Elem → Result A Cause
read_or absent refused read None = absent
read_or absent refused read (Some elem) = or_cause refused (read elem)

-- one that is not repeated
abbrev pub single : {A : Type 0} → QName → Cause → (Elem → Option A) → Parameter
single name refused read = record {
  name = name;
  repeats = false;
  admits = λ elems elem. is_some (read elem);
  refused = refused;
}

-- one parameter by itself, with what its absence means
abbrev pub one_parameter : {A : Type 0} → QName → Cause → (Elem → Option A) → Result A Cause → Asking A
one_parameter name refused read absent = record {
  parameters = single name refused read ∷ [];
  reading = λ elems. read_or absent refused read (element_named name elems);
}

-- one that has to be there
abbrev pub needed : {A : Type 0} → QName → (Elem → Option A) → Asking A
needed name read = one_parameter name (bad_parameter name) read (Err (missing_parameter name))

-- one that may be absent, with what is asked for then
abbrev pub optional : {A : Type 0} → QName → (Elem → Option A) → A → Asking A
optional name read absent = one_parameter name (bad_parameter name) read (Ok absent)

-- a parameter that may be absent, read where it is there
abbrev pub some_in : {A : Type 0} → (Elem → Option A) → Elem → Option (Option A)
some_in read elem = option_map Some (read elem)

-- a filter, if there is one
abbrev pub filter_parameter : Asking (Option Elem)
filter_parameter = one_parameter (base_name w.filter_word) (plain_cause BadFilterType []) (some_in filter_in) (Ok None)

-- `confirmed` is there, without which some parameters have no reading (RFC 6241 8.4.5.1)
abbrev pub is_confirmed : List Elem → Bool
is_confirmed elems = is_some (element_named (base_name w.confirmed_word) elems)

-- the parameter has a reading, and `confirmed` stands beside it
abbrev pub admits_where_confirmed : Parameter → List Elem → Elem → Bool
admits_where_confirmed parameter elems elem = parameter.admits elems elem && is_confirmed elems

-- the parameter with a reading only beside `confirmed`
abbrev pub beside_confirmed : Parameter → Parameter
beside_confirmed parameter = record parameter { admits = admits_where_confirmed parameter }

-- what some parameters ask for, each with a reading only beside `confirmed`
abbrev pub where_confirmed : {A : Type 0} → Asking A → Asking A
where_confirmed asking = record { parameters = map beside_confirmed asking.parameters; reading = asking.reading }

-- a `select` of a partial-lock (RFC 5717 2.4.1)
abbrev pub is_select : Elem → Bool
is_select elem = is_same_name elem.name (partial_lock_name w.select_word)

-- the selections, of which there has to be one (RFC 5717 2.4.1)
abbrev pub one_or_more : List Select → Result (List Select) Cause
one_or_more [] = Err (missing_parameter (partial_lock_name w.select_word))
one_or_more (select ∷ more) = Ok (select ∷ more)

-- `select`, one or more (RFC 5717 2.4.1)
abbrev pub select_parameter : Parameter
select_parameter = record {
  name = partial_lock_name w.select_word;
  repeats = true;
  admits = λ elems elem. is_some (select_in elem);
  refused = bad_parameter (partial_lock_name w.select_word);
}

-- the selections of a partial-lock, in their order (RFC 5717 2.4.1)
abbrev pub selects : Asking (List Select)
selects = record {
  parameters = select_parameter ∷ [];
  reading = λ elems. one_or_more (filter_map select_in (filter is_select elems));
}

-- ---- operations

-- nothing more
abbrev pub asks : {A : Type 0} → A → Asking A
asks value = record { parameters = []; reading = λ elems. Ok value }

-- the first cause of two readings, or both values
abbrev pub given : {A B : Type 0} → Result (A → B) Cause → Result A Cause → Result B Cause
given (Err cause) value = Err cause
given (Ok make) (Err cause) = Err cause
given (Ok make) (Ok value) = Ok (make value)

-- with one parameter more
infixl 10 ◌⊛◌
-- two parameters are read of one operation
abbrev pub ◌⊛◌ : {A B : Type 0} → Asking (A → B) → Asking A → Asking B
asking ⊛ more = record {
  parameters = asking.parameters ++ more.parameters;
  reading = λ elems. given (asking.reading elems) (more.reading elems);
}

-- the seconds after which a confirmed commit is reverted, where none are given (RFC 6241 8.4.5.1)
abbrev pub default_timeout : ℕ
default_timeout = 600

-- the datastore in `target` (RFC 6241 7.2 to 7.5)
abbrev pub target : Asking Datastore
target = needed (base_name w.target_word) datastore_in

-- what each operation asks for, with its parameters in this order
abbrev pub asking : Operation → Asking Asked
asking Get = asks AsksGet ⊛ filter_parameter
asking GetConfig = asks AsksGetConfig ⊛ needed (base_name w.source_word) datastore_in ⊛ filter_parameter
asking EditConfig =
    asks AsksEditConfig ⊛ target
    ⊛ optional (base_name w.default_operation_word) (word_in default_operations) Merge
    ⊛ optional (base_name w.test_option_word) (word_in test_options) Set
    ⊛ optional (base_name w.error_option_word) (word_in error_options) Stop
    ⊛ needed (base_name w.config_word) Some
asking CopyConfig = asks AsksCopyConfig ⊛ target ⊛ needed (base_name w.source_word) origin_in
asking DeleteConfig = asks AsksDeleteConfig ⊛ target
asking Lock = asks AsksLock ⊛ target
asking Unlock = asks AsksUnlock ⊛ target
asking CloseSession = asks AsksCloseSession
asking KillSession = asks AsksKillSession ⊛ needed (base_name w.session_id_word) number_in
asking Commit =
    asks AsksCommit ⊛ optional (base_name w.confirmed_word) presence_in false
    ⊛ where_confirmed (optional (base_name w.confirm_timeout_word) number_in default_timeout)
    ⊛ where_confirmed (optional (base_name w.persist_word) (some_in whole_text_in) None)
    ⊛ optional (base_name w.persist_id_word) (some_in whole_text_in) None
asking DiscardChanges = asks AsksDiscardChanges
asking CancelCommit = asks AsksCancelCommit ⊛ optional (base_name w.persist_id_word) (some_in whole_text_in) None
asking Validate = asks AsksValidate ⊛ needed (base_name w.source_word) origin_in
asking PartialLock = asks AsksPartialLock ⊛ selects
asking PartialUnlock = asks AsksPartialUnlock ⊛ needed (partial_lock_name w.lock_id_word) number_in
