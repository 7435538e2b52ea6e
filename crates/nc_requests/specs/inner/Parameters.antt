-- What the parameters of the code stand for.
use Rattle.std.specs.Prelude.{if◌then◌else◌, option_to_list, [], List, Option, Some, Result, Ok, Err}
use Rattle.std.specs.List.{flat_map}
use Rattle.nc_message.specs.declared.tree.Elem.{Elem}
use Rattle.nc_names.specs.declared.cause.CauseKind.TheVariants.{BadFilterType}
use Rattle.nc_names.specs.declared.name.QName.{QName}
use Rattle.nc_protocol.specs.declared.asked.Select.{Select}
use Rattle.nc_protocol.specs.declared.request.Cause.{Cause}
use Rattle.nc_protocol.specs.Asking as asking
use Rattle.nc_protocol.specs.Content.{base_name, partial_lock_name}
use Rattle.nc_protocol.specs.Words as w
use Rattle.nc_requests.specs.declared.parameter.Parameter.{Parameter}
use Rattle.nc_requests.specs.declared.parameter.Parameter.TheVariants.{Target, Source, Origin, Config, Filter, DefaultOperation, TestOption, ErrorOption, Confirmed, ConfirmTimeout, SessionId, LockId, Persist, PersistId, Select as SelectParameter}

-- a parameter that stands at most once, and is a bad one where nothing is read of it
abbrev pub read_as : {A : Type 0} → QName → (Elem → Option A) → asking.Parameter
read_as name read = asking.single name (asking.bad_parameter name) read

-- which parameter of the protocol each of the code's is
abbrev pub means : Parameter → asking.Parameter
means Target = read_as (base_name w.target_word) asking.datastore_in
means Source = read_as (base_name w.source_word) asking.datastore_in
means Origin = read_as (base_name w.source_word) asking.origin_in
means Config = read_as (base_name w.config_word) Some
means Filter =
    asking.single (base_name w.filter_word) (asking.plain_cause BadFilterType []) (asking.some_in asking.filter_in)
means DefaultOperation = read_as (base_name w.default_operation_word) (asking.word_in asking.default_operations)
means TestOption = read_as (base_name w.test_option_word) (asking.word_in asking.test_options)
means ErrorOption = read_as (base_name w.error_option_word) (asking.word_in asking.error_options)
means Confirmed = read_as (base_name w.confirmed_word) asking.presence_in
means ConfirmTimeout = asking.beside_confirmed (read_as (base_name w.confirm_timeout_word) asking.number_in)
means SessionId = read_as (base_name w.session_id_word) asking.number_in
means LockId = read_as (partial_lock_name w.lock_id_word) asking.number_in
means Persist = asking.beside_confirmed (read_as (base_name w.persist_word) (asking.some_in asking.whole_text_in))
means PersistId = read_as (base_name w.persist_id_word) (asking.some_in asking.whole_text_in)
means SelectParameter = asking.select_parameter

-- the element of a parameter that has to be there, and of one that may be absent, as they are read
abbrev pub needs : {A : Type 0} → Parameter → (Elem → Option A) → List Elem → Result A Cause
needs parameter read elems =
    asking.read_or (Err (asking.missing_parameter (means parameter).name)) (means parameter).refused read
    (asking.element_named (means parameter).name elems)

-- the latter: where it is absent, what is given for that
abbrev pub has_or : {A : Type 0} → Parameter → (Elem → Option A) → A → List Elem → Result A Cause
has_or parameter read absent elems =
    asking.read_or (Ok absent) (means parameter).refused read (asking.element_named (means parameter).name elems)

-- what an element says, if it is a `select`
abbrev pub select_of : Elem → List Select
select_of elem = if asking.is_select elem then option_to_list (asking.select_in elem) else []

-- what each `select` says
abbrev pub selects_among : List Elem → List Select
selects_among elems = flat_map select_of elems
