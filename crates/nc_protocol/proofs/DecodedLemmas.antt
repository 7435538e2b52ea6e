-- What is decoded is a proper request.
use Rattle.std.proofs.Common.{◌≡◌, ℕ, Bool, true, false, cond, not, ◌&&◌, List, [], ◌∷◌, ◌++◌, length, Option, Some, None, refl, subst}
use Rattle.std.specs.List.{list_any}
use Rattle.std.specs.Prelude.{Result, Ok, Err, map, filter, filter_map}
use Rattle.nc_names.specs.declared.cause.CauseKind.{CauseKind}
use Rattle.nc_names.specs.declared.cause.CauseKind.TheVariants.{Malformed, NoMessageId, NoOperation, TwoOperations, UnknownOperation, UnknownParameter, RepeatedParameter, MissingParameter, BadParameter, BadFilterType}
use Rattle.nc_names.specs.declared.name.QName.{QName}
use Rattle.nc_names.specs.Same.{is_same_name}
use Rattle.nc_message.specs.declared.tree.Attr.{Attr}
use Rattle.nc_message.specs.declared.tree.Elem.{Elem}
use Rattle.nc_message.specs.declared.tree.Tree.{Tree}
use Rattle.nc_message.specs.declared.tree.Why.{Why}
use Rattle.nc_protocol.specs.Asking.{Asking, Parameter, asking, asks, bad_parameter, beside_confirmed, datastore_in, element_named, filter_in, filter_parameter, given, missing_parameter, needed, one_or_more, one_parameter, optional, or_cause, plain_cause, read_or, select_in, is_select, selects, some_in, target, where_confirmed, ◌⊛◌}
use Rattle.nc_protocol.specs.Content.{base_name, children, partial_lock_name}
use Rattle.nc_protocol.specs.Decoded.{asked_by, decoded, fault_as, fault_or, first_fault, has_name, is_message_id, operation_named, parameter_named, refused_request, request_by, request_in, request_of, unless_faulty}
use Rattle.nc_protocol.specs.ErrorRows.{name_count}
use Rattle.nc_protocol.specs.Proper.{IsAskedOf, IsProper, NamesSoMany, message_names, operation_of, parameter_names}
use Rattle.nc_protocol.specs.Words as w
use Rattle.nc_protocol.specs.declared.asked.Asked.{Asked}
use Rattle.nc_protocol.specs.declared.asked.Operation.{Operation}
use Rattle.nc_protocol.specs.declared.asked.Operation.TheVariants.{Get, GetConfig, EditConfig, CopyConfig, DeleteConfig, Lock, Unlock, CloseSession, KillSession, Commit, DiscardChanges, CancelCommit, Validate, PartialLock, PartialUnlock}
use Rattle.nc_protocol.specs.declared.asked.Select.{Select}
use Rattle.nc_protocol.specs.declared.request.Cause.{Cause}
use Rattle.nc_protocol.specs.declared.request.Request.{Request}

-- a cause that the parameters of a known operation give
abbrev IsOfParameters : Cause → Type 0
IsOfParameters cause = NamesSoMany (parameter_names cause.kind) cause

abbrev RefusesProperly : List Parameter → Type 0
RefusesProperly [] = Unit {0}
RefusesProperly (parameter ∷ more) = IsOfParameters parameter.refused × RefusesProperly more

joined : (parameters more : List Parameter) → RefusesProperly parameters → RefusesProperly more → RefusesProperly (parameters ++ more)
joined [] more proper others = others
joined (parameter ∷ parameters) more proper others = (proper.0, joined parameters more proper.1 others)

confirmed_too : (parameters : List Parameter) → RefusesProperly parameters → RefusesProperly (map beside_confirmed parameters)
confirmed_too [] proper = tt
confirmed_too (parameter ∷ parameters) proper = (proper.0, confirmed_too parameters proper.1)

-- a reading, where its value is of a kind, and its causes are of parameters
abbrev IsReadingOf : {A : Type 0} → (A → Type 0) → Result A Cause → Type 0
IsReadingOf P (Ok value) = P value
IsReadingOf P (Err cause) = IsOfParameters cause

record Fits {A : Type 0} (P : A → Type 0) (asking : Asking A) : Type 0 where
  refuses : RefusesProperly asking.parameters
  reads : (elems : List Elem) → IsReadingOf P (asking.reading elems)

abbrev Anything : {A : Type 0} → A → Type 0
Anything value = Unit {0}

of_bad : (name : QName) → IsOfParameters (bad_parameter name)
of_bad name = (refl, refl)

of_missing : (name : QName) → IsOfParameters (missing_parameter name)
of_missing name = (refl, refl)

reads_or : {A : Type 0} (absent : Result A Cause) (refused : Cause) (read : Elem → Option A) (found : Option Elem) →
    IsReadingOf Anything absent → IsOfParameters refused → IsReadingOf Anything (read_or absent refused read found)
reads_or absent refused read None of_absent of_refused = of_absent
reads_or {A} absent refused read (Some elem) of_absent of_refused =
    elim (read elem) as (λ o. IsReadingOf (Anything {A = A}) (or_cause refused o)) [ None ↦ of_refused | Some value ↦ tt ]

fits_one : {A : Type 0} (name : QName) (refused : Cause) (read : Elem → Option A) (absent : Result A Cause) →
    IsReadingOf Anything absent → IsOfParameters refused → Fits Anything (one_parameter name refused read absent)
fits_one name refused read absent of_absent of_refused = record {
  refuses = (of_refused, tt);
  reads = λ elems. reads_or absent refused read (element_named name elems) of_absent of_refused;
}

fits_needed : {A : Type 0} (name : QName) (read : Elem → Option A) → Fits Anything (needed name read)
fits_needed name read = fits_one name (bad_parameter name) read (Err (missing_parameter name)) (of_missing name) (of_bad name)

fits_optional : {A : Type 0} (name : QName) (read : Elem → Option A) (absent : A) → Fits Anything (optional name read absent)
fits_optional name read absent = fits_one name (bad_parameter name) read (Ok absent) tt (of_bad name)

fits_confirmed : {A : Type 0} (asking : Asking A) → Fits Anything asking → Fits Anything (where_confirmed asking)
fits_confirmed asking fits = record { refuses = confirmed_too asking.parameters fits.refuses; reads = fits.reads }

fits_filter : Fits Anything filter_parameter
fits_filter = fits_one (base_name w.filter_word) (plain_cause BadFilterType []) (some_in filter_in) (Ok None) tt (refl, refl)

some_selects : (found : List Select) → IsReadingOf Anything (one_or_more found)
some_selects [] = of_missing (partial_lock_name w.select_word)
some_selects (select ∷ more) = tt

fits_selects : Fits Anything selects
fits_selects = record {
  refuses = (of_bad (partial_lock_name w.select_word), tt);
  reads = λ elems. some_selects (filter_map select_in (filter is_select elems));
}

fits_asks : {A : Type 0} (P : A → Type 0) (value : A) → P value → Fits P (asks value)
fits_asks P value it = record { refuses = tt; reads = λ elems. it }

reads_given : {A B : Type 0} (P : B → Type 0) (make : Result (A → B) Cause) (value : Result A Cause) →
    IsReadingOf (λ f. (a : A) → P (f a)) make → IsReadingOf Anything value → IsReadingOf P (given make value)
reads_given P (Err cause) value makes is = makes
reads_given P (Ok make) (Err cause) makes is = is
reads_given P (Ok make) (Ok value) makes is = makes value

fits_with : {A B : Type 0} (P : B → Type 0) (asking : Asking (A → B)) (more : Asking A) →
    Fits (λ f. (a : A) → P (f a)) asking → Fits Anything more → Fits P (asking ⊛ more)
fits_with P asking more fits others = record {
  refuses = joined asking.parameters more.parameters fits.refuses others.refuses;
  reads = λ elems. reads_given P (asking.reading elems) (more.reading elems) (fits.reads elems) (others.reads elems);
}

abbrev IsOf : Operation → Asked → Type 0
IsOf operation asked = operation_of asked ≡ operation

fits_target : Fits Anything target
fits_target = fits_needed (base_name w.target_word) datastore_in

-- what each operation asks for is of that operation
fits : (operation : Operation) → Fits (IsOf operation) (asking operation)
fits Get = fits_with _ _ _ (fits_asks _ _ (λ a. refl)) fits_filter
fits GetConfig = fits_with _ _ _ (fits_with _ _ _ (fits_asks _ _ (λ a b. refl)) (fits_needed _ _)) fits_filter
fits EditConfig =
    fits_with _ _ _ (fits_with _ _ _ (fits_with _ _ _ (fits_with _ _ _ (fits_with _ _ _ (fits_asks _ _ (λ a b c d e. refl)) fits_target)
    (fits_optional _ _ _)) (fits_optional _ _ _)) (fits_optional _ _ _)) (fits_needed _ (λ elem. Some elem))
fits CopyConfig = fits_with _ _ _ (fits_with _ _ _ (fits_asks _ _ (λ a b. refl)) fits_target) (fits_needed _ _)
fits DeleteConfig = fits_with _ _ _ (fits_asks _ _ (λ a. refl)) fits_target
fits Lock = fits_with _ _ _ (fits_asks _ _ (λ a. refl)) fits_target
fits Unlock = fits_with _ _ _ (fits_asks _ _ (λ a. refl)) fits_target
fits CloseSession = fits_asks _ _ refl
fits KillSession = fits_with _ _ _ (fits_asks _ _ (λ a. refl)) (fits_needed _ _)
fits Commit =
    fits_with _ _ _ (fits_with _ _ _ (fits_with _ _ _ (fits_with _ _ _ (fits_asks _ _ (λ a b c d. refl)) (fits_optional _ _ _))
    (fits_confirmed _ (fits_optional _ _ _))) (fits_confirmed _ (fits_optional _ _ _))) (fits_optional _ _ _)
fits DiscardChanges = fits_asks _ _ refl
fits CancelCommit = fits_with _ _ _ (fits_asks _ _ (λ a. refl)) (fits_optional _ _ _)
fits Validate = fits_with _ _ _ (fits_asks _ _ (λ a. refl)) (fits_needed _ _)
fits PartialLock = fits_with _ _ _ (fits_asks _ _ (λ a. refl)) fits_selects
fits PartialUnlock = fits_with _ _ _ (fits_asks _ _ (λ a. refl)) (fits_needed _ _)

-- ---- faults
abbrev IsFault : Option Cause → Type 0
IsFault None = Unit {0}
IsFault (Some cause) = IsOfParameters cause

fault_where : (b : Bool) (fault other : Option Cause) → IsFault fault → IsFault other → IsFault (cond b fault other)
fault_where true fault other is also = is
fault_where false fault other is also = also

abbrev IsFound : Option Parameter → Type 0
IsFound None = Unit {0}
IsFound (Some parameter) = IsOfParameters parameter.refused

found_properly : (name : QName) (parameters : List Parameter) → RefusesProperly parameters → IsFound (parameter_named parameters name)
found_properly name [] proper = tt
found_properly name (parameter ∷ parameters) proper =
    elim (is_same_name name parameter.name) as (λ b. IsFound (cond b (Some parameter) (parameter_named parameters name))) [
      | true ↦ proper.0
      | false ↦ found_properly name parameters proper.1
    ]

fault_properly : (elems earlier : List Elem) (elem : Elem) (found : Option Parameter) → IsFound found → IsFault (fault_as elems earlier elem found)
fault_properly elems earlier elem None is = (refl, refl)
fault_properly elems earlier elem (Some parameter) is =
    fault_where (not parameter.repeats && has_name elem.name earlier) (Some (plain_cause RepeatedParameter (elem.name.name ∷ [])))
    (cond (parameter.admits elems elem) None (Some parameter.refused)) (refl, refl)
    (fault_where (parameter.admits elems elem) None (Some parameter.refused) tt is)

either_fault : (fault later : Option Cause) → IsFault fault → IsFault later → IsFault (fault_or fault later)
either_fault None later is also = also
either_fault (Some cause) later is also = is

first_properly : (parameters : List Parameter) → RefusesProperly parameters → (elems earlier rest : List Elem) → IsFault (first_fault parameters elems earlier rest)
first_properly parameters proper elems earlier [] = tt
first_properly parameters proper elems earlier (elem ∷ rest) =
    either_fault _ _ (fault_properly elems earlier elem (parameter_named parameters elem.name) (found_properly elem.name parameters proper))
    (first_properly parameters proper elems (earlier ++ elem ∷ []) rest)

-- ---- requests
asked_or : (operation : Operation) (fault : Option Cause) (asked : Result Asked Cause) → IsFault fault → IsReadingOf (IsOf operation) asked →
    IsAskedOf (Some operation) (unless_faulty fault asked)
asked_or operation (Some cause) asked is reads = is
asked_or operation None (Ok asked) is reads = reads
asked_or operation None (Err cause) is reads = reads

asked_properly : (operation : Operation) (elems : List Elem) → IsAskedOf (Some operation) (asked_by (asking operation) elems)
asked_properly operation elems =
    asked_or operation _ _ (first_properly (asking operation).parameters (fits operation).refuses elems [] elems) ((fits operation).reads elems)

by_properly : (attributes : List Attr) (elem : Elem) (operation : Option Operation) → IsProper (request_by attributes elem operation)
by_properly attributes elem None = (refl, refl)
by_properly attributes elem (Some operation) = asked_properly operation (children elem.parts)

in_properly : (attributes : List Attr) (elems : List Elem) → IsProper (request_in attributes elems)
in_properly attributes [] = (refl, refl)
in_properly attributes (elem ∷ []) = by_properly attributes elem (operation_named elem.name)
in_properly attributes (elem ∷ second ∷ more) = (refl, refl)

either_properly : (b : Bool) (request other : Request) → IsProper request → IsProper other → IsProper (cond b request other)
either_properly true request other is also = is
either_properly false request other is also = also

malformed : IsProper (refused_request [] Malformed [])
malformed = (refl, refl)

without_id : (attributes : List Attr) → IsProper (refused_request attributes NoMessageId [])
without_id attributes = (refl, refl)

rpc_properly : (rpc : Elem) → IsProper (request_of rpc)
rpc_properly rpc =
    either_properly (list_any is_message_id rpc.attrs) (request_in rpc.attrs (children rpc.parts)) (refused_request rpc.attrs NoMessageId [])
    (in_properly rpc.attrs (children rpc.parts)) (without_id rpc.attrs)

pub decoded_properly : (message : Result Tree Why) → IsProper (decoded message)
decoded_properly (Err why) = malformed
decoded_properly (Ok tree) =
    either_properly (is_same_name tree.root.name (base_name w.rpc_word)) (request_of tree.root) (refused_request [] Malformed [])
    (rpc_properly tree.root) malformed

-- ---- names of causes
none_is_not_some : {X : Type 0} (x : X) → ¬ (None ≡ Some x)
none_is_not_some x e = cc

of_message : (kind : CauseKind) (n : ℕ) → message_names kind ≡ Some n → name_count kind ≡ Some n
of_message Malformed n e = e
of_message NoMessageId n e = e
of_message NoOperation n e = e
of_message TwoOperations n e = e
of_message UnknownOperation n e = e
of_message kind n e = absurd (none_is_not_some n e)

of_parameters : (kind : CauseKind) (n : ℕ) → parameter_names kind ≡ Some n → name_count kind ≡ Some n
of_parameters UnknownParameter n e = e
of_parameters RepeatedParameter n e = e
of_parameters MissingParameter n e = e
of_parameters BadParameter n e = e
of_parameters BadFilterType n e = e
of_parameters kind n e = absurd (none_is_not_some n e)

pub named_properly : (operation : Option Operation) (cause : Cause) → IsAskedOf operation (Err cause) → name_count cause.kind ≡ Some (length cause.names)
named_properly None cause is = of_message cause.kind (length cause.names) is.0
named_properly (Some operation) cause is = of_parameters cause.kind (length cause.names) is.0

pub has_its_names : (request : Request) (cause : Cause) → IsProper request → request.asked ≡ Err cause → name_count cause.kind ≡ Some (length cause.names)
has_its_names request cause proper is = named_properly request.operation cause (subst (IsAskedOf request.operation) is proper)
