-- What the names of an error tell besides what denied an access: nothing of the data (RFC 6241 4.3).
use Rattle.std.specs.Prelude.{◌≡◌, ◌⊎◌, ℕ, true, List, [], ◌∷◌, Option, Some, None, Result, Ok, Err}
use Rattle.std.specs.Fmt.{decimal}
use Rattle.std.specs.List.{All, Contains}
use Rattle.nc_schema.specs.Tables.{Tables}
use Rattle.nc_schema.specs.declared.node.Node.{Node}
use Rattle.nc_protocol.specs.Payload.{edits_of, rows_of}
use Rattle.nc_protocol.specs.Words.{candidate_word, key_word, lock_id_word, running_word, source_word, startup_word, url_word, value_word}
use Rattle.nc_protocol.specs.declared.asked.Asked.{Asked}
use Rattle.nc_protocol.specs.declared.asked.Asked.TheVariants.{EditConfig, CopyConfig, Validate}
use Rattle.nc_protocol.specs.declared.datastore.Datastore.{Datastore}
use Rattle.nc_protocol.specs.declared.datastore.Origin.TheVariants.{Inline}
use Rattle.nc_protocol.specs.declared.request.Cause.{Cause}
use Rattle.nc_model.specs.State.{NodeLock, Pending, State}
use Rattle.nc_model.specs.Verdict.{holder_of}
use Rattle.nc_model.specs.VerdictLaws.{is_denial}
use Rattle.nc_model.specs.Words.{lock_ids_word, partial_locks_word, record_word}

-- ---- a fault of the request itself, which comes of it and of the schema alone

-- the cause for which there is no result
abbrev pub cause_in : {A : Type 0} → Result A Cause → Option Cause
cause_in (Ok it) = None
cause_in (Err cause) = Some cause

-- the fault of a request, as it is read, or of its payload
abbrev pub fault_of : Tables → Result Asked Cause → Option Cause
fault_of tables (Err cause) = Some cause
fault_of tables (Ok (EditConfig target default_operation test on_error config)) =
    cause_in (edits_of tables default_operation config)
fault_of tables (Ok (CopyConfig target (Inline config))) = cause_in (rows_of tables config)
fault_of tables (Ok (Validate (Inline config))) = cause_in (rows_of tables config)
fault_of tables asked = None

-- ---- names that tell nothing of the data

-- the words that causes name: parameters, datastores, limits, and the attributes that name an anchor
abbrev pub fixed_words : List (List ℕ)
fixed_words =
    source_word ∷ lock_id_word ∷ running_word ∷ candidate_word ∷ startup_word ∷ url_word ∷ partial_locks_word
    ∷ lock_ids_word ∷ record_word ∷ key_word ∷ value_word ∷ []

-- a session that holds the lock of a datastore or a partial lock, or whose commit is pending; or the id of such a lock
pub data IsOfLocks (s : State) (number : ℕ) : Type 0 where
  Holds : (store : Datastore) → holder_of s.holders store ≡ Some number → IsOfLocks s number
  Waits : (pending : Pending) → s.pending ≡ Some pending → number ≡ pending.session → IsOfLocks s number
  IsLock : (lock : NodeLock) → Contains s.partial lock → number ≡ lock.id → IsOfLocks s number
  HasLock : (lock : NodeLock) → Contains s.partial lock → number ≡ lock.session → IsOfLocks s number

-- one of the words, such a number, or the name of a data node of the schema
pub data TellsNoData (s : State) (name : List ℕ) : Type 0 where
  IsWord : Contains fixed_words name → TellsNoData s name
  IsNumber : (number : ℕ) → IsOfLocks s number → name ≡ decimal number → TellsNoData s name
  IsNode : (node : Node) → Contains s.schema.nodes node → name ≡ node.name.name → TellsNoData s name

-- the cause is a fault of the request itself, or it is about a denied access, or its names are such
abbrev pub NamesNoData : State → Result Asked Cause → Cause → Type 0
NamesNoData s asked cause =
    (fault_of s.schema asked ≡ Some cause) ⊎ ((is_denial cause.kind ≡ true) ⊎ All (TellsNoData s) cause.names)
