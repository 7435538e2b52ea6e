-- Why a text is no initial configuration, as it is found.
use Rattle.std.specs.Prelude.{◌≡◌, ℕ, List, Option, Some, Err}
use Rattle.nc_names.specs.declared.path.Row.{Row}
use Rattle.nc_message.specs.declared.tree.Elem.{Elem}
use Rattle.nc_message_read.specs.declared.stop.MessageFault.{MessageFault}
use Rattle.nc_message_read.specs.declared.stop.MessageFault.TheVariants.{Malformed, Memory as NotRead}
use Rattle.nc_protocol.specs.Payload.{rows_of}
use Rattle.nc_protocol.specs.Refusals.{violation_in}
use Rattle.nc_schema.specs.Tables.{Tables}
use Rattle.nc_setup.specs.Initial.{IsRefusedFor, IsUnread}
use Rattle.nc_setup.specs.declared.stop.Stop.{Stop}
use Rattle.nc_setup.specs.declared.stop.Stop.TheVariants.{Unread, Refused, Memory}

-- what a fault of a text's reading is here
abbrev pub Unreads : MessageFault → Stop → Type 0
Unreads (Malformed at why) stop = stop ≡ Unread at
Unreads NotRead stop = stop ≡ Memory

-- a text is not read
abbrev pub OnUnread : List ℕ → Stop → Type 0
OnUnread text (Unread at) = IsUnread text at
OnUnread text (Refused cause) = ⊥
OnUnread text Memory = Unit {0}

-- an element has no rows
abbrev pub OnBad : Tables → Elem → Stop → Type 0
OnBad schema elem (Unread at) = ⊥
OnBad schema elem (Refused cause) = rows_of schema elem ≡ Err cause
OnBad schema elem Memory = Unit {0}

-- rows are not valid
abbrev pub OnInvalid : Tables → List Row → Stop → Type 0
OnInvalid schema rows (Unread at) = ⊥
OnInvalid schema rows (Refused cause) = violation_in schema rows ≡ Some cause
OnInvalid schema rows Memory = Unit {0}

-- the text of the initial configuration is none
abbrev pub OnStop : Tables → Option (List ℕ) → Stop → Type 0
OnStop schema initial (Unread at) = (text : List ℕ) × (initial ≡ Some text) × IsUnread text at
OnStop schema initial (Refused cause) = IsRefusedFor schema initial cause
OnStop schema initial Memory = Unit {0}
