-- What is read.
use Rattle.std.specs.Prelude.{ℕ, List}
use Rattle.nc_message.specs.Faults.{IsFault}
use Rattle.nc_message_read.specs.declared.stop.MessageFault.{MessageFault}
use Rattle.nc_message_read.specs.declared.stop.MessageFault.TheVariants.{Malformed, Memory}

-- a fault other than want of memory is the message's, with its place and why
abbrev pub IsReadFault : List ℕ → MessageFault → Type 0
IsReadFault bytes (Malformed at why) = IsFault bytes at why
IsReadFault bytes Memory = Unit {0}
