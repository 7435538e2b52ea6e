-- What a run comes to, and its exit status.
use Rattle.std.specs.Prelude.{ℕ}
use Rattle.nc_server.specs.declared.end.ServeEnd.{ServeEnd}
use Rattle.nc_server.specs.declared.end.ServeEnd.TheVariants.{NoMore, ListenFault}
use Rattle.nc_session.specs.declared.end.SessionEnd.{SessionEnd}
use Rattle.nc_session.specs.declared.end.SessionEnd.TheVariants.{Closed, InputEnded, BadHello, BadFrame, Malformed, TooBig, Killed, ReadFault, WriteFault, Full, Spent, Memory as SessionMemory}
use Rattle.nc_setup.specs.declared.fault.SetupFault.{SetupFault}
use Rattle.nc_setup.specs.declared.fault.SetupFault.TheVariants.{Module, Feature, Unread, Invalid, Memory as SetupMemory}
use Rattle.nc_store.specs.declared.fault.StoreFault.{StoreFault}
use Rattle.nc_store.specs.declared.fault.StoreFault.TheVariants.{DiskFault, Damaged, OtherModules, Memory as StoreMemory}
use Rattle.nc_words.specs.declared.end.Printed.{Printed}
use Rattle.nc_words.specs.declared.end.Printed.TheVariants.{Part, Whole}
use Rattle.nc_words.specs.declared.end.RunEnd.{RunEnd}
use Rattle.nc_words.specs.declared.end.RunEnd.TheVariants.{Words, Files, Setup, Store, Memory, Session, Served, Script, Checked}
use Rattle.nc_words.specs.declared.end.ScriptEnd.{ScriptEnd}
use Rattle.nc_words.specs.declared.end.ScriptEnd.TheVariants.{Absent, BadLine, BadStep, Spent as ScriptSpent, Memory as ScriptMemory, Done}

-- what the folder holds makes no server
abbrev pub setup_status : SetupFault → ℕ
setup_status (Module file line why) = 3
setup_status (Feature line) = 3
setup_status (Unread at) = 4
setup_status (Invalid kind path) = 4
setup_status SetupMemory = 9

-- its store is not opened
abbrev pub store_status : StoreFault → ℕ
store_status (Damaged at) = 5
store_status (OtherModules place) = 5
store_status DiskFault = 8
store_status StoreMemory = 9

-- a session is over
abbrev pub session_status : SessionEnd → ℕ
session_status Closed = 0
session_status InputEnded = 0
session_status Killed = 0
session_status (Full live last) = 0
session_status ReadFault = 6
session_status WriteFault = 7
session_status SessionMemory = 9
session_status (BadHello why) = 10
session_status (BadFrame at) = 10
session_status (Malformed at why) = 10
session_status (TooBig at) = 10
session_status (Spent ticket) = 14

-- serving is over
abbrev pub serve_status : ServeEnd → ℕ
serve_status NoMore = 0
serve_status (ListenFault in_a_row) = 11

-- a text was written
abbrev pub printed_status : Printed → ℕ
printed_status Part = 7
printed_status Whole = 0

-- a script is over
abbrev pub script_status : ScriptEnd → ℕ
script_status Absent = 12
script_status (BadLine line) = 12
script_status (BadStep n) = 12
script_status (ScriptSpent n) = 14
script_status ScriptMemory = 9
script_status (Done printed) = printed_status printed

-- the exit status of each end: several share one, and 9 is that of several
abbrev pub status_of : RunEnd → ℕ
status_of Words = 2
status_of Files = 13
status_of Memory = 9
status_of (Setup fault) = setup_status fault
status_of (Store fault) = store_status fault
status_of (Session end) = session_status end
status_of (Served end) = serve_status end
status_of (Script end) = script_status end
status_of (Checked printed) = printed_status printed
