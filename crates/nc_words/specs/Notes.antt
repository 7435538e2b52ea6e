-- The line that a run which is refused writes to standard error.
use Rattle.std.specs.Prelude.{◌≡◌, ℕ, List, [], ◌++◌, codes, Option, Some, None}
use Rattle.std.specs.Fmt.{decimal}
use Rattle.std.specs.Io.KnownBytes.{append_known}
use Rattle.nc_names.specs.declared.cause.CauseKind.{CauseKind}
use Rattle.nc_protocol.specs.ErrorRows.{error_row}
use Rattle.nc_names.specs.Counts.{Rose}
use Rattle.nc_outside.specs.Causes.{TookPart}
use Rattle.nc_server.specs.declared.end.ServeEnd.{ServeEnd}
use Rattle.nc_server.specs.declared.end.ServeEnd.TheVariants.{NoMore, ListenFault}
use Rattle.nc_session.specs.declared.end.SessionEnd.{SessionEnd}
use Rattle.nc_session.specs.declared.end.SessionEnd.TheVariants.{Closed, InputEnded, BadHello, BadFrame, Malformed, TooBig, Killed, ReadFault, WriteFault, Full, Spent, Memory as SessionMemory}
use Rattle.nc_setup.specs.declared.fault.SetupFault.{SetupFault}
use Rattle.nc_setup.specs.declared.fault.SetupFault.TheVariants.{Module, Feature, Unread, Invalid, Memory as SetupMemory}
use Rattle.nc_store.specs.declared.fault.StoreFault.{StoreFault}
use Rattle.nc_store.specs.declared.fault.StoreFault.TheVariants.{DiskFault, Damaged, OtherModules, Memory as StoreMemory}
use Rattle.nc_yang_statements.specs.declared.fault.ModuleWhy.{ModuleWhy}
use Rattle.nc_yang_statements.specs.declared.fault.ModuleWhy.TheVariants.{NotText, BadWords, UnknownStatement, Unsupported, Missing, Twice, UnknownName, Loop, BadArgument, TooMany, PatternRefused}
use Rattle.nc_words.specs.declared.end.RunEnd.{RunEnd}
use Rattle.nc_words.specs.declared.end.RunEnd.TheVariants.{Words, Files, Setup, Store, Memory, Session, Served, Script, Checked}
use Rattle.nc_words.specs.declared.end.Printed.{Printed}
use Rattle.nc_words.specs.declared.end.Printed.TheVariants.{Part as IsPart, Whole as IsWhole}
use Rattle.nc_words.specs.declared.end.ScriptEnd.{ScriptEnd}
use Rattle.nc_words.specs.declared.end.ScriptEnd.TheVariants.{Absent, BadLine, BadStep, Spent as ScriptSpent, Memory as ScriptMemory, Done}

-- the pieces of the lines
unfoldable pub words_line : List ℕ
words_line = codes "netconfd: words\n"

-- status 13
unfoldable pub files_line : List ℕ
files_line = codes "netconfd: files failed\n"

-- status 9
unfoldable pub memory_line : List ℕ
memory_line = codes "netconfd: memory\n"

-- status 6
unfoldable pub input_line : List ℕ
input_line = codes "netconfd: input failed\n"

-- status 7
unfoldable pub output_line : List ℕ
output_line = codes "netconfd: output failed\n"

-- status 14
unfoldable pub spent_line : List ℕ
spent_line = codes "netconfd: spent\n"

-- status 10: the client's hello
unfoldable pub bad_hello_line : List ℕ
bad_hello_line = codes "netconfd: session: BadHello\n"

-- .. the byte of the session from which on it is not framed (RFC 6242 4)
unfoldable pub bad_frame_word : List ℕ
bad_frame_word = codes "netconfd: session: BadFrame at "

-- .. the byte of the session at which a message is longer than the server reads
unfoldable pub too_big_word : List ℕ
too_big_word = codes "netconfd: session: TooBig at "

-- .. the byte of a message that spells none
unfoldable pub malformed_word : List ℕ
malformed_word = codes "netconfd: session: Malformed at "

-- status 3: .. the name of a module's file
unfoldable pub modules_word : List ℕ
modules_word = codes "netconfd: modules: "

-- .. the line at which it breaks a rule
unfoldable pub line_word : List ℕ
line_word = codes " line "

-- .. the rule
unfoldable pub colon_word : List ℕ
colon_word = codes ": "

-- status 3: .. the line that names no feature
unfoldable pub features_word : List ℕ
features_word = codes "netconfd: features: line "

-- status 4: .. the byte from which on it is no XML
unfoldable pub unread_word : List ℕ
unread_word = codes "netconfd: initial: not read at "

-- status 4: .. the error-tag of what is refused
unfoldable pub initial_word : List ℕ
initial_word = codes "netconfd: initial: "

-- status 5: .. the byte from which on the store has no reading
unfoldable pub damaged_word : List ℕ
damaged_word = codes "netconfd: store: damaged at "

-- status 5: .. the place of the first module that differs
unfoldable pub other_modules_word : List ℕ
other_modules_word = codes "netconfd: store: other modules at "

-- status 8
unfoldable pub disk_line : List ℕ
disk_line = codes "netconfd: disk failed\n"

-- status 11
unfoldable pub listener_line : List ℕ
listener_line = codes "netconfd: listener failed\n"

-- status 12: there is no such file
unfoldable pub absent_line : List ℕ
absent_line = codes "netconfd: script: absent\n"

-- status 12: .. the line that is none
unfoldable pub script_line_word : List ℕ
script_line_word = codes "netconfd: script: line "

-- status 12: .. the step that cannot be done
unfoldable pub script_step_word : List ℕ
script_step_word = codes "netconfd: script: step "

-- between two parts of a line
unfoldable pub space_word : List ℕ
space_word = codes " "

-- the end of each line
unfoldable pub line_end : List ℕ
line_end = codes "\n"

-- the name of the kind of rule that a module breaks
unfoldable pub why_word : ModuleWhy → List ℕ
why_word NotText = codes "NotText"
why_word BadWords = codes "BadWords"
why_word UnknownStatement = codes "UnknownStatement"
why_word Unsupported = codes "Unsupported"
why_word Missing = codes "Missing"
why_word Twice = codes "Twice"
why_word UnknownName = codes "UnknownName"
why_word Loop = codes "Loop"
why_word BadArgument = codes "BadArgument"
why_word TooMany = codes "TooMany"
why_word PatternRefused = codes "PatternRefused"

-- a word, a number and the end of the line
abbrev pub number_line : List ℕ → ℕ → List ℕ
number_line word number = word ++ (decimal number ++ line_end)

-- a space and the path, where there is one, and the end of the line
abbrev pub path_part : Option (List ℕ) → List ℕ
path_part None = line_end
path_part (Some path) = space_word ++ (path ++ line_end)

-- a colon, a space, the name of a kind of rule and the end of the line
abbrev pub why_part : ModuleWhy → List ℕ
why_part why = colon_word ++ (why_word why ++ line_end)

-- a rule that a module breaks, at a line of its file
abbrev pub module_line : List ℕ → ℕ → ModuleWhy → List ℕ
module_line file line why = modules_word ++ (file ++ (line_word ++ (decimal line ++ why_part why)))

-- the error-tag of a cause (RFC 6241 4.3), and the path
abbrev pub invalid_line : CauseKind → Option (List ℕ) → List ℕ
invalid_line kind path = initial_word ++ ((error_row kind).tag ++ path_part path)

-- why the folder makes no server
abbrev pub setup_line : SetupFault → List ℕ
setup_line (Module file line why) = module_line file line why
setup_line (Feature line) = number_line features_word line
setup_line (Unread at) = number_line unread_word at
setup_line (Invalid kind path) = invalid_line kind path
setup_line SetupMemory = memory_line

-- how a session ended; nothing where it was closed, or its input ended
abbrev pub session_line : SessionEnd → List ℕ
session_line Closed = []
session_line InputEnded = []
session_line Killed = []
session_line (Full live last) = []
session_line ReadFault = input_line
session_line WriteFault = output_line
session_line SessionMemory = memory_line
session_line (BadHello why) = bad_hello_line
session_line (BadFrame at) = number_line bad_frame_word at
session_line (TooBig at) = number_line too_big_word at
session_line (Malformed at why) = number_line malformed_word at
session_line (Spent ticket) = spent_line

-- why the store is not opened
abbrev pub store_line : StoreFault → List ℕ
store_line (Damaged at) = number_line damaged_word at
store_line (OtherModules place) = number_line other_modules_word place
store_line DiskFault = disk_line
store_line StoreMemory = memory_line

-- how serving ended
abbrev pub serve_line : ServeEnd → List ℕ
serve_line NoMore = []
serve_line (ListenFault in_a_row) = listener_line

-- whether all was written to standard output
abbrev pub printed_line : Printed → List ℕ
printed_line IsPart = output_line
printed_line IsWhole = []

-- what a script came to
abbrev pub script_line : ScriptEnd → List ℕ
script_line Absent = absent_line
script_line (BadLine line) = number_line script_line_word line
script_line (BadStep n) = number_line script_step_word n
script_line (ScriptSpent n) = spent_line
script_line ScriptMemory = memory_line
script_line (Done printed) = printed_line printed

-- the line, which is empty where the status is 0
abbrev pub line_of : RunEnd → List ℕ
line_of Words = words_line
line_of Files = files_line
line_of Memory = memory_line
line_of (Setup fault) = setup_line fault
line_of (Store fault) = store_line fault
line_of (Session end) = session_line end
line_of (Served end) = serve_line end
line_of (Script end) = script_line end
line_of (Checked printed) = printed_line printed

-- what standard error has taken, where it tells that, and how often it has failed
pub record Told : Type 0 where
  pub taken : Option (List ℕ)
  pub failed : ℕ

-- that, of what is seen
abbrev pub told : Option (List ℕ) → ℕ → Told
told taken failed = record { taken = taken; failed = failed }

-- a text was written whole, or a beginning of it, and then a write failed
pub data Noted (text : List ℕ) (before now : Told) : Type 0 where
  Whole : now.taken ≡ append_known before.taken text → now.failed ≡ before.failed → Noted text before now
  Part : TookPart before.taken now.taken text → Rose before.failed now.failed → Noted text before now
