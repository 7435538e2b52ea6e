-- What a run comes to, and its status.
use Rattle.std.proofs.Common.{◌≡◌, ◌↔◌, ℕ, List, [], Option, refl, subst, arith}
use Rattle.nc_names.specs.Counts.{Rose}
use Rattle.nc_names.specs.Limits.{most_requests}
use Rattle.nc_model.specs.State.{State}
use Rattle.nc_model.specs.declared.entry.Entry.{Entry}
use Rattle.nc_outside.specs.Streams.{Streams}
use Rattle.nc_schema.specs.Tables.{Tables}
use Rattle.nc_server.specs.declared.end.ServeEnd.TheVariants.{NoMore, ListenFault}
use Rattle.nc_session.specs.Serves.{called}
use Rattle.nc_session.specs.declared.end.SessionEnd.{SessionEnd}
use Rattle.nc_session.specs.declared.end.SessionEnd.TheVariants.{Closed, InputEnded, BadHello, BadFrame, Malformed, TooBig, Killed, ReadFault, WriteFault, Full, Spent, Memory as SessionMemory}
use Rattle.nc_setup.specs.declared.fault.SetupFault.TheVariants.{Module, Feature, Unread, Invalid, Memory as SetupMemory}
use Rattle.nc_store.specs.declared.fault.StoreFault.TheVariants.{DiskFault, Damaged, OtherModules, Memory as StoreMemory}
use Rattle.nc_device.proofs.Serving.{read_failed, write_failed}
use Rattle.nc_reports.specs.Counts.{check_line}
use Rattle.nc_device.specs.Crashes.{Crashing, Lasts, Spares}
use Rattle.nc_words.specs.Ends.{printed_status, script_status, status_of}
use Rattle.nc_reports.specs.Loads.{Loads, nothing_lasts}
use Rattle.nc_words.specs.Notes.{Told}
use Rattle.nc_device.specs.Outside.{Ground, Listening, Making, Outside, Times, outside}
use Rattle.nc_words.specs.Printing.{IsPrinted}
use Rattle.nc_program.specs.Run.{AreFaulty, HasFailed, HasNoMemory, HasNoScript, HasServed, IsChecked, IsLoaded, IsOpened, IsOver, IsScripted, IsUnopened, MakesNoDevice, Runs, output_of}
use Rattle.nc_reports.specs.Scripts.{Comes, HadNoMemory, HasBadLine, HasSteps, IsAbsent, Scripts}
use Rattle.nc_device.specs.Sessions.{HasMadeAlone}
use Rattle.nc_words.specs.Words.{Asks, HasNoReading, IsIn, Task}
use Rattle.nc_words.specs.Words.{Stdio as ToServe, Serve as ToListen, Script as ToScript, Check as ToCheck, Load as ToLoad}
use Rattle.nc_device.specs.Grounds.{Fails, IsReady}
use Rattle.nc_device.specs.declared.device.Device.{Device}
use Rattle.nc_words.specs.declared.end.Printed.{Printed}
use Rattle.nc_words.specs.declared.end.Printed.TheVariants.{Part, Whole}
use Rattle.nc_words.specs.declared.end.RunEnd.{RunEnd}
use Rattle.nc_words.specs.declared.end.RunEnd.TheVariants.{Words, Files, Setup, Store, Memory, Session, Served, Script, Checked}
use Rattle.nc_words.specs.declared.end.ScriptEnd.{ScriptEnd}
use Rattle.nc_words.specs.declared.end.ScriptEnd.TheVariants.{Absent, BadLine, BadStep, Spent as ScriptSpent, Memory as ScriptMemory, Done}

-- ---- no server was made
pub no_server : (crashes : Crashing) (words : List (List ℕ)) (task : Task) (folder : List ℕ) (g h : Ground) (s : Streams) (t : Times) (l : Listening) (end : RunEnd)
    → Asks words task → IsIn folder task → Spares crashes g.files folder → Fails folder g h end
    → Runs crashes words (outside g.files g.disk s t l g.maker) (outside h.files h.disk s t l h.maker) end
no_server crashes words task folder g h s t l Files asks is spares (rose, same) =
    HasFailed task folder asks is rose (λ i. outside h.files (same i).disk s t l h.maker) spares
no_server crashes words task folder g h s t l Memory asks is spares (same, unfailed) =
    HasNoMemory task folder asks is (λ i. outside (same i).files h.disk s t l h.maker) unfailed spares
no_server crashes words task folder g h s t l (Setup fault) asks is spares (none, same) =
    MakesNoDevice task folder fault asks is none (λ i. outside (same i).files (same i).disk s t l h.maker) spares
no_server crashes words task folder g h s t l (Store fault) asks is spares (device, makes, refuses, same) =
    IsUnopened task folder device fault asks is makes refuses (λ i. outside (same i).files h.disk s t l h.maker) spares
no_server crashes words task folder g h s t l Words asks is spares none = absurd none
no_server crashes words task folder g h s t l (Session end) asks is spares none = absurd none
no_server crashes words task folder g h s t l (Served end) asks is spares none = absurd none
no_server crashes words task folder g h s t l (Script end) asks is spares none = absurd none
no_server crashes words task folder g h s t l (Checked printed) asks is spares none = absurd none

-- a server was made
pub is_opened : (folder : List ℕ) (g h : Ground) (s : Streams) (t : Times) (l : Listening) (first : State) (schema : Tables) (modules : ℕ)
    (IsBegunOf : Device → Type 0) (ready : IsReady folder g h first schema modules IsBegunOf)
    → IsOpened (outside g.files g.disk s t l g.maker) folder ready.device first
is_opened folder g h s t l first schema modules IsBegunOf ready = record { makes = ready.makes; begins = ready.begins }

-- ---- the statuses
-- a write to standard output failed
abbrev IsUnwritten : RunEnd → Type 0
IsUnwritten (Session WriteFault) = Unit {0}
IsUnwritten (Script (Done Part)) = Unit {0}
IsUnwritten (Checked Part) = Unit {0}
IsUnwritten end = ⊥

of_two : (end : RunEnd) → status_of end ≡ 2 → end ≡ Words
of_two Words e = refl
of_two Files e = absurd (omega (arith, e))
of_two Memory e = absurd (omega (arith, e))
of_two (Setup (Module file line why)) e = absurd (omega (arith, e))
of_two (Setup (Feature line)) e = absurd (omega (arith, e))
of_two (Setup (Unread at)) e = absurd (omega (arith, e))
of_two (Setup (Invalid kind path)) e = absurd (omega (arith, e))
of_two (Setup SetupMemory) e = absurd (omega (arith, e))
of_two (Store (Damaged at)) e = absurd (omega (arith, e))
of_two (Store (OtherModules place)) e = absurd (omega (arith, e))
of_two (Store DiskFault) e = absurd (omega (arith, e))
of_two (Store StoreMemory) e = absurd (omega (arith, e))
of_two (Session Closed) e = absurd (omega (arith, e))
of_two (Session InputEnded) e = absurd (omega (arith, e))
of_two (Session Killed) e = absurd (omega (arith, e))
of_two (Session (Full live last)) e = absurd (omega (arith, e))
of_two (Session ReadFault) e = absurd (omega (arith, e))
of_two (Session WriteFault) e = absurd (omega (arith, e))
of_two (Session SessionMemory) e = absurd (omega (arith, e))
of_two (Session (BadHello why)) e = absurd (omega (arith, e))
of_two (Session (BadFrame at)) e = absurd (omega (arith, e))
of_two (Session (Malformed at why)) e = absurd (omega (arith, e))
of_two (Session (TooBig at)) e = absurd (omega (arith, e))
of_two (Session (Spent ticket)) e = absurd (omega (arith, e))
of_two (Served NoMore) e = absurd (omega (arith, e))
of_two (Served (ListenFault in_a_row)) e = absurd (omega (arith, e))
of_two (Script Absent) e = absurd (omega (arith, e))
of_two (Script (BadLine line)) e = absurd (omega (arith, e))
of_two (Script (BadStep n)) e = absurd (omega (arith, e))
of_two (Script (ScriptSpent n)) e = absurd (omega (arith, e))
of_two (Script ScriptMemory) e = absurd (omega (arith, e))
of_two (Script (Done Part)) e = absurd (omega (arith, e))
of_two (Script (Done Whole)) e = absurd (omega (arith, e))
of_two (Checked Part) e = absurd (omega (arith, e))
of_two (Checked Whole) e = absurd (omega (arith, e))

of_six : (end : RunEnd) → status_of end ≡ 6 → end ≡ Session ReadFault
of_six Words e = absurd (omega (arith, e))
of_six Files e = absurd (omega (arith, e))
of_six Memory e = absurd (omega (arith, e))
of_six (Setup (Module file line why)) e = absurd (omega (arith, e))
of_six (Setup (Feature line)) e = absurd (omega (arith, e))
of_six (Setup (Unread at)) e = absurd (omega (arith, e))
of_six (Setup (Invalid kind path)) e = absurd (omega (arith, e))
of_six (Setup SetupMemory) e = absurd (omega (arith, e))
of_six (Store (Damaged at)) e = absurd (omega (arith, e))
of_six (Store (OtherModules place)) e = absurd (omega (arith, e))
of_six (Store DiskFault) e = absurd (omega (arith, e))
of_six (Store StoreMemory) e = absurd (omega (arith, e))
of_six (Session Closed) e = absurd (omega (arith, e))
of_six (Session InputEnded) e = absurd (omega (arith, e))
of_six (Session Killed) e = absurd (omega (arith, e))
of_six (Session (Full live last)) e = absurd (omega (arith, e))
of_six (Session ReadFault) e = refl
of_six (Session WriteFault) e = absurd (omega (arith, e))
of_six (Session SessionMemory) e = absurd (omega (arith, e))
of_six (Session (BadHello why)) e = absurd (omega (arith, e))
of_six (Session (BadFrame at)) e = absurd (omega (arith, e))
of_six (Session (Malformed at why)) e = absurd (omega (arith, e))
of_six (Session (TooBig at)) e = absurd (omega (arith, e))
of_six (Session (Spent ticket)) e = absurd (omega (arith, e))
of_six (Served NoMore) e = absurd (omega (arith, e))
of_six (Served (ListenFault in_a_row)) e = absurd (omega (arith, e))
of_six (Script Absent) e = absurd (omega (arith, e))
of_six (Script (BadLine line)) e = absurd (omega (arith, e))
of_six (Script (BadStep n)) e = absurd (omega (arith, e))
of_six (Script (ScriptSpent n)) e = absurd (omega (arith, e))
of_six (Script ScriptMemory) e = absurd (omega (arith, e))
of_six (Script (Done Part)) e = absurd (omega (arith, e))
of_six (Script (Done Whole)) e = absurd (omega (arith, e))
of_six (Checked Part) e = absurd (omega (arith, e))
of_six (Checked Whole) e = absurd (omega (arith, e))

of_seven : (end : RunEnd) → status_of end ≡ 7 → IsUnwritten end
of_seven Words e = absurd (omega (arith, e))
of_seven Files e = absurd (omega (arith, e))
of_seven Memory e = absurd (omega (arith, e))
of_seven (Setup (Module file line why)) e = absurd (omega (arith, e))
of_seven (Setup (Feature line)) e = absurd (omega (arith, e))
of_seven (Setup (Unread at)) e = absurd (omega (arith, e))
of_seven (Setup (Invalid kind path)) e = absurd (omega (arith, e))
of_seven (Setup SetupMemory) e = absurd (omega (arith, e))
of_seven (Store (Damaged at)) e = absurd (omega (arith, e))
of_seven (Store (OtherModules place)) e = absurd (omega (arith, e))
of_seven (Store DiskFault) e = absurd (omega (arith, e))
of_seven (Store StoreMemory) e = absurd (omega (arith, e))
of_seven (Session Closed) e = absurd (omega (arith, e))
of_seven (Session InputEnded) e = absurd (omega (arith, e))
of_seven (Session Killed) e = absurd (omega (arith, e))
of_seven (Session (Full live last)) e = absurd (omega (arith, e))
of_seven (Session ReadFault) e = absurd (omega (arith, e))
of_seven (Session WriteFault) e = tt
of_seven (Session SessionMemory) e = absurd (omega (arith, e))
of_seven (Session (BadHello why)) e = absurd (omega (arith, e))
of_seven (Session (BadFrame at)) e = absurd (omega (arith, e))
of_seven (Session (Malformed at why)) e = absurd (omega (arith, e))
of_seven (Session (TooBig at)) e = absurd (omega (arith, e))
of_seven (Session (Spent ticket)) e = absurd (omega (arith, e))
of_seven (Served NoMore) e = absurd (omega (arith, e))
of_seven (Served (ListenFault in_a_row)) e = absurd (omega (arith, e))
of_seven (Script Absent) e = absurd (omega (arith, e))
of_seven (Script (BadLine line)) e = absurd (omega (arith, e))
of_seven (Script (BadStep n)) e = absurd (omega (arith, e))
of_seven (Script (ScriptSpent n)) e = absurd (omega (arith, e))
of_seven (Script ScriptMemory) e = absurd (omega (arith, e))
of_seven (Script (Done Part)) e = tt
of_seven (Script (Done Whole)) e = absurd (omega (arith, e))
of_seven (Checked Part) e = tt
of_seven (Checked Whole) e = absurd (omega (arith, e))

of_eight : (end : RunEnd) → status_of end ≡ 8 → end ≡ Store DiskFault
of_eight Words e = absurd (omega (arith, e))
of_eight Files e = absurd (omega (arith, e))
of_eight Memory e = absurd (omega (arith, e))
of_eight (Setup (Module file line why)) e = absurd (omega (arith, e))
of_eight (Setup (Feature line)) e = absurd (omega (arith, e))
of_eight (Setup (Unread at)) e = absurd (omega (arith, e))
of_eight (Setup (Invalid kind path)) e = absurd (omega (arith, e))
of_eight (Setup SetupMemory) e = absurd (omega (arith, e))
of_eight (Store (Damaged at)) e = absurd (omega (arith, e))
of_eight (Store (OtherModules place)) e = absurd (omega (arith, e))
of_eight (Store DiskFault) e = refl
of_eight (Store StoreMemory) e = absurd (omega (arith, e))
of_eight (Session Closed) e = absurd (omega (arith, e))
of_eight (Session InputEnded) e = absurd (omega (arith, e))
of_eight (Session Killed) e = absurd (omega (arith, e))
of_eight (Session (Full live last)) e = absurd (omega (arith, e))
of_eight (Session ReadFault) e = absurd (omega (arith, e))
of_eight (Session WriteFault) e = absurd (omega (arith, e))
of_eight (Session SessionMemory) e = absurd (omega (arith, e))
of_eight (Session (BadHello why)) e = absurd (omega (arith, e))
of_eight (Session (BadFrame at)) e = absurd (omega (arith, e))
of_eight (Session (Malformed at why)) e = absurd (omega (arith, e))
of_eight (Session (TooBig at)) e = absurd (omega (arith, e))
of_eight (Session (Spent ticket)) e = absurd (omega (arith, e))
of_eight (Served NoMore) e = absurd (omega (arith, e))
of_eight (Served (ListenFault in_a_row)) e = absurd (omega (arith, e))
of_eight (Script Absent) e = absurd (omega (arith, e))
of_eight (Script (BadLine line)) e = absurd (omega (arith, e))
of_eight (Script (BadStep n)) e = absurd (omega (arith, e))
of_eight (Script (ScriptSpent n)) e = absurd (omega (arith, e))
of_eight (Script ScriptMemory) e = absurd (omega (arith, e))
of_eight (Script (Done Part)) e = absurd (omega (arith, e))
of_eight (Script (Done Whole)) e = absurd (omega (arith, e))
of_eight (Checked Part) e = absurd (omega (arith, e))
of_eight (Checked Whole) e = absurd (omega (arith, e))

of_thirteen : (end : RunEnd) → status_of end ≡ 13 → end ≡ Files
of_thirteen Words e = absurd (omega (arith, e))
of_thirteen Files e = refl
of_thirteen Memory e = absurd (omega (arith, e))
of_thirteen (Setup (Module file line why)) e = absurd (omega (arith, e))
of_thirteen (Setup (Feature line)) e = absurd (omega (arith, e))
of_thirteen (Setup (Unread at)) e = absurd (omega (arith, e))
of_thirteen (Setup (Invalid kind path)) e = absurd (omega (arith, e))
of_thirteen (Setup SetupMemory) e = absurd (omega (arith, e))
of_thirteen (Store (Damaged at)) e = absurd (omega (arith, e))
of_thirteen (Store (OtherModules place)) e = absurd (omega (arith, e))
of_thirteen (Store DiskFault) e = absurd (omega (arith, e))
of_thirteen (Store StoreMemory) e = absurd (omega (arith, e))
of_thirteen (Session Closed) e = absurd (omega (arith, e))
of_thirteen (Session InputEnded) e = absurd (omega (arith, e))
of_thirteen (Session Killed) e = absurd (omega (arith, e))
of_thirteen (Session (Full live last)) e = absurd (omega (arith, e))
of_thirteen (Session ReadFault) e = absurd (omega (arith, e))
of_thirteen (Session WriteFault) e = absurd (omega (arith, e))
of_thirteen (Session SessionMemory) e = absurd (omega (arith, e))
of_thirteen (Session (BadHello why)) e = absurd (omega (arith, e))
of_thirteen (Session (BadFrame at)) e = absurd (omega (arith, e))
of_thirteen (Session (Malformed at why)) e = absurd (omega (arith, e))
of_thirteen (Session (TooBig at)) e = absurd (omega (arith, e))
of_thirteen (Session (Spent ticket)) e = absurd (omega (arith, e))
of_thirteen (Served NoMore) e = absurd (omega (arith, e))
of_thirteen (Served (ListenFault in_a_row)) e = absurd (omega (arith, e))
of_thirteen (Script Absent) e = absurd (omega (arith, e))
of_thirteen (Script (BadLine line)) e = absurd (omega (arith, e))
of_thirteen (Script (BadStep n)) e = absurd (omega (arith, e))
of_thirteen (Script (ScriptSpent n)) e = absurd (omega (arith, e))
of_thirteen (Script ScriptMemory) e = absurd (omega (arith, e))
of_thirteen (Script (Done Part)) e = absurd (omega (arith, e))
of_thirteen (Script (Done Whole)) e = absurd (omega (arith, e))
of_thirteen (Checked Part) e = absurd (omega (arith, e))
of_thirteen (Checked Whole) e = absurd (omega (arith, e))

session_seven : (end : SessionEnd) → IsUnwritten (Session end) → end ≡ WriteFault
session_seven WriteFault u = refl
session_seven Closed none = absurd none
session_seven InputEnded none = absurd none
session_seven Killed none = absurd none
session_seven (Full live last) none = absurd none
session_seven ReadFault none = absurd none
session_seven SessionMemory none = absurd none
session_seven (BadHello why) none = absurd none
session_seven (BadFrame at) none = absurd none
session_seven (Malformed at why) none = absurd none
session_seven (TooBig at) none = absurd none
session_seven (Spent ticket) none = absurd none

-- ---- what each status tells
pub words_status : (crashes : Crashing) (words : List (List ℕ)) (before now : Outside) (end : RunEnd) → Runs crashes words before now end
    → status_of end ≡ 2 ↔ HasNoReading words
words_status crashes words before now end (AreFaulty none same unharmed) = (λ e. none, λ n. refl)
words_status crashes words before now end (HasFailed task folder asks is rose same spares) = (λ e. absurd (omega (arith, e)), λ none. absurd (none task asks))
words_status crashes words before now end (HasNoScript folder file device first asks opened rose same spares) =
    (λ e. absurd (omega (arith, e)), λ none. absurd (none (ToScript folder file) asks))
words_status crashes words before now end (HasNoMemory task folder asks is same unfailed spares) = (λ e. absurd (omega (arith, e)), λ none. absurd (none task asks))
words_status crashes words before now end (MakesNoDevice task folder fault asks is none_made same spares) =
    (λ e. cc (of_two (Setup fault) e), λ none. absurd (none task asks))
words_status crashes words before now end (IsUnopened task folder device fault asks is makes refuses same spares) =
    (λ e. cc (of_two (Store fault) e), λ none. absurd (none task asks))
words_status crashes words before now end (IsOver folder peer device first met asks opened files unheard served_so) =
    (λ e. cc (of_two (Session met) e), λ none. absurd (none (ToServe folder peer) asks))
words_status crashes words before now end (HasServed folder address device first history met asks opened files made plain ends same) =
    (λ e. cc (of_two (Served met) e), λ none. absurd (none (ToListen folder address) asks))
words_status crashes words before now end (IsScripted folder file device first found met asks opened found_so came same) =
    (λ e. cc (of_two (Script met) e), λ none. absurd (none (ToScript folder file) asks))
words_status crashes words before now end (IsChecked folder device first found printed asks opened found_so lasts wrote same unfailed) =
    (λ e. cc (of_two (Checked printed) e), λ none. absurd (none (ToCheck folder) asks))
words_status crashes words before now end (IsLoaded edits met asks loads same unharmed) = (
  λ e. absurd (subst (λ x. Loads edits before.maker now.maker (output_of before.streams) (output_of now.streams) x) (of_two met e) loads),
  λ none. absurd (none (ToLoad edits) asks),
)

pub read_status : (crashes : Crashing) (words : List (List ℕ)) (before now : Outside) (end : RunEnd) → Runs crashes words before now end
    → status_of end ≡ 6 → Rose before.streams.reads_failed now.streams.reads_failed
read_status crashes words before now end (AreFaulty none same unharmed) e = absurd (omega (arith, e))
read_status crashes words before now end (HasFailed task folder asks is rose same spares) e = absurd (omega (arith, e))
read_status crashes words before now end (HasNoScript folder file device first asks opened rose same spares) e = absurd (omega (arith, e))
read_status crashes words before now end (HasNoMemory task folder asks is same unfailed spares) e = absurd (omega (arith, e))
read_status crashes words before now end (MakesNoDevice task folder fault asks is none_made same spares) e = cc (of_six (Setup fault) e)
read_status crashes words before now end (IsUnopened task folder device fault asks is makes refuses same spares) e = cc (of_six (Store fault) e)
read_status crashes words before now end (IsOver folder peer device first met asks opened files unheard served_so) e =
    read_failed first.schema (called peer served_so.home [] [] before.streams)
    (HasMadeAlone first now.disk.failed (Lasts crashes device first) before.times now.times) (λ ticket. ticket ≡ most_requests) now.streams met served_so.serves
    (cc (of_six (Session met) e))
read_status crashes words before now end (HasServed folder address device first history met asks opened files made plain ends same) e = cc (of_six (Served met) e)
read_status crashes words before now end (IsScripted folder file device first found met asks opened found_so came same) e =
    cc (of_six (Script met) e)
read_status crashes words before now end (IsChecked folder device first found printed asks opened found_so lasts wrote same unfailed) e =
    cc (of_six (Checked printed) e)
read_status crashes words before now end (IsLoaded edits met asks loads same unharmed) e =
    absurd (subst (λ x. Loads edits before.maker now.maker (output_of before.streams) (output_of now.streams) x) (of_six met e) loads)

-- a text that was not written whole
part_failed : (text : List ℕ) (before now : Told) (printed : Printed) → IsPrinted text before now printed → printed_status printed ≡ 7
    → Rose before.failed now.failed
part_failed text before now Part (part, rose) e = rose
part_failed text before now Whole wrote e = absurd (omega (arith, e))

comes_failed : (text_of : _) (first : State) (failed : ℕ) (S : List Entry → Type 0) (steps : _) (before now : Told) (end : ScriptEnd)
    → Comes text_of first failed S steps before now end → script_status end ≡ 7 → Rose before.failed now.failed
comes_failed text_of first failed S steps before now (Done printed) (run, at, wrote) e =
    part_failed (text_of run) before now printed wrote e
comes_failed text_of first failed S steps before now Absent none e = absurd none
comes_failed text_of first failed S steps before now (BadLine line) none e = absurd none
comes_failed text_of first failed S steps before now (BadStep n) came e = absurd (omega (arith, e))
comes_failed text_of first failed S steps before now (ScriptSpent n) came e = absurd (omega (arith, e))
comes_failed text_of first failed S steps before now ScriptMemory came e = absurd (omega (arith, e))

script_failed : (first : State) (failed : ℕ) (S : List Entry → Type 0) (found : Option (List ℕ)) (before now : Told) (end : ScriptEnd)
    → Scripts first failed S found before now end → script_status end ≡ 7 → Rose before.failed now.failed
script_failed first failed S found before now end (IsAbsent none same lasts unfailed) e = absurd (omega (arith, e))
script_failed first failed S found before now end (HasBadLine text line is bad same lasts unfailed) e = absurd (omega (arith, e))
script_failed first failed S found before now end (HadNoMemory same lasts unfailed) e = absurd (omega (arith, e))
script_failed first failed S found before now end (HasSteps text steps met is script comes) e =
    comes_failed _ first failed S steps before now met comes e

load_failed : (edits : ℕ) (m n : Making) (before now : Told) (end : RunEnd) → Loads edits m n before now end → status_of end ≡ 7
    → Rose before.failed now.failed
load_failed edits m n before now (Script end) loads e = comes_failed _ _ 0 nothing_lasts _ before now end loads.comes e
load_failed edits m n before now (Setup fault) loads e = absurd (of_seven (Setup fault) e)
load_failed edits m n before now Memory loads e = absurd (omega (arith, e))
load_failed edits m n before now Words none e = absurd none
load_failed edits m n before now Files none e = absurd none
load_failed edits m n before now (Store fault) none e = absurd none
load_failed edits m n before now (Session end) none e = absurd none
load_failed edits m n before now (Served end) none e = absurd none
load_failed edits m n before now (Checked printed) none e = absurd none

pub write_status : (crashes : Crashing) (words : List (List ℕ)) (before now : Outside) (end : RunEnd) → Runs crashes words before now end
    → status_of end ≡ 7 → Rose before.streams.writes_failed now.streams.writes_failed
write_status crashes words before now end (AreFaulty none same unharmed) e = absurd (omega (arith, e))
write_status crashes words before now end (HasFailed task folder asks is rose same spares) e = absurd (omega (arith, e))
write_status crashes words before now end (HasNoScript folder file device first asks opened rose same spares) e = absurd (omega (arith, e))
write_status crashes words before now end (HasNoMemory task folder asks is same unfailed spares) e = absurd (omega (arith, e))
write_status crashes words before now end (MakesNoDevice task folder fault asks is none_made same spares) e = absurd (of_seven (Setup fault) e)
write_status crashes words before now end (IsUnopened task folder device fault asks is makes refuses same spares) e = absurd (of_seven (Store fault) e)
write_status crashes words before now end (IsOver folder peer device first met asks opened files unheard served_so) e =
    write_failed first.schema (called peer served_so.home [] [] before.streams)
    (HasMadeAlone first now.disk.failed (Lasts crashes device first) before.times now.times) (λ ticket. ticket ≡ most_requests) now.streams met served_so.serves
    (session_seven met (of_seven (Session met) e))
write_status crashes words before now end (HasServed folder address device first history met asks opened files made plain ends same) e = absurd (of_seven (Served met) e)
write_status crashes words before now end (IsScripted folder file device first found met asks opened found_so came same) e =
    script_failed first now.disk.failed (Lasts crashes device first) found (output_of before.streams) (output_of now.streams) met came e
write_status crashes words before now end (IsChecked folder device first found printed asks opened found_so lasts wrote same unfailed) e =
    part_failed (check_line found) (output_of before.streams) (output_of now.streams) printed wrote e
write_status crashes words before now end (IsLoaded edits met asks loads same unharmed) e =
    load_failed edits before.maker now.maker (output_of before.streams) (output_of now.streams) met loads e

pub disk_status : (crashes : Crashing) (words : List (List ℕ)) (before now : Outside) (end : RunEnd) → Runs crashes words before now end
    → status_of end ≡ 8 → Rose before.disk.failed now.disk.failed
disk_status crashes words before now end (AreFaulty none same unharmed) e = absurd (omega (arith, e))
disk_status crashes words before now end (HasFailed task folder asks is rose same spares) e = absurd (omega (arith, e))
disk_status crashes words before now end (HasNoScript folder file device first asks opened rose same spares) e = absurd (omega (arith, e))
disk_status crashes words before now end (HasNoMemory task folder asks is same unfailed spares) e = absurd (omega (arith, e))
disk_status crashes words before now end (MakesNoDevice task folder fault asks is none_made same spares) e = cc (of_eight (Setup fault) e)
disk_status crashes words before now end (IsUnopened task folder device fault asks is makes refuses same spares) e =
    refuses.cause (cc (of_eight (Store fault) e))
disk_status crashes words before now end (IsOver folder peer device first met asks opened files unheard served_so) e = cc (of_eight (Session met) e)
disk_status crashes words before now end (HasServed folder address device first history met asks opened files made plain ends same) e = cc (of_eight (Served met) e)
disk_status crashes words before now end (IsScripted folder file device first found met asks opened found_so came same) e =
    cc (of_eight (Script met) e)
disk_status crashes words before now end (IsChecked folder device first found printed asks opened found_so lasts wrote same unfailed) e =
    cc (of_eight (Checked printed) e)
disk_status crashes words before now end (IsLoaded edits met asks loads same unharmed) e =
    absurd (subst (λ x. Loads edits before.maker now.maker (output_of before.streams) (output_of now.streams) x) (of_eight met e) loads)

pub files_status : (crashes : Crashing) (words : List (List ℕ)) (before now : Outside) (end : RunEnd) → Runs crashes words before now end
    → status_of end ≡ 13 → Rose before.files.failed now.files.failed
files_status crashes words before now end (AreFaulty none same unharmed) e = absurd (omega (arith, e))
files_status crashes words before now end (HasFailed task folder asks is rose same spares) e = rose
files_status crashes words before now end (HasNoScript folder file device first asks opened rose same spares) e = rose
files_status crashes words before now end (HasNoMemory task folder asks is same unfailed spares) e = absurd (omega (arith, e))
files_status crashes words before now end (MakesNoDevice task folder fault asks is none_made same spares) e = cc (of_thirteen (Setup fault) e)
files_status crashes words before now end (IsUnopened task folder device fault asks is makes refuses same spares) e = cc (of_thirteen (Store fault) e)
files_status crashes words before now end (IsOver folder peer device first met asks opened files unheard served_so) e = cc (of_thirteen (Session met) e)
files_status crashes words before now end (HasServed folder address device first history met asks opened files made plain ends same) e = cc (of_thirteen (Served met) e)
files_status crashes words before now end (IsScripted folder file device first found met asks opened found_so came same) e =
    cc (of_thirteen (Script met) e)
files_status crashes words before now end (IsChecked folder device first found printed asks opened found_so lasts wrote same unfailed) e =
    cc (of_thirteen (Checked printed) e)
files_status crashes words before now end (IsLoaded edits met asks loads same unharmed) e =
    absurd (subst (λ x. Loads edits before.maker now.maker (output_of before.streams) (output_of now.streams) x) (of_thirteen met e) loads)
