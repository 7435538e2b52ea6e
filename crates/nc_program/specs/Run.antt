-- What the program does, from its words to its exit status.
use Rattle.std.specs.Prelude.{◌≡◌, ℕ, List, [], length, Option}
use Rattle.nc_names.specs.Counts.{Rose}
use Rattle.nc_model.specs.State.{State}
use Rattle.nc_model.specs.declared.entry.Entry.{Entry}
use Rattle.nc_outside.specs.Streams.{Streams}
use Rattle.nc_protocol.specs.declared.peer.Peer.{Peer}
use Rattle.nc_server.specs.Ends.{EndsAs}
use Rattle.nc_server.specs.Homes.{HaveNoRecovery}
use Rattle.nc_server.specs.declared.end.ServeEnd.{ServeEnd}
use Rattle.nc_session.specs.declared.end.SessionEnd.{SessionEnd}
use Rattle.nc_setup.specs.declared.fault.SetupFault.{SetupFault}
use Rattle.nc_store.specs.declared.fault.StoreFault.{StoreFault}
use Rattle.nc_reports.specs.Counts.{check_line}
use Rattle.nc_device.specs.Crashes.{Crashing, Lasts, Spares, Unharmed}
use Rattle.nc_device.specs.Devices.{Begins, Makes, MakesNone, Refuses}
use Rattle.nc_words.specs.Ends.{status_of}
use Rattle.nc_reports.specs.Loads.{Loads}
use Rattle.nc_words.specs.Notes.{Noted, Told, line_of, told}
use Rattle.nc_device.specs.Outside.{Outside}
use Rattle.nc_words.specs.Printing.{IsPrinted}
use Rattle.nc_reports.specs.Scripts.{FoundIn, Scripts}
use Rattle.nc_device.specs.Sessions.{HasMade, IsServed, sitting}
use Rattle.nc_words.specs.Words.{Asks, HasNoReading, IsIn, Task}
use Rattle.nc_words.specs.Words.{Stdio as ToServe, Serve as ToListen, Script as ToScript, Check as ToCheck, Load as ToLoad}
use Rattle.nc_reports.specs.declared.count.Found.{Found}
use Rattle.nc_device.specs.declared.device.Device.{Device}
use Rattle.nc_words.specs.declared.end.Printed.{Printed}
use Rattle.nc_words.specs.declared.end.RunEnd.{RunEnd}
use Rattle.nc_words.specs.declared.end.RunEnd.TheVariants.{Words, Files, Setup, Store, Memory, Session, Served, Script, Checked}
use Rattle.nc_words.specs.declared.end.ScriptEnd.{ScriptEnd}

-- what standard output tells
abbrev pub output_of : Streams → Told
output_of streams = told streams.taken streams.writes_failed

-- the folder makes a device, whose store begins with a server of that state
pub record IsOpened (before : Outside) (folder : List ℕ) (device : Device) (first : State) : Type 0 where
  pub makes : Makes before.files folder device
  pub begins : Begins device before.disk first

-- what a look at a server finds; how many records its store has is not said
pub record IsFound (device : Device) (first : State) (found : Found) : Type 0 where
  pub modules : found.modules ≡ device.modules
  pub nodes : found.nodes ≡ length device.schema.nodes
  pub rows : found.rows ≡ length first.running

-- A run does nothing but to read files and make patterns.
abbrev pub NothingButReading : (before now : Outside) → Type 0
NothingButReading before now = now ≡ record before { files = now.files; maker = now.maker }

-- Besides, it opens the store.
abbrev pub NothingBut : (before now : Outside) → Type 0
NothingBut before now = now ≡ record before { files = now.files; disk = now.disk; maker = now.maker }

-- The same, and no fault of the files was met.
abbrev pub NothingFailed : (before now : Outside) → Type 0
NothingFailed before now = now ≡ record before { disk = now.disk; maker = now.maker }

-- Besides, standard output took something.
abbrev pub NothingButOutput : (before now : Outside) → Type 0
NothingButOutput before now = now ≡ record before {
  disk = now.disk;
  streams = record before.streams { taken = now.streams.taken; writes_failed = now.streams.writes_failed };
  maker = now.maker;
}

-- What a run came to: the words have no valid reading; the files failed; no memory was found; what the folder holds
-- makes no server; its store was not opened; or that was done which the words ask for. A file is asked for, a pattern
-- made and the store opened in this order and before all else, but for the file of a script. What a server of the store
-- did lasts over crashes; where the store was looked at, its history has no entry; and where connections were served,
-- no recovery session (RFC 8341 3.3.3) was begun. Where no server did anything, the store keeps what it held; and where
-- no folder is named, nothing is done to the disk.
pub data Runs (crashes : Crashing) (words : List (List ℕ)) (before now : Outside) : RunEnd → Type 0 where
  AreFaulty : HasNoReading words → now ≡ before → Unharmed crashes → Runs crashes words before now Words
  HasFailed : (task : Task) (folder : List ℕ) → Asks words task → IsIn folder task
      → Rose before.files.failed now.files.failed → NothingButReading before now → Spares crashes before.files folder
      → Runs crashes words before now Files
  HasNoScript : (folder file : List ℕ) (device : Device) (first : State) → Asks words (ToScript folder file)
      → IsOpened before folder device first → Rose before.files.failed now.files.failed → NothingBut before now
      → Spares crashes before.files folder → Runs crashes words before now Files
  HasNoMemory : (task : Task) (folder : List ℕ) → Asks words task → IsIn folder task → NothingFailed before now
      → now.disk.failed ≡ before.disk.failed → Spares crashes before.files folder → Runs crashes words before now Memory
  MakesNoDevice : (task : Task) (folder : List ℕ) (fault : SetupFault) → Asks words task → IsIn folder task
      → MakesNone before.files folder before.maker now.maker fault → now ≡ record before { maker = now.maker }
      → Spares crashes before.files folder → Runs crashes words before now (Setup fault)
  IsUnopened : (task : Task) (folder : List ℕ) (device : Device) (fault : StoreFault) → Asks words task
      → IsIn folder task → Makes before.files folder device → Refuses device before.disk now.disk fault
      → now ≡ record before { disk = now.disk; maker = now.maker } → Spares crashes before.files folder
      → Runs crashes words before now (Store fault)
  IsOver : (folder : List ℕ) (peer : Peer) (device : Device) (first : State) (end : SessionEnd)
      → Asks words (ToServe folder peer) → IsOpened before folder device first → now.files ≡ before.files
      → now.listener ≡ before.listener
      → IsServed first now.disk.failed (Lasts crashes device first) peer
      (sitting before.streams before.times) (sitting now.streams now.times) end
      → Runs crashes words before now (Session end)
  HasServed : (folder address : List ℕ) (device : Device) (first : State) (history : List Entry) (end : ServeEnd)
      → Asks words (ToListen folder address) → IsOpened before folder device first → now.files ≡ before.files
      → HasMade first now.disk.failed (Lasts crashes device first) before.times now.times history
      → HaveNoRecovery history → EndsAs end now.listener.failed now.listener.over
      → now.streams ≡ before.streams → Runs crashes words before now (Served end)
  IsScripted : (folder file : List ℕ) (device : Device) (first : State) (found : Option (List ℕ)) (end : ScriptEnd)
      → Asks words (ToScript folder file) → IsOpened before folder device first
      → FoundIn before.files.files file found
      → Scripts first now.disk.failed (Lasts crashes device first) found
      (output_of before.streams) (output_of now.streams) end
      → NothingButOutput before now → Runs crashes words before now (Script end)
  IsChecked : (folder : List ℕ) (device : Device) (first : State) (found : Found) (printed : Printed)
      → Asks words (ToCheck folder) → IsOpened before folder device first → IsFound device first found
      → Lasts crashes device first []
      → IsPrinted (check_line found) (output_of before.streams) (output_of now.streams) printed
      → NothingButOutput before now → now.disk.failed ≡ before.disk.failed
      → Runs crashes words before now (Checked printed)
  IsLoaded : (edits : ℕ) (end : RunEnd) → Asks words (ToLoad edits)
      → Loads edits before.maker now.maker (output_of before.streams) (output_of now.streams) end
      → now ≡ record before {
        streams = record before.streams { taken = now.streams.taken; writes_failed = now.streams.writes_failed };
        maker = now.maker;
      }
      → Unharmed crashes → Runs crashes words before now end

-- a run came to this end: the status is its, and standard error took its line, or a beginning of it where a write
-- failed
pub record HasRun (crashes : Crashing) (words : List (List ℕ)) (before now : Outside) (notes_before notes_now : Told)
    (status : ℕ) : Type 0 where
  pub end : RunEnd
  pub runs : Runs crashes words before now end
  pub status_is : status ≡ status_of end
  pub noted : Noted (line_of end) notes_before notes_now
