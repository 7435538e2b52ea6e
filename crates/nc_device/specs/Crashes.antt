-- What of a server's history lasts over a crash, at any moment of the run.
use Rattle.std.specs.Prelude.{◌≤◌, ◌++◌, ℕ, List, [], Option, IfSome}
use Rattle.nc_journal.specs.Refusing.{HasNoReading}
use Rattle.nc_names.specs.declared.path.Row.{Row}
use Rattle.nc_model.specs.History.{Survives, returning}
use Rattle.nc_model.specs.State.{State}
use Rattle.nc_model.specs.declared.entry.Entry.{Entry}
use Rattle.nc_outside.specs.Disks.{Told}
use Rattle.nc_store.specs.Reopening.{Reopens}
use Rattle.nc_device.specs.Devices.{Makes, begun_with}
use Rattle.nc_device.specs.Outside.{Filing}
use Rattle.nc_words.specs.Words.{Asks, IsIn, Task}
use Rattle.nc_device.specs.declared.device.Device.{Device}

-- what is known of crashes over a run: the bytes of the disk before it, where it tells them, and those that a crash
-- before it had left; the configurations that the store held before it, where they are known; the moments at which it
-- began and ended; and the bytes that a crash since a moment has left by its end
pub record Crashing : Type 1 where
  pub seen : Option (List ℕ)
  pub may_leave : List ℕ → Type 0
  pub held : Option (List (List Row))
  pub began : ℕ
  pub ended : ℕ
  pub left_since : ℕ → List ℕ → Type 0

-- the same of a disk, by what it tells before the run and after it
abbrev pub crashing : {D : Type 0} → (seen : D → Option (List ℕ)) → (may_leave : D → List ℕ → Type 0) →
    (moment : D → ℕ) → (left_since : D → ℕ → List ℕ → Type 0) → Option (List (List Row)) → (old new : D) → Crashing
crashing seen may_leave moment left_since held old new = record {
  seen = seen old;
  may_leave = may_leave old;
  held = held;
  began = moment old;
  ended = moment new;
  left_since = left_since new;
}

-- whichever of these bytes a start of the device finds on its disk, it begins with one of these configurations
abbrev pub BeginsAmong : Device → (images : List ℕ → Type 0) → List (List Row) → Type 0
BeginsAmong device images among = (c : List ℕ) → images c → Reopens (begun_with device) among c

-- whatever a crash before the run had left, a start by the folder that the words name begins with one of these
abbrev pub Held : (words : List (List ℕ)) (files : Filing) (may_leave : List ℕ → Type 0) → List (List Row) → Type 0
Held words files may_leave among = (task : Task) (folder : List ℕ) (device : Device) → Asks words task →
    IsIn folder task → Makes files folder device → BeginsAmong device may_leave among

-- whatever a crash since that moment has left, the device's next start begins with one of these
abbrev pub Leaves : Crashing → Device → ℕ → List (List Row) → Type 0
Leaves crashes device t among = BeginsAmong device (crashes.left_since t) among

-- A server that began with this state has made a history, which survives: for each entry there is a moment by which it
-- was made, and a crash since then leaves what may come back of the history from there on, which is a configuration of
-- the acknowledged commits, or of one that met a disk fault. The store was open from the first of these moments on; a
-- crash before that leaves one of those that the store held, where these are known.
pub record SurvivesRun (crashes : Crashing) (device : Device) (first : State) (history : List Entry) : Type 0 where
  pub opened : ℕ
  pub since : Survives (Leaves crashes device) crashes.ended first [] opened history
  pub before : IfSome crashes.held (λ held. (crashes.began ≤ opened)
      × Leaves crashes device crashes.began (held ++ returning first [] history))

-- so much of a history lasts; nothing is said of a disk that does not tell its bytes
abbrev pub Lasts : Crashing → Device → State → List Entry → Type 0
Lasts crashes device first history = Told crashes.seen (λ _. SurvivesRun crashes device first history)

-- nothing was done to the disk: a crash at any moment of the run leaves what one before it had left
abbrev pub Unharmed : Crashing → Type 0
Unharmed crashes = (c : List ℕ) → crashes.left_since crashes.began c → crashes.may_leave c

-- Where a run made no server of a folder's store, the store keeps what it held: nothing was done to the disk; or it was
-- opened for this device, and a crash at any moment of the run leaves one of those that it held, where these are known.
-- Where its file has no reading, since it is damaged or of other modules, nothing was done to it.
pub data Spares (crashes : Crashing) (files : Filing) (folder : List ℕ) : Type 0 where
  Untouched : Unharmed crashes → Spares crashes files folder
  Opened : (device : Device) → Makes files folder device
      → Told crashes.seen (λ _. IfSome crashes.held (Leaves crashes device crashes.began))
      → Told crashes.seen (λ file. HasNoReading device.header file → Unharmed crashes) → Spares crashes files folder
