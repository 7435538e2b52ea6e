-- A server over a store, before its first event.
use Rattle.std.specs.Prelude.{◌≡◌, ◌∷◌, ℕ, List, [], Option, is_some}
use Rattle.std.specs.Coded.{Coded}
use Rattle.nc_machine.specs.Lasting.{Lasting, lasting, name_of}
use Rattle.nc_machine.specs.Serving.{GoesOn, IsHomeOf, Serving, StandsFor}
use Rattle.nc_model.specs.Desks.{Home, SurvivesFrom}
use Rattle.nc_model.specs.declared.entry.Entry.{Entry}
use Rattle.nc_journal.specs.Refusing.{HasNoReading}
use Rattle.nc_names.specs.declared.path.Row.{Row}
use Rattle.nc_outside.specs.Disks.{LeavesOnly, Told}
use Rattle.nc_store.specs.Keeping.{Continues, StoreLeaves, Storing}
use Rattle.nc_store.specs.Reopening.{Reopens}
use Rattle.nc_device.specs.Crashes.{BeginsAmong}
use Rattle.nc_device.specs.Devices.{Makes, begun_with}
use Rattle.nc_device.specs.Outside.{Filing, Times}
use Rattle.nc_device.specs.Sessions.{IsHomeAt}
use Rattle.nc_device.specs.declared.device.Device.{Device}

-- what a store says of crashes
abbrev pub store_words : {D : Type 0} → (seen : D → Option (List ℕ)) → (moment : D → ℕ) →
    (left_since : D → ℕ → List ℕ → Type 0) → Lasting (Storing D)
store_words seen moment left_since = lasting (λ s. s.doubt) (λ s. moment s.disk)
    (λ s t among. StoreLeaves seen left_since s t among) (λ old new. Continues seen moment left_since old new)

-- The store of a device was opened on that disk, whose file has a reading: no configuration but running comes back from
-- now on; a crash within the opening leaves one of those that the disk had; and the server stands for the history that
-- begins now.
pub record IsBegun {D : Type 0} (seen : D → Option (List ℕ)) (may_leave : D → List ℕ → Type 0) (moment : D → ℕ)
    (left_since : D → ℕ → List ℕ → Type 0) (disk : D) (device : Device) (machine : Serving (Storing D)) : Type 0 where
  pub setup_is : machine.keeper.setup ≡ begun_with device
  pub tells : is_some (seen machine.keeper.disk) ≡ is_some (seen disk)
  pub read : Told (seen disk) (λ file. ¬ HasNoReading device.header file)
  pub now : StoreLeaves seen left_since machine.keeper (moment machine.keeper.disk) (machine.state.running ∷ [])
  pub moments : Told (seen disk) (λ _. (among : List (List Row)) → BeginsAmong device (may_leave disk) among →
      LeavesOnly moment left_since disk machine.keeper.disk (Reopens (begun_with device) among))
  pub stands : (home : Home) → IsHomeOf (store_words seen moment left_since) machine home →
      StandsFor (store_words seen moment left_since) home machine []

-- a history may begin there with this server and that clock; the home names the server's keeper
pub record IsSeatedAt {K : Type 0} (coded : Coded K) (words : Lasting K) (machine : Serving K) (before : Times)
    (home : Home) : Type 0 where
  pub is_home : IsHomeAt machine.state before home
  pub place_is : home.place ≡ name_of coded machine.keeper
  pub stands : StandsFor words home machine []

-- a keeper after a history: what a crash leaves of it, and that it is the first one at a later moment
pub record Keeps {K : Type 0} (words : Lasting K) (home : Home) (first keeper : K) (history : List Entry) : Type 0 where
  pub survives : SurvivesFrom (words.leaves keeper) (words.moment keeper) home history
  pub continues : words.continues first keeper

-- a server over a store went on by a history, and left that disk
pub record HasLeft {D : Type 0} (words : Lasting (Storing D)) (first : Serving (Storing D)) (disk : D)
    (history : List Entry) : Type 0 where
  pub last : Serving (Storing D)
  pub disk_is : last.keeper.disk ≡ disk
  pub goes : GoesOn words first last history

-- a disk after it was opened for a device, or was to be: a crash since then leaves what one before had left, or what
-- stands for one of the configurations that it held; and of a file without a reading, what one before had left
pub data IsKept {D : Type 0} (seen : D → Option (List ℕ)) (may_leave : D → List ℕ → Type 0) (moment : D → ℕ)
    (left_since : D → ℕ → List ℕ → Type 0) (old new : D) (device : Device) : Type 0 where
  NotMoved : ((c : List ℕ) → left_since new (moment old) c → may_leave old c)
      → IsKept seen may_leave moment left_since old new device
  WasOpened : Told (seen old) (λ _. (among : List (List Row)) → BeginsAmong device (may_leave old) among →
      LeavesOnly moment left_since old new (Reopens (begun_with device) among))
      → Told (seen old) (λ file. HasNoReading device.header file →
      (c : List ℕ) → left_since new (moment old) c → may_leave old c)
      → IsKept seen may_leave moment left_since old new device

-- and for the device of a folder, where the folder makes one
pub data IsSpared {D : Type 0} (seen : D → Option (List ℕ)) (may_leave : D → List ℕ → Type 0) (moment : D → ℕ)
    (left_since : D → ℕ → List ℕ → Type 0) (old new : D) (files : Filing) (folder : List ℕ) : Type 0 where
  Unmoved : ((c : List ℕ) → left_since new (moment old) c → may_leave old c)
      → IsSpared seen may_leave moment left_since old new files folder
  OpenedFor : (device : Device) → Makes files folder device → IsKept seen may_leave moment left_since old new device
      → IsSpared seen may_leave moment left_since old new files folder
