-- What a store keeps.
use Rattle.std.specs.Prelude.{◌≡◌, ◌≤◌, ◌<◌, ◌+◌, ◌*◌, ◌-◌, ℕ, List, [], ◌∷◌, ◌++◌, length, max}
use Rattle.std.specs.Prelude.{Option, Some, None, is_some}
use Rattle.nc_names.specs.Limits.{body_limit}
use Rattle.nc_names.specs.declared.path.Row.{Row}
use Rattle.nc_schema.specs.Record.{record_body}
use Rattle.nc_outside.specs.Disks.{Told}
use Rattle.nc_journal.specs.Format.{areas_begin, framed as in_frame, area as up_to_gate}
use Rattle.nc_journal.specs.Journal.{IsSound, Stands, disk_of, gate_of, start_of}
use Rattle.nc_journal.specs.declared.journal.Journal.{Journal}
use Rattle.nc_journal.specs.declared.kept.Kept.{Kept}
use Rattle.nc_journal.specs.declared.kept.Kept.TheVariants.{Kept as IsKept, Failed as HasFailed}
use Rattle.nc_journal.specs.declared.kept.Doubt.TheVariants.{Nothing, Earlier, This}
use Rattle.nc_store.specs.Reopening.{IsBase, IsValidRecord, Reopens, Setup}
use Rattle.nc_store.specs.declared.ready.Ready.{Ready}
use Rattle.nc_store.specs.declared.ready.Way.{Way}
use Rattle.nc_store.specs.declared.ready.Way.TheVariants.{Append, Replace}

-- a store to contracts: its disk, what it was started with, the configuration that comes back, the one in doubt, where
-- its live area begins, how many bytes that has, from the header to the closed gate, and how many records
pub record Storing (D : Type 0) : Type 0 where
  pub disk : D
  pub setup : Setup
  pub base : List Row
  pub doubt : Option (List Row)
  pub start : ℕ
  pub live : ℕ
  pub records : ℕ

-- Whatever a crash at that moment or a later one has left of the disk, the next start begins with one of these. Nothing
-- is said of a disk that does not tell its bytes.
abbrev pub StoreLeaves : {D : Type 0} (seen : D → Option (List ℕ)) (left_since : D → ℕ → List ℕ → Type 0) →
    Storing D → ℕ → List (List Row) → Type 0
StoreLeaves seen left_since s t among =
    Told (seen s.disk) (λ _. (c : List ℕ) → left_since s.disk t c → Reopens s.setup among c)

-- the bytes of the live area of a journal, from the header to the closed gate
abbrev pub live_size : {D : Type 0} → Journal D → ℕ
live_size journal = gate_of journal - start_of journal + 1

-- how many bytes an area has that holds one record alone: the header, the record with its gate and its length, and the
-- closed gate
abbrev pub whole_area : (header body : ℕ) → ℕ
whole_area header body = header + (9 + body) + 1

-- an area grows up to the larger of 1,048,576 bytes and four times what one with the last record alone has
abbrev pub area_limit : (header body : ℕ) → ℕ
area_limit header body = max 1048576 (4 * whole_area header body)

-- once a record with that limit was written, the live area is within it; a failure leaves it as it was
abbrev pub IsSized : Kept → (before now limit : ℕ) → Type 0
IsSized IsKept before now limit = now ≤ limit
IsSized (HasFailed doubt) before now limit = now ≡ before

-- no crash image of this moment is longer than this
abbrev pub AreWithin : {D : Type 0} → (D → ℕ) → (D → ℕ → List ℕ → Type 0) → ℕ → D → Type 0
AreWithin moment left_since limit disk = (c : List ℕ) → left_since disk (moment disk) c → length c ≤ limit

-- how large the live area of a store may become: no larger than it is, or than one grows by a body within the limit
abbrev pub most_live : {D : Type 0} → Storing D → ℕ
most_live s = max s.live (area_limit (length s.setup.header) body_limit)

-- where it may come to begin: no later than it does, or than after an area of that size before which there is no room
-- for one with a single record
abbrev pub most_start : {D : Type 0} → Storing D → ℕ
most_start s = max s.start (areas_begin + whole_area (length s.setup.header) body_limit + most_live s)

-- The file of a store at a later moment is bounded by what the store was: its live area, where that begins, and so how
-- long the file is, unless it was longer.
pub record IsBounded {D : Type 0} (moment : D → ℕ) (left_since : D → ℕ → List ℕ → Type 0) (old new : Storing D)
    : Type 0 where
  pub live_is : new.live ≤ most_live old
  pub start_is : new.start ≤ most_start old
  pub file_is : (limit : ℕ) → most_start old + most_live old ≤ limit
      → AreWithin moment left_since limit old.disk → AreWithin moment left_since limit new.disk

-- A store at a later moment.
pub record Continues {D : Type 0} (seen : D → Option (List ℕ)) (moment : D → ℕ) (left_since : D → ℕ → List ℕ → Type 0)
    (old new : Storing D) : Type 0 where
  pub setup_is : new.setup ≡ old.setup
  pub tells : is_some (seen new.disk) ≡ is_some (seen old.disk)
  pub bounded : Told (seen new.disk) (λ _. IsBounded moment left_since old new)

-- bodies in doubt stand for the configuration in doubt
abbrev pub IsDoubt : Setup → Option (List (List ℕ)) → Option (List Row) → Type 0
IsDoubt setup None None = Unit {0}
IsDoubt setup (Some bodies) (Some rows) = IsBase setup.tables setup.initial bodies rows
IsDoubt setup bodies rows = ⊥

-- a journal stands for this configuration, and another may come back in its place
pub record IsKeeping {D : Type 0} (seen : D → Option (List ℕ)) (may_leave : D → List ℕ → Type 0) (setup : Setup)
    (journal : Journal D) (base : List Row) (doubt : Option (List Row)) : Type 0 where
  pub bodies : List (List ℕ)
  pub others : Option (List (List ℕ))
  pub stands : Stands seen may_leave setup.header journal bodies others
  pub base_is : IsBase setup.tables setup.initial bodies base
  pub doubt_is : IsDoubt setup others doubt

-- after a record with these rows was written, or the writing failed
abbrev pub KeptAs : {D : Type 0} (seen : D → Option (List ℕ)) (may_leave : D → List ℕ → Type 0) (setup : Setup)
    (journal : Journal D) (base : List Row) (doubt : Option (List Row)) (rows : List Row) → Kept → Type 0
KeptAs seen may_leave setup journal base doubt rows IsKept = IsKeeping seen may_leave setup journal rows None
KeptAs seen may_leave setup journal base doubt rows (HasFailed Nothing) =
    IsKeeping seen may_leave setup journal base None
KeptAs seen may_leave setup journal base doubt rows (HasFailed Earlier) =
    IsKeeping seen may_leave setup journal base doubt
KeptAs seen may_leave setup journal base doubt rows (HasFailed This) =
    IsKeeping seen may_leave setup journal base (Some rows)

-- a record with this body, which is appended to a live area of so many bytes where that stays small enough, else
-- written alone in a new area
abbrev pub IsWay : (live : ℕ) → (header body : List ℕ) → Way → Type 0
IsWay live header body (Append framed) =
    (framed ≡ in_frame body) × (live + (9 + length body) ≤ area_limit (length header) (length body))
IsWay live header body (Replace area) =
    (area ≡ up_to_gate header (body ∷ []) ++ 0 ∷ [])
    × (area_limit (length header) (length body) < live + (9 + length body))

-- a record of a configuration that is valid
pub record IsRecord (setup : Setup) (live : ℕ) (rows : List Row) (way : Way) : Type 0 where
  pub spelled : IsValidRecord setup.tables (record_body rows) rows
  pub way_is : IsWay live setup.header (record_body rows) way

-- what was made ready for a configuration
pub record IsReady {D : Type 0} (s : Storing D) (ready : Ready) (rows : List Row) : Type 0 where
  pub rows_is : ready.rows ≡ rows
  pub record_is : IsRecord s.setup s.live rows ready.way

-- a journal that a record can be written to
pub record CanKeep {D : Type 0} (seen : D → Option (List ℕ)) (may_leave : D → List ℕ → Type 0) (journal : Journal D)
    (way : Way) : Type 0 where
  pub header : List ℕ
  pub sound : Told (seen (disk_of journal)) (λ file. IsSound seen may_leave header journal)
  pub body : List ℕ
  pub live : ℕ
  pub small : length body ≤ body_limit
  pub way_is : IsWay live header body way
