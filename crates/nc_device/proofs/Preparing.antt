-- What the folder of a device comes to.
use Rattle.std.proofs.Common.{◌≡◌, ◌≢◌, ◌≤◌, ◌<◌, ℕ, Bool, true, false, cond, List, [], ◌∷◌, length, Option, Some, None, Result, Ok, Err, sym, subst, ap, ◌∙◌, arith}
use Rattle.std.specs.List.{All, find, position_or_len}
use Rattle.std.specs.Prelude.{position, slice_index_or, is_some, IfErr, IfOk}
use Rattle.std.proofs.lemmas.Bool.{lt-ltb}
use Rattle.std.proofs.lemmas.Bool.Decides.{nat_tests}
use Rattle.std.proofs.lemmas.List.Folds.{find_at}
use Rattle.std.proofs.lemmas.Option.{slice_get_past}
use Rattle.nc_machine.specs.Serving.{IsHomeOf, Serving, StandsFor}
use Rattle.nc_model.proofs.SessionLemmas.{none_found}
use Rattle.nc_model.specs.Desks.{Home}
use Rattle.nc_model.specs.State.{State, opening}
use Rattle.nc_names.specs.declared.path.Row.{Row}
use Rattle.nc_outside.specs.declared.files.NamedFile.{NamedFile}
use Rattle.nc_names.specs.Counts.{Rose}
use Rattle.nc_journal.specs.Refusing.{HasNoReading}
use Rattle.nc_outside.specs.Disks.{LeavesOnly, Told}
use Rattle.nc_schema.specs.Configuration.{IsConfiguration}
use Rattle.nc_schema.specs.Proper.{IsProperSchema}
use Rattle.nc_schema.specs.Tables.{Tables}
use Rattle.nc_schema.specs.Violations.{IsValid}
use Rattle.nc_store.specs.Keeping.{StoreLeaves, Storing}
use Rattle.nc_store.specs.Opening.{BeginsWith, HasBegun, IsRefused, IsUnread}
use Rattle.nc_store.specs.Reopening.{Reopens}
use Rattle.nc_store.specs.declared.fault.StoreFault.{StoreFault}
use Rattle.nc_store.specs.declared.fault.StoreFault.TheVariants.{DiskFault}
use Rattle.nc_setup.specs.Setup.{IsSetup}
use Rattle.nc_setup.specs.declared.folder.Contents.{Contents}
use Rattle.nc_yang.specs.Texts.{is_long, text_limit}
use Rattle.nc_yang.specs.declared.text.ModuleText.{ModuleText}
use Rattle.nc_device.specs.Devices.{Begins, Refuses}
use Rattle.nc_device.specs.Outside.{Filing, Making, Stored, filing, ground}
use Rattle.nc_device.specs.Begun.{IsBegun, IsKept, WasOpened, store_words}
use Rattle.nc_device.specs.Grounds.{IsReady}
use Rattle.nc_device.specs.inner.Preparing.{IsRead, MakesOf, Prepares}
use Rattle.nc_device.specs.declared.device.Device.{Device}
use Rattle.nc_words.specs.declared.end.RunEnd.{RunEnd}
use Rattle.nc_words.specs.declared.end.RunEnd.TheVariants.{Words, Files, Setup, Store, Memory, Session, Served, Script, Checked}

-- ---- what the folder holds
pub not_read : (files later : Option (List NamedFile)) (folder : List ℕ) (before now : ℕ) (m : Making) (end : RunEnd)
    → later ≡ files → IsRead files folder before now (Err end)
    → Prepares folder (filing files before) (filing later now) m m (Err end)
not_read files later folder before now m Files same rose = (rose, λ i. filing (same i) now)
not_read files later folder before now m Memory same kept = λ i. filing (same i) (kept i)
not_read files later folder before now m Words same none = absurd none
not_read files later folder before now m (Setup fault) same none = absurd none
not_read files later folder before now m (Store fault) same none = absurd none
not_read files later folder before now m (Session end) same none = absurd none
not_read files later folder before now m (Served end) same none = absurd none
not_read files later folder before now m (Script end) same none = absurd none
not_read files later folder before now m (Checked printed) same none = absurd none

pub was_read : (files later : Option (List NamedFile)) (folder : List ℕ) (before now : ℕ) (m n : Making) (contents : Contents)
    (result : Result Device RunEnd) → later ≡ files → IsRead files folder before now (Ok contents) → MakesOf contents m n result
    → Prepares folder (filing files before) (filing later now) m n result
was_read files later folder before now m n contents (Ok device) same (holds, kept) is =
    (record { contents = contents; holds = holds; is = is }, λ i. filing (same i) (kept i))
was_read files later folder before now m n contents (Err (Setup fault)) same (holds, kept) refused =
    (record { contents = contents; holds = holds; refused = refused }, λ i. filing (same i) (kept i))
was_read files later folder before now m n contents (Err Memory) same (holds, kept) u = λ i. filing (same i) (kept i)
was_read files later folder before now m n contents (Err Words) same read none = absurd none
was_read files later folder before now m n contents (Err Files) same read none = absurd none
was_read files later folder before now m n contents (Err (Store fault)) same read none = absurd none
was_read files later folder before now m n contents (Err (Session end)) same read none = absurd none
was_read files later folder before now m n contents (Err (Served end)) same read none = absurd none
was_read files later folder before now m n contents (Err (Script end)) same read none = absurd none
was_read files later folder before now m n contents (Err (Checked printed)) same read none = absurd none

-- ---- the header of a store

not_long : (text : ModuleText) → is_long text ≡ false → length text.bytes ≤ text_limit
not_long text short = grind (arith, nat_tests)

no_place : (b : Bool) (n : ℕ) → cond b (Some n) None ≡ None → ¬ (b ≡ true)
no_place true n is t = cc
no_place false n is t = cc

past : (a b : ℕ) → ¬ (a < b) → b ≤ a
past a b never = grind arith

found_nowhere : (texts : List ModuleText) → position is_long texts ≡ None → find is_long texts ≡ None
found_nowhere texts place =
    let at = position_or_len is_long texts in
    find_at is_long texts ∙ slice_get_past texts at
    (past at (length texts) (λ less. no_place _ at place (lt-ltb at (length texts) less)))

all_short : (texts : List ModuleText) → position is_long texts ≡ None → All (λ text. length text.bytes ≤ text_limit) texts
all_short texts none = λ k d within. not_long (slice_index_or texts k d) (none_found is_long texts (found_nowhere texts none) k d within)

pub short_modules : (contents : Contents) (server : _) → IsSetup contents server
    → All (λ text. length text.bytes ≤ text_limit) contents.modules
short_modules contents server setup = all_short contents.modules setup.schema.defines.begun.read.read.short

-- ---- a server, or none
pub is_ready : (folder : List ℕ) (f g : Filing) (d : Stored) (m n : Making) (device : Device) (first : State) (schema : Tables)
    (modules : ℕ) (S : Device → Type 0) → Prepares folder f g m n (Ok device) → Begins device d first
    → schema ≡ device.schema → modules ≡ device.modules → S device
    → IsReady folder (ground f d m) (ground g d n) first schema modules S
is_ready folder f g d m n device first schema modules S (makes, same) begins schema_is modules_is begun = record {
  device = device;
  makes = makes;
  begins = begins;
  schema_is = schema_is;
  modules_is = modules_is;
  files = same;
  begun = begun;
}

-- ---- a store is opened, or not
pub ok_so : {A E : Type 0} (P Q : A → Type 0) (result : Result A E) → ((it : A) → P it → Q it) → IfOk result P → IfOk result Q
ok_so P Q (Ok it) so is = so it is
ok_so P Q (Err e) so is = tt

pub err_so : {A E : Type 0} (P Q : E → Type 0) (result : Result A E) → ((it : E) → P it → Q it) → IfErr result P → IfErr result Q
err_so P Q (Ok it) so is = tt
err_so P Q (Err e) so is = so e is

pub ok_all : {A E : Type 0} (P Q R S : A → Type 0) (result : Result A E) → ((it : A) → P it → Q it → R it → S it)
    → IfOk result P → IfOk result Q → IfOk result R → IfOk result S
ok_all P Q R S (Ok it) so p q r = so it p q r
ok_all P Q R S (Err e) so p q r = tt

pub begins_by : {D : Type 0} (device : Device) (disk : Stored) (failed : ℕ) (tables schema : Tables) (store : Storing D)
    (running : List Row) (first : State) → tables ≡ device.schema → schema ≡ device.schema → IsProperSchema device.schema
    → HasBegun (record { header = device.header; tables = tables; initial = device.initial }) store running
    → Told disk.seen (BeginsWith (record { header = device.header; tables = tables; initial = device.initial }) running)
    → failed ≡ disk.failed → first ≡ opening schema running failed → Begins device disk first
begins_by device disk failed tables schema store running first same so proper begun reads unfailed is = record {
  base = running;
  is = is ∙ ap (λ t. opening t running failed) so ∙ ap (λ n. opening device.schema running n) unfailed;
  proper = proper;
  configuration = subst (λ t. IsConfiguration t running) same begun.configuration;
  valid = subst (λ t. IsValid t running) same begun.valid;
  reads = subst (λ t. Told disk.seen (BeginsWith (record { header = device.header; tables = t; initial = device.initial }) running)) same reads;
}

pub refuses_by : (device : Device) (before now : Stored) (tables : Tables) (fault : StoreFault) → tables ≡ device.schema
    → Told before.seen (λ old. Told now.seen (λ new.
    IsRefused (record { header = device.header; tables = tables; initial = device.initial }) fault old new))
    → (IsUnread fault → Told before.seen (λ file. (among : List (List Row))
    → ¬ Reopens (record { header = device.header; tables = tables; initial = device.initial }) among file))
    → (fault ≡ DiskFault → Rose before.failed now.failed) → (fault ≢ DiskFault → now.failed ≡ before.failed)
    → Refuses device before now fault
refuses_by device before now tables fault same refused unread cause other = record {
  refused = subst (λ t. Told before.seen (λ old. Told now.seen (λ new.
      IsRefused (record { header = device.header; tables = t; initial = device.initial }) fault old new))) same refused;
  unread = subst (λ t. IsUnread fault → Told before.seen (λ file. (among : List (List Row))
      → ¬ Reopens (record { header = device.header; tables = t; initial = device.initial }) among file)) same unread;
  cause = cause;
  other = other;
}

pub begun_by : {D : Type 0} (seen : D → Option (List ℕ)) (may_leave : D → List ℕ → Type 0) (moment : D → ℕ)
    (left_since : D → ℕ → List ℕ → Type 0) (disk : D) (device : Device) (tables : Tables) (store : Storing D)
    (running : List Row) (machine : Serving (Storing D)) → tables ≡ device.schema
    → HasBegun (record { header = device.header; tables = tables; initial = device.initial }) store running
    → Told (seen disk) (BeginsWith (record { header = device.header; tables = tables; initial = device.initial }) running)
    → machine.keeper ≡ store → machine.state.running ≡ running → is_some (seen store.disk) ≡ is_some (seen disk)
    → StoreLeaves seen left_since store (moment store.disk) (running ∷ [])
    → Told (seen disk) (λ _. (among : List (List Row))
    → ((c : List ℕ) → may_leave disk c → Reopens (record { header = device.header; tables = tables; initial = device.initial }) among c)
    → LeavesOnly moment left_since disk store.disk (Reopens (record { header = device.header; tables = tables; initial = device.initial }) among))
    → ((home : Home) → IsHomeOf (store_words seen moment left_since) machine home
    → StandsFor (store_words seen moment left_since) home machine [])
    → IsBegun seen may_leave moment left_since disk device machine
begun_by {D} seen may_leave moment left_since disk device tables store running machine same begun reads keeper is tells now moments stands = record {
  setup_is = ap (λ (s : Storing D). s.setup) keeper ∙ begun.setup_is
      ∙ ap (λ (t : Tables). record { header = device.header; tables = t; initial = device.initial }) same;
  tells = ap (λ (s : Storing D). is_some (seen s.disk)) keeper ∙ tells;
  read = λ file told none. let it = reads file told in none it.bodies it.opens;
  now = subst (λ (z : Storing D × List Row). StoreLeaves seen left_since z.0 (moment z.0.disk) (z.1 ∷ []))
      (λ i. (sym keeper i, sym is i)) now;
  moments = subst (λ (z : Storing D × Tables). Told (seen disk) (λ _. (among : List (List Row))
      → ((c : List ℕ) → may_leave disk c → Reopens (record { header = device.header; tables = z.1; initial = device.initial }) among c)
      → LeavesOnly moment left_since disk z.0.disk (Reopens (record { header = device.header; tables = z.1; initial = device.initial }) among)))
      (λ i. (sym keeper i, same i)) moments;
  stands = stands;
}

-- and the disk of a store that was not opened, or is given back
pub kept_by : {D : Type 0} (seen : D → Option (List ℕ)) (may_leave : D → List ℕ → Type 0) (moment : D → ℕ)
    (left_since : D → ℕ → List ℕ → Type 0) (old new now : D) (device : Device) (tables : Tables) → tables ≡ device.schema
    → now ≡ new → Told (seen old) (λ file. HasNoReading device.header file → LeavesOnly moment left_since old new (may_leave old))
    → Told (seen old) (λ _. (among : List (List Row))
    → ((c : List ℕ) → may_leave old c → Reopens (record { header = device.header; tables = tables; initial = device.initial }) among c)
    → LeavesOnly moment left_since old new (Reopens (record { header = device.header; tables = tables; initial = device.initial }) among))
    → IsKept seen may_leave moment left_since old now device
kept_by {D} seen may_leave moment left_since old new now device tables same is spared moments = WasOpened
    (subst (λ (z : D × Tables). Told (seen old) (λ _. (among : List (List Row))
    → ((c : List ℕ) → may_leave old c → Reopens (record { header = device.header; tables = z.1; initial = device.initial }) among c)
    → LeavesOnly moment left_since old z.0 (Reopens (record { header = device.header; tables = z.1; initial = device.initial }) among)))
    (λ i. (sym is i, same i)) moments)
    (λ file told none c left. (spared file told none).each c (subst (λ (d : D). left_since d (moment old) c) is left))
