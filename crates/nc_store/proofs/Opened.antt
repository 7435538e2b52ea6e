-- A file of the store is opened.
use Rattle.std.proofs.Common.{◌≡◌, ◌∙◌, ◌+◌, ◌-◌, ◌^◌, min, ⊎_elim, inl, ℕ, List, [], ◌∷◌, ◌++◌, length, Contains, Option, Some, None, is_some, IfSome, refl, sym, ap, subst, arith, length-append}
use Rattle.std.specs.Option.{option_map_or}
use Rattle.std.specs.Prelude.{slice_get}
use Rattle.nc_names.specs.declared.path.Row.{Row}
use Rattle.nc_schema.proofs.TreeLemmas.{contains_cases}
use Rattle.nc_outside.specs.Disks.{LeavesOnly, Told}
use Rattle.nc_outside.proofs.DiskFiles.{told_before}
use Rattle.nc_journal.specs.Files.{Holds, IsNew}
use Rattle.nc_journal.specs.Format.{gate_place}
use Rattle.nc_journal.specs.Header.{IsHeader}
use Rattle.nc_journal.specs.Images.{IsClean}
use Rattle.nc_journal.specs.Journal.{Stands, allowed, at_rest, chooser_open, gate_open}
use Rattle.nc_journal.specs.Laws.{damaged_file, new_file, other_file, whole_file}
use Rattle.nc_journal.specs.declared.journal.Journal.{Journal}
use Rattle.nc_journal.specs.Beginning.{BeginsSafely, HasBegun}
use Rattle.nc_journal.specs.Opening.{IsRead, Opens, StartsAmong, StartsFresh, as_new as opens_new, as_read, fresh, left_before, left_before_making, made, stands, still_new}
use Rattle.nc_journal.specs.Refusing.{HasNoReading, HasOtherHeader, IsAsItWas, IsDamaged, IsLeftAlone, IsRefused as IsNotRead}
use Rattle.nc_journal.specs.declared.fault.JournalFault.{JournalFault}
use Rattle.nc_journal.specs.declared.fault.JournalFault.TheVariants.{DiskFault, Damaged, OtherHeader, Memory}
use Rattle.nc_journal.proofs.Numbers.{gate-push}
use Rattle.nc_journal.proofs.Once.{holds_is_read}
use Rattle.nc_journal.proofs.Outcomes.{outcomes_once}
use Rattle.nc_journal.proofs.Standing.{only_as}
use Rattle.nc_record.proofs.Above.{at_end}
use Rattle.nc_store.specs.Keeping.{IsKeeping}
use Rattle.nc_store.specs.Opening.{BeginsWith, HasBadRecord, IsRefused, IsUnread, fault_by}
use Rattle.nc_store.specs.Reopening.{IsBase, IsValidRecord, Reopens, Setup, StandsAmong, as_held, as_new, no_record}
use Rattle.nc_store.specs.inner.Finding.{FindsBase, gate_before}
use Rattle.nc_store.proofs.Files.{among_reopens}
use Rattle.nc_store.proofs.Members.{in_one}
use Rattle.nc_store.proofs.Spelling.{none_last_record}

-- a file that has another outcome begins with nothing
differ_new_damaged : (at : ℕ) → ¬ (new_file ≡ damaged_file at)
differ_new_damaged at e = cc

differ_whole_damaged : (bodies : List (List ℕ)) (at : ℕ) → ¬ (whole_file bodies ≡ damaged_file at)
differ_whole_damaged bodies at e = cc

differ_new_other : (at : ℕ) → ¬ (new_file ≡ other_file at)
differ_new_other at e = cc

differ_whole_other : (bodies : List (List ℕ)) (at : ℕ) → ¬ (whole_file bodies ≡ other_file at)
differ_whole_other bodies at e = cc

pub damaged_not : (setup : Setup) (modules : List (List ℕ)) (features : List ℕ) (at : ℕ) (file : List ℕ) (among : List (List Row)) → IsHeader modules features setup.header → IsDamaged setup.header at file → ¬ Reopens setup among file
damaged_not setup modules features at file among header damaged (as_new new has) = differ_new_damaged at (outcomes_once modules features setup.header file header new_file (damaged_file at) new damaged)
damaged_not setup modules features at file among header damaged (as_held bodies doubt holds are in_doubt) =
    differ_whole_damaged bodies at (outcomes_once modules features setup.header file header (whole_file bodies) (damaged_file at) (holds_is_read setup.header bodies doubt file holds) damaged)

pub other_not : (setup : Setup) (modules : List (List ℕ)) (features : List ℕ) (at : ℕ) (file : List ℕ) (among : List (List Row)) → IsHeader modules features setup.header → HasOtherHeader setup.header at file → ¬ Reopens setup among file
other_not setup modules features at file among header other (as_new new has) = differ_new_other at (outcomes_once modules features setup.header file header new_file (other_file at) new other)
other_not setup modules features at file among header other (as_held bodies doubt holds are in_doubt) =
    differ_whole_other bodies at (outcomes_once modules features setup.header file header (whole_file bodies) (other_file at) (holds_is_read setup.header bodies doubt file holds) other)

same_bytes : {one other : List ℕ} → Some one ≡ Some other → one ≡ other
same_bytes is = cc

-- why the journal refuses a file is why the store does
pub refused_by : {D : Type 0} (seen : D → Option (List ℕ)) (may_leave : D → List ℕ → Type 0) (moment : D → ℕ) (left_since : D → ℕ → List ℕ → Type 0)
    (start end : D) (h : List ℕ) (setup : Setup) (fault : JournalFault) (before after : List ℕ)
    → seen start ≡ Some before → seen end ≡ Some after → IsNotRead setup.header fault before → IsLeftAlone h seen may_leave moment left_since fault start end
    → IsRefused setup (fault_by fault) before after
refused_by seen may_leave moment left_since start end h setup DiskFault before after told told_too it left = tt
refused_by seen may_leave moment left_since start end h setup (Damaged at) before after told told_too it left =
    inl (it, same_bytes (sym told_too ∙ left.same ∙ told))
refused_by seen may_leave moment left_since start end h setup (OtherHeader at) before after told told_too it left =
    let within = it.differs.within_ours in
    let few = it.is_ours.few in
    let same : at ≡ min at (2 ^ 32 - 1) = omega (arith, within, few) in
    (subst (λ n. HasOtherHeader setup.header n before) same it, same_bytes (sym told_too ∙ left.same ∙ told))
refused_by seen may_leave moment left_since start end h setup Memory before after told told_too it left = tt

-- a file without a reading is left alone whatever the fault is
pub spared_by : {D : Type 0} (seen : D → Option (List ℕ)) (may_leave : D → List ℕ → Type 0) (moment : D → ℕ) (left_since : D → ℕ → List ℕ → Type 0)
    (start end : D) (h : List ℕ) (fault : JournalFault) → IsLeftAlone h seen may_leave moment left_since fault start end
    → Told (seen start) (λ file. HasNoReading h file → IsAsItWas seen may_leave moment left_since start end)
spared_by seen may_leave moment left_since start end h DiskFault left = left
spared_by seen may_leave moment left_since start end h (Damaged at) left = λ file told none. left
spared_by seen may_leave moment left_since start end h (OtherHeader at) left = λ file told none. left
spared_by seen may_leave moment left_since start end h Memory left = λ file told none. left

pub unread_by : (setup : Setup) (modules : List (List ℕ)) (features : List ℕ) (fault : JournalFault) (file : List ℕ) (among : List (List Row)) → IsHeader modules features setup.header → IsNotRead setup.header fault file
    → IsUnread (fault_by fault) → ¬ Reopens setup among file
unread_by setup modules features DiskFault file among header it unread = absurd unread
unread_by setup modules features (Damaged at) file among header it unread = damaged_not setup modules features at file among header it
unread_by setup modules features (OtherHeader at) file among header it unread = other_not setup modules features at file among header it
unread_by setup modules features Memory file among header it unread = absurd unread

-- nor does one whose last body spells nothing
pub no_base : (setup : Setup) (among : List (List Row)) (file : List ℕ) (found : List (List ℕ)) → (IsNew setup.header file → found ≡ [])
    → ((bodies : List (List ℕ)) (doubt : Option (List (List ℕ))) → Holds setup.header bodies doubt file → found ≡ bodies)
    → FindsBase setup.tables setup.initial found None → ¬ Reopens setup among file
no_base setup among file found new_is held_is none (as_new new has) = none setup.initial (no_record (new_is new) refl)
no_base setup among file found new_is held_is none (as_held bodies doubt holds are in_doubt) =
    none are.rows (subst (λ b. IsBase setup.tables setup.initial b are.rows) (sym (held_is bodies doubt holds)) are.base)

-- what is opened is one of those that the file stands for
opened_among : (setup : Setup) (among : List (List Row)) (file : List ℕ) (found : List (List ℕ)) (rows : List Row) → (IsNew setup.header file → found ≡ [])
    → ((bodies : List (List ℕ)) (doubt : Option (List (List ℕ))) → Holds setup.header bodies doubt file → found ≡ bodies)
    → FindsBase setup.tables setup.initial found (Some rows) → Reopens setup among file → Contains among rows
opened_among setup among file found rows new_is held_is base (as_new new has) = subst (Contains among) (base.1 setup.initial (no_record (new_is new) refl)) has
opened_among setup among file found rows new_is held_is base (as_held bodies doubt holds are in_doubt) =
    subst (Contains among) (base.1 are.rows (subst (λ b. IsBase setup.tables setup.initial b are.rows) (sym (held_is bodies doubt holds)) are.base)) are.is_among

-- and the file has a reading
pub begins_with : (setup : Setup) (file : List ℕ) (found : List (List ℕ)) (rows : List Row) → Opens setup.header found file
    → (IsNew setup.header file → found ≡ [])
    → ((bodies : List (List ℕ)) (doubt : Option (List (List ℕ))) → Holds setup.header bodies doubt file → found ≡ bodies)
    → FindsBase setup.tables setup.initial found (Some rows) → BeginsWith setup rows file
begins_with setup file found rows opens new_is held_is base = record {
  bodies = found;
  opens = opens;
  base_is = base.0;
  is_among = λ among reopens. opened_among setup among file found rows new_is held_is base reopens;
}

-- a file of which some record was read has a reading
read_some : (header : List ℕ) (found front : List (List ℕ)) (body file : List ℕ) → Opens header found file → found ≡ front ++ body ∷ []
    → IsRead header (front ++ body ∷ []) file
read_some header found front body file (opens_new new empty) is =
    absurd (let wrong : 0 ≡ length front + 1 = omega (arith, ap length empty, ap length is, length-append front (body ∷ [])) in omega (arith, wrong))
read_some header found front body file (as_read read) is = subst (λ b. IsRead header b file) is read

-- the last record of a journal at rest
pub bad_record : {D : Type 0} (seen : D → Option (List ℕ)) (may_leave : D → List ℕ → Type 0) (setup : Setup) (journal : Journal D) (found front : List (List ℕ)) (body before file : List ℕ) (at : ℕ)
    → Opens setup.header found before
    → Stands seen may_leave setup.header journal found None → may_leave journal.disk file → found ≡ front ++ body ∷ [] → at ≡ gate_before found journal.gate
    → ((rows : List Row) → ¬ IsValidRecord setup.tables body rows) → HasBadRecord setup at before file
bad_record seen may_leave setup journal found front body before file at opens (at_rest placed undo none clean) left is at_is bad = record {
  second = journal.second;
  place = journal.start;
  earlier = front;
  body = body;
  read = read_some setup.header found front body before opens is;
  whole = subst (λ b. IsClean setup.header journal.second journal.start b file) is (clean file left);
  gate =
      let last : slice_get found (length found - 1) ≡ Some body = ap (λ l. slice_get l (length l - 1)) is ∙ at_end front body in
      let here : gate_before found journal.gate ≡ journal.gate - (length body + 9) = ap (λ o. option_map_or (λ (b : List ℕ). journal.gate - (length b + 9)) o journal.gate) last in
      let gate : journal.gate ≡ gate_place setup.header (front ++ body ∷ []) journal.start = placed.gate ∙ ap (λ b. gate_place setup.header b journal.start) is in
      let push = gate-push setup.header front body journal.start in
      omega (arith, at_is, here, gate, push);
  none = bad;
}
bad_record seen may_leave setup journal found front body before file at opens (gate_open other placed undo some open_) left is at_is bad = absurd (let wrong : None ≡ Some (found ++ other ∷ []) = some in cc)
bad_record seen may_leave setup journal found front body before file at opens (chooser_open other others placed undo some open_) left is at_is bad = absurd (let wrong : None ≡ Some others = some in cc)

module _ {D : Type 0} (seen : D → Option (List ℕ)) (may_leave : D → List ℕ → Type 0) (moment : D → ℕ) (left_since : D → ℕ → List ℕ → Type 0)
    (seen_is_left : (disk : D) (bytes : List ℕ) → seen disk ≡ Some bytes → may_leave disk bytes)
    (h : List ℕ) (setup : Setup) (is : h ≡ setup.header) where
  module _ (among : List (List Row)) (start new : D) (all : (c : List ℕ) → may_leave start c → Reopens setup among c) where
    fresh_reopens : Contains among setup.initial → (c : List ℕ) → StartsFresh may_leave start setup.header c → Reopens setup among c
    fresh_reopens has c (left_before_making left) = all c left
    fresh_reopens has c (fresh (still_new is_new)) = as_new is_new has
    fresh_reopens has c (fresh (made holds)) = as_held [] None holds (record { rows = setup.initial; base = no_record refl refl; is_among = has }) tt

    allowed_among : (bodies : List (List ℕ)) (doubt : Option (List (List ℕ))) → StandsAmong setup among bodies → IfSome doubt (StandsAmong setup among)
        → (list : List (List ℕ)) → Contains (allowed bodies doubt) list → StandsAmong setup among list
    allowed_among bodies None are in_doubt list has = subst (StandsAmong setup among) (in_one bodies list has) are
    allowed_among bodies (Some others) are in_doubt list has =
        ⊎_elim (λ (e : bodies ≡ list). subst (StandsAmong setup among) e are)
        (λ (rest : Contains (others ∷ []) list). subst (StandsAmong setup among) (in_one others list rest) in_doubt) (contains_cases bodies (others ∷ []) list has)

    held_reopens : (bodies : List (List ℕ)) (doubt : Option (List (List ℕ))) → StandsAmong setup among bodies → IfSome doubt (StandsAmong setup among)
        → (c : List ℕ) → StartsAmong may_leave start setup.header (allowed bodies doubt) c → Reopens setup among c
    held_reopens bodies doubt are in_doubt c (left_before left) = all c left
    held_reopens bodies doubt are in_doubt c (stands held) = among_reopens setup among (allowed bodies doubt) c (allowed_among bodies doubt are in_doubt) held

    opened_by : (file : List ℕ) → BeginsSafely may_leave moment left_since setup.header start new file → Reopens setup among file → LeavesOnly moment left_since start new (Reopens setup among)
    opened_by file safely (as_new is_new has) =
        only_as moment left_since start new (StartsFresh may_leave start setup.header) (Reopens setup among) (fresh_reopens has) (safely.fresh is_new)
    opened_by file safely (as_held bodies doubt holds are in_doubt) =
        only_as moment left_since start new (StartsAmong may_leave start setup.header (allowed bodies doubt)) (Reopens setup among) (held_reopens bodies doubt are in_doubt) (safely.held bodies doubt holds)

    pub moments_at : (file : List ℕ) → seen start ≡ Some file → BeginsSafely may_leave moment left_since h start new file → LeavesOnly moment left_since start new (Reopens setup among)
    moments_at file told safely = opened_by file (subst (λ (x : List ℕ). BeginsSafely may_leave moment left_since x start new file) is safely) (all file (seen_is_left start file told))

  -- what was begun, by the header of the setup
  pub begun_at : (journal : Journal D) (found : List (List ℕ)) (file : List ℕ) → HasBegun seen may_leave h journal found file → HasBegun seen may_leave setup.header journal found file
  begun_at journal found file begun = subst (λ (x : List ℕ). HasBegun seen may_leave x journal found file) is begun

  -- so the file has a reading
  pub reads_at : (journal : Journal D) (found : List (List ℕ)) (file : List ℕ) → HasBegun seen may_leave h journal found file → ¬ HasNoReading setup.header file
  reads_at journal found file begun none = none found (begun_at journal found file begun).opens

  pub keeping_at : (start : D) (journal : Journal D) (found : List (List ℕ)) (rows : List Row) → Told (seen start) (HasBegun seen may_leave h journal found) → FindsBase setup.tables setup.initial found (Some rows)
      → is_some (seen journal.disk) ≡ is_some (seen start) → Told (seen journal.disk) (λ _. IsKeeping seen may_leave setup journal rows None)
  keeping_at start journal found rows begun base tells = λ later told.
      let was = told_before (seen start) (seen journal.disk) tells later told in
      record {
        bodies = found;
        others = None;
        stands = (begun_at journal found was.0 (begun was.0 was.1)).stands;
        base_is = base.0;
        doubt_is = tt;
      }

  pub bad_at : (start : D) (journal : Journal D) (found : List (List ℕ)) (at : ℕ) → Told (seen start) (HasBegun seen may_leave h journal found) → FindsBase setup.tables setup.initial found None
      → at ≡ gate_before found journal.gate → (file after : List ℕ) → seen start ≡ Some file → seen journal.disk ≡ Some after → HasBadRecord setup at file after
  bad_at start journal found at begun none at_is file after told told_too =
      let last = none_last_record setup.tables setup.initial found none in
      let had = begun_at journal found file (begun file told) in
      bad_record seen may_leave setup journal found last.0 last.1 file after at had.opens had.stands (seen_is_left journal.disk after told_too) last.2 at_is last.3
