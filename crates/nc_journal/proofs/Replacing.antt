-- A new area in the place of the live one.
use Rattle.std.proofs.Common.{◌≡◌, ◌⊎◌, inl, inr, ⊎_elim, ℕ, ◌+◌, ◌-◌, ◌<◌, ◌≤◌, ◌^◌, Bool, true, false, not, List, [], ◌∷◌, ◌++◌, length, All, Contains, Option, Some, None, is_some, refl, sym, ◌∙◌, ap, subst, arith, length-append}
use Rattle.nc_outside.specs.Disks.{Told, Torn, Then, After, LeavesOnly, Passes, IsSettled, written_at}
use Rattle.nc_outside.proofs.DiskFiles.{written_torn}
use Rattle.nc_journal.specs.Format.{chooser_place, chooser, slot_place, areas_begin, number, area, gate_place}
use Rattle.nc_names.specs.Limits.{body_limit}
use Rattle.nc_journal.specs.Files.{HoldsAmong}
use Rattle.nc_journal.specs.Images.{IsClean, HasOpenChooser}
use Rattle.nc_journal.specs.Journal.{IsPlaced, Stands, at_rest, chooser_open, allowed}
use Rattle.nc_journal.specs.inner.Placing.{HasPlaceOf}
use Rattle.nc_journal.specs.declared.journal.Journal.{Journal}
use Rattle.nc_journal.proofs.Segments.{at_written}
use Rattle.nc_journal.proofs.Numbers.{length-number, slot_last}
use Rattle.nc_journal.proofs.Images.{clean_elsewhere, replaced, clean_among, chooser_among, chooser_torn, chooser_turns, chooser_within, clean_within}
use Rattle.nc_journal.proofs.Standing.{told_is, only_as, rest_of, placed_again, clean_moved}

-- where an area of this many bytes goes
abbrev pub IsFree : ℕ → ℕ → ℕ → ℕ → Type 0
IsFree start gate room place = ((place ≡ areas_begin) × (areas_begin + room ≤ start)) ⊎ (place ≡ gate + 1)

module _ {D : Type 0} (seen : D → Option (List ℕ)) (may_leave : D → List ℕ → Type 0) (moment : D → ℕ) (left_since : D → ℕ → List ℕ → Type 0)
    (seen_is_left : (disk : D) (bytes : List ℕ) → seen disk ≡ Some bytes → may_leave disk bytes) where
  -- a file at rest has room for a write there
  pub free_within : (header : List ℕ) (old : Journal D) (bodies : List (List ℕ)) → Stands seen may_leave header old bodies None → (room place : ℕ) → IsFree old.start old.gate room place
      → (file : List ℕ) → seen old.disk ≡ Some file → place ≤ length file
  free_within header old bodies stands room place free file told =
      let rest = rest_of seen may_leave moment left_since seen_is_left header old bodies stands in
      let clean = rest.2 file (seen_is_left old.disk file told) in
      let le = clean_within header old.second old.start bodies file clean in
      ⊎_elim (λ (front : (place ≡ areas_begin) × (areas_begin + room ≤ old.start)). omega (arith, front.0, rest.0.gate, clean.live.behind, le))
      (λ (back : place ≡ old.gate + 1). omega (arith, rest.0.gate, le)) free

  pub slot_within : (header : List ℕ) (old : Journal D) (bodies : List (List ℕ)) → Stands seen may_leave header old bodies None → (second : Bool)
      → (file : List ℕ) → seen old.disk ≡ Some file → slot_place second ≤ length file
  slot_within header old bodies stands second file told =
      let rest = rest_of seen may_leave moment left_since seen_is_left header old bodies stands in
      let clean = rest.2 file (seen_is_left old.disk file told) in
      omega (arith, clean.live.behind, clean_within header old.second old.start bodies file clean, slot_last second)

  -- An area and the other slot are written.
  module _ (header : List ℕ) (old : Journal D) (bodies : List (List ℕ)) (stands : Stands seen may_leave header old bodies None) (place n width : ℕ) (free : IsFree old.start old.gate n place)
      (width_is : width ≡ 8) where
    apart : (clean_gate : old.gate ≡ gate_place header bodies old.start) → (gate_place header bodies old.start + 1 ≤ place) ⊎ (place + n ≤ old.start)
    apart there = ⊎_elim (λ (front : (place ≡ areas_begin) × (areas_begin + n ≤ old.start)). inr (omega (arith, front.0, front.1))) (λ (back : place ≡ old.gate + 1). inl (omega arith)) free

    low : (file : List ℕ) → IsClean header old.second old.start bodies file → areas_begin ≤ place
    low file clean =
        let rest = rest_of seen may_leave moment left_since seen_is_left header old bodies stands in
        ⊎_elim (λ (front : (place ≡ areas_begin) × (areas_begin + n ≤ old.start)). omega (arith, front.0))
        (λ (back : place ≡ old.gate + 1). omega (arith, rest.0.gate, clean.live.behind)) free

    area_stays : (c : List ℕ) → After (Then (Torn place n) (Torn (slot_place (not old.second)) width)) (may_leave old.disk) c → IsClean header old.second old.start bodies c
    area_stays c after =
        let rest = rest_of seen may_leave moment left_since seen_is_left header old bodies stands in
        let was = rest.2 after.from after.was in
        clean_elsewhere header old.second old.start bodies place n after.from c (low after.from was) (apart rest.0.gate)
        (subst (λ w. Then (Torn place n) (Torn (slot_place (not old.second)) w) after.from c) width_is after.did) was

    pub area_kept : (new : D) → Passes may_leave moment left_since (Then (Torn place n) (Torn (slot_place (not old.second)) width)) old.disk new
        → (later : Journal D) → later.disk ≡ new → later.undo ≡ old.undo → HasPlaceOf old later → is_some (seen new) ≡ is_some (seen old.disk)
        → Stands seen may_leave header later bodies None
    area_kept new passes later disk_is undo_is same tells =
        let rest = rest_of seen may_leave moment left_since seen_is_left header old bodies stands in
        at_rest (placed_again seen may_leave moment left_since seen_is_left header old later bodies (ap (λ d. is_some (seen d)) disk_is ∙ tells) same rest.0) (undo_is ∙ rest.1) refl
        (λ c left. clean_moved seen may_leave moment left_since seen_is_left header old later bodies c same (area_stays c (passes.outcomes c (subst (λ d. may_leave d c) disk_is left))))

    pub area_moments : (new : D) → Passes may_leave moment left_since (Then (Torn place n) (Torn (slot_place (not old.second)) width)) old.disk new
        → (among : List (List (List ℕ))) → Contains among bodies → LeavesOnly moment left_since old.disk new (HoldsAmong header among)
    area_moments new passes among has =
        only_as moment left_since old.disk new (After (Then (Torn place n) (Torn (slot_place (not old.second)) width)) (may_leave old.disk)) (HoldsAmong header among)
        (λ c after. clean_among header old.second old.start bodies among c has (area_stays c after)) passes.moments

    pub area_within : (new : D) → Passes may_leave moment left_since (Then (Torn place n) (Torn (slot_place (not old.second)) width)) old.disk new
        → (file : List ℕ) → seen new ≡ Some file → chooser_place ≤ length file
    area_within new passes file told =
        let clean = area_stays file (passes.outcomes file (seen_is_left new file told)) in
        omega (arith, clean.live.behind, clean_within header old.second old.start bodies file clean)

    pub area_done : (others : List (List ℕ)) (bytes named : List ℕ) → bytes ≡ area header others ++ 0 ∷ [] → named ≡ number place → n ≡ length bytes → place < 2 ^ 64
        → All (λ body. length body ≤ body_limit) others → (new : D)
        → Told (seen old.disk) (λ file. IsSettled seen may_leave new (written_at (slot_place (not old.second)) named (written_at place bytes file)))
        → (c : List ℕ) → may_leave new c → HasOpenChooser header old.second old.start bodies place others c
    area_done others bytes named is named_is n_is fits small new settled c left =
        let rest = rest_of seen may_leave moment left_since seen_is_left header old bodies stands in
        let it = told_is (seen old.disk) rest.0.told in
        let was = rest.2 it.0 (seen_is_left old.disk it.0 it.1) in
        let room : n ≡ length (area header others ++ 0 ∷ []) = n_is ∙ ap length is in
        let now = replaced header old.second old.start bodies place others it.0 (low it.0 was) fits
        (free_within header old bodies stands n place free it.0 it.1)
        (subst (λ k. (gate_place header bodies old.start + 1 ≤ place) ⊎ (place + k ≤ old.start)) room (apart rest.0.gate)) small was in
        let same : written_at (slot_place (not old.second)) named (written_at place bytes it.0) ≡ written_at (slot_place (not old.second)) (number place) (written_at place (area header others ++ 0 ∷ []) it.0) =
        ap (λ (l : List ℕ). written_at (slot_place (not old.second)) l (written_at place bytes it.0)) named_is
        ∙ ap (λ (l : List ℕ). written_at (slot_place (not old.second)) (number place) (written_at place l it.0)) is in
        subst (HasOpenChooser header old.second old.start bodies place others) (sym ((settled it.0 it.1).durable c left ∙ same)) now

  -- The chooser is turned.
  module _ (header : List ℕ) (second : Bool) (start : ℕ) (bodies : List (List ℕ)) (other : ℕ) (others : List (List ℕ))
      (mid new : D) (open_mid : (c : List ℕ) → may_leave mid c → HasOpenChooser header second start bodies other others c) where
    chooser_after : (c : List ℕ) → After (Torn chooser_place 1) (may_leave mid) c → HasOpenChooser header second start bodies other others c
    chooser_after c after = chooser_torn header second start bodies other others after.from c after.did (open_mid after.from after.was)

    pub chooser_kept : Passes may_leave moment left_since (Torn chooser_place 1) mid new → (c : List ℕ) → may_leave new c → HasOpenChooser header second start bodies other others c
    chooser_kept passes c left = chooser_after c (passes.outcomes c left)

    pub chooser_moments : Passes may_leave moment left_since (Torn chooser_place 1) mid new → (among : List (List (List ℕ))) → Contains among bodies → Contains among others
        → LeavesOnly moment left_since mid new (HoldsAmong header among)
    chooser_moments passes among has has_others =
        only_as moment left_since mid new (After (Torn chooser_place 1) (may_leave mid)) (HoldsAmong header among)
        (λ c after. chooser_among header among second start bodies other others c has has_others (chooser_after c after)) passes.moments

    pub chooser_fits : (file : List ℕ) → seen mid ≡ Some file → chooser_place ≤ length file
    chooser_fits file told = omega (arith, chooser_within header second start bodies other others file (open_mid file (seen_is_left mid file told)))

    pub chooser_done : is_some (seen mid) ≡ true → (byte : ℕ) → byte ≡ chooser (not second) → Told (seen mid) (λ file. IsSettled seen may_leave new (written_at chooser_place (byte ∷ []) file))
        → (c : List ℕ) → may_leave new c → IsClean header (not second) other others c
    chooser_done told byte byte_is settled c left =
        let it = told_is (seen mid) told in
        let was = open_mid it.0 (seen_is_left mid it.0 it.1) in
        let turned = chooser (not second) in
        let le : chooser_place ≤ length it.0 = omega (arith, chooser_within header second start bodies other others it.0 was) in
        let now : IsClean header (not second) other others (written_at chooser_place (turned ∷ []) it.0) =
        chooser_turns header second start bodies other others (written_at chooser_place (turned ∷ []) it.0)
        (chooser_torn header second start bodies other others it.0 (written_at chooser_place (turned ∷ []) it.0) (written_torn chooser_place (turned ∷ []) it.0 le) was)
        (at_written chooser_place (turned ∷ []) it.0 le) in
        subst (IsClean header (not second) other others) (sym ((settled it.0 it.1).durable c left ∙ ap (λ b. written_at chooser_place (b ∷ []) it.0) byte_is)) now
