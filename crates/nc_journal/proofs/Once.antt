-- A file stands for one list of bodies, and for one in doubt at most.
use Rattle.std.proofs.Common.{◌≡◌, ◌≢◌, ◌⊎◌, inl, inr, ℕ, zero, suc, ◌+◌, ◌<◌, ◌≤◌, ◌^◌, Bool, true, false, nat_eq, List, [], ◌∷◌, ◌++◌, length, get_or, slice_get, All, Option, Some, None, refl, sym, ◌∙◌, ap, subst, arith, append_assoc}
use Rattle.std.specs.List.{flat_map}
use Rattle.std.specs.Int.{from_be_bytes, to_be_bytes, w64}
use Rattle.std.proofs.lemmas.Nat.{from_be_bytes-to_be_bytes_8}
use Rattle.std.proofs.lemmas.Option.{slice_get-get_or}
use Rattle.nc_journal.specs.Format.{number, framed, recorded, chooser, area, gate_place, slot_place}
use Rattle.nc_names.specs.Limits.{body_limit}
use Rattle.nc_journal.specs.Files.{At, HoldsAt, Holds, closed_gate, torn_gate, torn_chooser}
use Rattle.nc_journal.proofs.Numbers.{length-number, length-recorded, slot_first}
use Rattle.nc_journal.proofs.Segments.{at_front, at_back, at_join, at_within}
use Rattle.nc_journal.specs.Opening.{IsArea, IsFront, IsRead}
use Rattle.nc_journal.proofs.Repairs.{at_get}
use Rattle.nc_journal.proofs.Looking.{record_parts, at_same}
use Rattle.nc_journal.proofs.Areas.{area_of}
use Rattle.nc_journal.proofs.Fronts.{front_is, chooser_read, opened_is}

number_once : (n m : ℕ) → n < 2 ^ 64 → m < 2 ^ 64 → number n ≡ number m → n ≡ m
unfolding number
number_once n m n_fits m_fits same = sym (from_be_bytes-to_be_bytes_8 n n_fits) ∙ ap (from_be_bytes w64) same ∙ from_be_bytes-to_be_bytes_8 m m_fits

pub numbers_at : (place n m : ℕ) (file : List ℕ) → n < 2 ^ 64 → m < 2 ^ 64 → At place (number n) file → At place (number m) file → n ≡ m
numbers_at place n m file n_fits m_fits one two = number_once n m n_fits m_fits (at_same place (number n) (number m) file (length-number n ∙ sym (length-number m)) one two)

gate_first : (place gate : ℕ) (body rest file : List ℕ) → At place (gate ∷ []) file → At place (recorded body ++ rest) file → gate ≡ 1
gate_first place gate body rest file one two =
    let e : Some gate ≡ Some 1 = sym (at_get place gate file one) ∙ (record_parts place body file (at_front place (recorded body) rest file two)).gate in
    cc

pub records_once : (one two : List (List ℕ)) (place gate other : ℕ) (file : List ℕ) → At place (flat_map recorded one ++ gate ∷ []) file → At place (flat_map recorded two ++ other ∷ []) file
    → gate ≢ 1 → other ≢ 1 → All (λ (b : List ℕ). length b ≤ body_limit) one → All (λ (b : List ℕ). length b ≤ body_limit) two → one ≡ two
records_once [] [] place gate other file first second gate_shut other_shut first_small second_small = refl
records_once [] (c ∷ cs) place gate other file first second gate_shut other_shut first_small second_small =
    absurd (gate_shut (gate_first place gate c (flat_map recorded cs ++ other ∷ []) file first (subst (λ (l : List ℕ). At place l file) (append_assoc (recorded c) (flat_map recorded cs) (other ∷ [])) second)))
records_once (b ∷ bs) [] place gate other file first second gate_shut other_shut first_small second_small =
    absurd (other_shut (gate_first place other b (flat_map recorded bs ++ gate ∷ []) file second (subst (λ (l : List ℕ). At place l file) (append_assoc (recorded b) (flat_map recorded bs) (gate ∷ [])) first)))
records_once (b ∷ bs) (c ∷ cs) place gate other file first second gate_shut other_shut first_small second_small =
    let first_on : At place (recorded b ++ (flat_map recorded bs ++ gate ∷ [])) file = subst (λ (l : List ℕ). At place l file) (append_assoc (recorded b) (flat_map recorded bs) (gate ∷ [])) first in
    let second_on : At place (recorded c ++ (flat_map recorded cs ++ other ∷ [])) file = subst (λ (l : List ℕ). At place l file) (append_assoc (recorded c) (flat_map recorded cs) (other ∷ [])) second in
    let b_parts = record_parts place b file (at_front place (recorded b) (flat_map recorded bs ++ gate ∷ []) file first_on) in
    let c_parts = record_parts place c file (at_front place (recorded c) (flat_map recorded cs ++ other ∷ []) file second_on) in
    let b_small : length b ≤ body_limit = first_small zero b (omega arith) in
    let c_small : length c ≤ body_limit = second_small zero c (omega arith) in
    let long : length b ≡ length c = numbers_at (place + 1) (length b) (length c) file (omega arith) (omega arith) b_parts.long c_parts.long in
    let same : b ≡ c = at_same (place + 9) b c file long b_parts.stands c_parts.stands in
    let there : place + length (recorded c) ≡ place + length (recorded b) = omega (arith, length-recorded b, length-recorded c, long) in
    let rest : bs ≡ cs = records_once bs cs (place + length (recorded b)) gate other file
    (at_back place (recorded b) (flat_map recorded bs ++ gate ∷ []) file first_on)
    (subst (λ k. At k (flat_map recorded cs ++ other ∷ []) file) there (at_back place (recorded c) (flat_map recorded cs ++ other ∷ []) file second_on))
    gate_shut other_shut (λ k d within. first_small (suc k) d (omega arith)) (λ k d within. second_small (suc k) d (omega arith)) in
    (λ i. same i ∷ rest i)

pub areas_once : (header : List ℕ) (place : ℕ) (one two : List (List ℕ)) (gate other : ℕ) (file : List ℕ) → IsArea header place one gate file → IsArea header place two other file → one ≡ two
areas_once header place one two gate other file first second =
    let first_on = at_back place header (flat_map recorded one ++ gate ∷ []) file
    (subst (λ (l : List ℕ). At place l file) (append_assoc header (flat_map recorded one) (gate ∷ [])) (at_join place (area header one) (gate ∷ []) file first.area first.end)) in
    let second_on = at_back place header (flat_map recorded two ++ other ∷ []) file
    (subst (λ (l : List ℕ). At place l file) (append_assoc header (flat_map recorded two) (other ∷ [])) (at_join place (area header two) (other ∷ []) file second.area second.end)) in
    records_once one two (place + length header) gate other file first_on second_on first.not_open second.not_open first.small second.small

-- whatever the doubts, it stands for the same bodies
pub holds_once : (header : List ℕ) (one two : List (List ℕ)) (doubt other : Option (List (List ℕ))) (file : List ℕ) (byte : ℕ) → slice_get file 9 ≡ Some byte
    → Holds header one doubt file → Holds header two other file → one ≡ two
holds_once header one two doubt other file byte read first second =
    let front = front_is header one doubt file byte first read in
    let back = front_is header two other file byte second read in
    let same : front.place ≡ back.place = numbers_at (slot_place (nat_eq byte 1)) front.place back.place file front.fits back.fits front.slot back.slot in
    let one_area = area_of header (nat_eq byte 1) front.place one doubt file front.held in
    let two_area = area_of header (nat_eq byte 1) back.place two other file back.held in
    areas_once header front.place one two one_area.0 two_area.0 file one_area.1 (subst (λ p. IsArea header p two two_area.0 file) (sym same) two_area.1)

bytes_at_once : (place one other : ℕ) (file : List ℕ) → At place (one ∷ []) file → At place (other ∷ []) file → one ≡ other
bytes_at_once place one other file first second = let e : Some one ≡ Some other = sym (at_get place one file first) ∙ at_get place other file second in cc

not_chosen : (second : Bool) (byte : ℕ) (file : List ℕ) → At 9 (chooser second ∷ []) file → At 9 (byte ∷ []) file → byte ≢ 0 → byte ≢ 1 → ⊥
not_chosen true byte file chosen at not_zero not_one = not_one (bytes_at_once 9 byte 1 file at chosen)
not_chosen false byte file chosen at not_zero not_one = not_zero (bytes_at_once 9 byte 0 file at chosen)

framed_once : (place : ℕ) (one two file : List ℕ) → length one ≤ body_limit → length two ≤ body_limit → At place (framed one) file → At place (framed two) file → one ≡ two
framed_once place one two file one_small two_small first second =
    let long : length one ≡ length two =
    numbers_at place (length one) (length two) file (omega arith) (omega arith)
    (at_front place (number (length one)) (one ++ 0 ∷ []) file first) (at_front place (number (length two)) (two ++ 0 ∷ []) file second) in
    let first_on = at_front (place + length (number (length one))) one (0 ∷ []) file (at_back place (number (length one)) (one ++ 0 ∷ []) file first) in
    let second_on = at_front (place + length (number (length two))) two (0 ∷ []) file (at_back place (number (length two)) (two ++ 0 ∷ []) file second) in
    at_same (place + length (number (length one))) one two file long first_on
    (subst (λ k. At (place + k) two file) (length-number (length two) ∙ sym (length-number (length one))) second_on)

-- nor is there more than one doubt
lies_once : (header : List ℕ) (second : Bool) (place : ℕ) (bodies : List (List ℕ)) (doubt other : Option (List (List ℕ))) (file : List ℕ)
    → HoldsAt header second place bodies doubt file → HoldsAt header second place bodies other file → doubt ≡ other
lies_once header second place bodies doubt other file (closed_gate chosen names closed none) (closed_gate chosen_too names_too closed_too none_too) = none ∙ sym none_too
lies_once header second place bodies doubt other file (closed_gate chosen names closed none) (torn_gate gate body chosen_too names_too at not_zero not_one small behind doubt_is) =
    absurd (not_zero (bytes_at_once (gate_place header bodies place) gate 0 file at closed))
lies_once header second place bodies doubt other file (closed_gate chosen names closed none) (torn_chooser byte there others second_is at not_zero not_one first first_closed last last_closed doubt_is) =
    absurd (not_chosen second byte file chosen at not_zero not_one)
lies_once header second place bodies doubt other file (torn_gate gate body chosen names at not_zero not_one small behind doubt_is) (closed_gate chosen_too names_too closed_too none_too) =
    absurd (not_zero (bytes_at_once (gate_place header bodies place) gate 0 file at closed_too))
lies_once header second place bodies doubt other file (torn_gate gate body chosen names at not_zero not_one small behind doubt_is) (torn_gate gate_too body_too chosen_too names_too at_too not_zero_too not_one_too small_too behind_too doubt_is_too) =
    doubt_is ∙ ap (λ (b : List ℕ). Some (bodies ++ b ∷ [])) (framed_once (gate_place header bodies place + 1) body body_too file small small_too behind behind_too) ∙ sym doubt_is_too
lies_once header second place bodies doubt other file (torn_gate gate body chosen names at not_zero not_one small behind doubt_is) (torn_chooser byte there others second_is at_too not_zero_too not_one_too first first_closed last last_closed doubt_is_too) =
    absurd (not_chosen second byte file chosen at_too not_zero_too not_one_too)
lies_once header second place bodies doubt other file (torn_chooser byte there others second_is at not_zero not_one first first_closed last last_closed doubt_is) (closed_gate chosen_too names_too closed_too none_too) =
    absurd (not_chosen second byte file chosen_too at not_zero not_one)
lies_once header second place bodies doubt other file (torn_chooser byte there others second_is at not_zero not_one first first_closed last last_closed doubt_is) (torn_gate gate_too body_too chosen_too names_too at_too not_zero_too not_one_too small_too behind_too doubt_is_too) =
    absurd (not_chosen second byte file chosen_too at not_zero not_one)
lies_once header second place bodies doubt other file (torn_chooser byte there others second_is at not_zero not_one first first_closed last last_closed doubt_is)
    (torn_chooser byte_too there_too others_too second_is_too at_too not_zero_too not_one_too first_too first_closed_too last_too last_closed_too doubt_is_too) =
    let same : there ≡ there_too = numbers_at 18 there there_too file last.fits last_too.fits last.slot last_too.slot in
    let one_area : IsArea header there others 0 file = record { area = last.area; end = last_closed; not_open = omega arith; small = last.small } in
    let two_area : IsArea header there_too others_too 0 file = record { area = last_too.area; end = last_closed_too; not_open = omega arith; small = last_too.small } in
    let others_same = areas_once header there others others_too 0 0 file one_area (subst (λ p. IsArea header p others_too 0 file) (sym same) two_area) in
    doubt_is ∙ ap (λ (b : List (List ℕ)). Some b) others_same ∙ sym doubt_is_too

pub doubt_once : (header : List ℕ) (one two : List (List ℕ)) (doubt other : Option (List (List ℕ))) (file : List ℕ) (byte : ℕ) → slice_get file 9 ≡ Some byte
    → Holds header one doubt file → Holds header two other file → doubt ≡ other
doubt_once header one two doubt other file byte read first second =
    let front = front_is header one doubt file byte first read in
    let back = front_is header two other file byte second read in
    let same : front.place ≡ back.place = numbers_at (slot_place (nat_eq byte 1)) front.place back.place file front.fits back.fits front.slot back.slot in
    let bodies_same = holds_once header one two doubt other file byte read first second in
    lies_once header (nat_eq byte 1) front.place one doubt other file front.held
    (subst (λ (b : List (List ℕ)). HoldsAt header (nat_eq byte 1) front.place b other file) (sym bodies_same)
    (subst (λ p. HoldsAt header (nat_eq byte 1) p two other file) (sym same) back.held))

-- the front of a file is read in one way
pub fronts_once : (file : List ℕ) (byte other : ℕ) (second last : Bool) (place there : ℕ) → IsFront file byte second place → IsFront file other last there → place ≡ there
fronts_once file byte other second last place there one two =
    let e : Some byte ≡ Some other = sym one.byte_is ∙ two.byte_is in
    let same : byte ≡ other = cc in
    let slots : second ≡ last = one.second_is ∙ ap (λ b. nat_eq b 1) same ∙ sym two.second_is in
    numbers_at (slot_place last) place there file one.fits two.fits (subst (λ s. At (slot_place s) (number place) file) slots one.slot) two.slot

-- what holds bodies has a reading
pub holds_is_read : (header : List ℕ) (bodies : List (List ℕ)) (doubt : Option (List (List ℕ))) (file : List ℕ) → Holds header bodies doubt file → IsRead header bodies file
holds_is_read header bodies doubt file holds =
    let read = chooser_read header bodies doubt file holds in
    let front = front_is header bodies doubt file read.0 holds read.1 in
    let live = area_of header (nat_eq read.0 1) front.place bodies doubt file front.held in
    record {
      byte = read.0;
      place = front.place;
      gate = live.0;
      front = record {
        opened = opened_is header bodies doubt file holds;
        byte_is = read.1;
        second_is = refl;
        slot = front.slot;
        low = front.low;
        high = front.high;
        fits = front.fits;
      };
      live = live.1;
    }
