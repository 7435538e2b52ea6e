-- The front of a file.
use Rattle.std.proofs.Common.{◌≡◌, ◌≢◌, ◌⊎◌, inl, inr, ℕ, ◌+◌, ◌-◌, ◌<◌, ◌≤◌, ◌^◌, Bool, true, false, nat_eq, List, [], ◌∷◌, ◌++◌, length, take, drop, get_or, slice_get, Option, Some, refl, sym, ◌∙◌, ap, subst, arith}
use Rattle.std.proofs.lemmas.Bool.Decides.{nat_tests}
use Rattle.std.proofs.lemmas.Option.{slice_get-get_or, slice_get_cases}
use Rattle.std.proofs.lemmas.List.{take_all, drop_more}
use Rattle.nc_journal.specs.Format.{mark, number, blank, chooser, chooser_place, slot_place, gate_place}
use Rattle.nc_journal.specs.Files.{At, HasArea, HoldsAt, Holds, IsNew, closed_gate, torn_gate, torn_chooser, short, unset, torn}
use Rattle.nc_journal.proofs.Numbers.{length-mark, length-number, slot_first}
use Rattle.nc_journal.proofs.Segments.{at_within, at_front}
use Rattle.nc_journal.proofs.Repairs.{at_get}

-- what the front of a file says, of which the chooser was read
pub record FrontIs (header : List ℕ) (bodies : List (List ℕ)) (doubt : Option (List (List ℕ))) (file : List ℕ) (byte : ℕ) : Type 0 where
  pub place : ℕ
  pub slot : At (slot_place (nat_eq byte 1)) (number place) file
  pub low : 26 ≤ place
  pub high : place ≤ length file
  pub fits : place < 2 ^ 64
  pub held : HoldsAt header (nat_eq byte 1) place bodies doubt file

chosen_is : (second : Bool) (byte : ℕ) → byte ≡ chooser second → second ≡ nat_eq byte 1
chosen_is true byte is = sym (ap (λ b. nat_eq b 1) is)
chosen_is false byte is = sym (ap (λ b. nat_eq b 1) is)

not_one_is : (second : Bool) (byte : ℕ) → second ≡ false → byte ≢ 1 → second ≡ nat_eq byte 1
not_one_is second byte is not_one = grind (arith, nat_tests)

byte_same : (file : List ℕ) (place one other : ℕ) → At place (one ∷ []) file → slice_get file place ≡ Some other → other ≡ one
byte_same file place one other at is = let e : Some other ≡ Some one = sym is ∙ at_get place one file at in cc

front_from : (header : List ℕ) (second : Bool) (place : ℕ) (bodies : List (List ℕ)) (doubt : Option (List (List ℕ))) (file : List ℕ) (byte gate : ℕ) → second ≡ nat_eq byte 1
    → HasArea header second place bodies file → At (gate_place header bodies place) (gate ∷ []) file → HoldsAt header second place bodies doubt file → FrontIs header bodies doubt file byte
front_from header second place bodies doubt file byte gate same names end held = record {
  place = place;
  slot = subst (λ s. At (slot_place s) (number place) file) same names.slot;
  low = names.behind;
  high = omega (arith, at_within (gate_place header bodies place) (gate ∷ []) file end (omega arith));
  fits = names.fits;
  held = subst (λ s. HoldsAt header s place bodies doubt file) same held;
}

gate_byte : (place : ℕ) (file : List ℕ) (bytes : List ℕ) → At (place + 1) bytes file → 0 < length bytes → (gate : ℕ) × At place (gate ∷ []) file
gate_byte place file bytes at some =
    (get_or file place 0, record { is = ap (take 1) (drop_more file place 0 (omega (arith, at_within (place + 1) bytes file at some))) })

pub front_is : (header : List ℕ) (bodies : List (List ℕ)) (doubt : Option (List (List ℕ))) (file : List ℕ) (byte : ℕ) → Holds header bodies doubt file → slice_get file 9 ≡ Some byte
    → FrontIs header bodies doubt file byte
front_is header bodies doubt file byte holds read = at_held holds.second holds.place holds.held
  where
    at_held : (second : Bool) (place : ℕ) → HoldsAt header second place bodies doubt file → FrontIs header bodies doubt file byte
    at_held second place (closed_gate chosen names closed none) =
        front_from header second place bodies doubt file byte 0 (chosen_is second byte (byte_same file 9 (chooser second) byte chosen read)) names closed (closed_gate chosen names closed none)
    at_held second place (torn_gate gate body chosen names at not_zero not_one small behind doubt_is) =
        front_from header second place bodies doubt file byte gate (chosen_is second byte (byte_same file 9 (chooser second) byte chosen read)) names at
        (torn_gate gate body chosen names at not_zero not_one small behind doubt_is)
    at_held second place (torn_chooser one other others second_is at not_zero not_one first first_closed last last_closed doubt_is) =
        let differs : byte ≢ 1 = λ e. not_one (sym (byte_same file 9 one byte at read) ∙ e) in
        front_from header second place bodies doubt file byte 0 (not_one_is second byte second_is differs)
        (subst (λ s. HasArea header s place bodies file) (sym second_is) first) first_closed
        (torn_chooser one other others second_is at not_zero not_one first first_closed last last_closed doubt_is)

pub opened_is : (header : List ℕ) (bodies : List (List ℕ)) (doubt : Option (List (List ℕ))) (file : List ℕ) → Holds header bodies doubt file → At 0 (1 ∷ mark) file
opened_is header bodies doubt file holds = at_held holds.second holds.place holds.held
  where
    at_held : (second : Bool) (place : ℕ) → HoldsAt header second place bodies doubt file → At 0 (1 ∷ mark) file
    at_held second place (closed_gate chosen names closed none) = names.opened
    at_held second place (torn_gate gate body chosen names at not_zero not_one small behind doubt_is) = names.opened
    at_held second place (torn_chooser one other others second_is at not_zero not_one first first_closed last last_closed doubt_is) = first.opened

-- a file with F set is not new
pub set_not_new : (header file : List ℕ) (first : ℕ) → slice_get file 0 ≡ Some first → 1 < length file → first ≢ 0 → (first ≡ 1 ⊎ length file ≢ 1 + length (blank header) ⊎ ¬ At 1 (blank header) file) → ¬ IsNew header file
set_not_new header file first read long not_zero other (short few) = omega arith
set_not_new header file first read long not_zero other (unset at) = not_zero (byte_same file 0 0 first at read)
set_not_new header file first read long not_zero (inl one_is) (torn byte byte_not_zero byte_not_one whole) =
    let e : Some byte ≡ Some first = sym (ap (λ (l : List ℕ). slice_get l 0) whole) ∙ read in
    let same : byte ≡ first = cc in
    byte_not_one (same ∙ one_is)
set_not_new header file first read long not_zero (inr (inl size_differs)) (torn byte byte_not_zero byte_not_one whole) =
    size_differs (omega (arith, ap length whole))
set_not_new header file first read long not_zero (inr (inr absent)) (torn byte byte_not_zero byte_not_one whole) =
    absent (subst (At 1 (blank header)) (sym whole) (record { is = take_all (length (blank header)) (blank header) (omega arith) }))

pub torn_is_new : (header file : List ℕ) (first : ℕ) → slice_get file 0 ≡ Some first → first ≢ 0 → first ≢ 1 → length file ≡ 1 + length (blank header) → At 1 (blank header) file → IsNew header file
torn_is_new header [] first read not_zero not_one long at = absurd (omega (arith, long))
torn_is_new header (f ∷ rest) first read not_zero not_one long at =
    let e : Some f ≡ Some first = read in
    let same : f ≡ first = cc in
    let tail : rest ≡ blank header = sym (take_all (length (blank header)) rest (omega (arith, long))) ∙ at.is in
    torn f (λ z. not_zero (sym same ∙ z)) (λ o. not_one (sym same ∙ o)) (ap (λ (l : List ℕ). f ∷ l) tail)

pub zero_is_new : (header file : List ℕ) → slice_get file 0 ≡ Some 0 → IsNew header file
zero_is_new header [] read = absurd (cc)
zero_is_new header (f ∷ rest) read = let same : f ≡ 0 = let e : Some f ≡ Some 0 = read in cc in unset (record { is = ap (λ b. b ∷ []) same })

pub some_byte : (file : List ℕ) → 0 < length file → (byte : ℕ) × (slice_get file 0 ≡ Some byte)
some_byte [] some = absurd (omega arith)
some_byte (f ∷ rest) some = (f, refl)

-- a file that holds bodies is not new
pub holds_not_new : (header : List ℕ) (bodies : List (List ℕ)) (doubt : Option (List (List ℕ))) (file : List ℕ) → Holds header bodies doubt file → ¬ IsNew header file
holds_not_new header bodies doubt file holds new =
    let opened = opened_is header bodies doubt file holds in
    set_not_new header file 1 (at_get 0 1 file (at_front 0 (1 ∷ []) mark file opened)) (omega (arith, length-mark, at_within 0 (1 ∷ mark) file opened (omega arith))) (omega arith) (inl refl) new

-- the chooser of a file that holds bodies
pub chooser_read : (header : List ℕ) (bodies : List (List ℕ)) (doubt : Option (List (List ℕ))) (file : List ℕ) → Holds header bodies doubt file → (byte : ℕ) × (slice_get file 9 ≡ Some byte)
chooser_read header bodies doubt file holds = at_held holds.second holds.place holds.held
  where
    at_held : (second : Bool) (place : ℕ) → HoldsAt header second place bodies doubt file → (byte : ℕ) × (slice_get file 9 ≡ Some byte)
    at_held second place (closed_gate chosen names closed none) = (chooser second, at_get 9 (chooser second) file chosen)
    at_held second place (torn_gate gate body chosen names at not_zero not_one small behind doubt_is) = (chooser second, at_get 9 (chooser second) file chosen)
    at_held second place (torn_chooser one other others second_is at not_zero not_one first first_closed last last_closed doubt_is) = (one, at_get 9 one file at)
