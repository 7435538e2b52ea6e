-- Lengths of what stands in a file.
use Rattle.std.proofs.Common.{◌≡◌, ◌≢◌, ◌⊎◌, inl, inr, ℕ, ◌+◌, ◌-◌, ◌<◌, ◌≤◌, Bool, true, false, not, List, [], ◌∷◌, ◌++◌, length, refl, sym, ◌∙◌, ap, arith, length-append, append_assoc}
use Rattle.std.proofs.lemmas.List.{append-nil}
use Rattle.std.specs.List.{flat_map}
use Rattle.nc_journal.specs.Format.{mark, number, framed, recorded, area, gate_place, slot_place}

pub length-mark : length mark ≡ 8
unfolding mark
length-mark = refl

pub length-number : (n : ℕ) → length (number n) ≡ 8
unfolding number
length-number n = refl

pub length-framed : (body : List ℕ) → length (framed body) ≡ 9 + length body
length-framed body =
    omega (arith, length-append (number (length body)) (body ++ 0 ∷ []), length-append body (0 ∷ []), length-number (length body))

flat_map-push : (bodies : List (List ℕ)) (body : List ℕ) → flat_map recorded (bodies ++ body ∷ []) ≡ flat_map recorded bodies ++ recorded body
flat_map-push [] body = append-nil (recorded body)
flat_map-push (b ∷ bodies) body =
    ap (λ (l : List ℕ). recorded b ++ l) (flat_map-push bodies body) ∙ sym (append_assoc (recorded b) (flat_map recorded bodies) (recorded body))

pub area-push : (header : List ℕ) (bodies : List (List ℕ)) (body : List ℕ) → area header (bodies ++ body ∷ []) ≡ area header bodies ++ recorded body
area-push header bodies body =
    ap (λ (l : List ℕ). header ++ l) (flat_map-push bodies body) ∙ sym (append_assoc header (flat_map recorded bodies) (recorded body))

pub length-recorded : (body : List ℕ) → length (recorded body) ≡ 9 + length body
length-recorded body = omega (arith, length-append (number (length body)) body, length-number (length body))

pub gate-push : (header : List ℕ) (bodies : List (List ℕ)) (body : List ℕ) (place : ℕ) → gate_place header (bodies ++ body ∷ []) place ≡ gate_place header bodies place + (9 + length body)
gate-push header bodies body place =
    omega (arith, ap length (area-push header bodies body), length-append (area header bodies) (recorded body), length-recorded body)

-- the slots stand behind the chooser and before all areas, and apart
pub slot_first : (second : Bool) → 10 ≤ slot_place second
slot_first true = omega arith
slot_first false = omega arith

pub slot_last : (second : Bool) → slot_place second + 8 ≤ 26
slot_last true = omega arith
slot_last false = omega arith

pub slots_apart : (second : Bool) → (slot_place second + 8 ≤ slot_place (not second)) ⊎ (slot_place (not second) + 8 ≤ slot_place second)
slots_apart true = inr (omega arith)
slots_apart false = inl (omega arith)

-- an area has more bytes than records
pub count_within : (header : List ℕ) (bodies : List (List ℕ)) → length bodies ≤ length (area header bodies)
count_within header bodies = omega (arith, length-append header (flat_map recorded bodies), each bodies)
  where
    each : (xs : List (List ℕ)) → length xs ≤ length (flat_map recorded xs)
    each [] = omega arith
    each (x ∷ xs) = omega (arith, each xs, length-append (recorded x) (flat_map recorded xs), length-recorded x)

pub count_below : (header : List ℕ) (bodies : List (List ℕ)) (bytes : List ℕ) (place records : ℕ) → bytes ≡ area header bodies ++ 0 ∷ [] → records ≡ length bodies → records ≤ place + (length bytes - 1)
count_below header bodies bytes place records is counts =
    omega (arith, count_within header bodies, ap length is, length-append (area header bodies) (0 ∷ []))
