-- Bytes that stand at a place of a file, and what a write leaves of them.
use Rattle.std.proofs.Common.{◌≡◌, ℕ, ◌+◌, ◌-◌, ◌<◌, ◌≤◌, max, min, List, [], ◌∷◌, ◌++◌, length, take, drop, get_or, refl, sym, ◌∙◌, ap, subst, arith, length-append, length-drop, append_assoc, take-append-drop}
use Rattle.std.proofs.lemmas.List.{length-take, length-take-le, take_at, drop_at, take-take, drop-drop, drop-take, drop_more}
use Rattle.nc_outside.specs.Disks.{Torn, written_at}
use Rattle.nc_outside.proofs.DiskFiles.{length-written_at}
use Rattle.nc_journal.specs.Files.{At}

pub at_front : (place : ℕ) (xs ys file : List ℕ) → At place (xs ++ ys) file → At place xs file
at_front place xs ys file at =
    let long = length-append xs ys in
    record { is = sym (take-take (length xs) (length (xs ++ ys)) (drop place file) (omega arith)) ∙ ap (take (length xs)) at.is ∙ take_at xs ys (length xs) refl }

pub at_back : (place : ℕ) (xs ys file : List ℕ) → At place (xs ++ ys) file → At (place + length xs) ys file
at_back place xs ys file at = record {
  is = ap (take (length ys)) (sym (drop-drop (length xs) place file)) ∙ sym (drop-take (length xs) (length ys) (drop place file))
      ∙ ap (λ n. drop (length xs) (take n (drop place file))) (sym (length-append xs ys)) ∙ ap (drop (length xs)) at.is ∙ drop_at xs ys (length xs) refl;
}

pub at_join : (place : ℕ) (xs ys file : List ℕ) → At place xs file → At (place + length xs) ys file → At place (xs ++ ys) file
at_join place xs ys file front back =
    let whole = take (length xs + length ys) (drop place file) in
    let first : take (length xs) whole ≡ xs = take-take (length xs) (length xs + length ys) (drop place file) (omega arith) ∙ front.is in
    let second : drop (length xs) whole ≡ ys =
    drop-take (length xs) (length ys) (drop place file) ∙ ap (take (length ys)) (drop-drop (length xs) place file) ∙ back.is in
    record {
      is = ap (λ n. take n (drop place file)) (length-append xs ys) ∙ sym (take-append-drop (length xs) whole)
          ∙ ap (λ (l : List ℕ). l ++ drop (length xs) whole) first ∙ ap (λ (l : List ℕ). xs ++ l) second;
    }

-- bytes that stand somewhere are within the file
pub at_within : (place : ℕ) (xs file : List ℕ) → At place xs file → 0 < length xs → place + length xs ≤ length file
at_within place xs file at some = omega (arith, ap length at.is, length-take (length xs) (drop place file), length-drop place file)

-- some byte stands at each place within
pub at_byte : (place : ℕ) (file : List ℕ) → place < length file → (byte : ℕ) × At place (byte ∷ []) file
at_byte place file within =
    (get_or file place 0, record { is = ap (take 1) (drop_more file place 0 within) })

-- the bytes before a torn range stay
pub at_before : (place at n : ℕ) (xs old new : List ℕ) → Torn at n old new → place + length xs ≤ at → At place xs old → At place xs new
at_before place at n xs old new torn le was =
    let cut : (file : List ℕ) → take (length xs) (drop place file) ≡ drop place (take (place + length xs) (take at file)) = λ file.
    sym (drop-take place (length xs) file) ∙ ap (drop place) (sym (take-take (place + length xs) at file le)) in
    record { is = cut new ∙ ap (λ (l : List ℕ). drop place (take (place + length xs) l)) torn.before ∙ sym (cut old) ∙ was.is }

-- and those after it
pub at_after : (place at n : ℕ) (xs old new : List ℕ) → Torn at n old new → at + n ≤ place → At place xs old → At place xs new
at_after place at n xs old new torn le was =
    let gap = place - (at + n) in
    let whole : at + n + gap ≡ place = omega arith in
    let cut : (file : List ℕ) → drop place file ≡ drop gap (drop (at + n) file) = λ file. ap (λ k. drop k file) (sym whole) ∙ sym (drop-drop gap (at + n) file) in
    record { is = ap (take (length xs)) (cut new ∙ ap (drop gap) torn.after ∙ sym (cut old)) ∙ was.is }

-- what was written stands there
pub at_written : (at : ℕ) (bytes file : List ℕ) → at ≤ length file → At at bytes (written_at at bytes file)
at_written at bytes file le =
    let rest = drop (at + length bytes) file in
    record { is = ap (take (length bytes)) (drop_at (take at file) (bytes ++ rest) at (length-take-le at file le)) ∙ take_at bytes rest (length bytes) refl }
