-- A file whose front and live area were read is at rest once its gate is closed and its chooser is that of its slot.
use Rattle.std.proofs.Common.{◌≡◌, ◌≢◌, ◌⊎◌, inl, inr, ℕ, ◌+◌, ◌<◌, ◌≤◌, Bool, true, false, nat_eq, List, [], ◌∷◌, length, slice_get, Option, Some, refl, sym, ◌∙◌, ap, subst, arith}
use Rattle.std.proofs.lemmas.Bool.Decides.{nat_tests}
use Rattle.nc_outside.specs.Disks.{IsSettled, written_at}
use Rattle.nc_outside.proofs.DiskFiles.{length-written_at, written_torn}
use Rattle.nc_journal.specs.Format.{chooser, gate_place}
use Rattle.nc_journal.specs.Files.{At, HasArea}
use Rattle.nc_journal.specs.Images.{IsClean}
use Rattle.nc_journal.proofs.Segments.{at_after, at_before, at_written}
use Rattle.nc_journal.proofs.Images.{names_behind, names_chooser}
use Rattle.nc_journal.proofs.Looking.{get_at}
use Rattle.nc_journal.proofs.Repairs.{at_get}

is_one : (byte : ℕ) → true ≡ nat_eq byte 1 → byte ≡ 1
is_one byte is = grind (arith, nat_tests)

pub first_slot : (second : Bool) (byte : ℕ) → second ≡ nat_eq byte 1 → byte ≢ chooser second → chooser second ≡ 0
first_slot true byte is differs = absurd (differs (is_one byte is))
first_slot false byte is differs = refl

module _ (header : List ℕ) (second : Bool) (place : ℕ) (bodies : List (List ℕ)) (file : List ℕ) (names : HasArea header second place bodies file) where
  g : ℕ
  g = gate_place header bodies place

  pub rests : (byte gate : ℕ) → slice_get file 9 ≡ Some byte → byte ≡ chooser second → gate ≡ gate_place header bodies place → slice_get file gate ≡ Some 0 → IsClean header second place bodies file
  rests byte gate read same there closed = record {
    chosen = subst (λ b. At 9 (b ∷ []) file) same (get_at 9 byte file read);
    live = names;
    closed = subst (λ k. At k (0 ∷ []) file) there (get_at gate 0 file closed);
  }

  pub gate_closed : (byte : ℕ) → slice_get file 9 ≡ Some byte → byte ≡ chooser second → gate_place header bodies place ≤ length file
      → IsClean header second place bodies (written_at (gate_place header bodies place) (0 ∷ []) file)
  gate_closed byte read same le =
      let at = gate_place header bodies place in
      let new = written_at at (0 ∷ []) file in
      let torn = written_torn at (0 ∷ []) file le in
      record {
        chosen = at_before 9 at 1 (chooser second ∷ []) file new torn (omega (arith, names.behind)) (subst (λ b. At 9 (b ∷ []) file) same (get_at 9 byte file read));
        live = names_behind header second place bodies at 1 file new (omega (arith, names.behind)) (inl (omega arith)) torn names;
        closed = at_written at (0 ∷ []) file le;
      }

  pub chooser_put : (closed : At (gate_place header bodies place) (0 ∷ []) file) → chooser second ≡ 0 → 9 ≤ length file → IsClean header second place bodies (written_at 9 (0 ∷ []) file)
  chooser_put closed zero le =
      let new = written_at 9 (0 ∷ []) file in
      let torn = written_torn 9 (0 ∷ []) file le in
      record {
        chosen = subst (λ b. At 9 (b ∷ []) new) (sym zero) (at_written 9 (0 ∷ []) file le);
        live = names_chooser header second place bodies file new torn names;
        closed = at_after (gate_place header bodies place) 9 1 (0 ∷ []) file new torn (omega (arith, names.behind)) closed;
      }

pub both_put : (header : List ℕ) (second : Bool) (place : ℕ) (bodies : List (List ℕ)) (file : List ℕ) → HasArea header second place bodies file
    → chooser second ≡ 0 → 9 ≤ length file → gate_place header bodies place ≤ length file
    → IsClean header second place bodies (written_at 9 (0 ∷ []) (written_at (gate_place header bodies place) (0 ∷ []) file))
both_put header second place bodies file names zero low le =
    let at = gate_place header bodies place in
    let new = written_at at (0 ∷ []) file in
    let torn = written_torn at (0 ∷ []) file le in
    let live = names_behind header second place bodies at 1 file new (omega (arith, names.behind)) (inl (omega arith)) torn names in
    chooser_put header second place bodies new live (at_written at (0 ∷ []) file le) zero (omega (arith, low, length-written_at at (0 ∷ []) file le))

-- a gate that is closed is read as closed
pub closed_is : (place gate gate_byte : ℕ) (file : List ℕ) → At place (0 ∷ []) file → gate ≡ place → slice_get file gate ≡ Some gate_byte → gate_byte ≢ 0 → ⊥
closed_is place gate gate_byte file closed there read differs =
    let e : Some 0 ≡ Some gate_byte = sym (at_get place 0 file closed) ∙ sym (ap (slice_get file) there) ∙ read in
    let same : gate_byte ≡ 0 = cc in
    differs same

-- all of it is on the disk
pub settled_clean : {D : Type 0} (seen : D → Option (List ℕ)) (may_leave : D → List ℕ → Type 0) (disk : D) (header : List ℕ) (second : Bool) (place : ℕ) (bodies : List (List ℕ)) (file : List ℕ)
    → IsSettled seen may_leave disk file → IsClean header second place bodies file → (c : List ℕ) → may_leave disk c → IsClean header second place bodies c
settled_clean seen may_leave disk header second place bodies file settled clean = λ c left. subst (IsClean header second place bodies) (sym (settled.durable c left)) clean
