-- A torn byte of a file that is opened.
use Rattle.std.proofs.Common.{◌≡◌, ◌≢◌, ◌⊎◌, inl, inr, ⊎_elim, ℕ, ◌+◌, ◌<◌, ◌≤◌, Bool, true, false, not, List, [], ◌∷◌, ◌++◌, length, take, drop, get_or, slice_get, Option, Some, None, refl, sym, ◌∙◌, ap, subst, arith}
use Rattle.std.proofs.lemmas.List.{get_or-take, get_or-drop}
use Rattle.std.proofs.lemmas.Option.{slice_get-get_or, slice_get_within}
use Rattle.nc_outside.specs.Disks.{Told, Torn, After, LeavesOnly, Passes, IsSettled, written_at}
use Rattle.nc_outside.proofs.DiskFiles.{written_torn}
use Rattle.nc_journal.specs.Format.{chooser_place, chooser, gate_place}
use Rattle.nc_journal.specs.Files.{At, HasArea, HoldsAt, HoldsAmong, closed_gate, torn_gate, torn_chooser}
use Rattle.nc_journal.specs.Images.{IsClean, HasOpenGate, HasOpenChooser}
use Rattle.nc_journal.specs.Journal.{allowed}
use Rattle.nc_journal.proofs.Segments.{at_within, at_written}
use Rattle.nc_journal.proofs.Images.{open_gate, open_within, closes, clean_among, open_among, chooser_among, chooser_torn, chooser_stays, chooser_within}
use Rattle.nc_journal.proofs.Standing.{among_first, among_doubt, only_as}
use Rattle.nc_journal.proofs.NewFiles.{settled_moments}

-- a byte that stands at a place is the one that is read there
pub at_get : (place byte : ℕ) (file : List ℕ) → At place (byte ∷ []) file → slice_get file place ≡ Some byte
at_get place byte file at =
    let within = at_within place (byte ∷ []) file at (omega arith) in
    slice_get-get_or file place 0 (omega arith) ∙ ap Some (
    ap (λ k. get_or file k 0) (omega arith) ∙ sym (get_or-drop place file 0 0) ∙ sym (get_or-take 1 (drop place file) 0 0 (omega arith)) ∙ ap (λ (l : List ℕ). get_or l 0 0) at.is)

same_byte : (place one other : ℕ) (file : List ℕ) → At place (one ∷ []) file → slice_get file place ≡ Some other → one ≡ other
same_byte place one other file at is = let e : Some one ≡ Some other = sym (at_get place one file at) ∙ is in cc

-- the chooser is torn
pub record TornChooser (header : List ℕ) (second : Bool) (place : ℕ) (bodies : List (List ℕ)) (doubt : Option (List (List ℕ))) (file : List ℕ) : Type 0 where
  pub other : ℕ
  pub others : List (List ℕ)
  pub doubt_is : doubt ≡ Some others
  pub both : HasOpenChooser header second place bodies other others file
  pub first : chooser second ≡ 0

pub chooser_is_torn : (header : List ℕ) (second : Bool) (place : ℕ) (bodies : List (List ℕ)) (doubt : Option (List (List ℕ))) (file : List ℕ) (byte : ℕ)
    → HoldsAt header second place bodies doubt file → slice_get file 9 ≡ Some byte → byte ≢ chooser second → TornChooser header second place bodies doubt file
chooser_is_torn header second place bodies doubt file byte (closed_gate chosen names closed none) is differs = absurd (differs (sym (same_byte 9 (chooser second) byte file chosen is)))
chooser_is_torn header second place bodies doubt file byte (torn_gate gate body chosen names at not_zero not_one small behind doubt_is) is differs =
    absurd (differs (sym (same_byte 9 (chooser second) byte file chosen is)))
chooser_is_torn header true place bodies doubt file byte (torn_chooser one other others second_is at not_zero not_one first first_closed last last_closed doubt_is) is differs = absurd (cc)
chooser_is_torn header false place bodies doubt file byte (torn_chooser one other others second_is at not_zero not_one first first_closed last last_closed doubt_is) is differs = record {
  other = other;
  others = others;
  doubt_is = doubt_is;
  both = record { live = first; closed = first_closed; next = last; next_closed = last_closed };
  first = refl;
}

-- the gate is torn
pub record TornGate (header : List ℕ) (second : Bool) (place : ℕ) (bodies : List (List ℕ)) (doubt : Option (List (List ℕ))) (file : List ℕ) : Type 0 where
  pub body : List ℕ
  pub doubt_is : doubt ≡ Some (bodies ++ body ∷ [])
  pub open_file : HasOpenGate header second place bodies body file

not_torn : (second : Bool) (one byte : ℕ) (file : List ℕ) → second ≡ false → At chooser_place (one ∷ []) file → one ≢ 0 → slice_get file 9 ≡ Some byte → byte ≡ chooser second → ⊥
not_torn true one byte file second_is at not_zero is same = absurd (cc)
not_torn false one byte file second_is at not_zero is same = not_zero (same_byte 9 one byte file at is ∙ same)

pub gate_is_torn : (header : List ℕ) (second : Bool) (place : ℕ) (bodies : List (List ℕ)) (doubt : Option (List (List ℕ))) (file : List ℕ) (byte gate gate_byte : ℕ)
    → HoldsAt header second place bodies doubt file → slice_get file 9 ≡ Some byte → byte ≡ chooser second → gate ≡ gate_place header bodies place → slice_get file gate ≡ Some gate_byte → gate_byte ≢ 0
    → TornGate header second place bodies doubt file
gate_is_torn header second place bodies doubt file byte gate gate_byte (closed_gate chosen names closed none) is same gate_is gate_at not_closed =
    absurd (not_closed (sym (same_byte gate 0 gate_byte file (subst (λ k. At k (0 ∷ []) file) (sym gate_is) closed) gate_at)))
gate_is_torn header second place bodies doubt file byte gate gate_byte (torn_gate g body chosen names at not_zero not_one small behind doubt_is) is same gate_is gate_at not_closed =
    record { body = body; doubt_is = doubt_is; open_file = record { chosen = chosen; live = names; small = small; behind = behind } }
gate_is_torn header second place bodies doubt file byte gate gate_byte (torn_chooser one other others second_is at not_zero not_one first first_closed last last_closed doubt_is) is same gate_is gate_at not_closed =
    absurd (not_torn second one byte file second_is at not_zero is same)

-- neither is
pub none_is_torn : (header : List ℕ) (second : Bool) (place : ℕ) (bodies : List (List ℕ)) (doubt : Option (List (List ℕ))) (file : List ℕ) (byte gate gate_byte : ℕ)
    → HoldsAt header second place bodies doubt file → slice_get file 9 ≡ Some byte → byte ≡ chooser second → gate ≡ gate_place header bodies place → slice_get file gate ≡ Some gate_byte → gate_byte ≡ 0
    → IsClean header second place bodies file
none_is_torn header second place bodies doubt file byte gate gate_byte (closed_gate chosen names closed none) is same gate_is gate_at shut = record { chosen = chosen; live = names; closed = closed }
none_is_torn header second place bodies doubt file byte gate gate_byte (torn_gate g body chosen names at not_zero not_one small behind doubt_is) is same gate_is gate_at shut =
    absurd (not_zero (same_byte gate g gate_byte file (subst (λ k. At k (g ∷ []) file) (sym gate_is) at) gate_at ∙ shut))
none_is_torn header second place bodies doubt file byte gate gate_byte (torn_chooser one other others second_is at not_zero not_one first first_closed last last_closed doubt_is) is same gate_is gate_at shut =
    absurd (not_torn second one byte file second_is at not_zero is same)

module _ {D : Type 0} (seen : D → Option (List ℕ)) (may_leave : D → List ℕ → Type 0) (moment : D → ℕ) (left_since : D → ℕ → List ℕ → Type 0)
    (old new : D) (header : List ℕ) (second : Bool) (place : ℕ) (bodies : List (List ℕ)) (doubt : Option (List (List ℕ))) (file : List ℕ) (settled : IsSettled seen may_leave old file) where
  pub chooser_repair_moments : TornChooser header second place bodies doubt file → Passes may_leave moment left_since (Torn 9 1) old new
      → LeavesOnly moment left_since old new (HoldsAmong header (allowed bodies doubt))
  chooser_repair_moments t passes =
      settled_moments seen may_leave moment left_since old new file (Torn 9 1) (HoldsAmong header (allowed bodies doubt)) settled passes (λ c step.
      chooser_among header (allowed bodies doubt) second place bodies t.other t.others c (among_first bodies doubt) (among_doubt bodies t.others doubt t.doubt_is)
      (chooser_torn header second place bodies t.other t.others file c step t.both))

  pub chooser_repair_done : TornChooser header second place bodies doubt file → IsSettled seen may_leave new (written_at 9 (0 ∷ []) file) → (c : List ℕ) → may_leave new c → IsClean header second place bodies c
  chooser_repair_done t done c left =
      let le : 9 ≤ length file = omega (arith, chooser_within header second place bodies t.other t.others file t.both) in
      let bytes = written_at 9 (0 ∷ []) file in
      subst (IsClean header second place bodies) (sym (done.durable c left))
      (chooser_stays header second place bodies t.other t.others bytes (chooser_torn header second place bodies t.other t.others file bytes (written_torn 9 (0 ∷ []) file le) t.both)
      (subst (λ b. At 9 (b ∷ []) bytes) (sym t.first) (at_written 9 (0 ∷ []) file le)))

  pub gate_repair_moments : (gate : ℕ) → gate ≡ gate_place header bodies place → TornGate header second place bodies doubt file → Passes may_leave moment left_since (Torn gate 1) old new
      → LeavesOnly moment left_since old new (HoldsAmong header (allowed bodies doubt))
  gate_repair_moments gate there t passes =
      settled_moments seen may_leave moment left_since old new file (Torn gate 1) (HoldsAmong header (allowed bodies doubt)) settled passes (λ c step.
      open_among header second place bodies (allowed bodies doubt) t.body c (among_first bodies doubt) (among_doubt bodies (bodies ++ t.body ∷ []) doubt t.doubt_is)
      (open_gate header second place bodies t.body file c (subst (λ k. Torn k 1 file c) there step) t.open_file))

  pub gate_repair_done : (gate : ℕ) → gate ≡ gate_place header bodies place → TornGate header second place bodies doubt file → IsSettled seen may_leave new (written_at gate (0 ∷ []) file)
      → (c : List ℕ) → may_leave new c → IsClean header second place bodies c
  gate_repair_done gate there t done c left =
      let at_gate = gate_place header bodies place in
      let le : at_gate ≤ length file = omega (arith, open_within header second place bodies t.body file t.open_file) in
      let bytes = written_at at_gate (0 ∷ []) file in
      let now : IsClean header second place bodies bytes =
      closes header second place bodies t.body bytes (open_gate header second place bodies t.body file bytes (written_torn at_gate (0 ∷ []) file le) t.open_file) (at_written at_gate (0 ∷ []) file le) in
      subst (IsClean header second place bodies) (sym (done.durable c left ∙ ap (λ k. written_at k (0 ∷ []) file) there)) now

  pub no_repair_moments : ((disk : D) (c : List ℕ) → left_since disk (moment disk) c → may_leave disk c) → IsClean header second place bodies file
      → LeavesOnly moment left_since old old (HoldsAmong header (allowed bodies doubt))
  no_repair_moments only_now clean = record {
    later = omega arith;
    each = λ c left. clean_among header second place bodies (allowed bodies doubt) c (among_first bodies doubt) (subst (IsClean header second place bodies) (sym (settled.durable c (only_now old c left))) clean);
    before = λ t c le left. inl left;
  }

  pub no_repair_done : IsClean header second place bodies file → (c : List ℕ) → may_leave old c → IsClean header second place bodies c
  no_repair_done clean c left = subst (IsClean header second place bodies) (sym (settled.durable c left)) clean
