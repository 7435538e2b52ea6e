-- How far a file grows within a stretch of calls.
use Rattle.std.proofs.Common.{◌≡◌, ℕ, ◌+◌, ◌≤◌, Bool, true, false, if◌then◌else◌, nat_le, List, length, Option, Some, None, sym, ◌∙◌, ap, arith}
use Rattle.nc_outside.specs.Disks.{Torn, Then, Passes}
use Rattle.nc_journal.specs.Format.{areas_begin, chooser_place, chooser}
use Rattle.nc_journal.specs.Growing.{AreWithin, free_place}
use Rattle.nc_journal.specs.Journal.{Stands, at_rest, gate_open, chooser_open}
use Rattle.nc_journal.specs.declared.journal.Journal.{Journal}
use Rattle.nc_journal.specs.declared.journal.Undo.{Undo}
use Rattle.nc_journal.proofs.Images.{open_within, chooser_within}
use Rattle.nc_journal.proofs.Standing.{told_is, rest_of}

-- the place of a new area follows from where the live one stands
pub place_same : (start other gate last room : ℕ) → start ≡ other → gate ≡ last
    → free_place start gate room ≡ free_place other last room
place_same start other gate last room starts gates =
    ap (λ s. free_place s gate room) starts ∙ ap (λ k. free_place other k room) gates

behind : (front : Bool) (gate : ℕ) → areas_begin ≤ gate → areas_begin ≤ (if front then areas_begin else gate + 1)
behind true gate le = omega arith
behind false gate le = omega arith

pub place_behind : (start gate room : ℕ) → areas_begin ≤ gate → areas_begin ≤ free_place start gate room
place_behind start gate room le = behind (nat_le (areas_begin + room) start) gate le

module _ {D : Type 0} (seen : D → Option (List ℕ)) (may_leave : D → List ℕ → Type 0) (moment : D → ℕ) (left_since : D → ℕ → List ℕ → Type 0)
    (seen_is_left : (disk : D) (bytes : List ℕ) → seen disk ≡ Some bytes → may_leave disk bytes) where
  -- a write, and two of them
  pub one_within : (place n limit : ℕ) (old new : D) → place + n ≤ limit
      → Passes may_leave moment left_since (Torn place n) old new → AreWithin may_leave limit old → AreWithin may_leave limit new
  one_within place n limit old new le passes before = λ c left.
      let after = passes.outcomes c left in
      omega (arith, le, after.did.no_longer, before after.from after.was)

  pub two_within : (place n other m limit : ℕ) (old new : D) → place + n ≤ limit → other + m ≤ limit
      → Passes may_leave moment left_since (Then (Torn place n) (Torn other m)) old new
      → AreWithin may_leave limit old → AreWithin may_leave limit new
  two_within place n other m limit old new le le_too passes before = λ c left.
      let after = passes.outcomes c left in
      omega (arith, le, le_too, after.did.left.no_longer, after.did.right.no_longer, before after.from after.was)

  -- the last gate of a journal at rest stands after the front of the file
  pub gate_behind : (header : List ℕ) (journal : Journal D) (bodies : List (List ℕ)) → Stands seen may_leave header journal bodies None
      → areas_begin ≤ journal.gate
  gate_behind header journal bodies stands =
      let rest = rest_of seen may_leave moment left_since seen_is_left header journal bodies stands in
      let it = told_is (seen journal.disk) rest.0.told in
      let clean = rest.2 it.0 (seen_is_left journal.disk it.0 it.1) in
      omega (arith, rest.0.gate, clean.live.behind)

  -- the byte that is written back is within each image
  undo_inside : (header : List ℕ) (old : Journal D) (bodies : List (List ℕ)) (doubt : Option (List (List ℕ))) → Stands seen may_leave header old bodies doubt
      → (undo : Undo) → old.undo ≡ Some undo → (c : List ℕ) → may_leave old.disk c → undo.at + 1 ≤ length c
  undo_inside header old bodies doubt (at_rest placed none none_too images) undo is c left = let wrong : Some undo ≡ None = sym is ∙ none in absurd (cc)
  undo_inside header old bodies doubt (gate_open body placed one doubt_is images) undo is c left =
      let e : Some undo ≡ Some (record { at = old.gate; byte = 0 }) = sym is ∙ one in
      let same : undo ≡ record { at = old.gate; byte = 0 } = cc in
      omega (arith, ap (λ (u : Undo). u.at) same, placed.gate, open_within header old.second old.start bodies body c (images c left))
  undo_inside header old bodies doubt (chooser_open other others placed one doubt_is images) undo is c left =
      let e : Some undo ≡ Some (record { at = chooser_place; byte = chooser old.second }) = sym is ∙ one in
      let same : undo ≡ record { at = chooser_place; byte = chooser old.second } = cc in
      omega (arith, ap (λ (u : Undo). u.at) same, chooser_within header old.second old.start bodies other others c (images c left))

  -- so the file does not grow by that
  pub undo_grows : (header : List ℕ) (old : Journal D) (bodies : List (List ℕ)) (doubt : Option (List (List ℕ))) → Stands seen may_leave header old bodies doubt
      → (undo : Undo) → old.undo ≡ Some undo → (new : D) → Passes may_leave moment left_since (Torn undo.at 1) old.disk new
      → (limit : ℕ) → AreWithin may_leave limit old.disk → AreWithin may_leave limit new
  undo_grows header old bodies doubt stands undo is new passes limit before = λ c left.
      let after = passes.outcomes c left in
      omega (arith, after.did.no_longer, before after.from after.was, undo_inside header old bodies doubt stands undo is after.from after.was)
