-- What a journal stands for after a stretch of calls.
use Rattle.std.proofs.Common.{◌≡◌, ◌⊎◌, inl, inr, ⊎_elim, ℕ, ◌+◌, ◌<◌, ◌≤◌, ◌^◌, Bool, true, false, not, List, [], ◌∷◌, ◌++◌, length, Contains, Option, Some, None, is_some, IfSome, Result, Ok, Err, OnErr, refl, sym, ◌∙◌, ap, subst, arith, add-one}
use Rattle.nc_outside.specs.Disks.{Told, Torn, Then, After, LeavesOnly, Passes, IsSettled, written_at}
use Rattle.nc_outside.proofs.DiskFiles.{written_torn}
use Rattle.nc_journal.specs.Format.{chooser_place, chooser, framed, area, gate_place}
use Rattle.nc_names.specs.Limits.{body_limit}
use Rattle.nc_journal.specs.Files.{At, HasArea, Holds, HoldsAmong}
use Rattle.nc_journal.specs.Images.{IsClean, HasOpenGate, HasOpenChooser}
use Rattle.nc_journal.specs.Journal.{IsPlaced, Stands, at_rest, gate_open, chooser_open, IsSound, allowed}
use Rattle.nc_journal.specs.inner.Placing.{HasPlaceOf}
use Rattle.nc_journal.specs.declared.journal.Journal.{Journal}
use Rattle.nc_journal.specs.declared.journal.Undo.{Undo}
use Rattle.nc_journal.proofs.Segments.{at_written}
use Rattle.nc_journal.proofs.Numbers.{length-framed, gate-push}
use Rattle.nc_journal.proofs.Images.{clean_behind, staged, open_gate, open_within, closes, opens, clean_holds, clean_among, open_among, chooser_among, chooser_torn, chooser_stays, chooser_turns, chooser_within, clean_within}

pub told_is : (seen : Option (List ℕ)) → is_some seen ≡ true → (file : List ℕ) × (seen ≡ Some file)
told_is (Some file) told = (file, refl)
told_is None told = absurd (cc)

pub among_first : (bodies : List (List ℕ)) (doubt : Option (List (List ℕ))) → Contains (allowed bodies doubt) bodies
among_first bodies None = (0, omega arith, refl)
among_first bodies (Some others) = (0, omega arith, refl)

pub among_doubt : (bodies others : List (List ℕ)) (doubt : Option (List (List ℕ))) → doubt ≡ Some others → Contains (allowed bodies doubt) others
among_doubt bodies others doubt is = subst (λ d. Contains (allowed bodies d) others) (sym is) (1, omega arith, refl)

-- what stands at each moment may be said in other words
pub only_as : {D : Type 0} (moment : D → ℕ) (left_since : D → ℕ → List ℕ → Type 0) (old new : D) (P Q : List ℕ → Type 0) → ((c : List ℕ) → P c → Q c)
    → LeavesOnly moment left_since old new P → LeavesOnly moment left_since old new Q
only_as moment left_since old new P Q also one = record {
  later = one.later;
  each = λ c left. also c (one.each c left);
  before = λ t c le left. ⊎_elim (λ (was : left_since old t c). inl was) (λ (now : P c). inr (also c now)) (one.before t c le left);
}

-- one stretch after another
pub only_then : {D : Type 0} (moment : D → ℕ) (left_since : D → ℕ → List ℕ → Type 0) (old mid new : D) (P : List ℕ → Type 0)
    → LeavesOnly moment left_since old mid P → LeavesOnly moment left_since mid new P → LeavesOnly moment left_since old new P
only_then moment left_since old mid new P one two = record {
  later = omega (arith, one.later, two.later);
  each = λ c left. ⊎_elim (λ (was : left_since mid (moment old) c). one.each c was) (λ (now : P c). now) (two.before (moment old) c one.later left);
  before = λ t c le left. ⊎_elim
      (λ (was : left_since mid t c). one.before t c le was) (λ (now : P c). inr now) (two.before t c (omega (arith, le, one.later)) left);
}

module _ {D : Type 0} (seen : D → Option (List ℕ)) (may_leave : D → List ℕ → Type 0) (moment : D → ℕ) (left_since : D → ℕ → List ℕ → Type 0)
    (seen_is_left : (disk : D) (bytes : List ℕ) → seen disk ≡ Some bytes → may_leave disk bytes) where
  pub placed_again : (header : List ℕ) (old new : Journal D) (bodies : List (List ℕ)) → is_some (seen new.disk) ≡ is_some (seen old.disk) → HasPlaceOf old new
      → IsPlaced seen header old bodies → IsPlaced seen header new bodies
  placed_again header old new bodies tells place placed = record {
    told = tells ∙ placed.told;
    gate = place.gate ∙ placed.gate ∙ ap (gate_place header bodies) (sym place.start);
    count = place.records ∙ placed.count;
  }

  -- the byte that is written back is within the file
  pub undo_within : (header : List ℕ) (old : Journal D) (bodies : List (List ℕ)) (doubt : Option (List (List ℕ))) → Stands seen may_leave header old bodies doubt
      → (undo : Undo) → old.undo ≡ Some undo → (file : List ℕ) → seen old.disk ≡ Some file → undo.at + 1 ≤ length file
  undo_within header old bodies doubt (at_rest placed none none_too images) undo is file told = let wrong : Some undo ≡ None = sym is ∙ none in absurd (cc)
  undo_within header old bodies doubt (gate_open body placed one doubt_is images) undo is file told =
      let e : Some undo ≡ Some (record { at = old.gate; byte = 0 }) = sym is ∙ one in
      let same : undo ≡ record { at = old.gate; byte = 0 } = cc in
      omega (arith, ap (λ (u : Undo). u.at) same, placed.gate, open_within header old.second old.start bodies body file (images file (seen_is_left old.disk file told)))
  undo_within header old bodies doubt (chooser_open other others placed one doubt_is images) undo is file told =
      let e : Some undo ≡ Some (record { at = chooser_place; byte = chooser old.second }) = sym is ∙ one in
      let same : undo ≡ record { at = chooser_place; byte = chooser old.second } = cc in
      omega (arith, ap (λ (u : Undo). u.at) same, chooser_within header old.second old.start bodies other others file (images file (seen_is_left old.disk file told)))

  -- what a crash leaves of it is as before
  pub undo_moments : (header : List ℕ) (old : Journal D) (bodies : List (List ℕ)) (doubt : Option (List (List ℕ))) → Stands seen may_leave header old bodies doubt
      → (undo : Undo) → old.undo ≡ Some undo → (new : D) → Passes may_leave moment left_since (Torn undo.at 1) old.disk new
      → LeavesOnly moment left_since old.disk new (HoldsAmong header (allowed bodies doubt))
  undo_moments header old bodies doubt (at_rest placed none none_too images) undo is new passes = let wrong : Some undo ≡ None = sym is ∙ none in absurd (cc)
  undo_moments header old bodies doubt (gate_open body placed one doubt_is images) undo is new passes =
      let e : Some undo ≡ Some (record { at = old.gate; byte = 0 }) = sym is ∙ one in
      let same : undo ≡ record { at = old.gate; byte = 0 } = cc in
      let there : undo.at ≡ gate_place header bodies old.start = ap (λ (u : Undo). u.at) same ∙ placed.gate in
      only_as moment left_since old.disk new (After (Torn undo.at 1) (may_leave old.disk)) (HoldsAmong header (allowed bodies doubt))
      (λ c after. open_among header old.second old.start bodies (allowed bodies doubt) body c (among_first bodies doubt) (among_doubt bodies (bodies ++ body ∷ []) doubt doubt_is)
      (open_gate header old.second old.start bodies body after.from c (subst (λ k. Torn k 1 after.from c) there after.did) (images after.from after.was)))
      passes.moments
  undo_moments header old bodies doubt (chooser_open other others placed one doubt_is images) undo is new passes =
      let e : Some undo ≡ Some (record { at = chooser_place; byte = chooser old.second }) = sym is ∙ one in
      let same : undo ≡ record { at = chooser_place; byte = chooser old.second } = cc in
      let there : undo.at ≡ chooser_place = ap (λ (u : Undo). u.at) same in
      only_as moment left_since old.disk new (After (Torn undo.at 1) (may_leave old.disk)) (HoldsAmong header (allowed bodies doubt))
      (λ c after. chooser_among header (allowed bodies doubt) old.second old.start bodies other others c (among_first bodies doubt) (among_doubt bodies others doubt doubt_is)
      (chooser_torn header old.second old.start bodies other others after.from c (subst (λ k. Torn k 1 after.from c) there after.did) (images after.from after.was)))
      passes.moments

  -- where it failed, the doubt stays
  pub undo_kept : (header : List ℕ) (old new : Journal D) (bodies : List (List ℕ)) (doubt : Option (List (List ℕ))) → Stands seen may_leave header old bodies doubt
      → (undo : Undo) → old.undo ≡ Some undo → new.undo ≡ old.undo → HasPlaceOf old new → is_some (seen new.disk) ≡ is_some (seen old.disk)
      → Passes may_leave moment left_since (Torn undo.at 1) old.disk new.disk → Stands seen may_leave header new bodies doubt
  undo_kept header old new bodies doubt (at_rest placed none none_too images) undo is same_undo place tells passes = let wrong : Some undo ≡ None = sym is ∙ none in absurd (cc)
  undo_kept header old new bodies doubt (gate_open body placed one doubt_is images) undo is same_undo place tells passes =
      let e : Some undo ≡ Some (record { at = old.gate; byte = 0 }) = sym is ∙ one in
      let same : undo ≡ record { at = old.gate; byte = 0 } = cc in
      let there : undo.at ≡ gate_place header bodies old.start = ap (λ (u : Undo). u.at) same ∙ placed.gate in
      gate_open body (placed_again header old new bodies tells place placed)
      (same_undo ∙ one ∙ ap (λ k. let u : Undo = record { at = k; byte = 0 } in Some u) (sym place.gate)) doubt_is
      (λ c left. let after = passes.outcomes c left in
      let now = open_gate header old.second old.start bodies body after.from c (subst (λ k. Torn k 1 after.from c) there after.did) (images after.from after.was) in
      subst (λ s. HasOpenGate header s new.start bodies body c) (sym place.second) (subst (λ k. HasOpenGate header old.second k bodies body c) (sym place.start) now))
  undo_kept header old new bodies doubt (chooser_open other others placed one doubt_is images) undo is same_undo place tells passes =
      let e : Some undo ≡ Some (record { at = chooser_place; byte = chooser old.second }) = sym is ∙ one in
      let same : undo ≡ record { at = chooser_place; byte = chooser old.second } = cc in
      let there : undo.at ≡ chooser_place = ap (λ (u : Undo). u.at) same in
      chooser_open other others (placed_again header old new bodies tells place placed)
      (same_undo ∙ one ∙ ap (λ s. let u : Undo = record { at = chooser_place; byte = chooser s } in Some u) (sym place.second)) doubt_is
      (λ c left. let after = passes.outcomes c left in
      let now = chooser_torn header old.second old.start bodies other others after.from c (subst (λ k. Torn k 1 after.from c) there after.did) (images after.from after.was) in
      subst (λ s. HasOpenChooser header s new.start bodies other others c) (sym place.second) (subst (λ k. HasOpenChooser header old.second k bodies other others c) (sym place.start) now))

  -- a clean image of one journal is one of another at the same place
  pub clean_moved : (header : List ℕ) (old new : Journal D) (bodies : List (List ℕ)) (file : List ℕ) → HasPlaceOf old new
      → IsClean header old.second old.start bodies file → IsClean header new.second new.start bodies file
  clean_moved header old new bodies file place clean =
      subst (λ s. IsClean header s new.start bodies file) (sym place.second) (subst (λ k. IsClean header old.second k bodies file) (sym place.start) clean)

  -- where it succeeded, there is none
  pub undo_done : (header : List ℕ) (old new : Journal D) (bodies : List (List ℕ)) (doubt : Option (List (List ℕ))) → Stands seen may_leave header old bodies doubt
      → (undo : Undo) → old.undo ≡ Some undo → new.undo ≡ None → HasPlaceOf old new → is_some (seen new.disk) ≡ is_some (seen old.disk)
      → Told (seen old.disk) (λ file. IsSettled seen may_leave new.disk (written_at undo.at (undo.byte ∷ []) file)) → Stands seen may_leave header new bodies None
  undo_done header old new bodies doubt (at_rest placed none none_too images) undo is none_now place tells settled = let wrong : Some undo ≡ None = sym is ∙ none in absurd (cc)
  undo_done header old new bodies doubt (gate_open body placed one doubt_is images) undo is none_now place tells settled =
      let e : Some undo ≡ Some (record { at = old.gate; byte = 0 }) = sym is ∙ one in
      let same : undo ≡ record { at = old.gate; byte = 0 } = cc in
      let gate = gate_place header bodies old.start in
      let there : undo.at ≡ gate = ap (λ (u : Undo). u.at) same ∙ placed.gate in
      let it = told_is (seen old.disk) placed.told in
      let was = images it.0 (seen_is_left old.disk it.0 it.1) in
      let le = open_within header old.second old.start bodies body it.0 was in
      let at_gate : gate ≤ length it.0 = omega (arith, le) in
      let now : IsClean header old.second old.start bodies (written_at gate (0 ∷ []) it.0) =
      closes header old.second old.start bodies body (written_at gate (0 ∷ []) it.0)
      (open_gate header old.second old.start bodies body it.0 (written_at gate (0 ∷ []) it.0) (written_torn gate (0 ∷ []) it.0 at_gate) was)
      (at_written gate (0 ∷ []) it.0 at_gate) in
      let bytes : written_at undo.at (undo.byte ∷ []) it.0 ≡ written_at gate (0 ∷ []) it.0 =
      ap (λ (u : Undo). written_at u.at (u.byte ∷ []) it.0) same ∙ ap (λ k. written_at k (0 ∷ []) it.0) placed.gate in
      at_rest (placed_again header old new bodies tells place placed) none_now refl
      (λ c left. clean_moved header old new bodies c place
      (subst (IsClean header old.second old.start bodies) (sym ((settled it.0 it.1).durable c left ∙ bytes)) now))
  undo_done header old new bodies doubt (chooser_open other others placed one doubt_is images) undo is none_now place tells settled =
      let e : Some undo ≡ Some (record { at = chooser_place; byte = chooser old.second }) = sym is ∙ one in
      let same : undo ≡ record { at = chooser_place; byte = chooser old.second } = cc in
      let it = told_is (seen old.disk) placed.told in
      let was = images it.0 (seen_is_left old.disk it.0 it.1) in
      let le = chooser_within header old.second old.start bodies other others it.0 was in
      let at_chooser : chooser_place ≤ length it.0 = omega (arith, le) in
      let new_file = written_at chooser_place (chooser old.second ∷ []) it.0 in
      let now : IsClean header old.second old.start bodies new_file =
      chooser_stays header old.second old.start bodies other others new_file
      (chooser_torn header old.second old.start bodies other others it.0 new_file (written_torn chooser_place (chooser old.second ∷ []) it.0 at_chooser) was)
      (at_written chooser_place (chooser old.second ∷ []) it.0 at_chooser) in
      at_rest (placed_again header old new bodies tells place placed) none_now refl
      (λ c left. clean_moved header old new bodies c place
      (subst (IsClean header old.second old.start bodies) (sym ((settled it.0 it.1).durable c left ∙ ap (λ (u : Undo). written_at u.at (u.byte ∷ []) it.0) same)) now))

  -- a journal without a byte to write back has no doubt
  pub stands_rest : (header : List ℕ) (old : Journal D) (bodies : List (List ℕ)) (doubt : Option (List (List ℕ))) → Stands seen may_leave header old bodies doubt → old.undo ≡ None
      → Stands seen may_leave header old bodies None
  stands_rest header old bodies doubt (at_rest placed none none_too images) is = at_rest placed none refl images
  stands_rest header old bodies doubt (gate_open body placed one doubt_is images) is =
      let wrong : Some (let u : Undo = record { at = old.gate; byte = 0 } in u) ≡ None = sym one ∙ is in absurd (cc)
  stands_rest header old bodies doubt (chooser_open other others placed one doubt_is images) is =
      let wrong : Some (let u : Undo = record { at = chooser_place; byte = chooser old.second } in u) ≡ None = sym one ∙ is in absurd (cc)

  -- what it stands for is told at each moment at which no call is made
  pub stands_among : (header : List ℕ) (old : Journal D) (bodies : List (List ℕ)) (doubt : Option (List (List ℕ))) → Stands seen may_leave header old bodies doubt
      → (c : List ℕ) → may_leave old.disk c → HoldsAmong header (allowed bodies doubt) c
  stands_among header old bodies doubt (at_rest placed none none_too images) c left =
      clean_among header old.second old.start bodies (allowed bodies doubt) c (among_first bodies doubt) (images c left)
  stands_among header old bodies doubt (gate_open body placed one doubt_is images) c left =
      open_among header old.second old.start bodies (allowed bodies doubt) body c (among_first bodies doubt) (among_doubt bodies (bodies ++ body ∷ []) doubt doubt_is) (images c left)
  stands_among header old bodies doubt (chooser_open other others placed one doubt_is images) c left =
      chooser_among header (allowed bodies doubt) old.second old.start bodies other others c (among_first bodies doubt) (among_doubt bodies others doubt doubt_is) (images c left)

  pub stands_now : ((disk : D) (c : List ℕ) → left_since disk (moment disk) c → may_leave disk c) → (header : List ℕ) (old : Journal D) (bodies : List (List ℕ)) (doubt : Option (List (List ℕ)))
      → Stands seen may_leave header old bodies doubt → LeavesOnly moment left_since old.disk old.disk (HoldsAmong header (allowed bodies doubt))
  stands_now only_now header old bodies doubt stands = record {
    later = omega arith;
    each = λ c left. stands_among header old bodies doubt stands c (only_now old.disk c left);
    before = λ t c le left. inl left;
  }

  -- a journal without doubt is at rest
  pub rest_of : (header : List ℕ) (old : Journal D) (bodies : List (List ℕ)) → Stands seen may_leave header old bodies None
      → IsPlaced seen header old bodies × (old.undo ≡ None) × ((c : List ℕ) → may_leave old.disk c → IsClean header old.second old.start bodies c)
  rest_of header old bodies (at_rest placed none none_too images) = (placed, none, images)
  rest_of header old bodies (gate_open body placed one doubt_is images) = absurd (cc)
  rest_of header old bodies (chooser_open other others placed one doubt_is images) = absurd (cc)

  -- each crash of it leaves a file that stands for its bodies alone
  pub stands_alone : (header : List ℕ) (old : Journal D) (bodies : List (List ℕ)) → Stands seen may_leave header old bodies None → (c : List ℕ) → may_leave old.disk c → Holds header bodies None c
  stands_alone header old bodies stands c left = clean_holds header old.second old.start bodies c ((rest_of header old bodies stands).2 c left)

  -- the gate of a journal at rest is within its file
  pub rest_within : (header : List ℕ) (old : Journal D) (bodies : List (List ℕ)) → Stands seen may_leave header old bodies None
      → (file : List ℕ) → seen old.disk ≡ Some file → old.gate + 1 ≤ length file
  rest_within header old bodies stands file told =
      let rest = rest_of header old bodies stands in
      omega (arith, rest.0.gate, clean_within header old.second old.start bodies file (rest.2 file (seen_is_left old.disk file told)))

  -- A write behind the closed gate.
  module _ (header : List ℕ) (old : Journal D) (bodies : List (List ℕ)) (stands : Stands seen may_leave header old bodies None) (n : ℕ) (new : D)
      (passes : Passes may_leave moment left_since (Torn (old.gate + 1) n) old.disk new) where
    stays : (c : List ℕ) → After (Torn (old.gate + 1) n) (may_leave old.disk) c → IsClean header old.second old.start bodies c
    stays c after =
        let rest = rest_of header old bodies stands in
        clean_behind header old.second old.start bodies n after.from c (subst (λ k. Torn (k + 1) n after.from c) rest.0.gate after.did) (rest.2 after.from after.was)

    pub stage_kept : (later : Journal D) → later.disk ≡ new → later.undo ≡ old.undo → HasPlaceOf old later → is_some (seen new) ≡ is_some (seen old.disk)
        → Stands seen may_leave header later bodies None
    stage_kept later disk_is undo_is place tells =
        let rest = rest_of header old bodies stands in
        at_rest (placed_again header old later bodies (ap (λ d. is_some (seen d)) disk_is ∙ tells) place rest.0) (undo_is ∙ rest.1) refl
        (λ c left. clean_moved header old later bodies c place (stays c (passes.outcomes c (subst (λ d. may_leave d c) disk_is left))))

    pub stage_moments : (among : List (List (List ℕ))) → Contains among bodies → LeavesOnly moment left_since old.disk new (HoldsAmong header among)
    stage_moments among has =
        only_as moment left_since old.disk new (After (Torn (old.gate + 1) n) (may_leave old.disk)) (HoldsAmong header among)
        (λ c after. clean_among header old.second old.start bodies among c has (stays c after)) passes.moments

  pub stage_done : (header : List ℕ) (old : Journal D) (bodies : List (List ℕ)) → Stands seen may_leave header old bodies None → (body bytes : List ℕ) → bytes ≡ framed body → length body ≤ body_limit
      → (new : D) → Told (seen old.disk) (λ file. IsSettled seen may_leave new (written_at (old.gate + 1) bytes file))
      → (c : List ℕ) → may_leave new c → HasOpenGate header old.second old.start bodies body c
  stage_done header old bodies stands body bytes is small new settled c left =
      let rest = rest_of header old bodies stands in
      let it = told_is (seen old.disk) rest.0.told in
      let was = rest.2 it.0 (seen_is_left old.disk it.0 it.1) in
      let now : HasOpenGate header old.second old.start bodies body (written_at (gate_place header bodies old.start + 1) (framed body) it.0) =
      staged header old.second old.start bodies body it.0 small (clean_within header old.second old.start bodies it.0 was) was in
      let same : written_at (old.gate + 1) bytes it.0 ≡ written_at (gate_place header bodies old.start + 1) (framed body) it.0 =
      ap (λ (l : List ℕ). written_at (old.gate + 1) l it.0) is ∙ ap (λ k. written_at (k + 1) (framed body) it.0) rest.0.gate in
      subst (HasOpenGate header old.second old.start bodies body) (sym ((settled it.0 it.1).durable c left ∙ same)) now

  -- The gate is opened.
  module _ (header : List ℕ) (second : Bool) (start gate : ℕ) (bodies : List (List ℕ)) (body : List ℕ) (there : gate ≡ gate_place header bodies start)
      (mid new : D) (open_mid : (c : List ℕ) → may_leave mid c → HasOpenGate header second start bodies body c) where
    gate_stays : (c : List ℕ) → After (Torn gate 1) (may_leave mid) c → HasOpenGate header second start bodies body c
    gate_stays c after = open_gate header second start bodies body after.from c (subst (λ k. Torn k 1 after.from c) there after.did) (open_mid after.from after.was)

    pub gate_kept : Passes may_leave moment left_since (Torn gate 1) mid new → (c : List ℕ) → may_leave new c → HasOpenGate header second start bodies body c
    gate_kept passes c left = gate_stays c (passes.outcomes c left)

    pub gate_moments : Passes may_leave moment left_since (Torn gate 1) mid new → (among : List (List (List ℕ))) → Contains among bodies → Contains among (bodies ++ body ∷ [])
        → LeavesOnly moment left_since mid new (HoldsAmong header among)
    gate_moments passes among has has_new =
        only_as moment left_since mid new (After (Torn gate 1) (may_leave mid)) (HoldsAmong header among)
        (λ c after. open_among header second start bodies among body c has has_new (gate_stays c after)) passes.moments

    pub gate_within : (file : List ℕ) → seen mid ≡ Some file → gate ≤ length file
    gate_within file told = omega (arith, there, open_within header second start bodies body file (open_mid file (seen_is_left mid file told)))

    pub gate_done : is_some (seen mid) ≡ true → Told (seen mid) (λ file. IsSettled seen may_leave new (written_at gate (1 ∷ []) file))
        → (c : List ℕ) → may_leave new c → IsClean header second start (bodies ++ body ∷ []) c
    gate_done told settled c left =
        let it = told_is (seen mid) told in
        let was = open_mid it.0 (seen_is_left mid it.0 it.1) in
        let place = gate_place header bodies start in
        let le : place ≤ length it.0 = omega (arith, open_within header second start bodies body it.0 was) in
        let now : IsClean header second start (bodies ++ body ∷ []) (written_at place (1 ∷ []) it.0) =
        opens header second start bodies body (written_at place (1 ∷ []) it.0)
        (open_gate header second start bodies body it.0 (written_at place (1 ∷ []) it.0) (written_torn place (1 ∷ []) it.0 le) was)
        (at_written place (1 ∷ []) it.0 le) in
        subst (IsClean header second start (bodies ++ body ∷ [])) (sym ((settled it.0 it.1).durable c left ∙ ap (λ k. written_at k (1 ∷ []) it.0) there)) now

pub among_more : (among : List (List (List ℕ))) (one : List (List ℕ)) (header file : List ℕ) → HoldsAmong header among file → HoldsAmong header (one ∷ among) file
among_more among one header file it = record {
  bodies = it.bodies;
  doubt = it.doubt;
  holds = it.holds;
  bodies_allowed = contains_more among one it.bodies it.bodies_allowed;
  doubt_allowed = some_more it.doubt it.doubt_allowed;
}
  where
    contains_more : (xs : List (List (List ℕ))) (y x : List (List ℕ)) → Contains xs x → Contains (y ∷ xs) x
    contains_more xs y x (k, within, is) = (k + 1, omega arith, rw add-one is)

    some_more : (doubt : Option (List (List ℕ))) → IfSome doubt (Contains among) → IfSome doubt (Contains (one ∷ among))
    some_more None _ = tt
    some_more (Some d) has = contains_more among one d has

pub on_err : {T E : Type 0} (result : Result T E) (P : Type 0) → P → OnErr result P
on_err (Ok x) P p = tt
on_err (Err e) P p = p

pub among_new : (among : List (List (List ℕ))) (one : List (List ℕ)) → Contains (one ∷ among) one
among_new among one = (0, omega arith, refl)

pub among_old : (bodies : List (List ℕ)) (doubt : Option (List (List ℕ))) (one : List (List ℕ)) → Contains (one ∷ allowed bodies doubt) bodies
among_old bodies None one = (1, omega arith, refl)
among_old bodies (Some others) one = (1, omega arith, refl)
