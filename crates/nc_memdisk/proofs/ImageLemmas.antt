-- One call more in the log of a disk in memory.
use Rattle.std.proofs.Common.{◌≡◌, ◌⊎◌, inl, inr, ℕ, ◌+◌, ◌-◌, ◌≤◌, List, [], ◌∷◌, ◌++◌, length, take, drop, refl, sym, ◌∙◌, ap, subst, arith, length-append}
use Rattle.std.proofs.lemmas.Bool.{cases_lt}
use Rattle.std.proofs.lemmas.List.{take_all, take-append-le, drop-drop}
use Rattle.nc_outside.specs.Disks.{written_at, Torn, CutTo, Follows, Elapses, Within}
use Rattle.nc_outside.proofs.DiskFiles.{written_torn}
use Rattle.nc_memdisk.specs.declared.done.DoneCall.{DoneCall}
use Rattle.nc_memdisk.specs.declared.done.DoneCall.TheVariants.{Write, Cut, Sync}
use Rattle.nc_memdisk.specs.Laws.{seen_is_image}
use Rattle.nc_memdisk.specs.Images.{seen_one, seen_after, image_one, image_after, IsImage, ImageSince}

pub seen-push : (file : List ℕ) (log : List DoneCall) (call : DoneCall)
    → seen_after file (log ++ call ∷ []) ≡ seen_one call (seen_after file log)
seen-push file [] call = refl
seen-push file (first ∷ log) call = seen-push (seen_one first file) log call

pub image-push : (images : List ℕ → Type 0) (seen : List ℕ) (log : List DoneCall) (call : DoneCall) (c : List ℕ)
    → image_after images seen (log ++ call ∷ []) c
    → image_one call (image_after images seen log) (seen_after seen log) c
image-push images seen [] call c image = image
image-push images seen (first ∷ log) call c image =
    image-push (image_one first images seen) (seen_one first seen) log call c image

-- what a read gives after a call that is noted
pub noted : (first : List ℕ) (log : List DoneCall) (bytes next : List ℕ) (call : DoneCall)
    → bytes ≡ seen_after first log → next ≡ seen_one call bytes → next ≡ seen_after first (log ++ call ∷ [])
noted first log bytes next call same is = is ∙ ap (seen_one call) same ∙ sym (seen-push first log call)

-- a number is at most another, or the next
pub at_most_more : (k n : ℕ) → k ≤ n + 1 → (k ≤ n) ⊎ (k ≡ n + 1)
at_most_more k n le = elim (cases_lt n k) [
  | inl above ↦ inr (omega arith)
  | inr below ↦ inl below
]

-- time goes on with a call
pub elapses_push : (first : List ℕ) (old new : List DoneCall) (call : DoneCall) → new ≡ old ++ call ∷ []
    → Elapses (length old) (length new) (ImageSince first old) (ImageSince first new) (IsImage first new)
elapses_push first old new call is = record {
  later = omega (arith, ap length is, length-append old (call ∷ []));
  nothing_else = λ t c le (k, from, upto, image). elim (cases_upto k upto) [
    | inl early ↦ inl (k, from, early, subst (λ (l : List DoneCall). IsImage first l c) (shorter k early) image)
    | inr last ↦ inr (subst (λ (l : List DoneCall). IsImage first l c)
        (take_all k new (omega (arith, ap length is, length-append old (call ∷ []), last))) image)
  ];
  keeps = λ t c le (k, from, upto, image). (
    k,
    from,
    omega (arith, ap length is, length-append old (call ∷ [])),
    subst (λ (l : List DoneCall). IsImage first l c) (sym (shorter k upto)) image,
  );
}
  where
    cases_upto : (k : ℕ) → k ≤ length new → (k ≤ length old) ⊎ (k ≡ length old + 1)
    cases_upto k upto =
        let long : length new ≡ length old + 1 = ap length is ∙ length-append old (call ∷ []) in
        at_most_more k (length old) (omega arith)

    shorter : (k : ℕ) → k ≤ length old → take k new ≡ take k old
    shorter k early = ap (take k) is ∙ take-append-le k old (call ∷ []) early

-- A call that was noted, of a disk of these first bytes.
module _ (first : List ℕ) (old : List DoneCall) where
  pub write_follows : (at : ℕ) (bytes : List ℕ) → at ≤ length (seen_after first old)
      → Follows (Torn at (length bytes)) (IsImage first old) (IsImage first (old ++ Write at bytes ∷ []))
  write_follows at bytes le c image =
      elim (image-push (λ d. d ≡ first) first old (Write at bytes) c image) [
        | inl after ↦ after
        | inr done ↦ record {
          from = seen_after first old;
          was = seen_is_image (λ d. d ≡ first) first old refl;
          did = subst (Torn at (length bytes) (seen_after first old)) (sym done)
              (written_torn at bytes (seen_after first old) le);
        }
      ]

  pub cut_follows : (size : ℕ) → Follows (CutTo size) (IsImage first old) (IsImage first (old ++ Cut size ∷ []))
  cut_follows size c image =
      elim (image-push (λ d. d ≡ first) first old (Cut size) c image) [
        | inl after ↦ after
        | inr done ↦ record {
          from = seen_after first old;
          was = seen_is_image (λ d. d ≡ first) first old refl;
          did = inr done;
        }
      ]

  pub sync_only : (c : List ℕ) → IsImage first (old ++ Sync ∷ []) c → c ≡ seen_after first old
  sync_only c image = image-push (λ d. d ≡ first) first old Sync c image

  pub sync_within : Within (IsImage first old) (IsImage first (old ++ Sync ∷ []))
  sync_within c image =
      subst (IsImage first old) (sym (sync_only c image)) (seen_is_image (λ d. d ≡ first) first old refl)

  pub elapses_noted : (call : DoneCall) → Elapses (length old) (length (old ++ call ∷ []))
      (ImageSince first old) (ImageSince first (old ++ call ∷ [])) (IsImage first (old ++ call ∷ []))
  elapses_noted call = elapses_push first old (old ++ call ∷ []) call refl

-- a write of a part is one of the ways in which a longer one is torn
pub part_torn : (at n : ℕ) (bytes file : List ℕ) → at ≤ length file → length bytes ≤ n
    → Torn at n file (written_at at bytes file)
part_torn at n bytes file le short =
    let torn = written_torn at bytes file le in
    let gap = n - length bytes in
    let whole : at + length bytes + gap ≡ at + n = omega arith in
    let cut : (l : List ℕ) → drop (at + n) l ≡ drop gap (drop (at + length bytes) l) =
    λ l. ap (λ k. drop k l) (sym whole) ∙ sym (drop-drop gap (at + length bytes) l) in
    record {
      before = torn.before;
      after = cut (written_at at bytes file) ∙ ap (drop gap) torn.after ∙ sym (cut file);
      no_shorter = torn.no_shorter;
      no_longer = omega (arith, torn.no_longer);
    }
