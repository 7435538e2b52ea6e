-- What a pick leaves is a crash image.
use Rattle.std.proofs.Common.{◌≡◌, inl, inr, ℕ, ◌+◌, ◌<◌, ◌≤◌, ◌/◌, Bool, true, false, List, [], ◌∷◌, ◌++◌, length, take, get_or, refl, sym, ◌∙◌, ap, arith}
use Rattle.std.specs.Prelude.{if◌then◌else◌, ◌==◌, ◌||◌, nat_lt}
use Rattle.std.proofs.lemmas.Bool.{ltb-false}
use Rattle.std.proofs.lemmas.List.{length-take, length-replicate, take_more}
use Rattle.nc_outside.specs.Disks.{Torn, CutTo}
use Rattle.nc_outside.proofs.Passing.{torn_reflexive}
use Rattle.nc_memdisk.specs.declared.done.DoneCall.{DoneCall}
use Rattle.nc_memdisk.specs.declared.done.DoneCall.TheVariants.{Write, Cut, Sync}
use Rattle.nc_memdisk.specs.Images.{seen_one, seen_after, image_one, image_after, IsImage}
use Rattle.nc_memdisk.specs.Picks.{part, picked_one, picked}
use Rattle.nc_memdisk.proofs.ImageLemmas.{seen-push, part_torn}

-- a fact of both ways of a choice is one of the choice
pub if_elim : (b : Bool) (P : List ℕ → Type 0) (xs ys : List ℕ)
    → (b ≡ true → P xs) → (b ≡ false → P ys) → P (if b then xs else ys)
if_elim true P xs ys holds fails = holds refl
if_elim false P xs ys holds fails = fails refl

pub part_short : (pick : ℕ) (bytes : List ℕ) → length (part pick bytes) ≤ length bytes
part_short pick bytes =
    if_elim (pick == 0) IsShort [] _ (λ e. omega arith) (λ e.
    if_elim (pick == 1) IsShort bytes _ (λ f. omega arith) (λ f.
    if_elim (pick == 2) IsShort (take (length bytes / 2) bytes) _
    (λ g. omega (arith, length-take (length bytes / 2) bytes))
    (λ g. omega (arith, length-replicate {A = ℕ} (length bytes) (if pick == 3 then 255 else 1)))))
  where
    IsShort : List ℕ → Type 0
    IsShort l = length l ≤ length bytes

-- what one call leaves of an image, by a pick
pub picked_one_is_image : (pick : ℕ) (call : DoneCall) (images : List ℕ → Type 0) (image seen : List ℕ)
    → images image → image_one call images seen (picked_one pick call image seen)
picked_one_is_image pick (Write at bytes) images image seen is =
    inl (record {
      from = image;
      was = is;
      did = if_elim (nat_lt (length image) at) (Torn at (length bytes) image) image _
          (λ e. torn_reflexive at (length bytes) image)
          (λ e. part_torn at (length bytes) (part pick bytes) image
          (ltb-false (length image) at e) (part_short pick bytes));
    })
picked_one_is_image pick (Cut size) images image seen is =
    inl (record {
      from = image;
      was = is;
      did = if_elim (pick == 1 || pick == 3) (CutTo size image) (take size image) image (λ e. inr refl) (λ e. inl refl);
    })
picked_one_is_image pick Sync images image seen is = refl

pub picked_is_image : (pick : ℕ) (images : List ℕ → Type 0) (image seen : List ℕ) (log : List DoneCall)
    → images image → image_after images seen log (picked pick image seen log)
picked_is_image pick images image seen [] is = is
picked_is_image pick images image seen (call ∷ log) is =
    picked_is_image pick (image_one call images seen) (picked_one pick call image seen) (seen_one call seen) log
    (picked_one_is_image pick call images image seen is)

-- what a pick leaves of a file that was durable at first
pub pick_is_image : (pick : ℕ) (first : List ℕ) (log : List DoneCall) → IsImage first log (picked pick first first log)
pick_is_image pick first log = picked_is_image pick (λ d. d ≡ first) first first log refl

-- one call more
pub picked-push : (pick : ℕ) (image seen : List ℕ) (log : List DoneCall) (call : DoneCall)
    → picked pick image seen (log ++ call ∷ [])
    ≡ picked_one pick call (picked pick image seen log) (seen_after seen log)
picked-push pick image seen [] call = refl
picked-push pick image seen (first ∷ log) call =
    picked-push pick (picked_one pick first image seen) (seen_one first seen) log call

-- one call more of a list of calls
pub picked_item : (pick : ℕ) (first : List ℕ) (log : List DoneCall) (i : ℕ) (call : DoneCall)
    (image seen next later : List ℕ)
    → i < length log → call ≡ get_or log i call
    → (image ≡ picked pick first first (take i log)) × (seen ≡ seen_after first (take i log))
    → next ≡ picked_one pick call image seen → later ≡ seen_one call seen
    → (next ≡ picked pick first first (take (i + 1) log)) × (later ≡ seen_after first (take (i + 1) log))
picked_item pick first log i call image seen next later within is had steps sees =
    let more : take i log ++ call ∷ [] ≡ take (i + 1) log =
    ap (λ (e : DoneCall). take i log ++ e ∷ []) is ∙ sym (take_more log i call within) in (
      steps ∙ ap (λ l. picked_one pick call l seen) had.0
          ∙ ap (λ l. picked_one pick call (picked pick first first (take i log)) l) had.1
          ∙ sym (picked-push pick first first (take i log) call) ∙ ap
          (λ (l : List DoneCall). picked pick first first l) more,
      sees ∙ ap (seen_one call) had.1 ∙ sym (seen-push first (take i log) call)
          ∙ ap (λ (l : List DoneCall). seen_after first l) more,
    )
