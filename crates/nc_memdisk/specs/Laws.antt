-- The laws of a disk, of the disk in memory.
use Rattle.std.specs.Prelude.{◌≡◌, ℕ, ◌≤◌, List, [], ◌∷◌, length, Some, refl}
use Rattle.std.proofs.Common.{inr, sym, subst, arith}
use Rattle.std.proofs.lemmas.List.{take_all}
use Rattle.nc_memdisk.specs.declared.done.DoneCall.{DoneCall}
use Rattle.nc_memdisk.specs.declared.done.DoneCall.TheVariants.{Write, Cut, Sync}
use Rattle.nc_memdisk.specs.Images.{seen_one, seen_after, image_one, image_after, IsImage, ImageSince}

-- what a call is done to is an image of it
pub one_is_image : (call : DoneCall) (images : List ℕ → Type 0) (seen : List ℕ)
    → image_one call images seen (seen_one call seen)
one_is_image (Write at bytes) images seen = inr refl
one_is_image (Cut size) images seen = inr refl
one_is_image Sync images seen = refl

-- what a read gives is an image
pub seen_is_image : (images : List ℕ → Type 0) (seen : List ℕ) (log : List DoneCall)
    → images seen → image_after images seen log (seen_after seen log)
seen_is_image images seen [] is = is
seen_is_image images seen (call ∷ log) is =
    seen_is_image (image_one call images seen) (seen_one call seen) log (one_is_image call images seen)

-- what the disk tells is an image
pub told_is_image : (first : List ℕ) (log : List DoneCall) (bytes : List ℕ)
    → Some (seen_after first log) ≡ Some bytes → IsImage first log bytes
told_is_image first log bytes is =
    let e : seen_after first log ≡ bytes = cc in
    subst (IsImage first log) e (seen_is_image (λ d. d ≡ first) first log refl)

-- an image now is one since any moment
pub now_is_since : (first : List ℕ) (log : List DoneCall) (t : ℕ) (c : List ℕ)
    → t ≤ length log → IsImage first log c → ImageSince first log t c
now_is_since first log t c le image = (
  length log,
  le,
  omega arith,
  subst (λ (l : List DoneCall). IsImage first l c) (sym (take_all (length log) log (omega arith))) image,
)

-- an image since now is one now
pub since_is_now : (first : List ℕ) (log : List DoneCall) (c : List ℕ)
    → ImageSince first log (length log) c → IsImage first log c
since_is_now first log c (k, from, upto, image) =
    subst (λ (l : List DoneCall). IsImage first l c) (take_all k log from) image
