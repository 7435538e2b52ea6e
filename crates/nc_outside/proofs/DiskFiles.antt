-- Lists of bytes as files.
use Rattle.std.proofs.Common.{◌≡◌, ◌≢◌, ◌⊎◌, inl, inr, ℕ, ◌+◌, ◌-◌, ◌<◌, ◌≤◌, max, Bool, true, false, List, ◌++◌, length, take, drop, get_or, slice_get, Option, Some, None, is_some, refl, sym, ◌∙◌, ap, subst, arith, length-append, length-drop, append_assoc}
use Rattle.std.proofs.lemmas.List.{length-take, length-take-le, take_at, drop_at, get_or-take, get_or-drop}
use Rattle.std.proofs.lemmas.Option.{slice_get-get_or}
use Rattle.nc_outside.specs.Disks.{Told, Torn, written_at}

-- what a disk tells after a call it told before
pub told_before : (old new : Option (List ℕ)) → is_some new ≡ is_some old → (bytes : List ℕ) → new ≡ Some bytes
    → (file : List ℕ) × (old ≡ Some file)
told_before (Some file) new same bytes is = (file, refl)
told_before None new same bytes is = let wrong : true ≡ false = sym (ap is_some is) ∙ same in absurd (cc)

pub length-written_at : (place : ℕ) (bytes old : List ℕ) → place ≤ length old
    → length (written_at place bytes old) ≡ max (length old) (place + length bytes)
length-written_at place bytes old le =
    let front = length-take-le place old le in
    let rest = length-drop (place + length bytes) old in
    let whole = length-append (take place old) (bytes ++ drop (place + length bytes) old) in
    let back = length-append bytes (drop (place + length bytes) old) in
    omega arith

-- a place of a file is one of the file after a write
pub stays_within : (other place : ℕ) (bytes : List ℕ) (old new : Option (List ℕ)) → is_some new ≡ is_some old
    → Told old (λ file. place ≤ length file) → Told old (λ file. new ≡ Some (written_at place bytes file))
    → Told old (λ file. other ≤ length file) → Told new (λ file. other ≤ length file)
stays_within other place bytes old new same at_place wrote within file is =
    let was = told_before old new same file is in
    let both : Some file ≡ Some (written_at place bytes was.0) = sym is ∙ wrote was.0 was.1 in
    let now : file ≡ written_at place bytes was.0 = cc in
    omega (arith, within was.0 was.1, ap length now, length-written_at place bytes was.0 (at_place was.0 was.1))

-- one byte that was read
pub byte_read : (into bytes : List ℕ) (n place : ℕ) → 0 < n → n ≤ length bytes - place
    → take n into ≡ take n (drop place bytes) → slice_get bytes place ≡ Some (get_or into 0 0)
byte_read into bytes n place some within same =
    slice_get-get_or bytes place 0 (omega arith) ∙ ap Some (
    ap (λ k. get_or bytes k 0) (omega arith) ∙ sym (get_or-drop place bytes 0 0)
    ∙ sym (get_or-take n (drop place bytes) 0 0 some) ∙ ap (λ (l : List ℕ). get_or l 0 0) (sym same)
    ∙ get_or-take n into 0 0 some)

-- a write that is done is one of the ways to be torn
pub written_torn : (at : ℕ) (bytes file : List ℕ) → at ≤ length file
    → Torn at (length bytes) file (written_at at bytes file)
written_torn at bytes file le =
    let rest = drop (at + length bytes) file in
    let long = length-written_at at bytes file le in
    let front = length-take-le at file le in
    record {
      before = take_at (take at file) (bytes ++ rest) at front;
      after = ap (drop (at + length bytes)) (sym (append_assoc (take at file) bytes rest))
          ∙ drop_at (take at file ++ bytes) rest (at + length bytes)
          (length-append (take at file) bytes ∙ ap (λ k. k + length bytes) front);
      no_shorter = omega arith;
      no_longer = omega arith;
    }
