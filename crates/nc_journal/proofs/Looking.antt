-- Stretches of calls that only look.
use Rattle.std.proofs.Common.{◌≡◌, ◌⊎◌, inl, inr, ⊎_elim, ℕ, ◌+◌, ◌-◌, ◌<◌, ◌≤◌, List, [], ◌∷◌, ◌++◌, length, take, drop, slice_get, Option, Some, None, Result, Ok, Err, IfOk, refl, sym, ◌∙◌, ap, subst, arith, length-append, length-drop, get_or, IfSome}
use Rattle.std.proofs.lemmas.Bool.{cases_eq}
use Rattle.std.specs.Int.{from_be_bytes, w64}
use Rattle.std.proofs.lemmas.Nat.{be_bytes_8}
use Rattle.std.proofs.lemmas.Option.{slice_get_cases, slice_get_within}
use Rattle.nc_journal.specs.Format.{number, recorded}
use Rattle.nc_journal.proofs.Numbers.{length-number, length-recorded}
use Rattle.nc_journal.proofs.Repairs.{at_get}
use Rattle.nc_journal.proofs.Segments.{at_front, at_back, at_join, at_within, at_byte}
use Rattle.std.proofs.lemmas.List.{take_all, length-take, length-take-le, take-take, take_at, drop_at, drop-drop, drop-take, take-append-drop}
use Rattle.nc_outside.specs.Disks.{Same, Then, After, Within, Elapses, LeavesOnly, Passes, IsSettled}
use Rattle.nc_outside.proofs.Passing.{passes_as, passes_then, passes_quiet, passes_step}
use Rattle.nc_journal.specs.Files.{At}
use Rattle.nc_journal.specs.inner.Reading.{OnlyReads}

module _ {D : Type 0} (seen : D → Option (List ℕ)) (may_leave : D → List ℕ → Type 0) (moment : D → ℕ) (left_since : D → ℕ → List ℕ → Type 0)
    (only_now : (disk : D) (c : List ℕ) → left_since disk (moment disk) c → may_leave disk c) where
  pub looks_none : (disk : D) → OnlyReads seen may_leave moment left_since disk disk
  looks_none disk = record {
    same = refl;
    passes = record {
      outcomes = λ c left. record { from = c; was = left; did = refl };
      moments = record { later = omega arith; each = λ c left. record { from = c; was = only_now disk c left; did = refl }; before = λ t c le left. inl left };
    };
  }

  pub looks_once : (old new : D) → seen new ≡ seen old → Within (may_leave old) (may_leave new) → Elapses (moment old) (moment new) (left_since old) (left_since new) (may_leave new)
      → OnlyReads seen may_leave moment left_since old new
  looks_once old new same within time = record { same = same; passes = passes_quiet may_leave moment left_since only_now old new within time }

  pub looks_then : (old mid new : D) → OnlyReads seen may_leave moment left_since old mid → OnlyReads seen may_leave moment left_since mid new → OnlyReads seen may_leave moment left_since old new
  looks_then old mid new one two = record {
    same = two.same ∙ one.same;
    passes = passes_as may_leave moment left_since only_now (Then Same Same) Same old new (λ c d t. t.right ∙ t.left) (passes_then may_leave moment left_since only_now Same Same old mid new (λ c. refl) one.passes two.passes);
  }

-- the front of a buffer is what stands at a place of a file
pub record HasRead (at done : ℕ) (into file : List ℕ) : Type 0 where
  pub same : take done into ≡ take done (drop at file)
  pub within : done ≤ length file - at

pub read_none : (at : ℕ) (into file : List ℕ) → HasRead at 0 into file
read_none at into file = record { same = refl; within = omega arith }

-- as a list is taken in two steps
take_twice : (n m : ℕ) (xs : List ℕ) → take (n + m) xs ≡ take n xs ++ take m (drop n xs)
take_twice n m xs =
    sym (take-append-drop n (take (n + m) xs)) ∙ ap (λ (l : List ℕ). l ++ drop n (take (n + m) xs)) (take-take n (n + m) xs (omega arith))
    ∙ ap (λ (l : List ℕ). take n xs ++ l) (drop-take n m xs)

pub read_more : (at done count : ℕ) (old new file : List ℕ) → HasRead at done old file → take done new ≡ take done old → take count (drop done new) ≡ take count (drop (at + done) file)
    → count ≤ length file - (at + done) → HasRead at (done + count) new file
read_more at done count old new file had front next within = record {
  same = take_twice done count new ∙ ap (λ (l : List ℕ). l ++ take count (drop done new)) (front ∙ had.same)
      ∙ ap (λ (l : List ℕ). take done (drop at file) ++ l) (next ∙ ap (take count) (sym (drop-drop done at file))) ∙ sym (take_twice done count (drop at file));
  within = omega (arith, had.within);
}

pub read_whole : (at done : ℕ) (into file : List ℕ) → HasRead at done into file → length into ≡ done → At at into file × (0 < length into → at + length into ≤ length file)
read_whole at done into file had whole =
    (record { is = ap (λ n. take n (drop at file)) whole ∙ sym had.same ∙ take_all done into (omega arith) }, λ some. omega (arith, had.within))

pub number_within : (at n : ℕ) (file : List ℕ) → At at (number n) file → at + 8 ≤ length file
number_within at n file stands = omega (arith, length-number n, at_within at (number n) file stands (omega (arith, length-number n)))

pub at_same : (at : ℕ) (xs ys file : List ℕ) → length xs ≡ length ys → At at xs file → At at ys file → xs ≡ ys
at_same at xs ys file long one two = sym one.is ∙ ap (λ n. take n (drop at file)) long ∙ two.is

-- a part of bytes that stand somewhere
pub part_at : (at from count : ℕ) (bytes file : List ℕ) → from + count ≤ length bytes → At at bytes file → At (at + from) (take count (drop from bytes)) file
part_at at from count bytes file within stands =
    let split : bytes ≡ take from bytes ++ (take count (drop from bytes) ++ drop count (drop from bytes)) =
    sym (take-append-drop from bytes) ∙ ap (λ (l : List ℕ). take from bytes ++ l) (sym (take-append-drop count (drop from bytes))) in
    let on : At at (take from bytes ++ (take count (drop from bytes) ++ drop count (drop from bytes))) file = subst (λ (l : List ℕ). At at l file) split stands in
    at_front (at + from) (take count (drop from bytes)) (drop count (drop from bytes)) file
    (subst (λ k. At (at + k) (take count (drop from bytes) ++ drop count (drop from bytes)) file) (length-take-le from bytes (omega arith))
    (at_back at (take from bytes) (take count (drop from bytes) ++ drop count (drop from bytes)) file on))

pub parts_at : (at from count : ℕ) (bytes file : List ℕ) → from + count ≤ length bytes → At at (take from bytes) file → At (at + from) (take count (drop from bytes)) file → At at (take (from + count) bytes) file
parts_at at from count bytes file within front next =
    subst (λ (l : List ℕ). At at l file) (sym (take_twice from count bytes))
    (at_join at (take from bytes) (take count (drop from bytes)) file front
    (subst (λ k. At (at + k) (take count (drop from bytes)) file) (sym (length-take-le from bytes (omega arith))) next))

pub none_past : (file : List ℕ) (at : ℕ) (byte : Option ℕ) → byte ≡ slice_get file at → byte ≡ None → length file ≤ at
none_past file at byte read none = elim (slice_get_cases file at).1 [
  | inl found ↦ let wrong : Some found.0 ≡ None = sym found.2 ∙ sym read ∙ none in absurd (cc)
  | inr past ↦ past.0
]

-- the parts of a record that stands somewhere
pub record RecordParts (at : ℕ) (body file : List ℕ) : Type 0 where
  pub gate : slice_get file at ≡ Some 1
  pub long : At (at + 1) (number (length body)) file
  pub stands : At (at + 9) body file
  pub within : at + 9 + length body ≤ length file

pub record_parts : (at : ℕ) (body file : List ℕ) → At at (recorded body) file → RecordParts at body file
record_parts at body file stands =
    let behind : At (at + 1) (number (length body) ++ body) file = at_back at (1 ∷ []) (number (length body) ++ body) file stands in
    let there : at + 1 + length (number (length body)) ≡ at + 9 = omega (arith, length-number (length body)) in
    record {
      gate = at_get at 1 file (at_front at (1 ∷ []) (number (length body) ++ body) file stands);
      long = at_front (at + 1) (number (length body)) body file behind;
      stands = subst (λ k. At k body file) there (at_back (at + 1) (number (length body)) body file behind);
      within = omega (arith, length-recorded body, at_within at (recorded body) file stands (omega (arith, length-recorded body)));
    }

pub if_ok_also : {T E : Type 0} (result : Result T E) (P Q : T → Type 0) → IfOk result P → ((x : T) → P x → Q x) → IfOk result Q
if_ok_also (Ok x) P Q p also = also x p
if_ok_also (Err e) P Q p also = tt

pub get_at : (place byte : ℕ) (file : List ℕ) → slice_get file place ≡ Some byte → At place (byte ∷ []) file
get_at place byte file read =
    let found = at_byte place file (slice_get_within file place byte read) in
    let e : Some found.0 ≡ Some byte = sym (at_get place found.0 file found.1) ∙ read in
    let same : found.0 ≡ byte = cc in
    subst (λ b. At place (b ∷ []) file) same found.1

pub number_made : (n : ℕ) (bytes : List ℕ) → length bytes ≡ 8 → ((i : ℕ) → get_or bytes i 0 < 256) → n ≡ from_be_bytes w64 bytes → number n ≡ bytes
unfolding number
number_made n bytes long fits is = be_bytes_8 bytes n long fits is

pub record_made : (at n : ℕ) (body file : List ℕ) → slice_get file at ≡ Some 1 → At (at + 1) (number n) file → length body ≡ n → At (at + 9) body file → At at (recorded body) file
record_made at n body file gate long is stands =
    let number_on : At (at + 1) (number (length body)) file = subst (λ k. At (at + 1) (number k) file) (sym is) long in
    let there : at + 9 ≡ at + 1 + length (number (length body)) = omega (arith, length-number (length body)) in
    at_join at (1 ∷ []) (number (length body) ++ body) file (get_at at 1 file gate)
    (at_join (at + 1) (number (length body)) body file number_on (subst (λ k. At k body file) there stands))

pub if_some_is : (o : Option ℕ) (n : ℕ) (P : ℕ → Type 0) → o ≡ Some n → IfSome o P → P n
if_some_is o n P is p = subst (λ (q : Option ℕ). IfSome q P) is p

-- one byte more at the front of a file that is as some bytes are
pub unlike_more : (at byte : ℕ) (bytes file : List ℕ) → at < length bytes → slice_get bytes at ≡ Some byte
    → At 0 (take at bytes) file → slice_get file at ≡ Some byte → At 0 (take (at + 1) bytes) file
unlike_more at byte bytes file within item front read =
    let next : take 1 (drop at bytes) ≡ byte ∷ [] = (get_at at byte bytes item).is in
    parts_at 0 at 1 bytes file (omega arith) front
    (subst (λ (l : List ℕ). At (0 + at) l file) (sym next) (subst (λ k. At k (byte ∷ []) file) (omega arith) (get_at at byte file read)))

-- what is no number is none
pub none_here : (o : Option ℕ) → ((n : ℕ) → ¬ (o ≡ Some n)) → o ≡ None
none_here None none = refl
none_here (Some n) none = absurd (none n refl)
