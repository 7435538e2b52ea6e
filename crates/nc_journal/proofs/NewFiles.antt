-- What a crash leaves while a new file is made.
use Rattle.std.proofs.Common.{◌≡◌, ◌≢◌, ◌⊎◌, inl, inr, ⊎_elim, ℕ, zero, suc, ◌+◌, ◌<◌, ◌≤◌, ◌^◌, Bool, false, List, [], ◌∷◌, ◌++◌, length, take, drop, All, Option, Some, None, Result, Ok, Err, OnOk, refl, sym, ◌∙◌, ap, subst, arith, lit<, length-append}
use Rattle.std.proofs.lemmas.Bool.{cases_eq}
use Rattle.std.proofs.lemmas.List.{append-nil, take_all, drop_all}
use Rattle.nc_outside.specs.Disks.{Told, Torn, CutTo, After, LeavesOnly, Passes, IsSettled, written_at}
use Rattle.nc_outside.proofs.Passing.{passes_as, passes_step}
use Rattle.nc_journal.specs.Format.{mark, number, blank, area, gate_place}
use Rattle.nc_journal.specs.Files.{At, HasArea, Holds, IsNew, short, unset, torn}
use Rattle.nc_journal.specs.Images.{IsClean}
use Rattle.nc_journal.proofs.Segments.{at_front, at_back}
use Rattle.nc_journal.proofs.Numbers.{length-mark, length-number}
use Rattle.nc_journal.proofs.Images.{clean_holds}
use Rattle.nc_journal.proofs.Standing.{only_as, only_then}
use Rattle.nc_journal.specs.Opening.{StartsNew, still_new, made}

-- cut to nothing or not, a new file is new
pub cut_new : (header old new : List ℕ) → IsNew header old → CutTo 0 old new → IsNew header new
cut_new header old new is (inl same) = subst (IsNew header) (sym same) is
cut_new header old new is (inr empty) = short (omega (arith, ap length empty))

-- F alone may be torn as it likes
pub first_new : (header new : List ℕ) → Torn 0 1 [] new → IsNew header new
first_new header new t = short (omega (arith, t.no_longer))

-- what stands behind an F that is not set does not count
pub behind_new : (header new : List ℕ) (n : ℕ) → Torn 1 n (0 ∷ []) new → IsNew header new
behind_new header new n t = unset (record { is = t.before })

-- all of a new file
pub whole_clean : (header : List ℕ) → IsClean header false 26 [] (1 ∷ blank header)
whole_clean header =
    let file = 1 ∷ blank header in
    let slots = number 26 ++ (number 0 ++ (header ++ 0 ∷ [])) in
    let all : At 0 (1 ∷ blank header) file = record { is = take_all (length file) file (omega arith) } in
    let chosen_on : At 9 (0 ∷ [] ++ slots) file = subst (λ k. At k (0 ∷ [] ++ slots) file) (omega (arith, length-mark)) (at_back 0 (1 ∷ mark) (0 ∷ [] ++ slots) file all) in
    let first_on : At 10 slots file = at_back 9 (0 ∷ []) slots file chosen_on in
    let second_on : At 18 (number 0 ++ (header ++ 0 ∷ [])) file =
    subst (λ k. At k (number 0 ++ (header ++ 0 ∷ [])) file) (omega (arith, length-number 26)) (at_back 10 (number 26) (number 0 ++ (header ++ 0 ∷ [])) file first_on) in
    let header_on : At 26 (header ++ 0 ∷ []) file = subst (λ k. At k (header ++ 0 ∷ []) file) (omega (arith, length-number 0)) (at_back 18 (number 0) (header ++ 0 ∷ []) file second_on) in
    let same : area header [] ≡ header = append-nil header in
    record {
      chosen = at_front 9 (0 ∷ []) slots file chosen_on;
      live = record {
        opened = at_front 0 (1 ∷ mark) (0 ∷ [] ++ slots) file all;
        slot = at_front 10 (number 26) (number 0 ++ (header ++ 0 ∷ [])) file first_on;
        behind = omega arith;
        fits = lit< tt;
        area = subst (λ (l : List ℕ). At 26 l file) (sym same) (at_front 26 header (0 ∷ []) file header_on);
        small = λ k d within. absurd (omega arith);
      };
      closed = subst (λ k. At k (0 ∷ []) file) (ap (λ (l : List ℕ). 26 + length l) (sym same)) (at_back 26 header (0 ∷ []) file header_on);
    }

-- F may be torn with all of the file behind it
pub last_new : (header new : List ℕ) → Torn 0 1 (0 ∷ blank header) new → StartsNew header new
last_new header [] t = absurd (omega (arith, t.no_shorter))
last_new header (f ∷ rest) t = elim (cases_eq f 0) [
  | inl zero_is ↦ still_new (unset (record { is = ap (λ b. b ∷ []) zero_is }))
  | inr not_zero ↦ elim (cases_eq f 1) [
    | inl one_is ↦
        let whole : f ∷ rest ≡ 1 ∷ blank header = (λ i. one_is i ∷ t.after i) in
        made (subst (Holds header [] None) (sym whole) (clean_holds header false 26 [] (1 ∷ blank header) (whole_clean header)))
    | inr not_one ↦ still_new (torn f not_zero not_one (ap (λ (l : List ℕ). f ∷ l) t.after))
  ]
]

pub write_rest : (rest : List ℕ) → written_at 1 rest (0 ∷ []) ≡ 0 ∷ rest
write_rest rest = ap (λ (l : List ℕ). 0 ∷ (rest ++ l)) (drop_all (1 + length rest) (0 ∷ []) (omega arith)) ∙ ap (λ (l : List ℕ). 0 ∷ l) (append-nil rest)

-- a stretch from a file that is all on the disk
pub settled_moments : {D : Type 0} (seen : D → Option (List ℕ)) (may_leave : D → List ℕ → Type 0) (moment : D → ℕ) (left_since : D → ℕ → List ℕ → Type 0)
    (old new : D) (file : List ℕ) (step : List ℕ → List ℕ → Type 0) (P : List ℕ → Type 0) → IsSettled seen may_leave old file → Passes may_leave moment left_since step old new
    → ((c : List ℕ) → step file c → P c) → LeavesOnly moment left_since old new P
settled_moments seen may_leave moment left_since old new file step P settled passes also =
    only_as moment left_since old new (After step (may_leave old)) P (λ c after. also c (subst (λ f. step f c) (settled.durable after.from after.was) after.did)) passes.moments

pub on_ok_also : {T E : Type 0} (result : Result T E) (P Q : Type 0) → OnOk result P → (P → Q) → OnOk result Q
on_ok_also (Ok x) P Q p also = also p
on_ok_also (Err e) P Q p also = tt
