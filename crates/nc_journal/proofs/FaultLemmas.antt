-- Faults that are handed on.
use Rattle.std.proofs.Common.{◌≡◌, ◌≢◌, ℕ, nat_eq, List, Option, Result, Ok, Err, OnErr, refl, sym, ◌∙◌, ap, subst}
use Rattle.nc_journal.specs.declared.fault.JournalFault.{JournalFault}
use Rattle.nc_journal.specs.declared.fault.JournalFault.TheVariants.{DiskFault, Damaged, OtherHeader, Memory}
use Rattle.nc_outside.specs.Disks.{After, Same, Told}
use Rattle.nc_journal.specs.Refusing.{HasNoReading, HasNoRecord, IsAsItWas, IsDamaged, IsLeftAlone, IsRefused, bad_record}
use Rattle.nc_journal.proofs.Standing.{only_as}
use Rattle.nc_journal.specs.inner.Headers.{IsStuck}
use Rattle.nc_journal.specs.inner.Reading.{OnlyReads}
use Rattle.nc_journal.specs.Opening.{IsFront, IsSoFar}
use Rattle.nc_journal.specs.inner.Faults.{OnDamaged, OnRefused, OnStopped}

refused_err : (T S : Type 0) (e : JournalFault) (P Q : JournalFault → Type 0)
    → (let r : Result T JournalFault = Err e in OnRefused r P) → ((f : JournalFault) → P f → Q f)
    → (let r : Result S JournalFault = Err e in OnRefused r Q)
refused_err T S DiskFault P Q p also = tt
refused_err T S (Damaged at) P Q p also = also (Damaged at) p
refused_err T S (OtherHeader at) P Q p also = also (OtherHeader at) p
refused_err T S Memory P Q p also = tt

-- why one call refused a file is why another does
pub refused_on : (T S : Type 0) (result : Result S JournalFault) (e y : JournalFault) (P Q : JournalFault → Type 0)
    → result ≡ Err y → y ≡ e → (let r : Result T JournalFault = Err e in OnRefused r P)
    → ((f : JournalFault) → P f → Q f) → OnRefused result Q
refused_on T S result e y P Q is same p also =
    subst (λ (r : Result S JournalFault). OnRefused r Q)
    (sym (is ∙ ap (λ (x : JournalFault). let r : Result S JournalFault = Err x in r) same)) (refused_err T S e P Q p also)

both_err : (T S : Type 0) (e : JournalFault) (P Q : JournalFault → Type 0) (R : Type 0)
    → (let r : Result T JournalFault = Err e in OnRefused r P) → (let r : Result T JournalFault = Err e in OnDamaged r R)
    → ((f : JournalFault) → P f → R → Q f) → (let r : Result S JournalFault = Err e in OnRefused r Q)
both_err T S DiskFault P Q R p d also = tt
both_err T S (Damaged at) P Q R p d also = also (Damaged at) p d
both_err T S (OtherHeader at) P Q R p d also = also (OtherHeader at) p d
both_err T S Memory P Q R p d also = tt

-- the same, of two things that one call says
pub refused_both : (T S : Type 0) (result : Result S JournalFault) (e y : JournalFault) (P Q : JournalFault → Type 0)
    (R : Type 0) → result ≡ Err y → y ≡ e → (let r : Result T JournalFault = Err e in OnRefused r P)
    → (let r : Result T JournalFault = Err e in OnDamaged r R) → ((f : JournalFault) → P f → R → Q f)
    → OnRefused result Q
refused_both T S result e y P Q R is same p d also =
    subst (λ (r : Result S JournalFault). OnRefused r Q)
    (sym (is ∙ ap (λ (x : JournalFault). let r : Result S JournalFault = Err x in r) same))
    (both_err T S e P Q R p d also)

pub refused_map : (T : Type 0) (result : Result T JournalFault) (P Q : JournalFault → Type 0) → OnRefused result P
    → ((f : JournalFault) → P f → Q f) → OnRefused result Q
refused_map T (Ok it) P Q p also = tt
refused_map T (Err DiskFault) P Q p also = tt
refused_map T (Err (Damaged at)) P Q p also = also (Damaged at) p
refused_map T (Err (OtherHeader at)) P Q p also = also (OtherHeader at) p
refused_map T (Err Memory) P Q p also = tt

-- why a file is refused, whatever the fault is
pub refused_told : (T : Type 0) (e : JournalFault) (header : List ℕ) (seen : Option (List ℕ))
    → (let r : Result T JournalFault = Err e in OnRefused r (λ f. Told seen (IsRefused header f)))
    → Told seen (IsRefused header e)
refused_told T DiskFault header seen p = λ file told. tt
refused_told T (Damaged at) header seen p = p
refused_told T (OtherHeader at) header seen p = p
refused_told T Memory header seen p = λ file told. tt

-- the records could not be read past this place
pub stuck_at : (header : List ℕ) (place at : ℕ) (f : JournalFault) (file : List ℕ) (done : List (List ℕ))
    → f ≡ Damaged at → IsSoFar header place done file at → HasNoRecord at file → IsStuck header place f file
stuck_at header place at f file done is so_far none =
    subst (λ (x : JournalFault). IsStuck header place x file) (sym is) (done, so_far, none)

pub refused_here : (header : List ℕ) (at : ℕ) (f : JournalFault) (file : List ℕ) → f ≡ Damaged at
    → IsDamaged header at file → IsRefused header f file
refused_here header at f file is damaged = subst (λ (x : JournalFault). IsRefused header x file) (sym is) damaged

pub stuck_refused : (header : List ℕ) (byte place : ℕ) (f : JournalFault) (file : List ℕ)
    → IsFront file byte (nat_eq byte 1) place → IsStuck header place f file → IsRefused header f file
stuck_refused header byte place DiskFault file front stuck = tt
stuck_refused header byte place (Damaged at) file front stuck = bad_record byte place stuck.0 front stuck.1 stuck.2
stuck_refused header byte place (OtherHeader at) file front stuck = absurd stuck
stuck_refused header byte place Memory file front stuck = tt

pub on_stopped : (T : Type 0) (result : Result T JournalFault) (P : Type 0) → P → OnStopped result P
on_stopped T (Ok it) P p = tt
on_stopped T (Err DiskFault) P p = tt
on_stopped T (Err (Damaged at)) P p = p
on_stopped T (Err (OtherHeader at)) P p = p
on_stopped T (Err Memory) P p = p

pub stopped_map : (T : Type 0) (result : Result T JournalFault) (P Q : Type 0) → OnStopped result P → (P → Q)
    → OnStopped result Q
stopped_map T (Ok it) P Q p also = tt
stopped_map T (Err DiskFault) P Q p also = tt
stopped_map T (Err (Damaged at)) P Q p also = also p
stopped_map T (Err (OtherHeader at)) P Q p also = also p
stopped_map T (Err Memory) P Q p also = also p

pub stopped_not : (T : Type 0) (e : JournalFault) (P : Type 0) → (let r : Result T JournalFault = Err e in OnStopped r P)
    → e ≢ DiskFault → P
stopped_not T DiskFault P p other = absurd (other refl)
stopped_not T (Damaged at) P p other = p
stopped_not T (OtherHeader at) P p other = p
stopped_not T Memory P p other = p

pub err_map : {T E : Type 0} (result : Result T E) (P Q : Type 0) → OnErr result P → (P → Q) → OnErr result Q
err_map (Ok it) P Q p also = tt
err_map (Err e) P Q p also = also p

-- calls that only read leave a file alone
reads_alone : {D : Type 0} (seen : D → Option (List ℕ)) (may_leave : D → List ℕ → Type 0) (moment : D → ℕ)
    (left_since : D → ℕ → List ℕ → Type 0) (start end : D) → OnlyReads seen may_leave moment left_since start end
    → IsAsItWas seen may_leave moment left_since start end
reads_alone seen may_leave moment left_since start end reads = record {
  same = reads.same;
  images = λ c left. was c (reads.passes.outcomes c left);
  moments = only_as moment left_since start end (After Same (may_leave start)) (may_leave start) was reads.passes.moments;
}
  where
    was : (c : List ℕ) → After Same (may_leave start) c → may_leave start c
    was c after = subst (may_leave start) (sym after.did) after.was

pub left_alone : {D : Type 0} (T : Type 0) (e : JournalFault) (header : List ℕ) (seen : D → Option (List ℕ))
    (may_leave : D → List ℕ → Type 0) (moment : D → ℕ) (left_since : D → ℕ → List ℕ → Type 0) (start end : D)
    → (let r : Result T JournalFault = Err e in OnStopped r (OnlyReads seen may_leave moment left_since start end))
    → Told (seen start) (λ file. HasNoReading header file → OnlyReads seen may_leave moment left_since start end)
    → IsLeftAlone header seen may_leave moment left_since e start end
left_alone T DiskFault header seen may_leave moment left_since start end left spared =
    λ file told none. reads_alone seen may_leave moment left_since start end (spared file told none)
left_alone T (Damaged at) header seen may_leave moment left_since start end left spared =
    reads_alone seen may_leave moment left_since start end left
left_alone T (OtherHeader at) header seen may_leave moment left_since start end left spared =
    reads_alone seen may_leave moment left_since start end left
left_alone T Memory header seen may_leave moment left_since start end left spared =
    reads_alone seen may_leave moment left_since start end left
