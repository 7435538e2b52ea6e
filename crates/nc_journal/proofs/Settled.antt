-- A file that is all on the disk, after calls that only look.
use Rattle.std.proofs.Common.{◌≡◌, ◌⊎◌, inl, inr, ⊎_elim, ℕ, ◌+◌, ◌≤◌, List, [], ◌∷◌, length, Contains, Option, Some, None, IfSome, refl, sym, ◌∙◌, ap, subst, arith}
use Rattle.nc_outside.specs.Disks.{Same, After, LeavesOnly, Passes, IsSettled}
use Rattle.nc_journal.specs.Files.{Holds, HoldsAmong}
use Rattle.nc_journal.specs.Journal.{allowed}
use Rattle.nc_journal.proofs.Standing.{among_first, only_as}
use Rattle.nc_journal.specs.inner.Reading.{OnlyReads}
use Rattle.nc_journal.proofs.NewFiles.{settled_moments}

pub holds_among : (header : List ℕ) (bodies : List (List ℕ)) (doubt : Option (List (List ℕ))) (file : List ℕ) → Holds header bodies doubt file → HoldsAmong header (allowed bodies doubt) file
holds_among header bodies doubt file holds = record { bodies = bodies; doubt = doubt; holds = holds; bodies_allowed = among_first bodies doubt; doubt_allowed = some_among doubt }
  where
    some_among : (d : Option (List (List ℕ))) → IfSome d (Contains (allowed bodies d))
    some_among None = tt
    some_among (Some others) = (1, omega arith, refl)

module _ {D : Type 0} (seen : D → Option (List ℕ)) (may_leave : D → List ℕ → Type 0) (moment : D → ℕ) (left_since : D → ℕ → List ℕ → Type 0) (old new : D) (file : List ℕ) where
  pub looked_settled : OnlyReads seen may_leave moment left_since old new → IsSettled seen may_leave old file → IsSettled seen may_leave new file
  looked_settled only_reads settled = record {
    told = only_reads.same ∙ settled.told;
    durable = λ c left. let after = only_reads.passes.outcomes c left in after.did ∙ settled.durable after.from after.was;
  }

  pub looked_moments : (P : List ℕ → Type 0) → OnlyReads seen may_leave moment left_since old new → IsSettled seen may_leave old file → P file → LeavesOnly moment left_since old new P
  looked_moments P only_reads settled p = settled_moments seen may_leave moment left_since old new file Same P settled only_reads.passes (λ c same. subst P (sym same) p)

  -- a first sync: what is left before it is what was left at the start
  pub first_moments : (P : List ℕ → Type 0) → OnlyReads seen may_leave moment left_since old new → ((c : List ℕ) → may_leave old c → P c) → LeavesOnly moment left_since old new P
  first_moments P only_reads also = only_as moment left_since old new (After Same (may_leave old)) P (λ c after. subst P (sym after.did) (also after.from after.was)) only_reads.passes.moments
