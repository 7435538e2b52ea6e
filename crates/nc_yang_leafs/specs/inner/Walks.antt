-- Plans that are met from one, one after another.
use Rattle.std.specs.Prelude.{◌≡◌, ◌<◌, ◌⊎◌, ℕ, Bool, true, List, ◌++◌, Some, slice_get, Contains}
use Rattle.std.specs.BTreeSet.{contains}
use Rattle.std.specs.Ordering.{nat_cmp}
use Rattle.nc_yang_types.specs.declared.planned.Finding.{Finding}
use Rattle.nc_yang_types.specs.declared.planned.Meanings.{Meanings}
use Rattle.nc_yang_leafs.specs.Marks.{is_marked, plan_at}
use Rattle.nc_yang_leafs.specs.declared.walk.Walk.{Walk}
use Rattle.nc_yang_leafs.specs.inner.Plans.{IsMember, IsPath, UsesNumber}

-- the plan of a `type` statement, if it may have a leafref in it
abbrev pub IsMarkedAt : List Finding → List Bool → ℕ → ℕ → Type 0
IsMarkedAt findings marks member plan = (plan_at findings member ≡ Some plan) × (is_marked marks plan ≡ true)

-- that of one of these
abbrev pub IsMarkedAmong : List Finding → List Bool → List ℕ → ℕ → Type 0
IsMarkedAmong findings marks members plan =
    (member : ℕ) × Contains members member × IsMarkedAt findings marks member plan

-- a plan is a union with such a member
abbrev pub IsNext : Meanings → List Bool → ℕ → ℕ → Type 0
IsNext meanings marks plan next = IsMember meanings plan next × (is_marked marks next ≡ true)

-- only plans that are in the list are known
abbrev pub IsSeen : Walk → Type 0
IsSeen walk = (plan : ℕ) → contains nat_cmp walk.seen plan ≡ true → Contains walk.plans plan

-- these plans are in the list too
pub record Queues (asked : ℕ → Type 0) (old new : Walk) : Type 0 where
  pub more : List ℕ
  pub plans : new.plans ≡ old.plans ++ more
  pub from : (plan : ℕ) → Contains more plan → asked plan
  pub has : IsSeen old → (plan : ℕ) → asked plan → Contains new.plans plan
  pub seen : IsSeen old → IsSeen new
  pub paths : new.paths ≡ old.paths

-- so are the marked members of a plan, and its path is among the paths
pub record Looks (meanings : Meanings) (marks : List Bool) (plan : ℕ) (old new : Walk) : Type 0 where
  pub more : List ℕ
  pub plans : new.plans ≡ old.plans ++ more
  pub from : (next : ℕ) → Contains more next → IsMember meanings plan next
  pub has : IsSeen old → (next : ℕ) → IsNext meanings marks plan next → Contains new.plans next
  pub seen : IsSeen old → IsSeen new
  pub kept : (path : ℕ) → Contains old.paths path → Contains new.paths path
  pub only : (path : ℕ) → Contains new.paths path → Contains old.paths path ⊎ IsPath meanings plan path
  pub all : (path : ℕ) → IsPath meanings plan path → Contains new.paths path

-- the first so many of those met from a plan were looked at
pub record IsOnWay (meanings : Meanings) (marks : List Bool) (top : ℕ) (at : ℕ) (walk : Walk) : Type 0 where
  pub seen : IsSeen walk
  pub start : Contains walk.plans top
  pub within : (plan path : ℕ) → Contains walk.plans plan → UsesNumber meanings plan path → UsesNumber meanings top path
  pub only : (path : ℕ) → Contains walk.paths path → UsesNumber meanings top path
  pub members : (place plan next : ℕ) → place < at → slice_get walk.plans place ≡ Some plan
      → IsNext meanings marks plan next → Contains walk.plans next
  pub paths : (place plan path : ℕ) → place < at → slice_get walk.plans place ≡ Some plan
      → IsPath meanings plan path → Contains walk.paths path
