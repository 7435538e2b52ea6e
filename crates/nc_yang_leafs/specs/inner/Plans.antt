-- The `path` statements of plans, by their numbers.
use Rattle.std.specs.Prelude.{◌≡◌, ℕ, Bool, false, List, Some, slice_get, Contains}
use Rattle.std.specs.Option.{option_map_or}
use Rattle.nc_schema.specs.Kinds.{has_value}
use Rattle.nc_schema.specs.Tables.{Tables}
use Rattle.nc_yang_scopes.specs.Scopes.{Located}
use Rattle.nc_yang_types.specs.declared.planned.Finding.{Finding}
use Rattle.nc_yang_types.specs.declared.planned.Meanings.{Meanings}
use Rattle.nc_yang_types.specs.declared.planned.Planned.TheVariants.{Leafref, Members}
use Rattle.nc_yang_leafs.specs.Bases.{Basis}
use Rattle.nc_yang_leafs.specs.Marks.{plan_at}
use Rattle.nc_yang_leafs.specs.Circles.{HasPath}

-- the data node of a number has a value
abbrev pub is_valued : Tables → ℕ → Bool
is_valued given leaf = option_map_or (λ node. has_value node.kind) (slice_get given.nodes leaf) false

-- the plan of one of these `type` statements
abbrev pub IsAmong : List Finding → List ℕ → ℕ → Type 0
IsAmong findings members plan = (member : ℕ) × Contains members member × (plan_at findings member ≡ Some plan)

-- a plan is a leafref with that path
abbrev pub IsPath : Meanings → ℕ → ℕ → Type 0
IsPath meanings plan path = (need : Bool) × (slice_get meanings.plans plan ≡ Some (Leafref path need))

-- a plan is a union with such a member
abbrev pub IsMember : Meanings → ℕ → ℕ → Type 0
IsMember meanings plan next =
    (members : List ℕ) × (slice_get meanings.plans plan ≡ Some (Members members))
    × IsAmong meanings.findings members next

-- a plan is a leafref with that path, or has such a one among its members
pub data UsesNumber (meanings : Meanings) : ℕ → ℕ → Type 0 where
  own : (plan path : ℕ) → IsPath meanings plan path → UsesNumber meanings plan path
  inner : (plan next path : ℕ) → IsMember meanings plan next → UsesNumber meanings next path
      → UsesNumber meanings plan path

-- the paths of a plan
pub record ArePlanPaths (meanings : Meanings) (plan : ℕ) (paths : List ℕ) : Type 0 where
  pub only : (path : ℕ) → Contains paths path → UsesNumber meanings plan path
  pub all : (path : ℕ) → UsesNumber meanings plan path → Contains paths path

-- those of the plan of a `type` statement, if it has one
pub record AreTypePaths (meanings : Meanings) (statement : ℕ) (paths : List ℕ) : Type 0 where
  pub only : (path : ℕ) → Contains paths path → (plan : ℕ) × (plan_at meanings.findings statement ≡ Some plan)
      × UsesNumber meanings plan path
  pub all : (plan path : ℕ) → plan_at meanings.findings statement ≡ Some plan → UsesNumber meanings plan path
      → Contains paths path

-- those of the type of a data node
pub record ArePaths (b : Basis) (leaf : ℕ) (paths : List ℕ) : Type 0 where
  pub only : (path : ℕ) → Contains paths path → (l : Located) × (slice_get b.scoping.located path ≡ Some l)
      × HasPath b leaf l
  pub all : (l : Located) → HasPath b leaf l → (path : ℕ) × Contains paths path × (slice_get b.scoping.located path
      ≡ Some l)
