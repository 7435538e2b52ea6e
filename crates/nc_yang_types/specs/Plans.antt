-- What is kept of the meaning of each `type` statement, where statements stand by their numbers.
use Rattle.std.specs.Prelude.{◌≡◌, ℕ, Bool, List, Some, slice_get, IsSomeAnd}
use Rattle.nc_yang_statements.specs.declared.fault.Fault.{Fault}
use Rattle.nc_yang_scopes.specs.Scopes.{Located, Scoping}
use Rattle.nc_yang_types.specs.declared.planned.Finding.{Finding}
use Rattle.nc_yang_types.specs.declared.planned.Finding.TheVariants.{Broken, Nothing, Plan}
use Rattle.nc_yang_types.specs.declared.planned.Meanings.{Meanings}
use Rattle.nc_yang_types.specs.declared.planned.Planned.{Planned}
use Rattle.nc_yang_types.specs.declared.planned.Planned.TheVariants.{Bases, Finished, Leafref, Members}
use Rattle.nc_yang_types.specs.Meanings.{Breaks, DerivedFrom, Entry, Meaning, Means, OneOf, Refers}
use Rattle.nc_yang_types.specs.Numbers.{AreNumbers}

-- a plan is of a meaning
abbrev pub IsPlan : List Located → Planned → Meaning → Type 0
IsPlan located (Finished entry numbers names) (Entry other patterns others) =
    (entry ≡ other) × AreNumbers located numbers patterns × (names ≡ others)
IsPlan located (Members numbers) (OneOf members) = AreNumbers located numbers members
IsPlan located (Bases numbers) (DerivedFrom bases) = AreNumbers located numbers bases
IsPlan located (Leafref number required) (Refers path need) = (slice_get located number ≡ Some path) × (required ≡ need)
IsPlan located planned m = ⊥

-- the plan of a number is what a `type` statement means
pub record HasPlan (on : ℕ → List ℕ → Bool) (scoping : Scoping) (plans : List Planned) (l : Located)
    (number : ℕ) : Type 0 where
  pub plan : Planned
  pub there : slice_get plans number ≡ Some plan
  pub meaning : Meaning
  pub is : IsPlan scoping.located plan meaning
  pub means : Means on scoping.texts l meaning

-- a `type` statement means no type
abbrev pub MeansNothing : (on : ℕ → List ℕ → Bool) → Scoping → Located → Type 0
MeansNothing on scoping l = (m : Meaning) → Means on scoping.texts l m → ⊥

-- what is found of a statement: what it means, or a rule that it breaks, or that it does neither
abbrev pub IsFinding : (on : ℕ → List ℕ → Bool) → Scoping → List Planned → Located → Finding → Type 0
IsFinding on scoping plans l (Plan number) = HasPlan on scoping plans l number
IsFinding on scoping plans l (Broken fault) = Breaks on scoping.texts l fault × MeansNothing on scoping l
IsFinding on scoping plans l Nothing =
    ((fault : Fault) → Breaks on scoping.texts l fault → ⊥) × MeansNothing on scoping l

-- so it is with each statement
abbrev pub AreMeanings : (on : ℕ → List ℕ → Bool) → Scoping → Meanings → Type 0
AreMeanings on scoping meanings =
    (number : ℕ) (l : Located) → slice_get scoping.located number ≡ Some l →
    IsSomeAnd (slice_get meanings.findings number) (IsFinding on scoping meanings.plans l)
