-- Plans of types by themselves and over others.
use Rattle.std.specs.Prelude.{◌≡◌, ℕ, zero, suc, Bool, true, List, [], ◌∷◌, ◌++◌, length, Option, Some, None, option_map}
use Rattle.std.specs.Prelude.{replicate, unwrap_or, slice_get, slice_set, IsSomeAnd, Contains, ◌⊎◌}
use Rattle.nc_schema.specs.declared.value_type.ValueType.{ValueType}
use Rattle.nc_schema.specs.declared.value_type.ValueType.TheVariants.{Chars as String, Union as UnionType, Identity as IdentityType}
use Rattle.nc_schema.specs.declared.value_type.ValueType.TheVariants.{Leafref as LeafrefType, Instance, NodeInstance}
use Rattle.nc_yang_words.specs.declared.statement.Statement.{Statement}
use Rattle.nc_yang_statements.specs.declared.built_in.BuiltIn.{BuiltIn}
use Rattle.nc_yang_statements.specs.declared.built_in.BuiltIn.TheVariants.{IdentityRef, LeafRef, Union}
use Rattle.nc_yang_statements.specs.declared.keyword.Keyword.TheVariants.{Base, Path, Pattern, TypeName}
use Rattle.nc_yang_statements.specs.Rules.{first}
use Rattle.nc_yang_statements.specs.Statements.{below}
use Rattle.nc_yang_scopes.specs.Scopes.{Located, Scoping}
use Rattle.nc_yang_types.specs.Entries.{listing_of, names_left, narrowed, narrowed_faults, required}
use Rattle.nc_yang_types.specs.declared.member.Named.{Named}
use Rattle.nc_yang_types.specs.declared.footing.Footing.{Footing}
use Rattle.nc_yang_types.specs.declared.footing.Footing.TheVariants.{OnBuiltIn, OnNothing, OnType}
use Rattle.nc_yang_types.specs.declared.found.Found.{Found}
use Rattle.nc_yang_types.specs.declared.found.Found.TheVariants.{New, Same}
use Rattle.nc_yang_types.specs.declared.planned.Finding.TheVariants.{Broken, Nothing, Plan}
use Rattle.nc_yang_types.specs.declared.planned.Meanings.{Meanings}
use Rattle.nc_yang_types.specs.declared.planned.Planned.{Planned}
use Rattle.nc_yang_types.specs.declared.planned.Planned.TheVariants.{Bases, Finished, Leafref, Members}
use Rattle.nc_yang_types.specs.inner.Footings.{AreDependents, AreStarts, IsFooting}
use Rattle.nc_yang_order.specs.Reaching.{IsReached}
use Rattle.nc_yang_order.specs.declared.reach.Reach.{Reach}
use Rattle.nc_yang_types.specs.Meanings.{DerivedFrom, Entry, Meaning, Means, OneOf, Refers}
use Rattle.nc_yang_types.specs.Numbers.{OnNumber}
use Rattle.nc_yang_types.specs.Places.{part_of, parts_of}
use Rattle.nc_yang_types.specs.Plans.{IsFinding, IsPlan}

-- the statement of a number stands in that text
abbrev pub StandsInText : Scoping → ℕ → ℕ → Type 0
StandsInText scoping number text = option_map (λ l. l.place.text) (slice_get scoping.located number) ≡ Some text

-- the plan of an entry of ietf-netconf-acm
abbrev pub plan_of_access : ValueType → (patterns : List ℕ) → List Named → Planned
plan_of_access (Instance need) patterns names = Finished NodeInstance patterns names
plan_of_access (String among starless none) (number ∷ patterns) names = Finished (String among true none) [] names
plan_of_access entry patterns names = Finished entry patterns names

-- what is planned in the text of a number
abbrev pub planned_in : (text : ℕ) → Planned → Planned
planned_in zero (Finished entry patterns names) = plan_of_access entry patterns names
planned_in zero planned = planned
planned_in (suc text) planned = planned

-- what a built-in type says whose entry by its own parts is given
abbrev pub meant_with : Option ValueType → BuiltIn → Located → Option Meaning
meant_with entry Union l = Some (OneOf (parts_of TypeName l))
meant_with entry IdentityRef l = Some (DerivedFrom (parts_of Base l))
meant_with entry LeafRef l = option_map (λ path. Refers path (required true (below l.statement))) (part_of Path l)
meant_with entry one l = option_map (λ it. Entry it (parts_of Pattern l) (listing_of one (below l.statement))) entry

-- a plan is of what a type means, and there is none where it means nothing
abbrev pub ArePlan : List Located → Option Planned → Option Meaning → Type 0
ArePlan located None None = Unit {0}
ArePlan located (Some planned) (Some m) = IsPlan located planned m
ArePlan located planned m = ⊥

-- its kind, by which it is known which parts may stand in a type over it
abbrev pub shape_of : Planned → ValueType
shape_of (Finished entry patterns names) = entry
shape_of (Members numbers) = UnionType []
shape_of (Bases numbers) = IdentityType []
shape_of (Leafref path need) = LeafrefType 0 None need

-- the names that it lists
abbrev pub names_in : Planned → List Named
names_in (Finished entry patterns names) = names
names_in (Members numbers) = []
names_in (Bases numbers) = []
names_in (Leafref path need) = []

-- the plan of a type over it, with the `pattern` statements of these numbers and these parts
abbrev pub planned_over : (holds : Statement → Bool) → Planned → (own : List ℕ) → List Statement → Option Planned
planned_over holds (Finished entry patterns names) own ss =
    option_map (λ left. Finished left (patterns ++ own) (names_left entry names ss)) (narrowed holds entry ss)
planned_over holds (Members numbers) own ss = Some (Members numbers)
planned_over holds (Bases numbers) own ss = Some (Bases numbers)
planned_over holds (Leafref path need) own ss = Some (Leafref path (required need ss))

-- what was found of a statement, whose plan may be new
abbrev pub IsFound : (on : ℕ → List ℕ → Bool) → Scoping → List Planned → Located → Found → Type 0
IsFound on scoping plans l (Same finding) = IsFinding on scoping plans l finding
IsFound on scoping plans l (New planned) = (m : Meaning) × IsPlan scoping.located planned m × Means on scoping.texts l m

-- what was found of the type on which one rests
abbrev pub HasBase : (on : ℕ → List ℕ → Bool) → Scoping → Meanings → Footing → Type 0
HasBase on scoping meanings (OnType base) =
    OnNumber scoping base (λ l. IsSomeAnd (slice_get meanings.findings base) (IsFinding on scoping meanings.plans l))
HasBase on scoping meanings footing = Unit {0}

-- the plan that was found of a statement
abbrev pub FindsPlan : Meanings → ℕ → ℕ → Planned → Type 0
FindsPlan meanings number place planned =
    (slice_get meanings.findings number ≡ Some (Plan place)) × (slice_get meanings.plans place ≡ Some planned)

-- no plan was found of the statement of a number
abbrev pub LacksPlan : Meanings → ℕ → Type 0
LacksPlan meanings number = (place : ℕ) (planned : Planned) → FindsPlan meanings number place planned → ⊥

-- what is found of a type with these patterns and parts over one of a plan
abbrev pub IsOver : (holds : Statement → Bool) → ℕ → Planned → (own : List ℕ) → List Statement → Found → Type 0
IsOver holds place planned own ss (New other) =
    (planned_over holds planned own ss ≡ Some other) × (narrowed_faults (shape_of planned) (names_in planned) ss ≡ [])
IsOver holds place planned own ss (Same Nothing) = ⊥
IsOver holds place planned own ss (Same (Broken fault)) =
    first (narrowed_faults (shape_of planned) (names_in planned) ss) ≡ Some fault
IsOver holds place planned own ss (Same (Plan number)) =
    (number ≡ place) × (planned_over holds planned own ss ≡ Some planned)
    × (narrowed_faults (shape_of planned) (names_in planned) ss ≡ [])

-- over that of a number
abbrev pub IsOverBase : (holds : Statement → Bool) → Meanings → ℕ → (own : List ℕ) → List Statement → Found → Type 0
IsOverBase holds meanings base own ss found =
    ((place : ℕ) × (planned : Planned) × FindsPlan meanings base place planned
    × IsOver holds place planned own ss found)
    ⊎ (LacksPlan meanings base × (found ≡ Same Nothing))

-- with what was found of a number
abbrev pub with_found : Meanings → ℕ → Found → Meanings
with_found meanings number (Same finding) =
    record { findings = slice_set meanings.findings number finding; plans = meanings.plans }
with_found meanings number (New planned) =
    record {
      findings = slice_set meanings.findings number (Plan
          (length meanings.plans));
      plans = meanings.plans ++ planned ∷ [];
    }

-- nothing was looked at
abbrev pub blank : ℕ → Meanings
blank count = record { findings = replicate count Nothing; plans = [] }

-- on what the statement of a number rests, as a list has it
abbrev pub footing_at : List Footing → ℕ → Footing
footing_at footings number = unwrap_or (slice_get footings number) OnNothing

-- a type rests on a built-in type, or on one before
abbrev pub IsReady : List Footing → List ℕ → ℕ → Type 0
IsReady footings before number =
    ((one : BuiltIn) × (slice_get footings number ≡ Some (OnBuiltIn one)))
    ⊎ ((base : ℕ) × (slice_get footings number ≡ Some (OnType base)) × Contains before base)

-- the types that lead to a built-in type, each after the one on which it rests
pub record IsOrdered (footings : List Footing) (reach : Reach) : Type 0 where
  pub graph : List (List ℕ)
  pub starts : List ℕ
  pub dependents : AreDependents footings (length footings) graph
  pub are_starts : AreStarts footings (length footings) starts
  pub reached : IsReached graph starts reach

-- a number was looked at
pub record Steps (on : ℕ → List ℕ → Bool) (scoping : Scoping) (footing : Footing) (number : ℕ)
    (old new : Meanings) : Type 0 where
  pub found : Found
  pub is : new ≡ with_found old number found
  pub judged : (l : Located) → slice_get scoping.located number ≡ Some l → IsFooting scoping l footing
      → HasBase on scoping old footing →
      IsFound on scoping old.plans l found

-- the first numbers of an order were looked at, and no other
pub record AreSoFar (on : ℕ → List ℕ → Bool) (scoping : Scoping) (before : List ℕ) (meanings : Meanings) : Type 0 where
  pub counted : length meanings.findings ≡ length scoping.located
  pub found : (number : ℕ) (l : Located) → Contains before number → slice_get scoping.located number ≡ Some l →
      IsSomeAnd (slice_get meanings.findings number) (IsFinding on scoping meanings.plans l)
  pub others : (number : ℕ) (l : Located) → (Contains before number → ⊥) → slice_get scoping.located number ≡ Some l →
      slice_get meanings.findings number ≡ Some Nothing
