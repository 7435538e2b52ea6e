-- Whether a typedef is judged by its default, and what comes of those that are.
use Rattle.std.specs.Prelude.{◌≡◌, ℕ, zero, suc, Bool, true, false, not, List, ◌++◌, Option, Some, slice_get}
use Rattle.std.specs.Option.{option_map_or}
use Rattle.nc_schema.specs.Tables.{Tables}
use Rattle.nc_yang_statements.specs.declared.keyword.Keyword.TheVariants.{Default}
use Rattle.nc_yang_words.specs.declared.statement.Statement.{Statement}
use Rattle.nc_yang_statements.specs.Keywords.{is_closed}
use Rattle.nc_yang_statements.specs.Statements.{below, has, kind}
use Rattle.nc_yang_scopes.specs.Numbers.{AreNumbers, OnNumber}
use Rattle.nc_yang_scopes.specs.Scopes.{Located, Scoping}
use Rattle.nc_yang_nodes.specs.inner.Marks.{Tells}
use Rattle.nc_yang_types.specs.Faults.{is_reference}
use Rattle.nc_yang_types.specs.Plans.{AreMeanings}
use Rattle.nc_yang_types.specs.declared.planned.Finding.{Finding}
use Rattle.nc_yang_types.specs.declared.planned.Finding.TheVariants.{Plan as PlanOf}
use Rattle.nc_yang_types.specs.declared.planned.Meanings.{Meanings}
use Rattle.nc_yang_types.specs.declared.planned.Planned.{Planned}
use Rattle.nc_yang_types.specs.declared.planned.Planned.TheVariants.{Bases, Finished, Leafref, Members}
use Rattle.nc_yang_nodes.specs.Roles.{FeatureTest}
use Rattle.nc_yang_nodes.specs.declared.planned.Plan.{Plan}
use Rattle.nc_yang_leafs.specs.Patterns.{AreTypings, HasPatterns, Refusals, RefusesType}
use Rattle.nc_yang_leafs.specs.declared.bare.Typed.{Typed}
use Rattle.nc_yang_leafs.specs.Typed.{IsTyped as IsReady}
use Rattle.nc_yang_leafs.specs.Circles.{HasNoCircle}
use Rattle.nc_yang_leafs.specs.Conditions.{holds}
use Rattle.nc_yang_leafs.specs.Defaults.{BreaksDefault, KeepsDefaults}
use Rattle.nc_yang_scopes.specs.declared.naming.TextFault.{TextFault}
use Rattle.nc_yang.specs.declared.suited.Suited.{Suited}
use Rattle.nc_yang.specs.Depths.{KeepsDepth}
use Rattle.nc_yang.specs.Schemas.{AreNames, basis_of}
use Rattle.nc_yang.specs.Typedefs.{AreJudged, HasPlainType, IsJudged, typedef_plan, typedef_tables, typedefs_within}

-- a plan is of such a type
abbrev pub is_plain_plan : Planned → Bool
is_plain_plan (Finished entry numbers names) = not (is_reference entry)
is_plain_plan (Members numbers) = true
is_plain_plan (Bases numbers) = true
is_plain_plan (Leafref path required) = false

-- so is what was found of a statement
abbrev pub plain_by : List Planned → Option Finding → Bool
plain_by plans (Some (PlanOf place)) =
    option_map_or is_plain_plan (slice_get plans place) false
plain_by plans finding = false

-- and what was found of that of a number
abbrev pub means_plain : Meanings → ℕ → Bool
means_plain meanings number = plain_by meanings.plans (slice_get meanings.findings number)

-- nothing so many levels deeper in a statement is asked
abbrev pub is_end : (levels : ℕ) → Statement → Bool
is_end zero s = true
is_end (suc levels) s = is_closed (kind s)

-- numbers were added: those of these statements
abbrev pub Adds : List Located → List Located → (old new : List ℕ) → Type 0
Adds located ls old new = (more : List ℕ) × (new ≡ old ++ more) × AreNumbers located more ls

-- those of the typedefs that the statement of a number is or has in it
abbrev pub AddsTypedefs : Scoping → (levels number : ℕ) → (old new : List ℕ) → Type 0
AddsTypedefs scoping levels number old new =
    OnNumber scoping number (λ l. Adds scoping.located (typedefs_within levels l) old new)

-- the statement of a number has a `default`
abbrev pub has_default : Scoping → ℕ → Bool
has_default scoping number =
    option_map_or (λ l. has Default (below l.statement)) (slice_get scoping.located number) false

-- an answer says whether the statement of a number has such a type
abbrev pub TellsPlain : Scoping → Meanings → ℕ → Bool → Type 0
TellsPlain scoping meanings number result =
    (on : ℕ → List ℕ → Bool) → AreMeanings on scoping meanings → (l : Located) → slice_get scoping.located number
    ≡ Some l → Tells result (HasPlainType on scoping.texts l)

-- or whether it is judged
abbrev pub TellsJudged : Scoping → Meanings → ℕ → Bool → Type 0
TellsJudged scoping meanings number result =
    (on : ℕ → List ℕ → Bool) → AreMeanings on scoping meanings → (l : Located) → slice_get scoping.located number
    ≡ Some l → Tells result (IsJudged on scoping.texts l)

-- data nodes get types that keep all rules in which no pattern is asked
pub record HasBare (scoping : Scoping) (on : FeatureTest) (plan : Plan) (given : Tables)
    (typed : Typed) : Type 0 where
  pub straight : HasNoCircle (basis_of scoping on plan given)
  pub typings : AreTypings (AreNames scoping on) (basis_of scoping on plan given) typed
  pub shallow : KeepsDepth scoping plan typed.schema
  pub defaults : KeepsDefaults scoping plan typed.schema

-- with types they are ready for defaults
abbrev pub GetsReady : Scoping → FeatureTest → Plan → Tables → Type 0
GetsReady scoping on plan given =
    (typed : Typed) → AreTypings (AreNames scoping on) (basis_of scoping on plan given) typed
    → IsReady scoping plan typed.schema

-- the typedefs that are judged, as leafs with types without patterns, which their defaults suit
pub record IsSuited (scoping : Scoping) (on : FeatureTest) (suited : Suited) : Type 0 where
  pub numbers : List ℕ
  pub are : AreJudged (holds scoping.texts on) scoping numbers
  pub plan_is : suited.plan ≡ typedef_plan numbers
  pub bare : HasBare scoping on suited.plan (typedef_tables scoping on numbers) suited.typed
  pub ready : IsReady scoping suited.plan suited.typed.schema

-- they suit them with their patterns too
pub record KeepsPatterned (scoping : Scoping) (suited : Suited) : Type 0 where
  pub tables : Tables
  pub has : HasPatterns scoping.located suited.typed tables
  pub defaults : KeepsDefaults scoping suited.plan tables

-- or a maker refused one of these, or one of the defaults does not
pub data BreaksPatterned (scoping : Scoping) (suited : Suited) (refusals : Refusals) : TextFault → Type 0 where
  refused : (fault : TextFault) → RefusesType scoping.located suited.typed refusals fault
      → BreaksPatterned scoping suited refusals fault
  unsuited : (fault : TextFault) (tables : Tables) → HasPatterns scoping.located suited.typed tables
      → BreaksDefault scoping suited.plan tables fault → BreaksPatterned scoping suited refusals fault
