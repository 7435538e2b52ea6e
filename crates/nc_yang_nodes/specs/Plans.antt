-- The data nodes and choices of all modules, and the limits on them.
use Rattle.std.specs.Prelude.{◌≡◌, ◌+◌, ◌<◌, ◌≤◌, ℕ, List, [], ◌∷◌, ◌++◌, length, Option, Some, IsSome, slice_get, option_and_then}
use Rattle.std.specs.List.{All}
use Rattle.nc_yang_statements.specs.declared.fault.ModuleWhy.TheVariants.{TooMany as TooManyWhy}
use Rattle.nc_yang_statements.specs.Statements.{line}
use Rattle.nc_yang_scopes.specs.declared.naming.TextFault.{TextFault}
use Rattle.nc_yang_scopes.specs.Scopes.{Located, Scoping, root}
use Rattle.nc_schema.specs.Children.{IsAbove}
use Rattle.nc_schema.specs.declared.node.Case.{Case as CaseNumber}
use Rattle.nc_yang_nodes.specs.declared.planned.Plan.{Plan}
use Rattle.nc_yang_nodes.specs.declared.planned.Planned.{Planned}
use Rattle.nc_yang_nodes.specs.declared.planned.PlannedChoice.{PlannedChoice}
use Rattle.nc_yang_nodes.specs.declared.role.Role.{Role}
use Rattle.nc_yang_nodes.specs.Roles.{FeatureTest, children, role}
use Rattle.nc_yang_nodes.specs.Expansion.{Gives, Meets, Moment, added, at_top}

-- how many data nodes and choices there may be together
abbrev pub most_nodes : ℕ
most_nodes = 1000000

-- how many data nodes may stand within one another
abbrev pub most_levels : ℕ
most_levels = 64

-- the statement that defines the planned data node of a number
abbrev pub statement_of : Scoping → Plan → ℕ → Option Located
statement_of scoping plan number =
    option_and_then (λ n. slice_get scoping.located n.statement) (slice_get plan.nodes number)

-- nothing planned
abbrev pub nothing : Plan
nothing = record { nodes = []; choices = [] }

-- what is planned keeps the limits
pub record HasRoom (plan : Plan) : Type 0 where
  pub few : length plan.nodes + length plan.choices ≤ most_nodes
  pub shallow : All (λ n. n.level < most_levels) plan.nodes

-- the first so many texts, one after another, give this
pub data GivesTexts (scoping : Scoping) (on : FeatureTest) : ℕ → Plan → Type 0 where
  no_text : GivesTexts scoping on 0 nothing
  one_more : (count : ℕ) (before plan : Plan) (top : Located) → GivesTexts scoping on count before
      → root scoping.texts count ≡ Some top → Gives scoping on (at_top count) before (children top) plan
      → GivesTexts scoping on (count + 1) plan

-- the data nodes and choices of a configuration that the texts define
pub record IsPlan (scoping : Scoping) (on : FeatureTest) (plan : Plan) : Type 0 where
  pub gives : GivesTexts scoping on (length scoping.texts) plan
  pub room : HasRoom plan

-- a case is of a choice that stands in that place, within the cases before
pub record IsCaseOf (choices : List PlannedChoice) (parent : Option ℕ) (before : List CaseNumber) (one : CaseNumber)
    : Type 0 where
  pub choice : PlannedChoice
  pub is : slice_get choices one.choice ≡ Some choice
  pub stands : choice.parent ≡ parent
  pub after : choice.within ≡ before

-- so is each of the cases, after those before it (RFC 7950 7.9)
abbrev pub AreCasesOf : List PlannedChoice → (parent : Option ℕ) → (before : List CaseNumber) → List CaseNumber → Type 0
AreCasesOf choices parent before [] = Unit {0}
AreCasesOf choices parent before (one ∷ rest) =
    IsCaseOf choices parent before one × AreCasesOf choices parent (before ++ one ∷ []) rest

-- a plan of texts: each data node has a statement and belongs to the module of a text, its parent has a lower number,
-- and its cases, as those of a choice, are of choices in the same place
pub record IsSoundPlan (scoping : Scoping) (plan : Plan) : Type 0 where
  pub few : length plan.nodes + length plan.choices ≤ most_nodes
  pub statements : All (λ n. IsSome (slice_get scoping.located n.statement)) plan.nodes
  pub of_choices : All (λ c. IsSome (slice_get scoping.located c.statement)) plan.choices
  pub modules : All (λ n. n.module < length scoping.texts) plan.nodes
  pub parents : (number : ℕ) (n : Planned) → slice_get plan.nodes number ≡ Some n → IsAbove n.parent number
  pub cases : All (λ n. AreCasesOf plan.choices n.parent [] n.cases) plan.nodes
  pub outer_cases : All (λ c. AreCasesOf plan.choices c.parent [] c.within) plan.choices

-- while the texts are expanded, that moment comes
pub record MeetsInText (scoping : Scoping) (on : FeatureTest) (m : Moment) : Type 0 where
  pub text : ℕ
  pub before : Plan
  pub top : Located
  pub gives : GivesTexts scoping on text before
  pub is_root : root scoping.texts text ≡ Some top
  pub meets : Meets scoping on (at_top text) before (children top) m

-- what is planned by then keeps the limits, and with what the statement gives it does not
pub record IsPast (scoping : Scoping) (on : FeatureTest) (m : Moment) : Type 0 where
  pub room : HasRoom m.before
  pub number : ℕ
  pub role_of : Role
  pub located : slice_get scoping.located number ≡ Some m.statement
  pub is : role scoping.texts on m.statement ≡ Some role_of
  pub past : HasRoom (added number m.context role_of m.before) → ⊥

-- at the statement, as it is written
abbrev pub fault_at : Moment → TextFault
fault_at m =
    let s = m.statement in
    record { text = s.place.text; fault = record { line = line s.statement; why = TooManyWhy } }

-- that fault is at the first statement past a limit
pub record IsFirstPast (scoping : Scoping) (on : FeatureTest) (fault : TextFault) : Type 0 where
  pub moment : Moment
  pub meets : MeetsInText scoping on moment
  pub past : IsPast scoping on moment
  pub at : fault ≡ fault_at moment
