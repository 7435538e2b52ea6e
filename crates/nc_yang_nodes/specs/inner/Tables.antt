-- What is known of statements by their numbers.
use Rattle.std.specs.Prelude.{◌≡◌, ◌+◌, ◌<◌, ◌≤◌, ◌^◌, ℕ, ◌||◌, not, Bool, true, false, List, [], ◌∷◌, length, Option, Some, slice_get, option_map, option_and_then, MatchOption}
use Rattle.std.specs.Option.{option_map_or}
use Rattle.nc_yang_words.specs.declared.statement.Statement.{Statement}
use Rattle.nc_yang_statements.specs.declared.keyword.Keyword.TheVariants.{IfFeature}
use Rattle.nc_yang_statements.specs.Keywords.{is_same_keyword}
use Rattle.nc_yang_statements.specs.Statements.{kind, name}
use Rattle.nc_yang_scopes.specs.Scopes.{Located, Scoping}
use Rattle.nc_yang_nodes.specs.declared.context.Context.{Context}
use Rattle.nc_yang_nodes.specs.declared.features.Features.{Features}
use Rattle.nc_yang_nodes.specs.declared.planned.Plan.{Plan}
use Rattle.nc_yang_nodes.specs.declared.role.Role.{Role}
use Rattle.nc_yang_nodes.specs.declared.role.Role.TheVariants.{Case, Uses}
use Rattle.nc_yang_nodes.specs.declared.table.Entry.{Entry}
use Rattle.nc_yang_nodes.specs.declared.table.Table.{Table}
use Rattle.nc_yang_nodes.specs.FeaturesOn.{is_on}
use Rattle.nc_yang_nodes.specs.Roles.{FeatureTest, block, children, is_met, role}
use Rattle.nc_yang_nodes.specs.Expansion.{Gives}

-- what stands directly in the statement of a number, if there is one
abbrev pub children_at : Scoping → ℕ → List Located
children_at scoping number = option_map_or children (slice_get scoping.located number) []

-- what stands directly in the statement of a number, if a number is given
abbrev pub block_at : Scoping → Option ℕ → List Located
block_at scoping number = option_map_or children (option_and_then (slice_get scoping.located) number) []

-- statements that plan nothing, in whatever context
abbrev pub Barren : Scoping → FeatureTest → List Located → Type 0
Barren scoping on ls = (c : Context) (plan : Plan) → Gives scoping on c plan ls plan

-- what a statement gives, and the number of the one whose statements are expanded there
pub record IsStored (scoping : Scoping) (on : FeatureTest) (l : Located) (entry : Entry) : Type 0 where
  pub gives : entry.role ≡ role scoping.texts on l
  pub opens : (r : Role) → role scoping.texts on l ≡ Some r → block scoping.texts l r ≡ block_at scoping entry.block

-- the same, where those that plan nothing are left out
pub record IsEntry (scoping : Scoping) (on : FeatureTest) (l : Located) (entry : Entry) : Type 0 where
  pub gives : entry.role ≡ role scoping.texts on l
  pub opens : (r : Role) → role scoping.texts on l ≡ Some r
      → MatchOption entry.block (Barren scoping on (block scoping.texts l r))
      (λ b. block scoping.texts l r ≡ children_at scoping b)

-- each entry has what the statement of its number gives, and the number of the one expanded there
abbrev pub AreStored : Scoping → FeatureTest → List Entry → Type 0
AreStored scoping on entries =
    (number : ℕ) (l : Located) (entry : Entry) → slice_get scoping.located number ≡ Some l
    → slice_get entries number ≡ Some entry → IsStored scoping on l entry

-- where there is a mark, what stands directly in the statement of that number plans nothing
abbrev pub AreBarren : Scoping → FeatureTest → List Bool → Type 0
AreBarren scoping on marks =
    (number : ℕ) → slice_get marks number ≡ Some true → Barren scoping on (children_at scoping number)

-- whether a feature is on, by the table
abbrev pub test_of : Table → FeatureTest
test_of table = is_on table.features.now

-- what is known is so
pub record IsTable (table : Table) : Type 0 where
  pub stored : AreStored table.scopes.now (test_of table) table.entries
  pub barren : AreBarren table.scopes.now (test_of table) table.barren

-- a number of the statement in a place directly in the one of a number
pub record IsChild (scoping : Scoping) (number place child : ℕ) : Type 0 where
  pub statement : Located
  pub located : slice_get scoping.located child ≡ Some statement
  pub is : slice_get (children_at scoping number) place ≡ Some statement
  pub small : place + 1 < 2 ^ 64

-- a number of it, or that there is none
abbrev pub FindsChild : Scoping → ℕ → ℕ → Option ℕ → Type 0
FindsChild scoping number place found =
    MatchOption found (length (children_at scoping number) ≤ place) (IsChild scoping number place)

-- the statement has that number
abbrev pub HasNumber : Scoping → ℕ → Statement → Type 0
HasNumber scoping number s = option_map (λ l. l.statement) (slice_get scoping.located number) ≡ Some s

-- a feature is on, if it is there
abbrev pub on_at : FeatureTest → Option Located → Bool
on_at on found = option_map_or (λ f. on f.place.text (name f.statement)) found false

-- it is no `if-feature`, or names a feature that is on
abbrev pub allows : List Statement → FeatureTest → Located → Bool
allows texts on t = not (is_same_keyword IfFeature (kind t.statement)) || is_met texts on t

-- whatever stands after it, if that plans nothing, it does not either
abbrev pub AddsNothing : Scoping → FeatureTest → Located → Type 0
AddsNothing scoping on l = (rest : List Located) → Barren scoping on rest → Barren scoping on (l ∷ rest)

-- what is known of the statements of a number of texts with some features
pub record IsTableOf (scoping : Scoping) (features : Features) (table : Table) : Type 0 where
  pub has_scopes : table.scopes.now ≡ scoping
  pub has_features : table.features.now ≡ features
  pub is : IsTable table

-- it gives nothing besides what stands in it or in its grouping
abbrev pub is_plain : Role → Bool
is_plain (Case deny) = true
is_plain (Uses deny) = true
is_plain other = false
