-- What the laws say.
use Rattle.std.specs.Prelude.{◌≡◌, ℕ, Bool, true, false, List, map, Option, Some, None, IsTrue, option_and_then, slice_get}
use Rattle.std.specs.List.{All}
use Rattle.nc_names.specs.declared.name.Bound.{Bound}
use Rattle.nc_names.specs.declared.path.Row.{Row}
use Rattle.nc_schema.specs.Configuration.{IsConfiguration}
use Rattle.nc_schema.specs.Kinds.{has_value}
use Rattle.nc_schema.specs.Proper.{AreModules, EachNode, IsProperSchema}
use Rattle.nc_schema.specs.Tables.{Tables}
use Rattle.nc_schema.specs.Values.{IsCanonical, canonical, type_of}
use Rattle.nc_schema.specs.Violations.{violations}
use Rattle.nc_schema.specs.declared.node.Node.{Node}
use Rattle.nc_schema.specs.declared.value_type.ValueType.{ValueType}
use Rattle.nc_schema.specs.declared.value_type.ValueType.TheVariants.{Instance, Leafref}
use Rattle.nc_yang_words.specs.declared.statement.Statement.{Statement}
use Rattle.nc_yang_statements.specs.declared.fault.Fault.{Fault}
use Rattle.nc_yang_statements.specs.declared.fault.ModuleWhy.TheVariants.{PatternRefused}
use Rattle.nc_yang_statements.specs.declared.keyword.Keyword.{Keyword}
use Rattle.nc_yang_statements.specs.declared.keyword.Keyword.TheVariants.{Leaf, LeafList, TypeName}
use Rattle.nc_yang_statements.specs.Keywords.{is_same_keyword}
use Rattle.nc_yang_statements.specs.Statements.{kind}
use Rattle.nc_yang_scopes.specs.Scopes.{Located, Scoping, root}
use Rattle.nc_yang_scopes.specs.Names.{StandsIn}
use Rattle.nc_yang_scopes.specs.Parts.{part_of}
use Rattle.nc_yang_nodes.specs.Plans.{IsPlan, statement_of}
use Rattle.nc_yang_nodes.specs.Roles.{FeatureTest}
use Rattle.nc_yang_nodes.specs.declared.planned.Plan.{Plan}
use Rattle.nc_yang.specs.Rules.{KeepsTexts}
use Rattle.nc_yang.specs.declared.text.ModuleText.{ModuleText}
use Rattle.nc_yang_data.specs.Data.{data_tables}
use Rattle.nc_yang_types.specs.Faults.{KeepsTypes}
use Rattle.nc_yang_types.specs.Wholes.{MeansWhole}
use Rattle.nc_yang.specs.Schemas.{Breaks, Defines}

-- in modules that keep all rules each `type` statement of a text, but for what is passed over, means something, and so
-- do all members of a union, down to the last
abbrev pub TypesMean : Type 0
TypesMean =
    (on : ℕ → List ℕ → Bool) (texts : List Statement) (text : ℕ) (top l : Located) → KeepsTexts texts
    → KeepsTypes on texts → root texts text ≡ Some top → StandsIn top l
    → is_same_keyword TypeName (kind l.statement) ≡ true → MeansWhole on texts l

-- leafs and leaf-lists have a type (RFC 7950 7.6.3, 7.7.3)
abbrev pub has_type : Keyword → Bool
has_type Leaf = true
has_type LeafList = true
has_type keyword = false

-- in such modules each planned leaf and leaf-list has a `type` statement that means something, with all members
abbrev pub PlannedTypesMean : Type 0
PlannedTypesMean =
    (on : ℕ → List ℕ → Bool) (scoping : Scoping) (features : FeatureTest) (plan : Plan) → KeepsTexts scoping.texts
    → KeepsTypes on scoping.texts → IsPlan scoping features plan
    → (number : ℕ) (l : Located) → statement_of scoping plan number ≡ Some l → has_type (kind l.statement) ≡ true
    → (t : Located) × (part_of TypeName l ≡ Some t) × MeansWhole on scoping.texts t

-- and so does each leaf and leaf-list among the data nodes of a schema
abbrev pub DataTypesMean : Type 0
DataTypesMean =
    (on : ℕ → List ℕ → Bool) (scoping : Scoping) (features : FeatureTest) (plan : Plan) → KeepsTexts scoping.texts
    → KeepsTypes on scoping.texts → IsPlan scoping features plan
    → EachNode (data_tables scoping features plan) (λ number node. IsTrue (has_value node.kind) →
    (t : Located) × (option_and_then (part_of TypeName) (statement_of scoping plan number) ≡ Some t)
    × MeansWhole on scoping.texts t)

-- the modules of a schema are what they have to be where they keep all rules
abbrev pub ModulesAreProper : Type 0
ModulesAreProper =
    (scoping : Scoping) (features : FeatureTest) (plan : Plan) → KeepsTexts scoping.texts
    → AreModules (data_tables scoping features plan)

-- and the whole schema that modules define is what a schema has to be
abbrev pub SchemasAreProper : Type 0
SchemasAreProper =
    (modules : List ModuleText) (lines : List (List ℕ)) (tables : Tables) → Defines modules lines tables
    → IsProperSchema tables

-- each default of a leaf or leaf-list is the canonical text of one of its values (RFC 7950 7.6.4, 7.7.4, 9.1)
abbrev pub HasCanonicalDefaults : Tables → Type 0
HasCanonicalDefaults tables = EachNode tables (λ number node. All (IsCanonical tables number) node.defaults)

-- so it is in the schema that modules define
abbrev pub DefaultsAreCanonical : Type 0
DefaultsAreCanonical =
    (modules : List ModuleText) (lines : List (List ℕ)) (tables : Tables) → Defines modules lines tables
    → HasCanonicalDefaults tables

-- modules that break a rule have no schema
abbrev pub NeverBoth : Type 0
NeverBoth =
    (modules : List ModuleText) (lines : List (List ℕ)) (tables : Tables) (file : ℕ) (fault : Fault)
    → Defines modules lines tables → Breaks modules lines file fault → ⊥

-- a broken rule never has the reason that a maker refused a pattern
abbrev pub RulesRefuseNothing : Type 0
RulesRefuseNothing =
    (modules : List ModuleText) (lines : List (List ℕ)) (file : ℕ) (fault : Fault)
    → Breaks modules lines file fault → fault.why ≡ PatternRefused → ⊥

-- a data node without the number of its type
abbrev pub without_type : Node → Node
without_type node = record node { kind_of_value = 0 }

-- a type whose values refer to other data (RFC 7950 9.9, 9.13)
abbrev pub reference_in : ValueType → Option ValueType
reference_in (Leafref target above required) = Some (Leafref target above required)
reference_in (Instance required) = Some (Instance required)
reference_in type = None

-- that of a leaf or leaf-list: where its leafref leads, and whether what a value names has to exist
abbrev pub reference_at : Tables → ℕ → Option ValueType
reference_at tables number =
    option_and_then reference_in (option_and_then (slice_get tables.types) (type_of tables number))

-- two schemas are one but for their types, of which they take the same values
pub record AreOneSchema (one other : Tables) : Type 0 where
  pub modules : one.modules ≡ other.modules
  pub choices : one.choices ≡ other.choices
  -- data nodes with their defaults, each of the same number
  pub nodes : map without_type one.nodes ≡ map without_type other.nodes
  -- a text stands for the same value, or for none (RFC 7950 9.1)
  pub values : (number : ℕ) (text : List ℕ) (bounds : List Bound)
      → canonical one number text bounds ≡ canonical other number text bounds
  -- it refers to the same (RFC 7950 9.9.3, 9.13.2)
  pub references : (number : ℕ) → reference_at one number ≡ reference_at other number

-- modules have one schema with the features that lines name; its types may be numbered in several ways
abbrev pub OneSchema : Type 0
OneSchema =
    (modules : List ModuleText) (lines : List (List ℕ)) (one other : Tables) → Defines modules lines one
    → Defines modules lines other → AreOneSchema one other

-- so what is a configuration of one is one of the other (RFC 7950 7.5 to 7.9, 9.1)
abbrev pub SameConfigurations : Type 0
SameConfigurations =
    (modules : List ModuleText) (lines : List (List ℕ)) (one other : Tables) → Defines modules lines one
    → Defines modules lines other → (rows : List Row) → IsConfiguration one rows → IsConfiguration other rows

-- and it breaks the same constraints of both, in the same order (RFC 7950 8.1)
abbrev pub SameViolations : Type 0
SameViolations =
    (modules : List ModuleText) (lines : List (List ℕ)) (one other : Tables) → Defines modules lines one
    → Defines modules lines other → (rows : List Row) → IsConfiguration one rows
    → violations one rows ≡ violations other rows
