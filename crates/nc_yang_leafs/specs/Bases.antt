-- What the types of leafs and leaf-lists stand on (RFC 7950 7.6.3, 7.7.3, 9.9.2).
use Rattle.std.specs.Prelude.{◌≡◌, ℕ, Bool, List, Option, Some, IsTrue, option_and_then}
use Rattle.nc_schema.specs.declared.pattern.LeafrefEnd.{LeafrefEnd}
use Rattle.nc_schema.specs.InstancePaths.{leafref_end}
use Rattle.nc_schema.specs.Kinds.{has_value}
use Rattle.nc_schema.specs.Proper.{EachNode}
use Rattle.nc_schema.specs.Tables.{Tables}
use Rattle.nc_yang_statements.specs.declared.keyword.Keyword.TheVariants.{TypeName}
use Rattle.nc_yang_statements.specs.Statements.{name}
use Rattle.nc_yang_scopes.specs.Prefixes.{prefixes_in}
use Rattle.nc_yang_scopes.specs.Scopes.{Located, Scoping}
use Rattle.nc_yang_nodes.specs.declared.features.Features.{Features}
use Rattle.nc_yang_nodes.specs.declared.planned.Plan.{Plan}
use Rattle.nc_yang_nodes.specs.FeaturesOn.{is_on}
use Rattle.nc_yang_nodes.specs.Plans.{statement_of}
use Rattle.nc_yang_scopes.specs.Parts.{part_of}
use Rattle.nc_yang_types.specs.Wholes.{MeansWhole}
use Rattle.nc_yang_leafs.specs.Conditions.{holds}

-- which `if-feature` statements hold, the texts, the statements of the data nodes, and the schema without types
pub record Basis : Type 0 where
  pub on : ℕ → List ℕ → Bool
  pub scoping : Scoping
  pub plan : Plan
  pub given : Tables

-- the basis of these four
abbrev pub basis_on : (on : ℕ → List ℕ → Bool) → Scoping → Plan → Tables → Basis
basis_on on scoping plan given = record { on = on; scoping = scoping; plan = plan; given = given }

-- with the features that are on
abbrev pub basis : Features → Scoping → Plan → Tables → Basis
basis features scoping plan given = basis_on (holds scoping.texts (is_on features)) scoping plan given

-- the `type` statement of a data node
abbrev pub type_of : Scoping → Plan → ℕ → Option Located
type_of scoping plan number = option_and_then (part_of TypeName) (statement_of scoping plan number)

-- where a `path` statement leads from a data node, with the prefixes of the text in which it stands (RFC 7950 9.9.2)
abbrev pub leads : Scoping → Tables → ℕ → Located → Option LeafrefEnd
leads scoping given number path =
    leafref_end given number (name path.statement) (prefixes_in scoping.texts path.place.text)

-- each leaf and leaf-list has a type that means something with all its members
abbrev pub AllMeanWhole : Basis → Type 0
AllMeanWhole b =
    EachNode b.given (λ number node. IsTrue (has_value node.kind) →
    (l : Located) × (type_of b.scoping b.plan number ≡ Some l) × MeansWhole b.on b.scoping.texts l)
