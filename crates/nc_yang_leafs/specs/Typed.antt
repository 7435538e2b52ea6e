-- A schema before its leafs have their defaults.
use Rattle.std.specs.Prelude.{◌≡◌, ◌<◌, ℕ, Bool, true, List, [], length, Some, IsSome}
use Rattle.nc_schema.specs.Kinds.{has_value}
use Rattle.nc_schema.specs.Tables.{Tables}
use Rattle.nc_yang_words.specs.declared.statement.Statement.{Statement}
use Rattle.nc_yang_statements.specs.declared.keyword.Keyword.TheVariants.{TypeName}
use Rattle.nc_yang_scopes.specs.Scopes.{Located, Scoping}
use Rattle.nc_yang_nodes.specs.declared.planned.Plan.{Plan}
use Rattle.nc_yang_nodes.specs.Plans.{statement_of}
use Rattle.nc_yang_types.specs.Meanings.{Meaning, Means}
use Rattle.nc_yang_scopes.specs.Parts.{part_of}
use Rattle.nc_yang_leafs.specs.Sources.{Defined, IsDefined}

-- the type of a data node means something
pub record HasMeaning (texts : List Statement) (l : Located) : Type 0 where
  pub of_type : Located
  pub is_type : part_of TypeName l ≡ Some of_type
  pub on : ℕ → List ℕ → Bool
  pub meaning : Meaning
  pub means : Means on texts of_type meaning

-- the data nodes of a plan as a schema has them, with types and without defaults
pub record IsTyped (scoping : Scoping) (plan : Plan) (tables : Tables) : Type 0 where
  pub counted : length tables.nodes ≡ length plan.nodes
  pub stated : (number : ℕ) → number < length plan.nodes → IsSome (statement_of scoping plan number)
  pub meanings : (d : Defined) → IsDefined scoping plan tables d → has_value d.node.kind ≡ true
      → HasMeaning scoping.texts d.statement
  pub fresh : (d : Defined) → IsDefined scoping plan tables d → d.node.defaults ≡ []
