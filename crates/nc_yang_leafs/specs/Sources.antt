-- The `default` statements that a data node has: its own, or the one that its type brings (RFC 7950 7.3.4, 7.6.1,
-- 7.6.4, 7.7.2, 7.7.4).
use Rattle.std.specs.Prelude.{◌≡◌, ℕ, ◌==◌, Bool, true, false, not, List, [], ◌∷◌, Some, slice_get}
use Rattle.nc_schema.specs.declared.node.Kind.{Kind}
use Rattle.nc_schema.specs.declared.node.Kind.TheVariants.{Container, Leaf, LeafList, List as ListKind}
use Rattle.nc_schema.specs.declared.node.Node.{Node}
use Rattle.nc_schema.specs.Tables.{Tables}
use Rattle.nc_yang_words.specs.declared.statement.Statement.{Statement}
use Rattle.nc_yang_statements.specs.declared.keyword.Keyword.TheVariants.{Default, TypeName}
use Rattle.nc_yang_scopes.specs.Scopes.{Located, Scoping}
use Rattle.nc_yang_nodes.specs.declared.planned.Plan.{Plan}
use Rattle.nc_yang_nodes.specs.Expansion.{list_of}
use Rattle.nc_yang_nodes.specs.Plans.{statement_of}
use Rattle.nc_yang_types.specs.Defaults.{Brings}
use Rattle.nc_yang_scopes.specs.Parts.{part_of, parts_of}

-- a data node of a schema with the statement that defines it
pub record Defined : Type 0 where
  pub number : ℕ
  pub node : Node
  pub statement : Located

-- it is the one that a plan has under its number
abbrev pub IsDefined : Scoping → Plan → Tables → Defined → Type 0
IsDefined scoping plan tables d =
    (slice_get tables.nodes d.number ≡ Some d.node) × (statement_of scoping plan d.number ≡ Some d.statement)

-- the `default` statements directly in the statement of a leaf (RFC 7950 7.6.4) or of a leaf-list (RFC 7950 7.7.4)
abbrev pub own_of : Kind → Located → List Located
own_of Leaf l = list_of (part_of Default l)
own_of LeafList l = parts_of Default l
own_of ListKind l = []
own_of (Container presence) l = []

-- a leaf need not be there, or no entry of a leaf-list: then a type may bring a default (RFC 7950 7.6.1, 7.7.2)
abbrev pub may_lack : Kind → (mandatory : Bool) → (least : ℕ) → Bool
may_lack Leaf mandatory least = not mandatory
may_lack LeafList mandatory least = least == 0
may_lack ListKind mandatory least = false
may_lack (Container presence) mandatory least = false

-- the type of a data node brings that default
pub record BringsTo (texts : List Statement) (d : Defined) (default : Located) : Type 0 where
  pub lacks : may_lack d.node.kind d.node.mandatory d.node.least ≡ true
  pub of_type : Located
  pub is_type : part_of TypeName d.statement ≡ Some of_type
  pub brings : Brings texts of_type default

-- the `default` statements of a data node, in their order
pub data AreSources (texts : List Statement) (d : Defined) : List Located → Type 0 where
  own : (first : Located) (more : List Located) → own_of d.node.kind d.statement ≡ first ∷ more
      → AreSources texts d (first ∷ more)
  brought : (default : Located) → own_of d.node.kind d.statement ≡ [] → BringsTo texts d default
      → AreSources texts d (default ∷ [])
  nothing : own_of d.node.kind d.statement ≡ [] → ((default : Located) → BringsTo texts d default → ⊥)
      → AreSources texts d []
