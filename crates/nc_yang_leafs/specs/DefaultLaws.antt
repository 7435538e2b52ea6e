-- What follows from the definitions.
use Rattle.std.specs.Prelude.{◌≡◌, ℕ, List, Some, slice_get}
use Rattle.std.specs.List.{All}
use Rattle.nc_schema.specs.declared.node.Node.{Node}
use Rattle.nc_schema.specs.Proper.{HasItsDefaults}
use Rattle.nc_schema.specs.Tables.{Tables}
use Rattle.nc_schema.specs.Values.{IsCanonical}
use Rattle.nc_yang_words.specs.declared.statement.Statement.{Statement}
use Rattle.nc_yang_scopes.specs.Scopes.{Scoping}
use Rattle.nc_yang_scopes.specs.declared.naming.TextFault.{TextFault}
use Rattle.nc_yang_nodes.specs.declared.planned.Plan.{Plan}
use Rattle.nc_yang_leafs.specs.Defaults.{AreDefaultsOf, BreaksDefault, HasDefaults}
use Rattle.nc_yang_leafs.specs.Sources.{Defined}
use Rattle.nc_yang_leafs.specs.Typed.{IsTyped}

-- where all data nodes have their defaults, none of these breaks a rule
abbrev pub DefaultsKeepRules : Type 0
DefaultsKeepRules =
    (scoping : Scoping) (plan : Plan) (typed tables : Tables) (fault : TextFault)
    → HasDefaults scoping plan typed tables → BreaksDefault scoping plan typed fault → ⊥

-- a leaf has one default at most (RFC 7950 7.6.4)
abbrev pub LeafHasOneDefault : Type 0
LeafHasOneDefault =
    (texts : List Statement) (tables : Tables) (d : Defined) (values : List (List ℕ))
    → AreDefaultsOf texts tables d values → HasItsDefaults (record d.node { defaults = values })

-- and each default is the canonical text of a value of its type (RFC 7950 7.6.4, 7.7.4, 9.1)
abbrev pub DefaultsAreCanonical : Type 0
DefaultsAreCanonical =
    (texts : List Statement) (tables : Tables) (d : Defined) (values : List (List ℕ))
    → AreDefaultsOf texts tables d values → All (IsCanonical tables d.number) values

-- so it is in the schema that has them
abbrev pub OutcomeIsCanonical : Type 0
OutcomeIsCanonical =
    (scoping : Scoping) (plan : Plan) (typed tables : Tables) (number : ℕ) (node : Node)
    → IsTyped scoping plan typed → HasDefaults scoping plan typed tables → slice_get tables.nodes number ≡ Some node
    → All (IsCanonical tables number) node.defaults

-- the defaults of a data node are fixed
abbrev pub DefaultsAreFixed : Type 0
DefaultsAreFixed =
    (texts : List Statement) (tables : Tables) (d : Defined) (one other : List (List ℕ))
    → AreDefaultsOf texts tables d one → AreDefaultsOf texts tables d other → one ≡ other
