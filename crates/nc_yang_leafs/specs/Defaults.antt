-- The defaults of the leafs and leaf-lists of a schema (RFC 7950 7.6.1, 7.6.4, 7.7.2, 7.7.4).
use Rattle.std.specs.Prelude.{◌≡◌, ◌≢◌, ◌<◌, ℕ, List, [], ◌∷◌, ◌++◌, map, length, Option, Some, None, slice_get, Contains}
use Rattle.std.specs.List.{AllPairs}
use Rattle.nc_schema.specs.Tables.{Tables}
use Rattle.nc_yang_words.specs.declared.statement.Statement.{Statement}
use Rattle.nc_yang_statements.specs.Statements.{line}
use Rattle.nc_yang_statements.specs.declared.fault.ModuleWhy.{ModuleWhy}
use Rattle.nc_yang_statements.specs.declared.fault.ModuleWhy.TheVariants.{BadArgument, Twice}
use Rattle.nc_yang_scopes.specs.Scopes.{Located, Scoping}
use Rattle.nc_yang_scopes.specs.declared.naming.TextFault.{TextFault}
use Rattle.nc_yang_nodes.specs.declared.planned.Plan.{Plan}
use Rattle.nc_yang_leafs.specs.Readings.{value_of}
use Rattle.nc_yang_leafs.specs.Sources.{AreSources, Defined, IsDefined, own_of}

-- those are the values of `default` statements, and no two of them are one (RFC 7950 7.7.4)
pub record AreValues (texts : List Statement) (tables : Tables) (number : ℕ) (defaults : List Located)
    (values : List (List ℕ)) : Type 0 where
  pub read : map (value_of texts tables number) defaults ≡ map Some values
  pub apart : AllPairs (λ one later. one ≢ later) values

-- the defaults of a data node
pub record AreDefaultsOf (texts : List Statement) (tables : Tables) (d : Defined)
    (values : List (List ℕ)) : Type 0 where
  pub sources : List Located
  pub are : AreSources texts d sources
  pub read : AreValues texts tables d.number sources values

-- why a `default` statement breaks a rule: it has no value, or that of one before it
abbrev pub IsBroken : (earlier : List (List ℕ)) → Option (List ℕ) → ModuleWhy → Type 0
IsBroken earlier None why = why ≡ BadArgument
IsBroken earlier (Some value) why = Contains earlier value × (why ≡ Twice)

-- of `default` statements this is the first that does
pub record StopsAt (texts : List Statement) (tables : Tables) (number : ℕ) (defaults : List Located)
    (default : Located) : Type 0 where
  pub before : List Located
  pub after : List Located
  pub cut : defaults ≡ before ++ default ∷ after
  pub earlier : List (List ℕ)
  pub values : AreValues texts tables number before earlier
  pub why : ModuleWhy
  pub broken : IsBroken earlier (value_of texts tables number default) why

-- those of a data node break a rule there
pub record BreaksAt (texts : List Statement) (tables : Tables) (d : Defined) (default : Located) : Type 0 where
  pub sources : List Located
  pub are : AreSources texts d sources
  pub stops : StopsAt texts tables d.number sources default

-- the fault at the statement of a default
abbrev pub bad_default : ModuleWhy → Located → TextFault
bad_default why l = record { text = l.place.text; fault = record { line = line l.statement; why = why } }

-- the statement that is to blame: a `default` statement of the node's own, or the node that its type's does not suit
abbrev pub blamed : (own : List Located) → (node default : Located) → Located
blamed [] node default = node
blamed (first ∷ more) node default = default

-- the first data node with a default that breaks a rule
pub record BreaksDefault (scoping : Scoping) (plan : Plan) (tables : Tables) (fault : TextFault) : Type 0 where
  pub at : Defined
  pub is : IsDefined scoping plan tables at
  pub default : Located
  pub breaks : BreaksAt scoping.texts tables at default
  pub first : (other : Defined) (d : Located) → IsDefined scoping plan tables other → other.number < at.number
      → BreaksAt scoping.texts tables other d → ⊥
  pub fault_is : fault ≡ bad_default breaks.stops.why (blamed (own_of at.node.kind at.statement) at.statement default)

-- those of no data node break a rule
abbrev pub KeepsDefaults : Scoping → Plan → Tables → Type 0
KeepsDefaults scoping plan tables =
    (d : Defined) → IsDefined scoping plan tables d
    → (values : List (List ℕ)) × AreDefaultsOf scoping.texts tables d values

-- a data node with its defaults
pub record HasItsDefault (texts : List Statement) (typed tables : Tables) (d : Defined) : Type 0 where
  pub values : List (List ℕ)
  pub are : AreDefaultsOf texts typed d values
  pub there : slice_get tables.nodes d.number ≡ Some (record d.node { defaults = values })

-- a schema with the defaults of all its data nodes, and as it was in all else
pub record HasDefaults (scoping : Scoping) (plan : Plan) (typed tables : Tables) : Type 0 where
  pub counted : length tables.nodes ≡ length typed.nodes
  pub nodes : (d : Defined) → IsDefined scoping plan typed d → HasItsDefault scoping.texts typed tables d
  pub choices : tables.choices ≡ typed.choices
  pub types : tables.types ≡ typed.types
  pub modules : tables.modules ≡ typed.modules
  pub patterns : tables.patterns ≡ typed.patterns
