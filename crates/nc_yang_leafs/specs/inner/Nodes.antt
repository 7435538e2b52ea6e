-- The type of one data node, and of several.
use Rattle.std.specs.Prelude.{◌≡◌, ◌<◌, ◌≤◌, ℕ, Bool, List, [], ◌∷◌, length, replicate, Some, None, IsTrue, slice_get}
use Rattle.nc_names.specs.declared.name.QName.{QName}
use Rattle.nc_schema.specs.declared.node.Kind.{Kind}
use Rattle.nc_schema.specs.declared.node.Node.{Node}
use Rattle.nc_schema.specs.declared.value_type.ValueType.{ValueType}
use Rattle.nc_schema.specs.Kinds.{has_value}
use Rattle.nc_yang_scopes.specs.declared.naming.TextFault.{TextFault}
use Rattle.nc_yang_scopes.specs.Numbers.{AreNumbers}
use Rattle.nc_yang_scopes.specs.Scopes.{Located}
use Rattle.nc_yang_nodes.specs.declared.planned.Plan.{Plan}
use Rattle.nc_yang_types.specs.declared.planned.Meanings.{Meanings}
use Rattle.nc_yang_types.specs.Meanings.{Means}
use Rattle.nc_yang_types.specs.Plans.{AreMeanings}
use Rattle.nc_yang_types.specs.Wholes.{MeansWhole}
use Rattle.nc_yang_leafs.specs.declared.table.Table.{Table}
use Rattle.nc_yang_leafs.specs.declared.site.Site.{Site}
use Rattle.nc_yang_leafs.specs.Bases.{AllMeanWhole, Basis, basis_on, leads, type_of}
use Rattle.nc_yang_leafs.specs.Typings.{HasItsType, HasTypes, IsAmong, IsEntry, IsInUse, IsOfType}
use Rattle.nc_yang_leafs.specs.Marks.{AreMarks}
use Rattle.nc_yang_leafs.specs.inner.Sites.{work}
use Rattle.nc_yang_leafs.specs.inner.Tables.{AddsTypes, IsReady, IsSettled, LosesPath, Work}

-- the basis of the types of a plan's data nodes
abbrev pub basis_of : (on : ℕ → List ℕ → Bool) → Site → Plan → Basis
basis_of on site plan = basis_on on site.scopes.now plan site.schema.now

-- the type of a `type` statement got a number, and entries
pub record GivesNumber (derived : List Located → List QName → Type 0) (on : ℕ → List ℕ → Bool) (w : Work)
    (top : Located) (old new : Table) (number : ℕ) : Type 0 where
  pub adds : AddsTypes old new
  pub settled : IsSettled derived w new
  pub means : MeansWhole on w.scoping.texts top →
      HasTypes (Means on w.scoping.texts) (IsEntry derived (AreNumbers w.scoping.located)
      (leads w.scoping w.given w.node)) new.types (top ∷ []) (number ∷ [])
  pub fresh : MeansWhole on w.scoping.texts top → (other : ℕ) → length old.types ≤ other → other < length new.types →
      (l : Located) × IsAmong on w.scoping.texts top l × HasTypes (Means on w.scoping.texts) (IsEntry derived
      (AreNumbers w.scoping.located) (leads w.scoping w.given w.node)) new.types (l ∷ []) (other ∷ [])

-- a data node may be given a type
pub record MayGive (derived : List Located → List QName → Type 0) (b : Basis) (w : Work) (kind : Kind)
    (table : Table) : Type 0 where
  pub are : AreMeanings b.on w.scoping w.meanings
  pub ready : IsReady derived w table
  pub whole : IsTrue (has_value kind) → (l : Located) × (type_of b.scoping b.plan w.node ≡ Some l)
      × MeansWhole b.on b.scoping.texts l

-- it was given one
pub record Gives (derived : List Located → List QName → Type 0) (b : Basis) (w : Work) (kind : Kind) (old new : Table)
    (kind_of_value : ℕ) : Type 0 where
  pub adds : AddsTypes old new
  pub settled : IsSettled derived w new
  pub has : HasItsType derived (AreNumbers b.scoping.located) b new.types w.node kind kind_of_value
  pub fresh : (number : ℕ) → length old.types ≤ number → number < length new.types
      → IsOfType derived (AreNumbers b.scoping.located) b new.types w.node kind number

-- the path of a leafref in its type leads nowhere
pub record BreaksAt (b : Basis) (w : Work) (kind : Kind) (fault : TextFault) : Type 0 where
  pub valued : IsTrue (has_value kind)
  pub of_type : Located
  pub is : type_of b.scoping b.plan w.node ≡ Some of_type
  pub loses : LosesPath b.on w of_type fault

-- no plan has a number
abbrev pub blank : ℕ → Table
blank count = record { known = replicate count None; plans = []; types = [] }

-- the first so many data nodes have those types, and each type is in use
pub record HaveKinds (derived : List Located → List QName → Type 0) (b : Basis) (types : List ValueType) (count : ℕ)
    (kinds : List ℕ) : Type 0 where
  pub counted : length kinds ≡ count
  pub each : (number kind : ℕ) (node : Node) → slice_get kinds number ≡ Some kind → slice_get b.given.nodes number
      ≡ Some node →
      HasItsType derived (AreNumbers b.scoping.located) b types number node.kind kind
  pub used : (number : ℕ) → number < length types → IsInUse derived (AreNumbers b.scoping.located) b types number

-- what is known of the schema and of what its types mean
pub record IsKnown (b : Basis) (meanings : Meanings) (marks : List Bool) : Type 0 where
  pub are : AreMeanings b.on b.scoping meanings
  pub marked : AreMarks meanings marks
  pub whole : AllMeanWhole b

-- as far as one has come
pub record AreGiven (derived : List Located → List QName → Type 0) (b : Basis) (site : Site) (table : Table)
    (kinds : List ℕ) (count : ℕ) : Type 0 where
  pub ready : IsReady derived (work site count) table
  pub have : HaveKinds derived b table.types count kinds
