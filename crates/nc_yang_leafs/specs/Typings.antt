-- The types of the leafs and leaf-lists of a schema (RFC 7950 7.6.3, 7.7.3, 9).
use Rattle.std.specs.Prelude.{◌≡◌, ◌<◌, ℕ, Bool, Contains, List, [], ◌∷◌, length, Option, Some, IsTrue, IsFalse, IsSomeAnd, map, slice_get}
use Rattle.nc_names.specs.declared.name.QName.{QName}
use Rattle.nc_schema.specs.declared.node.Kind.{Kind}
use Rattle.nc_schema.specs.declared.node.Node.{Node}
use Rattle.nc_schema.specs.declared.pattern.LeafrefEnd.{LeafrefEnd}
use Rattle.nc_schema.specs.declared.value_type.ValueType.{ValueType}
use Rattle.nc_schema.specs.declared.value_type.ValueType.TheVariants.{Chars as String, Union as UnionType, Identity as IdentityType}
use Rattle.nc_schema.specs.declared.value_type.ValueType.TheVariants.{Leafref as LeafrefType}
use Rattle.nc_schema.specs.Kinds.{has_value}
use Rattle.nc_schema.specs.Proper.{EachNode}
use Rattle.nc_schema.specs.Tables.{Tables}
use Rattle.nc_yang_words.specs.declared.statement.Statement.{Statement}
use Rattle.nc_yang_statements.specs.Statements.{name}
use Rattle.nc_yang_scopes.specs.Scopes.{Located}
use Rattle.nc_yang_types.specs.Meanings.{DerivedFrom, Entry, Meaning, Means, OneOf, Refers}
use Rattle.nc_yang_types.specs.Wholes.{members_of}
use Rattle.nc_yang_leafs.specs.Bases.{Basis, leads, type_of}

-- those numbers name the patterns of these statements, one after another (RFC 7950 9.4.5)
abbrev pub NameEach : (patterns : List (List ℕ)) → List ℕ → List Located → Type 0
NameEach patterns numbers statements = map (slice_get patterns) numbers ≡ map (λ p. Some (name p.statement)) statements

-- an entry is this one, and a string has the numbers of its patterns: `named` says which are those of some `pattern`
-- statements
abbrev pub IsPatterned : (named : List ℕ → List Located → Type 0) → ValueType → List Located → ValueType → Type 0
IsPatterned named (String lengths starless none) patterns other =
    (numbers : List ℕ) × named numbers patterns × (other ≡ String lengths starless numbers)
IsPatterned named entry patterns other = entry ≡ other

-- an entry of the table of types is of a meaning, but for the members of a union: `derived` says which identities are
-- derived from each that some `base` statements name (RFC 7950 9.10.2), `leads` where a `path` statement leads
abbrev pub IsEntry : (derived : List Located → List QName → Type 0) → (named : List ℕ → List Located → Type 0) →
    (leads : Located → Option LeafrefEnd) → Meaning → ValueType → Type 0
IsEntry derived named leads (Entry entry patterns names) other = IsPatterned named entry patterns other
IsEntry derived named leads (OneOf members) (UnionType numbers) = Unit {0}
IsEntry derived named leads (DerivedFrom bases) (IdentityType names) = derived bases names
IsEntry derived named leads (Refers path need) (LeafrefType target above required) =
    (leads path ≡ Some (record { target = target; above = above })) × (required ≡ need)
IsEntry derived named leads m entry = ⊥

-- the numbers of a union's member types
abbrev pub numbers_of : Meaning → ValueType → List ℕ
numbers_of (OneOf members) (UnionType numbers) = numbers
numbers_of m entry = []

-- in a table of types, those numbers are of what `type` statements mean, one after another
pub data HasTypes (means : Located → Meaning → Type 0) (is : Meaning → ValueType → Type 0)
    (types : List ValueType) : List Located → List ℕ → Type 0 where
  none : HasTypes means is types [] []
  one_more : (l : Located) (ls : List Located) (number : ℕ) (numbers : List ℕ) (m : Meaning) (entry : ValueType)
      → means l m → slice_get types number ≡ Some entry → is m entry
      → HasTypes means is types (members_of m) (numbers_of m entry)
      → HasTypes means is types ls numbers → HasTypes means is types (l ∷ ls) (number ∷ numbers)

-- a number is of what a `type` statement means where a data node uses it
abbrev pub HasType : (derived : List Located → List QName → Type 0) → (named : List ℕ → List Located → Type 0) → Basis →
    (types : List ValueType) → (node : ℕ) → Located → ℕ → Type 0
HasType derived named b types node l number =
    HasTypes (Means b.on b.scoping.texts) (IsEntry derived named (leads b.scoping b.given node)) types (l ∷ [])
    (number ∷ [])

-- a `type` statement is that one, or one of its members, down to the last (RFC 7950 9.12)
pub data IsAmong (on : ℕ → List ℕ → Bool) (texts : List Statement) (top : Located) : Located → Type 0 where
  itself : IsAmong on texts top top
  member : (one l : Located) (members : List Located) → IsAmong on texts top one → Means on texts one (OneOf members)
      → Contains members l → IsAmong on texts top l

-- an entry is of the type of a data node of a kind, or of one of its members
pub record IsOfType (derived : List Located → List QName → Type 0) (named : List ℕ → List Located → Type 0)
    (b : Basis) (types : List ValueType) (number : ℕ) (kind : Kind) (entry : ℕ) : Type 0 where
  pub valued : IsTrue (has_value kind)
  pub of_type : Located
  pub is : type_of b.scoping b.plan number ≡ Some of_type
  pub one : Located
  pub among : IsAmong b.on b.scoping.texts of_type one
  pub has : HasType derived named b types number one entry

-- a leaf or leaf-list uses an entry of the table of types
abbrev pub IsInUse : (derived : List Located → List QName → Type 0) → (named : List ℕ → List Located → Type 0) → Basis →
    (types : List ValueType) → (entry : ℕ) → Type 0
IsInUse derived named b types entry =
    (number : ℕ) × (node : Node) × (slice_get b.given.nodes number ≡ Some node)
    × IsOfType derived named b types number node.kind entry

-- a data node of a kind has that type: a leaf or leaf-list what its `type` statement means, and any other 0
pub record HasItsType (derived : List Located → List QName → Type 0) (named : List ℕ → List Located → Type 0)
    (b : Basis) (types : List ValueType) (number : ℕ) (kind : Kind) (kind_of_value : ℕ) : Type 0 where
  pub valued : IsTrue (has_value kind) → (l : Located) → type_of b.scoping b.plan number ≡ Some l
      → HasType derived named b types number l kind_of_value
  pub other : IsFalse (has_value kind) → kind_of_value ≡ 0

-- a data node as it was, but for the number of its type
abbrev pub IsSameNode : Node → Node → Type 0
IsSameNode old new = new ≡ record old { kind_of_value = new.kind_of_value }

-- the schema with types, whose strings have those numbers of patterns
pub record HasTypings (derived : List Located → List QName → Type 0) (named : List ℕ → List Located → Type 0)
    (b : Basis) (tables : Tables) : Type 0 where
  pub modules : tables.modules ≡ b.given.modules
  pub choices : tables.choices ≡ b.given.choices
  pub counted : length tables.nodes ≡ length b.given.nodes
  pub nodes : EachNode b.given (λ number old.
      IsSomeAnd (slice_get tables.nodes number) (λ new. IsSameNode old new
      × HasItsType derived named b tables.types number new.kind new.kind_of_value))
  pub entries : (number : ℕ) → number < length tables.types → IsInUse derived named b tables.types number

-- the schema with types and their patterns
abbrev pub IsTyped : (derived : List Located → List QName → Type 0) → Basis → Tables → Type 0
IsTyped derived b tables = HasTypings derived (NameEach tables.patterns) b tables
