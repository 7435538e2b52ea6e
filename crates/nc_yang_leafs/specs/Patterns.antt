-- The patterns of the string types of a schema, before and after they have numbers in it (RFC 7950 9.4.5).
use Rattle.std.specs.Prelude.{◌≡◌, ℕ, Contains, List, [], map, length, Option, Some, IsTrue, option_map, slice_get}
use Rattle.std.specs.List.{All}
use Rattle.nc_names.specs.declared.name.QName.{QName}
use Rattle.nc_patterns.specs.Makers.{Rose}
use Rattle.nc_patterns.specs.Reading.{IsPattern}
use Rattle.nc_patterns.specs.Translation.{anchored}
use Rattle.nc_schema.specs.declared.node.Node.{Node}
use Rattle.nc_schema.specs.declared.value_type.ValueType.{ValueType}
use Rattle.nc_schema.specs.declared.value_type.ValueType.TheVariants.{Chars as String}
use Rattle.nc_schema.specs.Kinds.{has_value}
use Rattle.nc_schema.specs.Tables.{Tables}
use Rattle.nc_yang_statements.specs.declared.fault.ModuleWhy.TheVariants.{PatternRefused}
use Rattle.nc_yang_statements.specs.Statements.{line, name}
use Rattle.nc_yang_scopes.specs.declared.naming.TextFault.{TextFault}
use Rattle.nc_yang_scopes.specs.Numbers.{AreNumbers}
use Rattle.nc_yang_scopes.specs.Scopes.{Located}
use Rattle.nc_yang_types.specs.declared.member.Named.{Named}
use Rattle.nc_yang_types.specs.Meanings.{Entry, Means}
use Rattle.nc_yang_leafs.specs.declared.bare.Typed.{Typed}
use Rattle.nc_yang_leafs.specs.Bases.{Basis, type_of}
use Rattle.nc_yang_leafs.specs.Typings.{HasTypings, IsAmong}

-- a type with these numbers of patterns, where it is a string
abbrev pub with_numbers : List ℕ → ValueType → ValueType
with_numbers numbers (String lengths starless others) = String lengths starless numbers
with_numbers numbers entry = entry

-- and without any
abbrev pub bare : ValueType → ValueType
bare (String lengths starless numbers) = String lengths starless []
bare entry = entry

-- a schema without its patterns
abbrev pub without_patterns : Tables → Tables
without_patterns tables = record tables { types = map bare tables.types; patterns = [] }

-- the numbers of a type's patterns
abbrev pub numbers_in : ValueType → List ℕ
numbers_in (String lengths starless numbers) = numbers
numbers_in entry = []

-- the statement of a number has a pattern for its argument
abbrev pub IsReadable : List Located → ℕ → Type 0
IsReadable located statement = (l : Located) × (slice_get located statement ≡ Some l) × IsPattern (name l.statement)

-- a schema with types and without patterns, and for each type the numbers of its `pattern` statements
pub record AreTypings (derived : List Located → List QName → Type 0) (b : Basis) (typed : Typed) : Type 0 where
  pub types : List ValueType
  pub is : HasTypings derived (AreNumbers b.scoping.located) b (record typed.schema { types = types })
  pub stripped : typed.schema.types ≡ map bare types
  pub statements : typed.patterns ≡ map numbers_in types
  pub none : typed.schema.patterns ≡ []
  pub readable : All (All (IsReadable b.scoping.located)) typed.patterns

-- the text of the statement of a number
abbrev pub text_at : List Located → ℕ → Option (List ℕ)
text_at located statement = option_map (λ l. name l.statement) (slice_get located statement)

-- a type has the patterns of these statements
pub record HasItsPatterns (located : List Located) (statements : List ℕ) (entry : ValueType) (tables : Tables)
    (place : ℕ) : Type 0 where
  pub numbers : List ℕ
  pub texts : List (List ℕ)
  pub are : map (text_at located) statements ≡ map Some texts
  pub named : map (slice_get tables.patterns) numbers ≡ map Some texts
  pub there : slice_get tables.types place ≡ Some (with_numbers numbers entry)

-- each type has the patterns of its statements, and all else is as it was
pub record HasPatterns (located : List Located) (typed : Typed) (tables : Tables) : Type 0 where
  pub nodes : tables.nodes ≡ typed.schema.nodes
  pub choices : tables.choices ≡ typed.schema.choices
  pub modules : tables.modules ≡ typed.schema.modules
  pub counted : length tables.types ≡ length typed.schema.types
  pub each : (place : ℕ) (entry : ValueType) (statements : List ℕ) → slice_get typed.schema.types place ≡ Some entry →
      slice_get typed.patterns place ≡ Some statements → HasItsPatterns located statements entry tables place

-- what a maker of expressions has refused before a call and after it
pub record Refusals : Type 0 where
  pub before : ℕ
  pub now : ℕ
  pub last : Option (List ℕ)

-- that, of its parts
abbrev pub refusing : (before now : ℕ) → Option (List ℕ) → Refusals
refusing before now last = record { before = before; now = now; last = last }

-- it refused a pattern in that call
pub record Refuses (refusals : Refusals) (pattern : List ℕ) : Type 0 where
  pub rose : Rose refusals.before refusals.now
  pub last : refusals.last ≡ Some (anchored pattern)

-- the fault of a pattern that the maker refuses
abbrev pub refused_in : (text line : ℕ) → TextFault
refused_in text line = record { text = text; fault = record { line = line; why = PatternRefused } }

-- the same, at a statement
abbrev pub refused_at : Located → TextFault
refused_at l = refused_in l.place.text (line l.statement)

-- it refused the pattern of one of these statements
pub record RefusesOne (located : List Located) (statements : List ℕ) (refusals : Refusals)
    (fault : TextFault) : Type 0 where
  pub statement : ℕ
  pub one : Contains statements statement
  pub pattern : Located
  pub is : slice_get located statement ≡ Some pattern
  pub refuses : Refuses refusals (name pattern.statement)
  pub at : fault ≡ refused_at pattern

-- or of one of a type
pub record RefusesType (located : List Located) (typed : Typed) (refusals : Refusals) (fault : TextFault) : Type 0 where
  pub place : ℕ
  pub statements : List ℕ
  pub there : slice_get typed.patterns place ≡ Some statements
  pub refuses : RefusesOne located statements refusals fault

-- a `pattern` statement is one of the type of a leaf or leaf-list, or of a member of it
pub record IsPatternInUse (b : Basis) (pattern : Located) : Type 0 where
  pub number : ℕ
  pub node : Node
  pub there : slice_get b.given.nodes number ≡ Some node
  pub valued : IsTrue (has_value node.kind)
  pub of_type : Located
  pub is : type_of b.scoping b.plan number ≡ Some of_type
  pub one : Located
  pub among : IsAmong b.on b.scoping.texts of_type one
  pub entry : ValueType
  pub patterns : List Located
  pub names : List Named
  pub means : Means b.on b.scoping.texts one (Entry entry patterns names)
  pub holds : Contains patterns pattern

-- the maker refused the pattern of a statement that is in use
pub record IsRefused (b : Basis) (refusals : Refusals) (fault : TextFault) : Type 0 where
  pub pattern : Located
  pub in_use : IsPatternInUse b pattern
  pub refuses : Refuses refusals (name pattern.statement)
  pub at : fault ≡ refused_at pattern
