-- Patterns added to a schema, statement after statement and type after type.
use Rattle.std.specs.Prelude.{◌≡◌, ◌<◌, ◌≤◌, ℕ, List, ◌++◌, map, length, Option, Some, slice_get}
use Rattle.nc_schema.specs.declared.value_type.ValueType.{ValueType}
use Rattle.nc_schema.specs.Tables.{Tables}
use Rattle.nc_yang_scopes.specs.Scopes.{Located}
use Rattle.nc_yang_leafs.specs.declared.bare.Typed.{Typed}
use Rattle.nc_yang_leafs.specs.Patterns.{HasItsPatterns, text_at, with_numbers}

-- the pattern of the statement of a number has that number, and may have been added for it
pub record AddsOne (located : List Located) (statement : ℕ) (old new : Tables) (number : ℕ) : Type 0 where
  pub text : List ℕ
  pub is : text_at located statement ≡ Some text
  pub more : List (List ℕ)
  pub added : new ≡ record old { patterns = old.patterns ++ more }
  pub named : slice_get new.patterns number ≡ Some text

-- a number is known of each of some statements: that of its pattern
abbrev pub AreKnown : List Located → (patterns : List (List ℕ)) → List (Option ℕ) → Type 0
AreKnown located patterns known =
    (statement number : ℕ) → slice_get known statement ≡ Some (Some number)
    → (text : List ℕ) × (text_at located statement ≡ Some text) × (slice_get patterns number ≡ Some text)

-- those of several
pub record AddsAll (located : List Located) (statements : List ℕ) (old new : Tables) (numbers : List ℕ) : Type 0 where
  pub texts : List (List ℕ)
  pub are : map (text_at located) statements ≡ map Some texts
  pub more : List (List ℕ)
  pub added : new ≡ record old { patterns = old.patterns ++ more }
  pub named : map (slice_get new.patterns) numbers ≡ map Some texts

-- the type of a number has the patterns of these statements, and all else is as it was
pub record SetsType (located : List Located) (place : ℕ) (statements : List ℕ) (old new : Tables) : Type 0 where
  pub numbers : List ℕ
  pub between : Tables
  pub adds : AddsAll located statements old between numbers
  pub rest : new ≡ record between { types = new.types }
  pub counted : length new.types ≡ length old.types
  pub here : (entry : ValueType) → slice_get old.types place ≡ Some entry → slice_get new.types place
      ≡ Some (with_numbers numbers entry)
  pub others : (other : ℕ) → (other ≡ place → ⊥) → slice_get new.types other ≡ slice_get old.types other

-- the first so many types have the patterns of their statements, and all else is as it was
pub record HasSomePatterns (located : List Located) (typed : Typed) (count : ℕ) (tables : Tables) : Type 0 where
  pub nodes : tables.nodes ≡ typed.schema.nodes
  pub choices : tables.choices ≡ typed.schema.choices
  pub modules : tables.modules ≡ typed.schema.modules
  pub counted : length tables.types ≡ length typed.schema.types
  pub each : (place : ℕ) (entry : ValueType) (statements : List ℕ) → place < count
      → slice_get typed.schema.types place ≡ Some entry →
      slice_get typed.patterns place ≡ Some statements → HasItsPatterns located statements entry tables place
  pub others : (place : ℕ) → count ≤ place → slice_get tables.types place ≡ slice_get typed.schema.types place
