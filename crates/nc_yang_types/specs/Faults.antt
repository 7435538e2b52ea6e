-- The rules on types over all `type` statements of modules.
use Rattle.std.specs.Prelude.{◌≡◌, ◌⊎◌, ◌&&◌, not, ℕ, Bool, true, false, codes, List, Some, Contains}
use Rattle.std.specs.List.{list_any}
use Rattle.std.specs.Option.{option_map_or}
use Rattle.nc_names.specs.Ends.{trimmed}
use Rattle.nc_names.specs.Same.{is_same_text}
use Rattle.nc_schema.specs.Values.{words_of}
use Rattle.nc_schema.specs.declared.value_type.ValueType.{ValueType}
use Rattle.nc_schema.specs.declared.value_type.ValueType.TheVariants.{Bits, Enumeration, Leafref as LeafrefType, Instance}
use Rattle.nc_yang_words.specs.declared.statement.Statement.{Statement}
use Rattle.nc_yang_statements.specs.declared.built_in.BuiltIn.TheVariants.{Union}
use Rattle.nc_yang_statements.specs.declared.fault.Fault.{Fault}
use Rattle.nc_yang_statements.specs.declared.fault.ModuleWhy.TheVariants.{BadArgument, Unsupported}
use Rattle.nc_yang_statements.specs.declared.keyword.Keyword.{Keyword}
use Rattle.nc_yang_statements.specs.declared.keyword.Keyword.TheVariants.{Default, Leaf, LeafList, Mandatory, MinElements, TypeName}
use Rattle.nc_yang_statements.specs.Keywords.{is_same_keyword}
use Rattle.nc_yang_statements.specs.Rules.{says_true}
use Rattle.nc_yang_statements.specs.Statements.{below, has, kind, line, name, part}
use Rattle.nc_yang_scopes.specs.Scopes.{Located, child, root}
use Rattle.nc_yang_scopes.specs.Names.{StandsIn}
use Rattle.nc_yang_types.specs.declared.member.Named.{Named}
use Rattle.nc_yang_types.specs.Defaults.{Brings}
use Rattle.nc_yang_types.specs.Meanings.{Breaks, Meaning, Means, OneOf, names_of, shape}
use Rattle.nc_yang_types.specs.Places.{built_in, part_of}

-- values of such a type refer to other data (RFC 7950 9.9, 9.13)
abbrev pub is_reference : ValueType → Bool
is_reference (LeafrefType target above need) = true
is_reference (Instance need) = true
is_reference entry = false

-- a `type` statement means that, by itself or through typedefs
pub record MeansReference (on : ℕ → List ℕ → Bool) (texts : List Statement) (l : Located) : Type 0 where
  pub is_type : is_same_keyword TypeName (kind l.statement) ≡ true
  pub meaning : Meaning
  pub means : Means on texts l meaning
  pub refers : is_reference (shape meaning) ≡ true

-- a member type of a union refers to other data, at its `type` statement. The server does not have such unions: of
-- which member a value is would depend on the data (RFC 7950 9.12)
pub record RefersInUnion (on : ℕ → List ℕ → Bool) (texts : List Statement) (l : Located) (fault : Fault) : Type 0 where
  pub union : built_in l ≡ Some Union
  pub place : ℕ
  pub member : Located
  pub there : child place l ≡ Some member
  pub refers : MeansReference on texts member
  pub at : fault ≡ record { line = line member.statement; why = Unsupported }

-- one of these names, which an `if-feature` makes conditional (RFC 7950 7.20.2)
abbrev pub is_conditional : List Named → List ℕ → Bool
is_conditional names word = list_any (λ n. n.conditional && is_same_text n.name word) names

-- a text of a type that lists these names has one in it that is conditional: an enumeration has one name, bits have one
-- in each word (RFC 7950 9.6.1, 9.7.2)
abbrev pub names_conditional : ValueType → List Named → List ℕ → Bool
names_conditional (Enumeration taken) names text = is_conditional names (trimmed text)
names_conditional (Bits taken) names text = list_any (is_conditional names) (words_of text)
names_conditional entry names text = false

-- a text has one in it of the names that a `type` statement lists, by itself or through typedefs
pub record ListsConditional (on : ℕ → List ℕ → Bool) (texts : List Statement) (l : Located)
    (text : List ℕ) : Type 0 where
  pub meaning : Meaning
  pub means : Means on texts l meaning
  pub conditional : names_conditional (shape meaning) (names_of meaning) text ≡ true

-- or that a member of the union lists which it means, or a member of a union among these (RFC 7950 9.12)
pub data TakesConditional (on : ℕ → List ℕ → Bool) (texts : List Statement) : Located → List ℕ → Type 0 where
  listed : (l : Located) (text : List ℕ) → ListsConditional on texts l text → TakesConditional on texts l text
  of_member : (l one : Located) (members : List Located) (text : List ℕ) → Means on texts l (OneOf members)
      → Contains members one → TakesConditional on texts one text → TakesConditional on texts l text

-- a `default` beside a `type` names an enum or a bit that is conditional, whether its feature is on or off; so it is
-- with typedefs, leafs and leaf-lists (RFC 7950 7.3.4, 7.6.4, 7.7.4)
pub record DefaultsToConditional (on : ℕ → List ℕ → Bool) (texts : List Statement) (l : Located)
    (fault : Fault) : Type 0 where
  pub of_type : Located
  pub is_type : part_of TypeName l ≡ Some of_type
  pub place : ℕ
  pub default : Located
  pub there : child place l ≡ Some default
  pub is_default : is_same_keyword Default (kind default.statement) ≡ true
  pub takes : TakesConditional on texts of_type (name default.statement)
  pub at : fault ≡ record { line = line default.statement; why = BadArgument }

-- the number of a `min-elements` that asks for none (RFC 7950 7.7.5)
unfoldable pub is_zero_text : List ℕ → Bool
is_zero_text text = is_same_text text (codes "0")

-- statements in a leaf-list that ask for an entry
abbrev pub asks_entries : List Statement → Bool
asks_entries ss = option_map_or (λ s. not (is_zero_text (name s))) (part MinElements ss) false

-- a leaf that need not be there, and a leaf-list that need not have entries, take the default over that their type
-- brings, where they have none of their own (RFC 7950 7.6.1, 7.7.2)
abbrev pub takes_over : Keyword → List Statement → Bool
takes_over Leaf ss = not (has Default ss) && not (says_true (part Mandatory ss))
takes_over LeafList ss = not (has Default ss) && not (asks_entries ss)
takes_over keyword ss = false

-- a leaf or leaf-list takes one over that names an enum or bit which is conditional in the type of the leaf, at its
-- statement (RFC 7950 7.6.4)
pub record TakesOver (on : ℕ → List ℕ → Bool) (texts : List Statement) (l : Located) (fault : Fault) : Type 0 where
  pub takes : takes_over (kind l.statement) (below l.statement) ≡ true
  pub of_type : Located
  pub is_type : part_of TypeName l ≡ Some of_type
  pub default : Located
  pub brings : Brings texts of_type default
  pub conditional : TakesConditional on texts of_type (name default.statement)
  pub at : fault ≡ record { line = line l.statement; why = BadArgument }

-- a statement breaks a rule by its parts as a type, by what a member of it means, by a `default` beside its type, or by
-- one that it takes over
abbrev pub BreaksOne : (on : ℕ → List ℕ → Bool) → List Statement → Located → Fault → Type 0
BreaksOne on texts l fault =
    Breaks on texts l fault
    ⊎ (RefersInUnion on texts l fault ⊎ (DefaultsToConditional on texts l fault ⊎ TakesOver on texts l fault))

-- a statement that stands in another, and in none that is passed over, breaks a rule
pub record BreaksType (on : ℕ → List ℕ → Bool) (texts : List Statement) (l : Located) (fault : Fault) : Type 0 where
  pub statement : Located
  pub stands : StandsIn l statement
  pub breaks : BreaksOne on texts statement fault

-- one of a text breaks one
pub record BreaksTypes (on : ℕ → List ℕ → Bool) (texts : List Statement) (text : ℕ) (fault : Fault) : Type 0 where
  pub top : Located
  pub is : root texts text ≡ Some top
  pub breaks : BreaksType on texts top fault

-- no rule on types is broken
abbrev pub KeepsTypes : (on : ℕ → List ℕ → Bool) → List Statement → Type 0
KeepsTypes on texts = (text : ℕ) (fault : Fault) → BreaksTypes on texts text fault → ⊥
