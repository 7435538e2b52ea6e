-- Circles among what modules define in terms of each other (RFC 7950 5.1, 7.3, 7.12, 7.18.2, 7.20.2).
use Rattle.std.specs.Prelude.{◌≡◌, ℕ, true, if◌then◌else◌, List, [], ◌∷◌, Option, Some, None, is_some, option_and_then}
use Rattle.nc_yang_words.specs.declared.statement.Statement.{Statement}
use Rattle.nc_yang_statements.specs.declared.fault.Fault.{Fault}
use Rattle.nc_yang_statements.specs.declared.fault.ModuleWhy.TheVariants.{Loop}
use Rattle.nc_yang_statements.specs.declared.keyword.Keyword.{Keyword}
use Rattle.nc_yang_statements.specs.declared.keyword.Keyword.TheVariants.{Base, Feature, Grouping, Identity, IfFeature, Import, Module, TypeName, Typedef, Uses}
use Rattle.nc_yang_statements.specs.BuiltIns.{built_in_of}
use Rattle.nc_yang_statements.specs.Keywords.{is_same_keyword}
use Rattle.nc_yang_statements.specs.Statements.{kind, line, name}
use Rattle.nc_yang_scopes.specs.Scopes.{Located, Place, resolved, root, text_of}
use Rattle.nc_yang_scopes.specs.Names.{StandsIn}
use Rattle.nc_yang_scopes.specs.declared.kinds.Defined.{Defined}
use Rattle.nc_yang_scopes.specs.declared.kinds.Defined.TheVariants.{Features, Groupings, Identities, Modules, Typedefs}

-- all sorts
unfoldable pub all_defined : List Defined
all_defined = Modules ∷ Typedefs ∷ Groupings ∷ Identities ∷ Features ∷ []

-- the keyword of such definitions
abbrev pub defining : Defined → Keyword
defining Modules = Module
defining Typedefs = Typedef
defining Groupings = Grouping
defining Identities = Identity
defining Features = Feature

-- the keyword of the statements by which they name one another
abbrev pub naming : Defined → Keyword
naming Modules = Import
naming Typedefs = TypeName
naming Groupings = Uses
naming Identities = Base
naming Features = IfFeature

-- the typedef that a type is: a built-in type is none
abbrev pub typedef_of : List Statement → List ℕ → Place → Option Located
typedef_of texts word place = if is_some (built_in_of word) then None else resolved texts Typedef word place

-- the definition that a statement names
abbrev pub named : List Statement → Defined → Located → Option Located
named texts Modules l = option_and_then (root texts) (text_of texts (name l.statement))
named texts Typedefs l = typedef_of texts (name l.statement) l.place
named texts Groupings l = resolved texts Grouping (name l.statement) l.place
named texts Identities l = resolved texts Identity (name l.statement) l.place
named texts Features l = resolved texts Feature (name l.statement) l.place

-- a definition, in a text and in no statement that is passed over
pub record IsDefinition (texts : List Statement) (sort : Defined) (l : Located) : Type 0 where
  pub text : ℕ
  pub top : Located
  pub is_top : root texts text ≡ Some top
  pub stands : StandsIn top l
  pub keyword : is_same_keyword (defining sort) (kind l.statement) ≡ true

-- a statement that stands anywhere in a definition names one: that definition itself, or another
pub record Names (texts : List Statement) (sort : Defined) (here statement there : Located) : Type 0 where
  pub is_here : IsDefinition texts sort here
  pub stands : StandsIn here statement
  pub keyword : is_same_keyword (naming sort) (kind statement.statement) ≡ true
  pub means : named texts sort statement ≡ Some there
  pub is_there : IsDefinition texts sort there

-- a definition leads to another in any number of steps
pub data Reaches (texts : List Statement) (sort : Defined) : Located → Located → Type 0 where
  itself : (l : Located) → Reaches texts sort l l
  through : (l statement next last : Located) → Names texts sort l statement next → Reaches texts sort next last
      → Reaches texts sort l last

-- a statement in a definition names one that leads back to it
pub record IsOnCircle (texts : List Statement) (sort : Defined) (statement : Located) : Type 0 where
  pub here : Located
  pub there : Located
  pub names : Names texts sort here statement there
  pub back : Reaches texts sort there here

-- such a statement is the fault of its text
pub record BreaksLoop (texts : List Statement) (sort : Defined) (text : ℕ) (fault : Fault) : Type 0 where
  pub statement : Located
  pub circle : IsOnCircle texts sort statement
  pub is_text : text ≡ statement.place.text
  pub is_fault : fault ≡ record { line = line statement.statement; why = Loop }

-- the same, of any sort
pub record BreaksLoops (texts : List Statement) (text : ℕ) (fault : Fault) : Type 0 where
  pub sort : Defined
  pub breaks : BreaksLoop texts sort text fault

-- there is none
abbrev pub KeepsLoops : List Statement → Type 0
KeepsLoops texts = (text : ℕ) (fault : Fault) → BreaksLoops texts text fault → ⊥
