-- The rules on the names that statements say and define (RFC 7950 5.5, 7.1.5, 7.4, 7.13, 7.18.2, 7.19, 7.20.2).
use Rattle.std.specs.Prelude.{◌≡◌, ℕ, ◌&&◌, Bool, false, List, [], ◌∷◌, ◌++◌, is_some, is_none, Contains, Some}
use Rattle.nc_yang_words.specs.declared.statement.Statement.{Statement}
use Rattle.nc_yang_words.specs.declared.statement.Statement.TheViews.{out-Statement}
use Rattle.nc_yang_statements.specs.declared.fault.Fault.{Fault}
use Rattle.nc_yang_statements.specs.declared.fault.ModuleWhy.TheVariants.{Twice, UnknownName}
use Rattle.nc_yang_statements.specs.declared.keyword.Keyword.{Keyword}
use Rattle.nc_yang_statements.specs.declared.keyword.Keyword.TheVariants.{Base, Feature, Grouping, Identity, IfFeature, Import, TypeName, Typedef, Uses}
use Rattle.nc_yang_statements.specs.BuiltIns.{built_in_of}
use Rattle.nc_yang_statements.specs.Keywords.{is_closed}
use Rattle.nc_yang_statements.specs.Statements.{kind, name}
use Rattle.nc_yang_statements.specs.Rules.{at_if}
use Rattle.nc_yang_scopes.specs.Scopes.{Located, Place, child, found, has_colon, prefix_of, resolved, root, text_of, text_of_prefix}

-- a definition that is not there
abbrev pub is_lost : List Statement → Keyword → Statement → Place → Bool
is_lost texts keyword s place = is_none (resolved texts keyword (name s) place)

-- what a statement of this keyword names is not there: a grouping, a type that is not built in, an identity, a feature,
-- a module
abbrev pub is_nameless : List Statement → Place → Keyword → Statement → Bool
is_nameless texts place Uses s = is_lost texts Grouping s place
is_nameless texts place TypeName s = is_none (built_in_of (name s)) && is_lost texts Typedef s place
is_nameless texts place Base s = is_lost texts Identity s place
is_nameless texts place IfFeature s = is_lost texts Feature s place
is_nameless texts place Import s = is_none (text_of texts (name s))
is_nameless texts place keyword s = false

-- the keyword of a statement, with its prefix where it has one
abbrev pub keyword_text : Statement → List ℕ
keyword_text s = (out-Statement s).keyword

-- a statement of an extension whose prefix the module does not know (RFC 7950 7.19)
abbrev pub is_foreign : List Statement → Place → Statement → Bool
is_foreign texts place s =
    has_colon (keyword_text s) && is_none (text_of_prefix texts place.text (prefix_of (keyword_text s)))

-- the blocks further out than the one in which something stands
abbrev pub further_out : List (List Statement) → List (List Statement)
further_out [] = []
further_out (block ∷ outer) = outer

-- a definition of that name stands further out
abbrev pub is_defined_out : Keyword → List ℕ → Place → Bool
is_defined_out keyword word place = is_some (found keyword word place.text (further_out place.blocks))

-- a typedef or a grouping has the name of one further out (RFC 7950 5.5)
abbrev pub is_shadowing : Place → Keyword → Statement → Bool
is_shadowing place Typedef s = is_defined_out Typedef (name s) place
is_shadowing place Grouping s = is_defined_out Grouping (name s) place
is_shadowing place keyword s = false

-- the rules that a statement breaks by the names that it says or defines
abbrev pub misnamed : List Statement → Located → List Fault
misnamed texts l =
    at_if (is_nameless texts l.place (kind l.statement) l.statement) l.statement UnknownName
    ++ (at_if (is_foreign texts l.place l.statement) l.statement UnknownName
    ++ at_if (is_shadowing l.place (kind l.statement) l.statement) l.statement Twice)

-- a statement is this one, or stands somewhere in it, and in none that is passed over
pub data StandsIn : Located → Located → Type 0 where
  itself : (l : Located) → StandsIn l l
  inside : (l c inner : Located) (place : ℕ) → is_closed (kind l.statement) ≡ false → child place l ≡ Some c
      → StandsIn c inner → StandsIn l inner

-- a statement, or one that stands in it, breaks one of these rules
pub record Misnames (texts : List Statement) (l : Located) (fault : Fault) : Type 0 where
  pub statement : Located
  pub stands : StandsIn l statement
  pub breaks : Contains (misnamed texts statement) fault

-- a statement of a text breaks one
pub record BreaksNames (texts : List Statement) (text : ℕ) (fault : Fault) : Type 0 where
  pub top : Located
  pub is : root texts text ≡ Some top
  pub misnames : Misnames texts top fault

-- no rule on names is broken
abbrev pub KeepsNames : List Statement → Type 0
KeepsNames texts = (text : ℕ) (fault : Fault) → BreaksNames texts text fault → ⊥
