-- Spaces of names, in which no two statements of a block have one name (RFC 7950 6.2.1, 7.1.4). Dates of revisions are
-- none: two revisions may have one.
use Rattle.std.specs.Prelude.{◌≡◌, ℕ, ◌&&◌, ◌||◌, not, Bool, true, false, if◌then◌else◌, List, [], ◌∷◌, ◌++◌, Option, Some, None, option_map, slice_get, Contains}
use Rattle.std.specs.List.{flat_map, list_any}
use Rattle.std.specs.Option.{option_map_or}
use Rattle.nc_names.specs.Same.{is_same_text}
use Rattle.nc_yang_words.specs.declared.statement.Statement.{Statement}
use Rattle.nc_yang_statements.specs.declared.fault.Fault.{Fault}
use Rattle.nc_yang_statements.specs.declared.fault.ModuleWhy.TheVariants.{Twice}
use Rattle.nc_yang_statements.specs.declared.keyword.Keyword.{Keyword}
use Rattle.nc_yang_statements.specs.declared.keyword.Keyword.TheVariants.{Action, Choice, Container, Feature, Grouping, Identity, Import, Leaf, LeafList, List as ListWord, Module, Notification, Prefix, Rpc, Typedef}
use Rattle.nc_yang_statements.specs.Keywords.{is_closed, is_same_keyword}
use Rattle.nc_yang_statements.specs.Statements.{below, kind, name, part}
use Rattle.nc_yang_statements.specs.Rules.{at_if, is_case}
use Rattle.nc_yang_scopes.specs.declared.space.Space.{Space}
use Rattle.nc_yang_scopes.specs.declared.space.Space.TheVariants.{Cases, Features, Groupings, Identities, Nodes, Prefixes, Typedefs}

-- all of them
unfoldable pub spaces : List Space
spaces = Typedefs ∷ Groupings ∷ Identities ∷ Features ∷ Nodes ∷ Cases ∷ Prefixes ∷ []

-- a data node, a choice, an rpc, an action or a notification (RFC 7950 6.2.1)
abbrev pub is_node : Keyword → Bool
is_node Container = true
is_node Leaf = true
is_node LeafList = true
is_node ListWord = true
is_node Choice = true
is_node Rpc = true
is_node Action = true
is_node Notification = true
is_node keyword = false

-- a statement has a name in that space where it stands directly below another: nodes in a choice are its cases, and a
-- module's prefixes are its own and those of its imports
abbrev pub is_in_space : Space → Keyword → Keyword → Bool
is_in_space Typedefs above keyword = is_same_keyword Typedef keyword
is_in_space Groupings above keyword = is_same_keyword Grouping keyword
is_in_space Identities above keyword = is_same_keyword Identity keyword
is_in_space Features above keyword = is_same_keyword Feature keyword
is_in_space Nodes above keyword = not (is_same_keyword Choice above) && is_node keyword
is_in_space Cases above keyword = is_same_keyword Choice above && is_case keyword
is_in_space Prefixes above keyword =
    is_same_keyword Module above && (is_same_keyword Prefix keyword || is_same_keyword Import keyword)

-- the prefix that an import says
abbrev pub prefix_in : Statement → Option (List ℕ)
prefix_in s = option_map name (part Prefix (below s))

-- the name by which a statement is known: an import by its prefix
abbrev pub known_as : Statement → Option (List ℕ)
known_as s = if is_same_keyword Import (kind s) then prefix_in s else Some (name s)

-- the name that a statement has in a space
abbrev pub name_in : Space → Keyword → Statement → Option (List ℕ)
name_in space above s = if is_in_space space above (kind s) then known_as s else None

-- a statement has that name there
abbrev pub has_name : Space → Keyword → List ℕ → Statement → Bool
has_name space above word s = option_map_or (λ w. is_same_text w word) (name_in space above s) false

-- one before it has its name
abbrev pub is_taken : Space → Keyword → List Statement → Statement → Bool
is_taken space above before s =
    option_map_or (λ w. list_any (has_name space above w) before) (name_in space above s) false

-- of two with one name, the later
abbrev pub taken : Space → Keyword → List Statement → List Statement → List Fault
taken space above before [] = []
taken space above before (s ∷ ss) =
    at_if (is_taken space above before s) s Twice ++ taken space above (before ++ s ∷ []) ss

-- the statements directly in one that have a name that another before them has
abbrev pub renamed : Statement → List Fault
renamed s = flat_map (λ space. taken space (kind s) [] (below s)) spaces

-- nothing is asked in a statement that is passed over
abbrev pub faults_in : Statement → List Fault
faults_in s = if is_closed (kind s) then [] else renamed s

-- a statement is this one, or stands somewhere in it, and in none that is passed over
pub data IsWithin : Statement → Statement → Type 0 where
  itself : (s : Statement) → IsWithin s s
  inside : (s t u : Statement) (place : ℕ) → is_closed (kind s) ≡ false → slice_get (below s) place ≡ Some t
      → IsWithin t u → IsWithin s u

-- in a statement, or in one that stands in it, two have one name
pub record BreaksSpaces (s : Statement) (fault : Fault) : Type 0 where
  pub statement : Statement
  pub stands : IsWithin s statement
  pub breaks : Contains (faults_in statement) fault

-- no rule on spaces of names is broken
abbrev pub KeepsSpaces : Statement → Type 0
KeepsSpaces s = (fault : Fault) → BreaksSpaces s fault → ⊥
