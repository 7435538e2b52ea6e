-- What statements say of data nodes and choices by themselves (RFC 7950 7.5 to 7.9).
use Rattle.std.specs.Prelude.{ℕ, ◌^◌, ◌&&◌, slice_get, Bool, false, if◌then◌else◌, nat_lt, List, [], Option, Some, None, option_and_then, codes, ℤ, pos}
use Rattle.std.specs.Option.{option_map_or}
use Rattle.nc_names.specs.Same.{is_same_text}
use Rattle.nc_schema.specs.Kinds.{has_entries}
use Rattle.nc_schema.specs.NumberTexts.{number_of}
use Rattle.nc_schema.specs.declared.node.Choice.{Choice}
use Rattle.nc_schema.specs.declared.node.Kind.{Kind}
use Rattle.nc_schema.specs.declared.node.Kind.TheVariants.{Container, Leaf, LeafList, List as ListKind}
use Rattle.nc_schema.specs.declared.node.Node.{Node}
use Rattle.nc_yang_words.specs.declared.statement.Statement.{Statement}
use Rattle.nc_yang_statements.specs.Arguments.{is_unbounded}
use Rattle.nc_yang_statements.specs.Keywords.{is_same_keyword}
use Rattle.nc_yang_statements.specs.Rules.{says_true}
use Rattle.nc_yang_statements.specs.Statements.{below, kind, name, has, part}
use Rattle.nc_yang_statements.specs.declared.keyword.Keyword.{Keyword}
use Rattle.nc_yang_statements.specs.declared.keyword.Keyword.TheVariants.{Default, Leaf as LeafWord, LeafList as LeafListWord, List as ListWord, Mandatory, MaxElements, MinElements, OrderedBy, Presence}
use Rattle.nc_yang_scopes.specs.Scopes.{Located, Scoping}
use Rattle.nc_yang_scopes.specs.Prefixes.{namespace_at}
use Rattle.nc_yang_nodes.specs.Cases.{case_of}
use Rattle.nc_yang_nodes.specs.Roles.{FeatureTest}
use Rattle.nc_yang_nodes.specs.declared.planned.Planned.{Planned}
use Rattle.nc_yang_nodes.specs.declared.planned.PlannedChoice.{PlannedChoice}

-- the kind of data node that a statement defines (RFC 7950 7.5 to 7.8)
abbrev pub kind_of : Keyword → List Statement → Kind
kind_of keyword ss =
    if is_same_keyword ListWord keyword then ListKind
    else (if is_same_keyword LeafWord keyword then Leaf
    else (if is_same_keyword LeafListWord keyword then LeafList else Container (has Presence ss)))

-- a number of entries
abbrev pub as_count : Option ℤ → ℕ
as_count (Some (pos n)) = if nat_lt n (2 ^ 64) then n else 0
as_count number = 0

-- the number that a statement has
abbrev pub count_in : Statement → ℕ
count_in s = as_count (number_of (name s))

-- how many entries there have to be (RFC 7950 7.7.5)
abbrev pub least_of : List Statement → ℕ
least_of ss = option_map_or count_in (part MinElements ss) 0

-- the same, where `unbounded` is none
abbrev pub bound_in : Statement → Option ℕ
bound_in s = if is_unbounded (name s) then None else Some (count_in s)

-- and how many there may be (RFC 7950 7.7.6)
abbrev pub most_of : List Statement → Option ℕ
most_of ss = option_and_then bound_in (part MaxElements ss)

-- the argument `user` of `ordered-by`
unfoldable pub is_user_text : List ℕ → Bool
is_user_text text = is_same_text text (codes "user")

-- the user orders the entries (RFC 7950 7.7.7)
abbrev pub is_by_user : List Statement → Bool
is_by_user ss = option_map_or (λ s. is_user_text (name s)) (part OrderedBy ss) false

-- a data node, but for what names other nodes or a type: its keys, unique leafs, type and defaults
abbrev pub draft_in : (space : List ℕ) → Planned → Statement → Node
draft_in space p s = record {
  name = record { space = space; name = name s };
  «module» = p.module;
  parent = p.parent;
  kind = kind_of (kind s) (below s);
  kind_of_value = 0;
  keys = [];
  uniques = [];
  mandatory = says_true (part Mandatory (below s));
  defaults = [];
  least = least_of (below s);
  most = most_of (below s);
  by_user = has_entries (kind_of (kind s) (below s)) && is_by_user (below s);
  cases = p.cases;
  deny = p.deny;
}

-- of a node without a statement nothing is known; no plan has one
abbrev pub unknown_in : (space : List ℕ) → Planned → Node
unknown_in space p = record {
  name = record { space = space; name = [] };
  «module» = p.module;
  parent = p.parent;
  kind = Container false;
  kind_of_value = 0;
  keys = [];
  uniques = [];
  mandatory = false;
  defaults = [];
  least = 0;
  most = None;
  by_user = false;
  cases = p.cases;
  deny = p.deny;
}

-- a planned node by the statement that defines it
abbrev pub draft_at : Scoping → Planned → Node
draft_at scoping p =
    option_map_or (λ l. draft_in (namespace_at scoping.texts p.module) p l.statement)
    (slice_get scoping.located p.statement) (unknown_in (namespace_at scoping.texts p.module) p)

-- the number of the case that a choice has by default (RFC 7950 7.9.3)
abbrev pub default_case : List Statement → FeatureTest → Located → Option ℕ
default_case texts on l = option_and_then (λ d. case_of texts on (name d) l) (part Default (below l.statement))

-- the choice of a planned one
abbrev pub choice_at : List Statement → FeatureTest → PlannedChoice → Located → Choice
choice_at texts on p l = record {
  parent = p.parent;
  mandatory = says_true (part Mandatory (below l.statement));
  default_case = default_case texts on l;
  within = p.within;
}

-- of a choice without a statement nothing is known; no plan has one
abbrev pub unknown_choice : PlannedChoice → Choice
unknown_choice p = record { parent = p.parent; mandatory = false; default_case = None; within = p.within }

-- a planned choice by the statement that defines it (RFC 7950 7.9)
abbrev pub choice_in : Scoping → FeatureTest → PlannedChoice → Choice
choice_in scoping on p =
    option_map_or (choice_at scoping.texts on p) (slice_get scoping.located p.statement) (unknown_choice p)
