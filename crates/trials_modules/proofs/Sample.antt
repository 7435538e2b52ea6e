-- A module worked by hand, whole: the data nodes of whatever schema it has, after those of ietf-netconf-acm.
use Rattle.std.proofs.Common.{◌≡◌, ℕ, true, false, List, [], ◌∷◌, ◌++◌, map, refl, ap, ◌∙◌}
use Rattle.std.specs.Prelude.{Option, Some, None, codes, is_some, unwrap_or}
use Rattle.std.specs.Str.{chars, is_utf8}
use Rattle.std.proofs.Math.Utf8.{encode}
use denote.Hole.Carrier.{hidden, out, roll, shown}
use Rattle.nc_schema.specs.Tables.{Tables}
use Rattle.nc_schema.specs.declared.node.Deny.TheVariants.{All as DenyAll, Nothing}
use Rattle.nc_schema.specs.declared.node.Kind.{Kind}
use Rattle.nc_schema.specs.declared.node.Kind.TheVariants.{Container, Leaf, LeafList, List as ListKind}
use Rattle.nc_schema.specs.declared.node.Node.{Node}
use Rattle.nc_yang_words.specs.declared.statement.Statement.TheBlock.{shown-the_row-Statement-0}
use Rattle.nc_yang_words.specs.declared.statement.Statement.TheViews.{out-Statement, roll-Statement}
use Rattle.nc_yang_statements.specs.Arguments.{is_true_text}
use Rattle.nc_yang_statements.specs.Keywords.{keyword_of, keywords, word_of}
use Rattle.nc_yang_nodes.specs.Denials.{is_word_of}
use Rattle.nc_yang_nodes.specs.Roles.{FeatureTest}
use Rattle.nc_yang_data.specs.Drafts.{is_user_text}
use Rattle.nc_yang.specs.Access.{access_yang}
use Rattle.nc_yang.specs.Schemas.{Defines}
use Rattle.nc_yang.proofs.Worked.{IsText, file, have, lines_of, texts_of}
use Rattle.trials_modules.proofs.Given.{Seen, given_in, some_there, unseen}
use Rattle.trials_modules.proofs.Drawn.{tables_of}
use Rattle.trials_modules.proofs.Whole.{plain, worked}

-- ---- its text
abbrev pub sample : List ℕ
sample = lines_of
    (codes "module ex {"
    ∷ codes "  namespace \"urn:ex\";"
    ∷ codes "  prefix ex;"
    ∷ codes "  revision 2024-01-01;"
    ∷ codes "  container top {"
    ∷ codes "    leaf host { type string; }"
    ∷ codes "    list port {"
    ∷ codes "      key name;"
    ∷ codes "      unique tag;"
    ∷ codes "      leaf name { type string; }"
    ∷ codes "      leaf tag { type uint16; }"
    ∷ codes "    }"
    ∷ codes "    leaf up { type leafref { path \"../port/name\"; } }"
    ∷ codes "  }"
    ∷ codes "}"
    ∷ [])

pub sample_is_text : IsText sample
unfolding is_utf8 chars encode
sample_is_text = record { utf8 = refl; reads = refl; short = refl }

-- ---- what its statements give, and those of ietf-netconf-acm before them, whatever features are on
abbrev pub steps : ℕ
steps = 64

unfoldable pub sample_seen : FeatureTest → Seen
sample_seen on = unwrap_or (given_in (texts_of sample) on steps 2) unseen

sample_ends : (on : FeatureTest) → is_some (given_in (texts_of sample) on steps 2) ≡ true
unfolding access_yang chars encode out-Statement out roll-Statement roll shown-the_row-Statement-0 shown hidden keyword_of keywords word_of is_word_of
sample_ends on = refl

pub sample_gives : (on : FeatureTest) → given_in (texts_of sample) on steps 2 ≡ Some (sample_seen on)
unfolding sample_seen
sample_gives on = some_there (given_in (texts_of sample) on steps 2) unseen (sample_ends on)

-- ---- its data nodes
abbrev pub data_node : (space name : List ℕ) → (in_module : ℕ) → Option ℕ → Kind → Node
data_node space name in_module parent kind = record {
  name = record { space = space; name = name };
  «module» = in_module;
  parent = parent;
  kind = kind;
  kind_of_value = 0;
  keys = [];
  uniques = [];
  mandatory = false;
  defaults = [];
  least = 0;
  most = None;
  by_user = false;
  cases = [];
  deny = Nothing;
}

-- those of ietf-netconf-acm (RFC 8341 3.5.2)
abbrev access_node : List ℕ → Option ℕ → Kind → Node
access_node name parent kind = data_node (codes "urn:ietf:params:xml:ns:yang:ietf-netconf-acm") name 0 parent kind

abbrev in_case : (case : ℕ) → Node → Node
in_case number it = record it { cases = record { choice = 0; case = number } ∷ [] }

abbrev pub access_nodes : List Node
access_nodes =
    record (access_node (codes "nacm") None (Container false)) { deny = DenyAll }
    ∷ access_node (codes "enable-nacm") (Some 0) Leaf
    ∷ access_node (codes "read-default") (Some 0) Leaf
    ∷ access_node (codes "write-default") (Some 0) Leaf
    ∷ access_node (codes "exec-default") (Some 0) Leaf
    ∷ access_node (codes "enable-external-groups") (Some 0) Leaf
    ∷ access_node (codes "groups") (Some 0) (Container false)
    ∷ record (access_node (codes "group") (Some 6) ListKind) { keys = 8 ∷ [] }
    ∷ access_node (codes "name") (Some 7) Leaf
    ∷ access_node (codes "user-name") (Some 7) LeafList
    ∷ record (access_node (codes "rule-list") (Some 0) ListKind) { keys = 11 ∷ []; by_user = true }
    ∷ access_node (codes "name") (Some 10) Leaf
    ∷ access_node (codes "group") (Some 10) LeafList
    ∷ record (access_node (codes "rule") (Some 10) ListKind) { keys = 14 ∷ []; by_user = true }
    ∷ access_node (codes "name") (Some 13) Leaf
    ∷ access_node (codes "module-name") (Some 13) Leaf
    ∷ in_case 0 (access_node (codes "rpc-name") (Some 13) Leaf)
    ∷ in_case 1 (access_node (codes "notification-name") (Some 13) Leaf)
    ∷ in_case 2 (access_node (codes "path") (Some 13) Leaf)
    ∷ access_node (codes "access-operations") (Some 13) Leaf
    ∷ record (access_node (codes "action") (Some 13) Leaf) { mandatory = true }
    ∷ access_node (codes "comment") (Some 13) Leaf
    ∷ []

abbrev node : List ℕ → Option ℕ → Kind → Node
node name parent kind = data_node (codes "urn:ex") name 1 parent kind

abbrev pub top : Node
top = node (codes "top") None (Container false)

abbrev pub host : Node
host = node (codes "host") (Some 22) Leaf

abbrev pub port : Node
port = record (node (codes "port") (Some 22) ListKind) { keys = 25 ∷ []; uniques = (26 ∷ []) ∷ [] }

abbrev pub port_name : Node
port_name = node (codes "name") (Some 24) Leaf

abbrev pub tag : Node
tag = node (codes "tag") (Some 24) Leaf

abbrev pub up : Node
up = node (codes "up") (Some 22) Leaf

abbrev pub sample_nodes : List Node
sample_nodes = top ∷ host ∷ port ∷ port_name ∷ tag ∷ up ∷ []

pub nodes_are : (on : FeatureTest) → (tables_of (texts_of sample) on (sample_seen on)).nodes ≡ access_nodes ++ sample_nodes
unfolding sample_seen access_yang chars encode out-Statement out roll-Statement roll shown-the_row-Statement-0 shown hidden keyword_of keywords word_of is_word_of is_true_text is_user_text
nodes_are on = refl

-- whatever schema it has, those are its data nodes, but for the numbers of types and for defaults
pub sample_is : (lines : List (List ℕ)) (tables : Tables) → Defines (file sample ∷ []) lines tables → map plain tables.nodes ≡ access_nodes ++ sample_nodes
sample_is lines tables d =
    let is = worked (file sample ∷ []) (texts_of sample) (have sample sample_is_text) steps sample_seen sample_gives lines tables d in
    is.nodes ∙ ap (map plain) (nodes_are d.on)
