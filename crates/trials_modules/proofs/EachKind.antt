-- A module with each kind of statement that gives data nodes, worked by hand: a container with presence, the use of a
-- grouping, a leaf that has to be there, a leaf-list with bounds whose entries the user orders, a choice with a case and
-- with a leaf as a short case, and state, which is no part of a configuration.
use Rattle.std.proofs.Common.{◌≡◌, ℕ, true, false, List, [], ◌∷◌, ◌++◌, map, refl, ◌∙◌}
use Rattle.std.specs.Prelude.{Option, Some, None, codes, is_some, unwrap_or}
use Rattle.std.specs.Str.{chars, is_utf8}
use Rattle.std.proofs.Math.Utf8.{encode}
use denote.Hole.Carrier.{hidden, out, roll, shown}
use Rattle.nc_schema.specs.Tables.{Tables}
use Rattle.nc_schema.specs.declared.node.Choice.{Choice}
use Rattle.nc_schema.specs.declared.node.Kind.{Kind}
use Rattle.nc_schema.specs.declared.node.Kind.TheVariants.{Container, Leaf, LeafList}
use Rattle.nc_schema.specs.declared.node.Node.{Node}
use Rattle.nc_yang_words.specs.declared.statement.Statement.TheBlock.{shown-the_row-Statement-0}
use Rattle.nc_yang_words.specs.declared.statement.Statement.TheViews.{out-Statement, roll-Statement}
use Rattle.nc_yang_statements.specs.Arguments.{is_false_text, is_true_text, is_unbounded}
use Rattle.nc_yang_statements.specs.Keywords.{keyword_of, keywords, word_of}
use Rattle.nc_yang_nodes.specs.Denials.{is_word_of}
use Rattle.nc_yang_nodes.specs.Roles.{FeatureTest}
use Rattle.nc_yang_data.specs.Drafts.{is_user_text}
use Rattle.nc_yang.specs.Access.{access_yang}
use Rattle.nc_yang.specs.Schemas.{Defines}
use Rattle.nc_yang.proofs.Worked.{IsText, file, have, module_of, texts_of}
use Rattle.trials_modules.proofs.Given.{Seen, given_in, some_there, unseen}
use Rattle.trials_modules.proofs.Drawn.{tables_of}
use Rattle.trials_modules.proofs.Whole.{plain, worked}
use Rattle.trials_modules.proofs.Sample.{access_nodes, data_node, steps}

abbrev pub kinds : List ℕ
kinds = module_of
    (codes "  grouping address {"
    ∷ codes "    leaf ip { type string; mandatory true; }"
    ∷ codes "    leaf-list port { type uint16; min-elements 1; max-elements 4; ordered-by user; }"
    ∷ codes "  }"
    ∷ codes "  container server {"
    ∷ codes "    presence 'it serves';"
    ∷ codes "    uses address;"
    ∷ codes "    choice way {"
    ∷ codes "      case slow { leaf old { type string; } }"
    ∷ codes "      leaf new { type string; }"
    ∷ codes "    }"
    ∷ codes "  }"
    ∷ codes "  container counters { config false; leaf seen { type uint8; } }"
    ∷ [])

kinds_is_text : IsText kinds
unfolding is_utf8 chars encode
kinds_is_text = record { utf8 = refl; reads = refl; short = refl }

abbrev kinds_seen : FeatureTest → Seen
kinds_seen on = unwrap_or (given_in (texts_of kinds) on steps 2) unseen

kinds_ends : (on : FeatureTest) → is_some (given_in (texts_of kinds) on steps 2) ≡ true
unfolding access_yang chars encode out-Statement out roll-Statement roll shown-the_row-Statement-0 shown hidden keyword_of keywords word_of is_word_of is_false_text
kinds_ends on = refl

kinds_give : (on : FeatureTest) → given_in (texts_of kinds) on steps 2 ≡ Some (kinds_seen on)
kinds_give on = some_there (given_in (texts_of kinds) on steps 2) unseen (kinds_ends on)

abbrev node : List ℕ → Option ℕ → Kind → Node
node name parent kind = data_node (codes "urn:m") name 1 parent kind

-- the choice of ietf-netconf-acm has the number 0, and this one 1
abbrev in_way : (case : ℕ) → Node → Node
in_way number it = record it { cases = record { choice = 1; case = number } ∷ [] }

-- their numbers are those from 22 on
abbrev pub kinds_nodes : List Node
kinds_nodes =
    node (codes "server") None (Container true)
    ∷ record (node (codes "ip") (Some 22) Leaf) { mandatory = true }
    ∷ record (node (codes "port") (Some 22) LeafList) { least = 1; most = Some 4; by_user = true }
    ∷ in_way 0 (node (codes "old") (Some 22) Leaf)
    ∷ in_way 1 (node (codes "new") (Some 22) Leaf)
    ∷ []

abbrev choice_in : ℕ → Choice
choice_in parent = record { parent = Some parent; mandatory = false; default_case = None; within = [] }

abbrev pub kinds_choices : List Choice
kinds_choices = choice_in 13 ∷ choice_in 22 ∷ []

nodes_are : (on : FeatureTest) → map plain (tables_of (texts_of kinds) on (kinds_seen on)).nodes ≡ access_nodes ++ kinds_nodes
unfolding access_yang chars encode out-Statement out roll-Statement roll shown-the_row-Statement-0 shown hidden keyword_of keywords word_of is_word_of is_true_text is_false_text is_user_text is_unbounded
nodes_are on = refl

choices_are : (on : FeatureTest) → (tables_of (texts_of kinds) on (kinds_seen on)).choices ≡ kinds_choices
unfolding access_yang chars encode out-Statement out roll-Statement roll shown-the_row-Statement-0 shown hidden keyword_of keywords word_of is_word_of is_true_text is_false_text is_user_text is_unbounded
choices_are on = refl

-- whatever schema it has, those are its data nodes, but for the numbers of types and for defaults, and its choices
pub kinds_is : (lines : List (List ℕ)) (tables : Tables) → Defines (file kinds ∷ []) lines tables →
    (map plain tables.nodes ≡ access_nodes ++ kinds_nodes) × (tables.choices ≡ kinds_choices)
kinds_is lines tables d =
    let is = worked (file kinds ∷ []) (texts_of kinds) (have kinds kinds_is_text) steps kinds_seen kinds_give lines tables d in
    (is.nodes ∙ nodes_are d.on, is.choices ∙ choices_are d.on)
