-- The data nodes, choices and modules of a schema, by what is seen of its plan.
use Rattle.std.proofs.Common.{◌≡◌, ◌+◌, ℕ, zero, suc, false, List, [], ◌∷◌, map, refl, ◌∙◌}
use Rattle.std.specs.Prelude.{Option, option_and_then, slice_get}
use Rattle.std.specs.Option.{option_map_or}
use Rattle.nc_schema.specs.Tables.{Tables}
use Rattle.nc_schema.specs.declared.node.Choice.{Choice}
use Rattle.nc_schema.specs.declared.node.Node.{Node}
use Rattle.nc_yang_words.specs.declared.statement.Statement.{Statement}
use Rattle.nc_yang_scopes.specs.Prefixes.{namespace_at}
use Rattle.nc_yang_scopes.specs.Scopes.{Located, Scoping}
use Rattle.nc_yang_nodes.specs.Alike.{SeenChoice, SeenNode, seen_choice, seen_node}
use Rattle.nc_yang_nodes.specs.Plans.{statement_of}
use Rattle.nc_yang_nodes.specs.Roles.{FeatureTest}
use Rattle.nc_yang_nodes.specs.declared.planned.Plan.{Plan}
use Rattle.nc_yang_nodes.specs.declared.planned.Planned.{Planned}
use Rattle.nc_yang_nodes.specs.declared.planned.PlannedChoice.{PlannedChoice}
use Rattle.nc_yang_data.specs.Data.{data_tables, drafts, nodes_from, with_leafs}
use Rattle.nc_yang_data.specs.Drafts.{choice_at, choice_in, draft_at, draft_in, unknown_choice, unknown_in}
use Rattle.nc_yang_data.specs.Leafs.{CaseTest, is_case_of, names_case}
use Rattle.nc_yang_data.specs.Modules.{modules_from}
use Rattle.nc_yang_data.specs.Places.{node_leafs}
use Rattle.trials_modules.proofs.Given.{Seen, seen}

-- ---- by the texts, and the features that are on
-- a data node by its statement alone
abbrev planned_of : SeenNode → Planned
planned_of s = record { statement = 0; «module» = s.in_module; parent = s.parent; level = s.level; cases = s.cases; deny = s.deny }

abbrev draft_of : List Statement → SeenNode → Node
draft_of texts s =
    option_map_or (λ (l : Located). draft_in (namespace_at texts s.in_module) (planned_of s) l.statement) s.statement
    (unknown_in (namespace_at texts s.in_module) (planned_of s))

abbrev pub drafts_of : List Statement → List SeenNode → Tables
drafts_of texts ss = record { nodes = map (draft_of texts) ss; choices = []; types = []; modules = []; patterns = [] }

-- the cases of the choices, by their names
abbrev statement_in : List SeenChoice → ℕ → Option Located
statement_in cs number = option_and_then (λ (c : SeenChoice). c.statement) (slice_get cs number)

abbrev pub case_named : List Statement → FeatureTest → List SeenChoice → CaseTest
case_named texts on cs k choice word = option_map_or (is_case_of texts on k.case choice word) (statement_in cs k.choice) false

-- data nodes with the leafs that their statements name, of which the first has that number
abbrev nodes_of : List Statement → Tables → CaseTest → ℕ → List SeenNode → List Node
nodes_of texts tables named number [] = []
nodes_of texts tables named number (s ∷ ss) =
    with_leafs (draft_of texts s)
    (option_map_or (λ (l : Located). node_leafs texts tables named l.place.text number l.statement) s.statement (record { keys = []; uniques = [] }))
    ∷ nodes_of texts tables named (number + 1) ss

-- a choice
abbrev choice_of : List Statement → FeatureTest → SeenChoice → Choice
choice_of texts on c =
    let p : PlannedChoice = record { statement = 0; «module» = c.in_module; parent = c.parent; within = c.within; nodes_before = c.nodes_before } in
    option_map_or (choice_at texts on p) c.statement (unknown_choice p)

-- the schema, without types and defaults
abbrev pub tables_of : List Statement → FeatureTest → Seen → Tables
tables_of texts on s = record {
  nodes = nodes_of texts (drafts_of texts s.nodes) (case_named texts on s.choices) 0 s.nodes;
  choices = map (choice_of texts on) s.choices;
  types = [];
  modules = modules_from on 0 texts;
  patterns = [];
}

-- the statement that defines a data node
abbrev pub defined_by : List SeenNode → ℕ → Option Located
defined_by ss number = option_and_then (λ (s : SeenNode). s.statement) (slice_get ss number)

-- ---- what is planned gives these
map_seen : {A B C : Type 0} (look : A → B) (f : A → C) (g : B → C) → ((x : A) → f x ≡ g (look x)) → (xs : List A) → map f xs ≡ map g (map look xs)
map_seen look f g same [] = refl
map_seen look f g same (x ∷ xs) = λ i. same x i ∷ map_seen look f g same xs i

module _ (scoping : Scoping) (on : FeatureTest) where
  draft_is : (p : Planned) → draft_at scoping p ≡ draft_of scoping.texts (seen_node scoping p)
  draft_is p = refl

  choice_is : (p : PlannedChoice) → choice_in scoping on p ≡ choice_of scoping.texts on (seen_choice scoping p)
  choice_is p = refl

  nodes_are : (tables : Tables) (named : CaseTest) (number : ℕ) (ps : List Planned) →
      nodes_from scoping tables named number ps ≡ nodes_of scoping.texts tables named number (map (seen_node scoping) ps)
  nodes_are tables named number [] = refl
  nodes_are tables named number (p ∷ ps) = λ i.
      with_leafs (draft_is p i)
      (option_map_or (λ (l : Located). node_leafs scoping.texts tables named l.place.text number l.statement) (slice_get scoping.located p.statement)
      (record { keys = []; uniques = [] }))
      ∷ nodes_are tables named (number + 1) ps i

  choice_statement : (ps : List PlannedChoice) (number : ℕ) →
      option_and_then (λ (p : PlannedChoice). slice_get scoping.located p.statement) (slice_get ps number)
      ≡ statement_in (map (seen_choice scoping) ps) number
  choice_statement [] number = refl
  choice_statement (p ∷ ps) zero = refl
  choice_statement (p ∷ ps) (suc number) = choice_statement ps number

  module _ (plan : Plan) where
    pub named_is : names_case scoping on plan ≡ case_named scoping.texts on (seen scoping plan).choices
    named_is = λ i k choice word. option_map_or (is_case_of scoping.texts on k.case choice word) (choice_statement plan.choices k.choice i) false

    pub drafts_are : drafts scoping plan ≡ drafts_of scoping.texts (seen scoping plan).nodes
    drafts_are =
        let nodes = map_seen (seen_node scoping) (draft_at scoping) (draft_of scoping.texts) draft_is plan.nodes in
        λ i. record { nodes = nodes i; choices = []; types = []; modules = []; patterns = [] }

    pub tables_are : data_tables scoping on plan ≡ tables_of scoping.texts on (seen scoping plan)
    tables_are =
        let nodes = (λ i. nodes_from scoping (drafts_are i) (named_is i) 0 plan.nodes)
        ∙ nodes_are (drafts_of scoping.texts (seen scoping plan).nodes) (case_named scoping.texts on (seen scoping plan).choices) 0 plan.nodes in
        let choices = map_seen (seen_choice scoping) (choice_in scoping on) (choice_of scoping.texts on) choice_is plan.choices in
        λ i. record { nodes = nodes i; choices = choices i; types = []; modules = modules_from on 0 scoping.texts; patterns = [] }

  node_statement : (ps : List Planned) (number : ℕ) →
      option_and_then (λ (p : Planned). slice_get scoping.located p.statement) (slice_get ps number) ≡ defined_by (map (seen_node scoping) ps) number
  node_statement [] number = refl
  node_statement (p ∷ ps) zero = refl
  node_statement (p ∷ ps) (suc number) = node_statement ps number

  pub statement_is : (plan : Plan) (number : ℕ) → statement_of scoping plan number ≡ defined_by (seen scoping plan).nodes number
  statement_is plan number = node_statement plan.nodes number
