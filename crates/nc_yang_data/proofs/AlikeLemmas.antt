-- Plans that are alike give the same data nodes, and break the same rules.
use Rattle.std.proofs.Common.{◌≡◌, ◌+◌, ℕ, zero, suc, false, cond, List, [], ◌∷◌, ◌++◌, map, refl, sym, ap, ◌∙◌}
use Rattle.std.specs.Prelude.{Option, option_and_then, slice_get}
use Rattle.std.specs.List.{flat_map}
use Rattle.std.specs.Option.{option_map_or}
use Rattle.nc_schema.specs.Tables.{Tables}
use Rattle.nc_schema.specs.declared.node.Choice.{Choice}
use Rattle.nc_schema.specs.declared.node.Node.{Node}
use Rattle.nc_yang_statements.specs.Statements.{line}
use Rattle.nc_yang_statements.specs.declared.fault.ModuleWhy.TheVariants.{BadArgument}
use Rattle.nc_yang_scopes.specs.Prefixes.{namespace_at}
use Rattle.nc_yang_scopes.specs.Scopes.{Located, Scoping}
use Rattle.nc_yang_scopes.specs.declared.naming.TextFault.{TextFault}
use Rattle.nc_yang_nodes.specs.Alike.{AreAlike, SeenChoice, SeenNode, seen_choice, seen_node}
use Rattle.nc_yang_nodes.specs.Plans.{most_levels}
use Rattle.nc_yang_nodes.specs.Roles.{FeatureTest}
use Rattle.nc_yang_nodes.specs.declared.planned.Plan.{Plan}
use Rattle.nc_yang_nodes.specs.declared.planned.Planned.{Planned}
use Rattle.nc_yang_nodes.specs.declared.planned.PlannedChoice.{PlannedChoice}
use Rattle.nc_yang_data.specs.Conditions.{all_conditions, conditions}
use Rattle.nc_yang_data.specs.Data.{data_faults, data_tables, drafts, nodes_from, with_leafs}
use Rattle.nc_yang_data.specs.Defaults.{asks, carrier, choices_from, default_faults, is_by_default, outermost, nodes_from as asking_from}
use Rattle.nc_yang_data.specs.Drafts.{choice_at, choice_in, draft_at, draft_in, unknown_choice, unknown_in}
use Rattle.nc_yang_data.specs.Leafs.{CaseTest, is_case_of, names_case}
use Rattle.nc_yang_data.specs.Modules.{modules_from}
use Rattle.nc_yang_data.specs.Places.{faults_from, in_text, node_faults, node_leafs}
use Rattle.nc_yang_data.specs.declared.place.Leafs.{Leafs}
use Rattle.nc_yang_data.proofs.SeenTwins.{names_are, seen_faults}

map_seen : {A B C : Type 0} (seen : A → B) (f : A → C) (g : B → C) → ((x : A) → f x ≡ g (seen x)) → (xs : List A) → map f xs ≡ map g (map seen xs)
map_seen seen f g same [] = refl
map_seen seen f g same (x ∷ xs) = λ i. same x i ∷ map_seen seen f g same xs i

module _ (scoping : Scoping) (on : FeatureTest) where
  -- ---- data nodes
  abbrev planned_of : SeenNode → Planned
  planned_of s = record { statement = 0; «module» = s.in_module; parent = s.parent; level = s.level; cases = s.cases; deny = s.deny }

  abbrev draft_of : SeenNode → Node
  draft_of s =
      option_map_or (λ (l : Located). draft_in (namespace_at scoping.texts s.in_module) (planned_of s) l.statement) s.statement
      (unknown_in (namespace_at scoping.texts s.in_module) (planned_of s))

  draft_is : (p : Planned) → draft_at scoping p ≡ draft_of (seen_node scoping p)
  draft_is p = refl

  abbrev leafs_of : Tables → CaseTest → ℕ → Option Located → Leafs
  leafs_of tables named number o =
      option_map_or (λ (l : Located). node_leafs scoping.texts tables named l.place.text number l.statement) o (record { keys = []; uniques = [] })

  abbrev nodes_of : Tables → CaseTest → ℕ → List SeenNode → List Node
  nodes_of tables named number [] = []
  nodes_of tables named number (s ∷ ss) = with_leafs (draft_of s) (leafs_of tables named number s.statement) ∷ nodes_of tables named (number + 1) ss

  nodes_are : (tables : Tables) (named : CaseTest) (number : ℕ) (ps : List Planned) → nodes_from scoping tables named number ps ≡ nodes_of tables named number (map (seen_node scoping) ps)
  nodes_are tables named number [] = refl
  nodes_are tables named number (p ∷ ps) = λ i. with_leafs (draft_is p i) (leafs_of tables named number (slice_get scoping.located p.statement)) ∷ nodes_are tables named (number + 1) ps i

  abbrev faults_of : Tables → CaseTest → ℕ → List SeenNode → List TextFault
  faults_of tables named number [] = []
  faults_of tables named number (s ∷ ss) =
      option_map_or (λ (l : Located). map (in_text l.place.text) (node_faults scoping.texts tables named l.place.text number l.statement)) s.statement []
      ++ faults_of tables named (number + 1) ss

  faults_are : (tables : Tables) (named : CaseTest) (number : ℕ) (ps : List Planned) → faults_from scoping tables named number ps ≡ faults_of tables named number (map (seen_node scoping) ps)
  faults_are tables named number [] = refl
  faults_are tables named number (p ∷ ps) = λ i.
      option_map_or (λ (l : Located). map (in_text l.place.text) (node_faults scoping.texts tables named l.place.text number l.statement)) (slice_get scoping.located p.statement) []
      ++ faults_are tables named (number + 1) ps i

  -- ---- choices
  abbrev choice_of : SeenChoice → Choice
  choice_of c =
      let p : PlannedChoice = record { statement = 0; «module» = c.in_module; parent = c.parent; within = c.within; nodes_before = c.nodes_before } in
      option_map_or (choice_at scoping.texts on p) c.statement (unknown_choice p)

  choice_is : (p : PlannedChoice) → choice_in scoping on p ≡ choice_of (seen_choice scoping p)
  choice_is p = refl

  -- ---- cases by their names
  abbrev statement_in : List SeenChoice → ℕ → Option Located
  statement_in cs number = option_and_then (λ (c : SeenChoice). c.statement) (slice_get cs number)

  abbrev case_named : List SeenChoice → CaseTest
  case_named cs k choice word = option_map_or (is_case_of scoping.texts on k.case choice word) (statement_in cs k.choice) false

  statement_is : (ps : List PlannedChoice) (number : ℕ) →
      option_and_then (λ (p : PlannedChoice). slice_get scoping.located p.statement) (slice_get ps number) ≡ statement_in (map (seen_choice scoping) ps) number
  statement_is [] number = refl
  statement_is (p ∷ ps) zero = refl
  statement_is (p ∷ ps) (suc number) = statement_is ps number

  named_is : (plan : Plan) → names_case scoping on plan ≡ case_named (map (seen_choice scoping) plan.choices)
  named_is plan = λ i k choice word. option_map_or (is_case_of scoping.texts on k.case choice word) (statement_is plan.choices k.choice i) false

  -- ---- what is read of the statement of a data node, by its number
  abbrev read_at : (Option Located → List TextFault) → List SeenNode → ℕ → List TextFault
  read_at read ss number = option_map_or (λ (s : SeenNode). read s.statement) (slice_get ss number) []

  read_at_is : (read : Option Located → List TextFault) (ps : List Planned) (number : ℕ) →
      option_map_or (λ (p : Planned). read (slice_get scoping.located p.statement)) (slice_get ps number) [] ≡ read_at read (map (seen_node scoping) ps) number
  read_at_is read [] number = refl
  read_at_is read (p ∷ ps) zero = refl
  read_at_is read (p ∷ ps) (suc number) = read_at_is read ps number

  -- ---- what has to be there in a default case
  abbrev fault_of : Option Located → List TextFault
  fault_of o = option_map_or (λ (l : Located). record { text = l.place.text; fault = record { line = line l.statement; why = BadArgument } } ∷ []) o []

  abbrev blame : List SeenNode → ℕ → List TextFault
  blame ss number = read_at fault_of ss number

  abbrev forbidden_of : (ℕ → List TextFault) → Tables → ℕ → List TextFault
  forbidden_of blamed tables number =
      cond (option_map_or (λ (node : Node). is_by_default tables node.cases) (slice_get tables.nodes number) false) (blamed number) []

  abbrev asking_of : (ℕ → List TextFault) → Tables → ℕ → List SeenNode → List TextFault
  asking_of blamed tables number [] = []
  asking_of blamed tables number (s ∷ ss) =
      cond (option_map_or asks (slice_get tables.nodes number) false) (forbidden_of blamed tables (outermost tables most_levels number)) []
      ++ asking_of blamed tables (number + 1) ss

  abbrev placed_of : (ℕ → List TextFault) → Tables → Option Located → Choice → List TextFault
  placed_of blamed tables o choice =
      option_map_or (λ above. forbidden_of blamed tables (outermost tables most_levels above)) (carrier tables choice.parent choice.within)
      (cond (is_by_default tables choice.within) (fault_of o) [])

  abbrev choices_of : (ℕ → List TextFault) → Tables → ℕ → List SeenChoice → List TextFault
  choices_of blamed tables number [] = []
  choices_of blamed tables number (c ∷ cs) =
      option_map_or (λ (choice : Choice). cond choice.mandatory (placed_of blamed tables c.statement choice) []) (slice_get tables.choices number) []
      ++ choices_of blamed tables (number + 1) cs

  module _ (plan : Plan) (tables : Tables) where
    abbrev blamed : ℕ → List TextFault
    blamed number = option_map_or (λ (p : Planned). fault_of (slice_get scoping.located p.statement)) (slice_get plan.nodes number) []

    asking_are : (number : ℕ) (ps : List Planned) → asking_from scoping tables plan number ps ≡ asking_of blamed tables number (map (seen_node scoping) ps)
    asking_are number [] = refl
    asking_are number (p ∷ ps) = λ i.
        cond (option_map_or asks (slice_get tables.nodes number) false) (forbidden_of blamed tables (outermost tables most_levels number)) []
        ++ asking_are (number + 1) ps i

    choices_are : (number : ℕ) (ps : List PlannedChoice) → choices_from scoping tables plan number ps ≡ choices_of blamed tables number (map (seen_choice scoping) ps)
    choices_are number [] = refl
    choices_are number (p ∷ ps) = λ i.
        option_map_or (λ (choice : Choice). cond choice.mandatory (placed_of blamed tables (slice_get scoping.located p.statement) choice) []) (slice_get tables.choices number) []
        ++ choices_are (number + 1) ps i

    defaults_are : default_faults scoping tables plan
        ≡ asking_of (blame (map (seen_node scoping) plan.nodes)) tables 0 (map (seen_node scoping) plan.nodes)
        ++ choices_of (blame (map (seen_node scoping) plan.nodes)) tables 0 (map (seen_choice scoping) plan.choices)
    defaults_are =
        (λ i. asking_are 0 plan.nodes i ++ choices_are 0 plan.choices i)
        ∙ (λ i. asking_of (λ number. read_at_is fault_of plan.nodes number i) tables 0 (map (seen_node scoping) plan.nodes)
        ++ choices_of (λ number. read_at_is fault_of plan.nodes number i) tables 0 (map (seen_choice scoping) plan.choices))

  -- ---- conditions of keys
  abbrev condition_of : Option Located → List TextFault
  condition_of o = option_map_or (λ (l : Located). conditions l.place.text l.statement) o []

  abbrev keyed : List SeenNode → ℕ → List TextFault
  keyed ss key = read_at condition_of ss key

  abbrev conditions_of : (ℕ → List TextFault) → List Node → List TextFault
  conditions_of asked nodes = flat_map (λ (node : Node). flat_map asked node.keys) nodes

  conditions_are : (plan : Plan) (nodes : List Node) → all_conditions scoping plan nodes ≡ conditions_of (keyed (map (seen_node scoping) plan.nodes)) nodes
  conditions_are plan nodes = λ i. conditions_of (λ key. read_at_is condition_of plan.nodes key i) nodes

  -- ---- plans
  abbrev tables_of : List SeenNode → List SeenChoice → Tables
  tables_of ss cs = record {
    nodes = nodes_of (record { nodes = map draft_of ss; choices = []; types = []; modules = []; patterns = [] }) (case_named cs) 0 ss;
    choices = map choice_of cs;
    types = [];
    modules = modules_from on 0 scoping.texts;
    patterns = [];
  }

  drafts_are : (plan : Plan) → drafts scoping plan ≡ record { nodes = map draft_of (map (seen_node scoping) plan.nodes); choices = []; types = []; modules = []; patterns = [] }
  drafts_are plan =
      let nodes = map_seen (seen_node scoping) (draft_at scoping) draft_of draft_is plan.nodes in
      λ i. record { nodes = nodes i; choices = []; types = []; modules = []; patterns = [] }

  tables_are : (plan : Plan) → data_tables scoping on plan ≡ tables_of (map (seen_node scoping) plan.nodes) (map (seen_choice scoping) plan.choices)
  tables_are plan =
      let nodes = (λ i. nodes_from scoping (drafts_are plan i) (named_is plan i) 0 plan.nodes)
      ∙ nodes_are (record { nodes = map draft_of (map (seen_node scoping) plan.nodes); choices = []; types = []; modules = []; patterns = [] })
      (case_named (map (seen_choice scoping) plan.choices)) 0 plan.nodes in
      let choices = map_seen (seen_choice scoping) (choice_in scoping on) choice_of choice_is plan.choices in
      λ i. record { nodes = nodes i; choices = choices i; types = []; modules = modules_from on 0 scoping.texts; patterns = [] }

  pub tables_alike : (p q : Plan) → AreAlike scoping p q → data_tables scoping on p ≡ data_tables scoping on q
  tables_alike p q h = tables_are p ∙ (λ i. tables_of (h.nodes i) (h.choices i)) ∙ sym (tables_are q)

  abbrev all_faults_of : List SeenNode → List SeenChoice → List TextFault
  all_faults_of ss cs =
      faults_of (record { nodes = map draft_of ss; choices = []; types = []; modules = []; patterns = [] }) (case_named cs) 0 ss
      ++ (seen_faults ss cs
      ++ ((asking_of (blame ss) (tables_of ss cs) 0 ss ++ choices_of (blame ss) (tables_of ss cs) 0 cs)
      ++ conditions_of (keyed ss) (tables_of ss cs).nodes))

  all_faults_are : (plan : Plan) → data_faults scoping on plan ≡ all_faults_of (map (seen_node scoping) plan.nodes) (map (seen_choice scoping) plan.choices)
  all_faults_are plan =
      let own = (λ i. faults_from scoping (drafts_are plan i) (named_is plan i) 0 plan.nodes)
      ∙ faults_are (record { nodes = map draft_of (map (seen_node scoping) plan.nodes); choices = []; types = []; modules = []; patterns = [] })
      (case_named (map (seen_choice scoping) plan.choices)) 0 plan.nodes in
      let by_default = ap (λ t. default_faults scoping t plan) (tables_are plan)
      ∙ defaults_are plan (tables_of (map (seen_node scoping) plan.nodes) (map (seen_choice scoping) plan.choices)) in
      let by_keys = ap (λ (t : Tables). all_conditions scoping plan t.nodes) (tables_are plan)
      ∙ conditions_are plan (tables_of (map (seen_node scoping) plan.nodes) (map (seen_choice scoping) plan.choices)).nodes in
      λ i. own i ++ (names_are scoping plan i ++ (by_default i ++ by_keys i))

  pub faults_alike : (p q : Plan) → AreAlike scoping p q → data_faults scoping on p ≡ data_faults scoping on q
  faults_alike p q h = all_faults_are p ∙ (λ i. all_faults_of (h.nodes i) (h.choices i)) ∙ sym (all_faults_are q)
