-- The data nodes, choices and modules that planned ones are (RFC 7950 7.1, 7.5 to 7.9), without types and defaults.
use Rattle.std.specs.Prelude.{ℕ, ◌+◌, List, [], ◌∷◌, ◌++◌, map}
use Rattle.nc_schema.specs.Tables.{Tables}
use Rattle.nc_schema.specs.declared.node.Node.{Node}
use Rattle.nc_yang_scopes.specs.Scopes.{Scoping}
use Rattle.nc_yang_scopes.specs.declared.naming.TextFault.{TextFault}
use Rattle.nc_yang_nodes.specs.Roles.{FeatureTest}
use Rattle.nc_yang_nodes.specs.declared.planned.Plan.{Plan}
use Rattle.nc_yang_nodes.specs.declared.planned.Planned.{Planned}
use Rattle.nc_yang_data.specs.Conditions.{all_conditions}
use Rattle.nc_yang_data.specs.Defaults.{default_faults}
use Rattle.nc_yang_data.specs.Drafts.{choice_in, draft_at}
use Rattle.nc_yang_data.specs.Leafs.{CaseTest, names_case}
use Rattle.nc_yang_data.specs.Modules.{modules_from}
use Rattle.nc_yang_data.specs.Places.{faults_from, leafs_at}
use Rattle.nc_yang_data.specs.Siblings.{name_faults}
use Rattle.nc_yang_data.specs.declared.place.Leafs.{Leafs}

-- the data nodes by their statements alone
abbrev pub drafts : Scoping → Plan → Tables
drafts scoping plan =
    record { nodes = map (draft_at scoping) plan.nodes; choices = []; types = []; modules = []; patterns = [] }

-- a data node with its keys and unique leafs
abbrev pub with_leafs : Node → Leafs → Node
with_leafs node leafs = record node { keys = leafs.keys; uniques = leafs.uniques }

-- a planned node of that number, with the leafs that its statement names among the data nodes
abbrev pub node_at : Scoping → Tables → CaseTest → ℕ → Planned → Node
node_at scoping tables named number p =
    with_leafs (draft_at scoping p) (leafs_at scoping tables named number p.statement)

-- planned nodes, of which the first has that number
abbrev pub nodes_from : Scoping → Tables → CaseTest → ℕ → List Planned → List Node
nodes_from scoping tables named number [] = []
nodes_from scoping tables named number (p ∷ ps) =
    node_at scoping tables named number p ∷ nodes_from scoping tables named (number + 1) ps

-- the tables of a schema without types and defaults
abbrev pub data_tables : Scoping → FeatureTest → Plan → Tables
data_tables scoping on plan = record {
  nodes = nodes_from scoping (drafts scoping plan) (names_case scoping on plan) 0 plan.nodes;
  choices = map (choice_in scoping on) plan.choices;
  types = [];
  modules = modules_from on 0 scoping.texts;
  patterns = [];
}

-- the rules that data nodes and choices break in their places: names, keys and unique leafs of the nodes, then names of
-- choices, then what has to be there and stands in a default case, then conditions of keys
abbrev pub data_faults : Scoping → FeatureTest → Plan → List TextFault
data_faults scoping on plan =
    faults_from scoping (drafts scoping plan) (names_case scoping on plan) 0 plan.nodes
    ++ (name_faults scoping plan
    ++ (default_faults scoping (data_tables scoping on plan) plan
    ++ all_conditions scoping plan (data_tables scoping on plan).nodes))
