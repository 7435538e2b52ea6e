-- The rules on a data node in its place, and what its statement says of it there (RFC 7950 6.2.1, 7.8).
use Rattle.std.specs.Prelude.{ℕ, ◌+◌, not, Bool, true, false, if◌then◌else◌, List, [], ◌∷◌, ◌++◌, map, Some, slice_get, unwrap_or}
use Rattle.std.specs.Option.{option_map_or}
use Rattle.nc_names.specs.Identifiers.{is_identifier}
use Rattle.nc_schema.specs.Children.{child_number, is_same_number}
use Rattle.nc_schema.specs.Kinds.{holds_nodes}
use Rattle.nc_schema.specs.Tables.{Tables}
use Rattle.nc_yang_words.specs.declared.statement.Statement.{Statement}
use Rattle.nc_yang_statements.specs.Keywords.{is_same_keyword}
use Rattle.nc_yang_statements.specs.Rules.{at_if}
use Rattle.nc_yang_statements.specs.Statements.{kind, name}
use Rattle.nc_yang_statements.specs.declared.fault.Fault.{Fault}
use Rattle.nc_yang_statements.specs.declared.fault.ModuleWhy.TheVariants.{BadArgument, Twice, UnknownStatement}
use Rattle.nc_yang_statements.specs.declared.keyword.Keyword.TheVariants.{List as ListWord}
use Rattle.nc_yang_scopes.specs.Scopes.{Scoping}
use Rattle.nc_yang_scopes.specs.declared.naming.TextFault.{TextFault}
use Rattle.nc_yang_nodes.specs.declared.planned.Planned.{Planned}
use Rattle.nc_yang_data.specs.Leafs.{CaseTest}
use Rattle.nc_yang_data.specs.Lists.{keys_of, list_faults, uniques_of}
use Rattle.nc_yang_data.specs.declared.place.Leafs.{Leafs}

-- a node before it stands in the same place and has its name (RFC 7950 6.2.1)
abbrev pub is_twin : Tables → ℕ → Bool
is_twin tables number =
    option_map_or (λ node. not (is_same_number (child_number tables node.parent node.name) (Some number)))
    (slice_get tables.nodes number) false

-- the data node of a number holds others
abbrev pub holds_at : Tables → ℕ → Bool
holds_at tables above = option_map_or (λ node. holds_nodes node.kind) (slice_get tables.nodes above) false

-- it stands in a data node that is no container and no list (RFC 7950 7.5, 7.8)
abbrev pub is_astray : Tables → ℕ → Bool
is_astray tables number =
    option_map_or (λ node. not (option_map_or (holds_at tables) node.parent true)) (slice_get tables.nodes number) false

-- the rules that the data node of a number breaks by its statement, which stands in a text; its name is an identifier
-- (RFC 7950 6.2)
abbrev pub node_faults : List Statement → Tables → CaseTest → (text number : ℕ) → Statement → List Fault
node_faults texts tables named text number s =
    at_if (is_twin tables number) s Twice
    ++ at_if (is_astray tables number) s UnknownStatement
    ++ at_if (not (is_identifier (name s))) s BadArgument
    ++ (if is_same_keyword ListWord (kind s) then list_faults texts tables named text number s else [])

-- the keys and the `unique` leafs of a list
abbrev pub list_leafs : List Statement → Tables → CaseTest → (text number : ℕ) → Statement → Leafs
list_leafs texts tables named text number s = record {
  keys = unwrap_or (keys_of texts tables named text number s) [];
  uniques = uniques_of texts tables named text number s;
}

-- other data nodes have none
abbrev pub node_leafs : List Statement → Tables → CaseTest → (text number : ℕ) → Statement → Leafs
node_leafs texts tables named text number s =
    if is_same_keyword ListWord (kind s) then list_leafs texts tables named text number s
    else record { keys = []; uniques = [] }

-- ---- all data nodes
-- a fault in a text
abbrev pub in_text : ℕ → Fault → TextFault
in_text text fault = record { text = text; fault = fault }

-- the rules that the data node of a number breaks by the statement of a number
abbrev pub faults_at : Scoping → Tables → CaseTest → (number statement : ℕ) → List TextFault
faults_at scoping tables named number statement =
    option_map_or
    (λ l. map (in_text l.place.text) (node_faults scoping.texts tables named l.place.text number l.statement))
    (slice_get scoping.located statement) []

-- the leafs of the keys and of the `unique` statements of a list, by its statement
abbrev pub leafs_at : Scoping → Tables → CaseTest → (number statement : ℕ) → Leafs
leafs_at scoping tables named number statement =
    option_map_or (λ l. node_leafs scoping.texts tables named l.place.text number l.statement)
    (slice_get scoping.located statement) (record { keys = []; uniques = [] })

-- those of planned nodes, of which the first has that number
abbrev pub faults_from : Scoping → Tables → CaseTest → ℕ → List Planned → List TextFault
faults_from scoping tables named number [] = []
faults_from scoping tables named number (p ∷ ps) =
    faults_at scoping tables named number p.statement ++ faults_from scoping tables named (number + 1) ps
