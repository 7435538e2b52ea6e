-- Mandatory nodes directly in the default case of a choice (RFC 7950 3, 7.9.3).
use Rattle.std.specs.Prelude.{ℕ, zero, suc, ◌+◌, ◌||◌, Bool, false, if◌then◌else◌, List, [], ◌∷◌, ◌++◌, Option, Some, None, option_and_then, length, ◌-◌, nat_lt, slice_get}
use Rattle.std.specs.Option.{option_map_or}
use Rattle.nc_schema.specs.Children.{is_same_number}
use Rattle.nc_schema.specs.Kinds.{is_plain_container}
use Rattle.nc_schema.specs.Tables.{Tables}
use Rattle.nc_schema.specs.declared.node.Case.{Case}
use Rattle.nc_schema.specs.declared.node.Choice.{Choice}
use Rattle.nc_schema.specs.declared.node.Node.{Node}
use Rattle.nc_yang_statements.specs.Statements.{line}
use Rattle.nc_yang_statements.specs.declared.fault.ModuleWhy.TheVariants.{BadArgument}
use Rattle.nc_yang_scopes.specs.Scopes.{Scoping}
use Rattle.nc_yang_scopes.specs.declared.naming.TextFault.{TextFault}
use Rattle.nc_yang_nodes.specs.Plans.{most_levels}
use Rattle.nc_yang_nodes.specs.declared.planned.Plan.{Plan}
use Rattle.nc_yang_nodes.specs.declared.planned.Planned.{Planned}
use Rattle.nc_yang_nodes.specs.declared.planned.PlannedChoice.{PlannedChoice}

-- it has to be there by itself, or an entry of it (RFC 7950 7.6.5, 7.7.5)
abbrev pub asks : Node → Bool
asks node = node.mandatory || nat_lt 0 node.least

-- a container without presence has to be there where a node directly in it has to (RFC 7950 3)
abbrev pub plain_at : Tables → ℕ → Option ℕ
plain_at tables above =
    if option_map_or (λ node. is_plain_container node.kind) (slice_get tables.nodes above) false
    then Some above else None

-- the container without presence directly in which something stands
abbrev pub carrier : Tables → (parent : Option ℕ) → (cases : List Case) → Option ℕ
carrier tables parent [] = option_and_then (plain_at tables) parent
carrier tables parent (k ∷ cases) = None

-- the same, of a data node by its number
abbrev pub carrier_of : Tables → ℕ → Option ℕ
carrier_of tables number =
    option_and_then (λ node. carrier tables node.parent node.cases) (slice_get tables.nodes number)

-- the outermost data node that has to be there because the one of a number has to, within so many levels
abbrev pub outermost : Tables → (levels number : ℕ) → ℕ
outermost tables zero number = number
outermost tables (suc levels) number = option_map_or (outermost tables levels) (carrier_of tables number) number

-- a case is the default of its choice
abbrev pub is_default_of : Case → Choice → Bool
is_default_of k choice = is_same_number choice.default_case (Some k.case)

-- the innermost of the cases is the default of its choice
abbrev pub is_by_default : Tables → List Case → Bool
is_by_default tables cases =
    option_map_or (λ k. option_map_or (is_default_of k) (slice_get tables.choices k.choice) false)
    (slice_get cases (length cases - 1)) false

-- a fault at the statement of a number
abbrev pub fault_at : Scoping → ℕ → List TextFault
fault_at scoping number =
    option_map_or
    (λ l. record { text = l.place.text; fault = record { line = line l.statement; why = BadArgument } } ∷ [])
    (slice_get scoping.located number) []

-- the data node of a number has to be there; it may not stand directly in a default case
abbrev pub forbidden : Scoping → Tables → Plan → ℕ → List TextFault
forbidden scoping tables plan number =
    if option_map_or (λ node. is_by_default tables node.cases) (slice_get tables.nodes number) false
    then option_map_or (λ p. fault_at scoping p.statement) (slice_get plan.nodes number) []
    else []

-- nor may the outermost that has to be there because of it
abbrev pub forbidden_above : Scoping → Tables → Plan → ℕ → List TextFault
forbidden_above scoping tables plan number = forbidden scoping tables plan (outermost tables most_levels number)

-- the faults of a data node, which are none where it may be missing
abbrev pub node_faults : Scoping → Tables → Plan → ℕ → List TextFault
node_faults scoping tables plan number =
    if option_map_or asks (slice_get tables.nodes number) false then forbidden_above scoping tables plan number else []

-- so it is with a choice that has to be there (RFC 7950 7.9.4)
abbrev pub placed_faults : Scoping → Tables → Plan → (statement : ℕ) → Choice → List TextFault
placed_faults scoping tables plan statement choice =
    option_map_or (forbidden_above scoping tables plan) (carrier tables choice.parent choice.within)
    (if is_by_default tables choice.within then fault_at scoping statement else [])

-- the same, where the choice is mandatory
abbrev pub asking_faults : Scoping → Tables → Plan → (statement : ℕ) → Choice → List TextFault
asking_faults scoping tables plan statement choice =
    if choice.mandatory then placed_faults scoping tables plan statement choice else []

-- the same, of a planned choice
abbrev pub choice_faults : Scoping → Tables → Plan → (number : ℕ) → PlannedChoice → List TextFault
choice_faults scoping tables plan number p =
    option_map_or (asking_faults scoping tables plan p.statement) (slice_get tables.choices number) []

-- those of planned nodes, and of planned choices, of which the first has that number
abbrev pub nodes_from : Scoping → Tables → Plan → ℕ → List Planned → List TextFault
nodes_from scoping tables plan number [] = []
nodes_from scoping tables plan number (p ∷ ps) =
    node_faults scoping tables plan number ++ nodes_from scoping tables plan (number + 1) ps

-- of planned choices, from a number on
abbrev pub choices_from : Scoping → Tables → Plan → ℕ → List PlannedChoice → List TextFault
choices_from scoping tables plan number [] = []
choices_from scoping tables plan number (p ∷ ps) =
    choice_faults scoping tables plan number p ++ choices_from scoping tables plan (number + 1) ps

-- nodes and choices that have to be there, directly in default cases
abbrev pub default_faults : Scoping → Tables → Plan → List TextFault
default_faults scoping tables plan =
    nodes_from scoping tables plan 0 plan.nodes ++ choices_from scoping tables plan 0 plan.choices
