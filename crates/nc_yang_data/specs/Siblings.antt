-- Names of choices: no other choice and no data node of their parent has them (RFC 7950 6.2.1, 7.9.2).
use Rattle.std.specs.Prelude.{ℕ, ◌+◌, ◌-◌, ◌==◌, ◌&&◌, Bool, false, if◌then◌else◌, nat_lt, length, List, [], ◌∷◌, ◌++◌, Option, Some, slice_get}
use Rattle.std.specs.List.{position_from}
use Rattle.std.specs.Option.{option_map_or}
use Rattle.nc_names.specs.Same.{is_same_text}
use Rattle.nc_schema.specs.Children.{is_same_number}
use Rattle.nc_schema.specs.declared.node.Case.{Case}
use Rattle.nc_yang_statements.specs.Statements.{line, name}
use Rattle.nc_yang_statements.specs.declared.fault.ModuleWhy.TheVariants.{Twice}
use Rattle.nc_yang_scopes.specs.Scopes.{Scoping}
use Rattle.nc_yang_scopes.specs.declared.naming.TextFault.{TextFault}
use Rattle.nc_yang_nodes.specs.declared.planned.Plan.{Plan}
use Rattle.nc_yang_nodes.specs.declared.planned.Planned.{Planned}
use Rattle.nc_yang_nodes.specs.declared.planned.PlannedChoice.{PlannedChoice}
use Rattle.nc_yang_data.specs.declared.siblings.Parent.{Parent}
use Rattle.nc_yang_data.specs.declared.siblings.Parent.TheVariants.{InChoice, InNode, AtTop}

-- in what something stands: the nodes of all cases of a choice have names of their own (RFC 7950 7.9.2)
abbrev pub parent_of : (text : ℕ) → (node : Option ℕ) → (cases : List Case) → Parent
parent_of text node cases =
    option_map_or (λ k. InChoice k.choice) (slice_get cases (length cases - 1)) (option_map_or InNode node (AtTop text))

-- the same place
abbrev pub is_same_parent : Parent → Parent → Bool
is_same_parent (InChoice a) (InChoice b) = a == b
is_same_parent (InNode a) (InNode b) = a == b
is_same_parent (AtTop a) (AtTop b) = a == b
is_same_parent a b = false

-- the name that the statement of a number says
abbrev pub name_at : Scoping → ℕ → List ℕ
name_at scoping number = option_map_or (λ l. name l.statement) (slice_get scoping.located number) []

-- the choice stands there and has that name
abbrev pub is_called : Scoping → Parent → List ℕ → PlannedChoice → Bool
is_called scoping parent word c =
    is_same_parent (parent_of c.module c.parent c.within) parent && is_same_text (name_at scoping c.statement) word

-- the number of the first choice of that name there
abbrev pub choice_called : Scoping → List PlannedChoice → Parent → List ℕ → Option ℕ
choice_called scoping choices parent word = position_from (is_called scoping parent word) 0 choices

-- at the statement of a number, the later of two with one name
abbrev pub twice_at : Scoping → ℕ → List TextFault
twice_at scoping number =
    option_map_or
    (λ l. record { text = l.place.text; fault = record { line = line l.statement; why = Twice } } ∷ [])
    (slice_get scoping.located number) []

-- a choice before that of a number has its name
abbrev pub choice_twin : Scoping → List PlannedChoice → (number : ℕ) → PlannedChoice → List TextFault
choice_twin scoping choices number c =
    let called = choice_called scoping choices (parent_of c.module c.parent c.within) (name_at scoping c.statement) in
    if is_same_number called (Some number) then [] else twice_at scoping c.statement

-- a choice has the name of the data node of a number
abbrev pub clash : Scoping → (number : ℕ) → Planned → PlannedChoice → List TextFault
clash scoping number p c =
    if nat_lt number c.nodes_before then twice_at scoping c.statement else twice_at scoping p.statement

-- the fault of a data node that has the name of a choice beside it (RFC 7950 6.2.1)
abbrev pub node_twin : Scoping → List PlannedChoice → (number : ℕ) → Planned → List TextFault
node_twin scoping choices number p =
    option_map_or (λ k. option_map_or (clash scoping number p) (slice_get choices k) [])
    (choice_called scoping choices (parent_of p.module p.parent p.cases) (name_at scoping p.statement)) []

-- those of planned choices and of planned data nodes, of which the first has that number
abbrev pub choices_from : Scoping → List PlannedChoice → ℕ → List PlannedChoice → List TextFault
choices_from scoping choices number [] = []
choices_from scoping choices number (c ∷ cs) =
    choice_twin scoping choices number c ++ choices_from scoping choices (number + 1) cs

-- of planned data nodes, from a number on
abbrev pub nodes_from : Scoping → List PlannedChoice → ℕ → List Planned → List TextFault
nodes_from scoping choices number [] = []
nodes_from scoping choices number (p ∷ ps) =
    node_twin scoping choices number p ++ nodes_from scoping choices (number + 1) ps

-- choices with the names of others, then data nodes with those of choices
abbrev pub name_faults : Scoping → Plan → List TextFault
name_faults scoping plan =
    choices_from scoping plan.choices 0 plan.choices ++ nodes_from scoping plan.choices 0 plan.nodes
