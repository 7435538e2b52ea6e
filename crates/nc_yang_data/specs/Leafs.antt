-- Leafs that the `key` and `unique` statements of a list name (RFC 7950 7.8.2, 7.8.3).
use Rattle.std.specs.Prelude.{ℕ, ◌==◌, ◌&&◌, not, Bool, true, false, if◌then◌else◌, length, List, [], ◌∷◌, ◌++◌, Option, Some, None, option_and_then, option_map, map, filter, nat_lt, slice_get}
use Rattle.std.specs.List.{slice_split}
use Rattle.std.specs.Option.{option_map_or}
use Rattle.nc_names.specs.Same.{is_same_text}
use Rattle.nc_names.specs.Signs.{is_white, slash}
use Rattle.nc_schema.specs.Children.{child_number, is_same_number}
use Rattle.nc_schema.specs.Kinds.{holds_nodes, is_leaf, is_list}
use Rattle.nc_schema.specs.Tables.{Tables}
use Rattle.nc_schema.specs.declared.node.Case.{Case}
use Rattle.nc_schema.specs.declared.node.Node.{Node}
use Rattle.nc_yang_words.specs.declared.statement.Statement.{Statement}
use Rattle.nc_yang_statements.specs.Statements.{name as name_of}
use Rattle.nc_yang_scopes.specs.Scopes.{Located, Scoping, has_colon, local_of, prefix_of, text_of_prefix}
use Rattle.nc_yang_nodes.specs.Cases.{case_of}
use Rattle.nc_yang_nodes.specs.Roles.{FeatureTest}
use Rattle.nc_yang_nodes.specs.declared.planned.Plan.{Plan}
use Rattle.nc_yang_data.specs.declared.leaf.Way.{Way}
use Rattle.nc_yang_data.specs.declared.naming.Naming.{Naming}
use Rattle.nc_yang_data.specs.declared.naming.Naming.TheVariants.{Keys, Uniques}

-- the name that a word of a statement in a text says of a node of the module that uses it: without a prefix, or with
-- that of the statement's own module (RFC 7950 6.4.1)
abbrev pub local_name : List Statement → (text : ℕ) → List ℕ → Option (List ℕ)
local_name texts text word =
    if has_colon word
    then (if is_same_number (text_of_prefix texts text (prefix_of word)) (Some text)
    then Some (local_of word) else None)
    else Some word

-- the namespace of a node
abbrev pub space_at : Tables → ℕ → List ℕ
space_at tables number = option_map_or (λ node. node.name.space) (slice_get tables.nodes number) []

-- the node of a name directly in a node
abbrev pub child_named : Tables → ℕ → List ℕ → Option ℕ
child_named tables number local =
    child_number tables (Some number) (record { space = space_at tables number; name = local })

-- the node that a word names directly in a node
abbrev pub child_at : List Statement → Tables → (text number : ℕ) → List ℕ → Option ℕ
child_at texts tables text number word = option_and_then (child_named tables number) (local_name texts text word)

-- the number of a node, where this is true of the node
abbrev pub if_node : (Node → Bool) → Tables → ℕ → Option ℕ
if_node test tables number = if option_map_or test (slice_get tables.nodes number) false then Some number else None

-- a leaf that stands directly in its list, and so in no case
abbrev pub may_be_key : Node → Bool
may_be_key node = is_leaf node.kind && length node.cases == 0

-- the key that a word names in the list of a number (RFC 7950 7.8.2)
abbrev pub key_at : List Statement → Tables → (text number : ℕ) → List ℕ → Option ℕ
key_at texts tables text number word =
    option_and_then (if_node may_be_key tables) (child_at texts tables text number word)

-- a leaf, which a `unique` may name
abbrev pub is_unique_leaf : Node → Bool
is_unique_leaf node = is_leaf node.kind

-- a container, which a `unique` may lead through
abbrev pub is_container : Node → Bool
is_container node = holds_nodes node.kind && not (is_list node.kind)

-- a case is that of a name, in a choice of a name
abbrev pub CaseTest : Type 0
CaseTest = Case → (choice name : List ℕ) → Bool

-- the case is of the choice that a statement defines, and has that name there
abbrev pub is_case_of : List Statement → FeatureTest → (number : ℕ) → (choice name : List ℕ) → Located → Bool
is_case_of texts on number choice name l =
    is_same_text (name_of l.statement) choice && is_same_number (case_of texts on name l) (Some number)

-- by the statements that define the choices
abbrev pub names_case : Scoping → FeatureTest → Plan → CaseTest
names_case scoping on plan k choice name =
    option_map_or (is_case_of scoping.texts on k.case choice name)
    (option_and_then (λ p. slice_get scoping.located p.statement) (slice_get plan.choices k.choice)) false

-- names lead through these cases: each is named by its choice and by itself (RFC 7950 6.5, 7.9.2)
abbrev pub are_named : CaseTest → List Case → List (List ℕ) → Bool
are_named named [] [] = true
are_named named (k ∷ cases) (choice ∷ name ∷ names) = named k choice name && are_named named cases names
are_named named cases names = false

-- the node of a name in the one to which names have led, where those after it lead through its cases
abbrev pub node_behind : Tables → CaseTest → Way → (local : List ℕ) → Option ℕ
node_behind tables named way local =
    option_and_then (if_node (λ node. are_named named node.cases way.before) tables) (child_named tables way.node local)

-- a way that has not begun
abbrev pub way_from : ℕ → Way
way_from number = record { node = number; before = [] }

-- where a further name leads: to a container, or on towards a node in cases
abbrev pub onward : Tables → CaseTest → Way → (local : List ℕ) → Option Way
onward tables named way local =
    option_map_or (λ child. option_map way_from (if_node is_container tables child))
    (node_behind tables named way local)
    (Some (record way { before = way.before ++ local ∷ [] }))

-- the leaf to which names lead down, through containers, choices and cases (RFC 7950 7.8.3)
abbrev pub leaf_below : List Statement → Tables → CaseTest → (text : ℕ) → Way → List (List ℕ) → Option ℕ
leaf_below texts tables named text way [] = None
leaf_below texts tables named text way (part ∷ []) =
    option_and_then (if_node is_unique_leaf tables)
    (option_and_then (node_behind tables named way) (local_name texts text part))
leaf_below texts tables named text way (part ∷ next ∷ parts) =
    option_and_then (λ later. leaf_below texts tables named text later (next ∷ parts))
    (option_and_then (onward tables named way) (local_name texts text part))

-- the leaf that a word of a `unique` statement names
abbrev pub unique_at : List Statement → Tables → CaseTest → (text number : ℕ) → List ℕ → Option ℕ
unique_at texts tables named text number word =
    leaf_below texts tables named text (way_from number) (slice_split (λ c. c == slash) word)

-- the leaf that a word of `key` or of `unique` names (RFC 7950 7.8.2, 7.8.3)
abbrev pub leaf_at : Naming → List Statement → Tables → CaseTest → (text number : ℕ) → List ℕ → Option ℕ
leaf_at Keys texts tables named text number word = key_at texts tables text number word
leaf_at Uniques texts tables named text number word = unique_at texts tables named text number word

-- those that parts between white space name
abbrev pub leafs_in : Naming → List Statement → Tables → CaseTest → (text number : ℕ) → List (List ℕ) → List (Option ℕ)
leafs_in naming texts tables named text number parts =
    map (leaf_at naming texts tables named text number) (filter (λ part. nat_lt 0 (length part)) parts)

-- all of them, where each is there
abbrev pub all_there : List (Option ℕ) → Option (List ℕ)
all_there [] = Some []
all_there (None ∷ leafs) = None
all_there (Some leaf ∷ leafs) = option_map (λ more. leaf ∷ more) (all_there leafs)

-- the leafs that the words of a statement name, where each names one
abbrev pub leafs_by : Naming → List Statement → Tables → CaseTest → (text number : ℕ) → (words : List ℕ)
    → Option (List ℕ)
leafs_by naming texts tables named text number words =
    all_there (leafs_in naming texts tables named text number (slice_split is_white words))
