-- The policy of access control that a configuration holds, read with the values in use (RFC 8341 3.5.2; RFC 7950
-- 7.6.1).
use Rattle.std.specs.Prelude.{◌==◌, ◌||◌, ℕ, Bool, true, false, not, List, [], ◌∷◌, map, Option, Some, None, slice_get}
use Rattle.std.specs.List.{last_or, list_any, slice_split}
use Rattle.std.specs.Option.{option_map_or}
use Rattle.nc_names.specs.Same.{is_same_text}
use Rattle.nc_names.specs.Signs.{blank}
use Rattle.nc_names.specs.declared.path.Row.{Row}
use Rattle.nc_schema.specs.Bindings.{module_bounds}
use Rattle.nc_schema.specs.InUse.{values_in_use}
use Rattle.nc_schema.specs.InstancePaths.{node_pattern}
use Rattle.nc_schema.specs.Places.{Place, parts_of, place_below, place_of, top_place}
use Rattle.nc_schema.specs.Tables.{Tables}
use Rattle.nc_protocol.specs.Words.{read_word, create_word, delete_word, exec_word}
use Rattle.nc_model.specs.Nodes as nodes
use Rattle.nc_model.specs.Words.{star, true_word, false_word, permit_word, update_word}
use Rattle.nc_model.specs.declared.policy.AccessOperations.{AccessOperations}
use Rattle.nc_model.specs.declared.policy.Group.{Group}
use Rattle.nc_model.specs.declared.policy.Policy.{Policy}
use Rattle.nc_model.specs.declared.policy.Rule.{Rule}
use Rattle.nc_model.specs.declared.policy.RuleKind.{RuleKind}
use Rattle.nc_model.specs.declared.policy.RuleKind.TheVariants.{OfAll, OfOperation, OfNotification, OfData, OfNothing}
use Rattle.nc_model.specs.declared.policy.RuleList.{RuleList}

-- ---- values and entries in a place of the configuration

-- the first of some texts
abbrev pub first_text : List (List ℕ) → Option (List ℕ)
first_text [] = None
first_text (text ∷ texts) = Some text

-- the value in use of a leaf (RFC 7950 7.6.1)
abbrev pub value_at : Tables → Place → ℕ → Option (List ℕ)
value_at tables place number = first_text (values_in_use tables place number)

-- the entries of a list, in their order (RFC 7950 7.7.7)
abbrev pub entries_at : Tables → Place → ℕ → List Place
entries_at tables place number =
    option_map_or (λ node. map (place_of tables place node) (parts_of place number)) (slice_get tables.nodes number) []

-- a container
abbrev pub container_at : Tables → Place → ℕ → Option Place
container_at tables place number = place_below tables place (record { node = number; keys = [] })

-- the name of an entry: its key
abbrev pub entry_name : Place → List ℕ
entry_name place =
    option_map_or (λ step. option_map_or (λ name. name) (first_text step.keys) []) (last_or None place.steps) []

-- ---- texts

-- there is a value, and it is this word
abbrev pub is_text : List ℕ → Option (List ℕ) → Bool
is_text word value = option_map_or (λ text. is_same_text text word) value false

-- one of the words between blanks, as the canonical text of bits has them (RFC 7950 9.7.2)
abbrev pub has_word : List ℕ → List ℕ → Bool
has_word word text = list_any (λ part. is_same_text part word) (slice_split (λ sign. sign == blank) text)

-- `access-operations` names an access operation, or all (RFC 8341 3.5.2)
abbrev pub names_operation : List ℕ → List ℕ → Bool
names_operation word text = is_same_text text star || has_word word text

-- the access operations of a rule (RFC 8341 3.2.2, 3.5.2)
abbrev pub operations_of : List ℕ → AccessOperations
operations_of text = record {
  read = names_operation read_word text;
  create = names_operation create_word text;
  update = names_operation update_word text;
  delete = names_operation delete_word text;
  exec = names_operation exec_word text;
}

-- none of them
abbrev pub no_operations : AccessOperations
no_operations = record { read = false; create = false; update = false; delete = false; exec = false }

-- ---- rules

-- a path names what it names under the modules' names as prefixes, as in its canonical text (RFC 8341 3.5.2, `path`)
abbrev pub path_kind : Tables → List ℕ → RuleKind
path_kind tables text = option_map_or OfData (node_pattern tables text (module_bounds tables)) OfNothing

-- of the three cases of `rule-type` one stands, or none (RFC 8341 3.5.2)
abbrev pub kind_of : Tables → Option (List ℕ) → Option (List ℕ) → Option (List ℕ) → RuleKind
kind_of tables (Some operation) notification path = OfOperation operation
kind_of tables None (Some notification) path = OfNotification notification
kind_of tables None None (Some path) = path_kind tables path
kind_of tables None None None = OfAll

-- what a rule is about
abbrev pub kind_at : Tables → Place → RuleKind
kind_at tables place =
    kind_of tables (value_at tables place nodes.rpc_name)
    (value_at tables place nodes.notification_name) (value_at tables place nodes.path)

-- a rule of a rule-list (RFC 8341 3.5.2, `rule`)
abbrev pub rule_of : Tables → List ℕ → Place → Rule
rule_of tables list place = record {
  list = list;
  name = entry_name place;
  «module» = option_map_or (λ text. text) (value_at tables place nodes.module_name) [];
  kind = kind_at tables place;
  operations = option_map_or operations_of (value_at tables place nodes.access_operations) no_operations;
  permit = is_text permit_word (value_at tables place nodes.action);
}

-- a rule-list, with its rules in their order (RFC 8341 3.5.2, `rule-list`)
abbrev pub list_of : Tables → Place → RuleList
list_of tables place = record {
  groups = values_in_use tables place nodes.list_group;
  rules = map (rule_of tables (entry_name place)) (entries_at tables place nodes.rule);
}

-- a group (RFC 8341 3.5.2, `group`)
abbrev pub group_of : Tables → Place → Group
group_of tables place = record { name = entry_name place; users = values_in_use tables place nodes.user_name }

-- the groups
abbrev pub groups_at : Tables → Place → List Group
groups_at tables place =
    option_map_or (λ below. map (group_of tables) (entries_at tables below nodes.group))
    (container_at tables place nodes.groups) []

-- the rule-lists in their order
abbrev pub lists_at : Tables → Place → List RuleList
lists_at tables place = map (list_of tables) (entries_at tables place nodes.rule_list)

-- ---- the policy

-- where a schema has no container `nacm`, access control is on and every default denies
abbrev pub no_policy : Policy
no_policy = record {
  on = true;
  external = false;
  read_default = false;
  write_default = false;
  exec_default = false;
  groups = [];
  lists = [];
}

-- the policy in the container `nacm` (RFC 8341 3.5.2). Where no value of `enable-nacm` is in use, access control is on
abbrev pub policy_at : Tables → Place → Policy
policy_at tables place = record {
  on = not (is_text false_word (value_at tables place nodes.enable_nacm));
  external = is_text true_word (value_at tables place nodes.enable_external_groups);
  read_default = is_text permit_word (value_at tables place nodes.read_default);
  write_default = is_text permit_word (value_at tables place nodes.write_default);
  exec_default = is_text permit_word (value_at tables place nodes.exec_default);
  groups = groups_at tables place;
  lists = lists_at tables place;
}

-- the policy of a configuration
abbrev pub policy_of : Tables → List Row → Policy
policy_of tables rows =
    option_map_or (policy_at tables) (container_at tables (top_place rows) nodes.nacm) no_policy
