-- Access decisions (RFC 8341 3.4): one walk, which the decisions on an operation, on a notification and on a data
-- node are instances of.
use Rattle.std.specs.Prelude.{◌==◌, ◌&&◌, ◌||◌, ℕ, Bool, true, false, not, if◌then◌else◌, List, [], ◌∷◌, Option, Some, None, slice_get, option_map}
use Rattle.std.specs.List.{find, flat_map, list_any}
use Rattle.std.specs.Option.{option_map_or}
use Rattle.nc_names.specs.Same.{is_same_text}
use Rattle.nc_names.specs.declared.path.Right.{Right}
use Rattle.nc_names.specs.declared.path.Right.TheVariants.{Read, Create, Update, Delete, Exec}
use Rattle.nc_names.specs.declared.path.Step.{Step}
use Rattle.nc_schema.specs.Blocks.{above_last}
use Rattle.nc_schema.specs.PathTexts.{module_name}
use Rattle.nc_schema.specs.Standing.{node_of}
use Rattle.nc_schema.specs.Tables.{Tables}
use Rattle.nc_schema.specs.declared.node.Deny.{Deny}
use Rattle.nc_schema.specs.declared.node.Deny.TheVariants.{All, Write}
use Rattle.nc_schema.specs.declared.pattern.PatternStep.{PatternStep}
use Rattle.nc_protocol.specs.Filter.{is_key_of_entry}
use Rattle.nc_protocol.specs.Words.{close_session_word, kill_session_word, delete_config_word}
use Rattle.nc_protocol.specs.declared.access.By.{By}
use Rattle.nc_protocol.specs.declared.access.By.TheVariants.{Off, Recovery, CloseSession, DenyAll, DenyWrite, OperationDefault, Default, Rule as ByRule}
use Rattle.nc_protocol.specs.declared.access.Decision.{Decision}
use Rattle.nc_protocol.specs.declared.peer.Peer.{Peer}
use Rattle.nc_model.specs.Words.{star, netconf_module}
use Rattle.nc_model.specs.declared.called.Called.{Called}
use Rattle.nc_model.specs.declared.policy.AccessOperations.{AccessOperations}
use Rattle.nc_model.specs.declared.policy.Policy.{Policy}
use Rattle.nc_model.specs.declared.policy.Rule.{Rule}
use Rattle.nc_model.specs.declared.policy.RuleKind.{RuleKind}
use Rattle.nc_model.specs.declared.policy.RuleKind.TheVariants.{OfAll, OfOperation, OfNotification, OfData}
use Rattle.nc_model.specs.declared.policy.RuleList.{RuleList}

-- ---- the rules that apply to a user

-- a text is one of some texts
abbrev pub has_text : List (List ℕ) → List ℕ → Bool
has_text texts text = list_any (λ one. is_same_text one text) texts

-- the user is in the group, or the transport names it for the user (RFC 8341 3.4.4, step 4)
abbrev pub is_in_group : Policy → Peer → List ℕ → Bool
is_in_group policy peer name =
    list_any (λ group. is_same_text group.name name && has_text group.users peer.user) policy.groups
    || (policy.external && has_text peer.groups name)

-- there is no text
abbrev pub has_no_text : List (List ℕ) → Bool
has_no_text [] = true
has_no_text (text ∷ texts) = false

-- the user is in some group, or the transport names one for the user (RFC 8341 3.4.4, steps 4 and 5)
abbrev pub is_in_some_group : Policy → Peer → Bool
is_in_some_group policy peer =
    list_any (λ group. has_text group.users peer.user) policy.groups
    || (policy.external && not (has_no_text peer.groups))

-- the name stands for all (`matchall-string-type`, RFC 8341 3.5.2)
abbrev pub is_for_all : List ℕ → Bool
is_for_all name = is_same_text name star

-- a rule-list for one of the user's groups, or for all (RFC 8341 3.4.4, step 6)
abbrev pub applies : Policy → Peer → RuleList → Bool
applies policy peer list = list_any (λ name. is_for_all name || is_in_group policy peer name) list.groups

-- its rules, where it applies
abbrev pub rules_in : Policy → Peer → RuleList → List Rule
rules_in policy peer list = if applies policy peer list then list.rules else []

-- the rules of the rule-lists that apply, in order (RFC 8341 3.4.4, steps 5 to 7). A user without any group skips all
-- rule-lists
abbrev pub rules_for : Policy → Peer → List Rule
rules_for policy peer =
    if is_in_some_group policy peer then flat_map (rules_in policy peer) policy.lists else []

-- ---- the walk

-- access is permitted, for that reason
abbrev pub permitted_by : By → Decision
permitted_by by = record { permit = true; by = by }

-- access is denied, for that reason
abbrev pub denied_by : By → Decision
denied_by by = record { permit = false; by = by }

-- what a rule decides (`action`, RFC 8341 3.5.2)
abbrev pub by_rule : Rule → Decision
by_rule rule = record { permit = rule.permit; by = ByRule rule.list rule.name }

-- what a default decides (RFC 8341 3.5.2)
abbrev pub by_default : Bool → Decision
by_default permit = record { permit = permit; by = Default }

-- what the walk is told of what is asked for
pub record Question : Type 0 where
  -- it is permitted before any rule
  pub always : Option By
  -- the rules that are about it
  pub matches : Rule → Bool
  -- it is denied where no rule matches
  pub denial : Option By
  -- what is done else
  pub default : Bool

-- a step of the walk that decides, where its test passes
abbrev pub made_if : Bool → Decision → Option Decision
made_if test made = if test then Some made else None

-- the decision of the first step of a walk that makes one, or else the last
abbrev pub first_made : List (Option Decision) → Decision → Decision
first_made [] last = last
first_made (Some made ∷ more) last = made
first_made (None ∷ more) last = first_made more last

-- RFC 8341 3.4.4 to 3.4.6, step by step
abbrev pub decision : Policy → Peer → Question → Decision
decision policy peer asked =
    first_made (
    made_if (not policy.on) (permitted_by Off)
    ∷ made_if peer.recovery (permitted_by Recovery)
    ∷ option_map permitted_by asked.always
    ∷ option_map by_rule (find asked.matches (rules_for policy peer))
    ∷ option_map denied_by asked.denial
    ∷ []) (by_default asked.default)

-- ---- what a rule is about

-- a rule about that module, or all (RFC 8341 3.5.2, `module-name`)
abbrev pub is_of_module : Rule → List ℕ → Bool
is_of_module rule name = is_for_all rule.module || is_same_text rule.module name

-- a rule about that access operation (RFC 8341 3.5.2, `access-operations`)
abbrev pub has_right : AccessOperations → Right → Bool
has_right operations Read = operations.read
has_right operations Create = operations.create
has_right operations Update = operations.update
has_right operations Delete = operations.delete
has_right operations Exec = operations.exec

-- ---- a protocol operation (RFC 8341 3.4.4)

-- a rule about that name, or all (RFC 8341 3.5.2, `rpc-name` and `notification-name`)
abbrev pub is_name : List ℕ → List ℕ → Bool
is_name given name = is_for_all given || is_same_text given name

-- a rule without a rule type, or one with the operation's name or `*` (RFC 8341 3.4.4, step 7)
abbrev pub is_of_operation : RuleKind → List ℕ → Bool
is_of_operation OfAll name = true
is_of_operation (OfOperation given) name = is_name given name
is_of_operation kind name = false

-- the rule matches the operation (RFC 8341 3.4.4, step 7)
abbrev pub matches_operation : Called → Rule → Bool
matches_operation called rule =
    is_of_module rule called.module && rule.operations.exec && is_of_operation rule.kind called.name

-- the operation is that one of RFC 6241
abbrev pub is_netconf : Called → List ℕ → Bool
is_netconf called name = is_same_text called.module netconf_module && is_same_text called.name name

-- `<kill-session>` and `<delete-config>` (RFC 8341 3.4.4, step 11)
abbrev pub is_denied_by_name : Called → Bool
is_denied_by_name called = is_netconf called kill_session_word || is_netconf called delete_config_word

-- `default-deny-all` of the operation (step 10); `<kill-session>` and `<delete-config>` (step 11)
abbrev pub operation_denial : Called → Option By
operation_denial called =
    if called.denied then Some DenyAll
    else (if is_denied_by_name called then Some OperationDefault else None)

-- what is asked of the walk about an operation; `<close-session>` is always permitted (RFC 8341 3.4.4, step 3)
abbrev pub of_operation : Policy → Called → Question
of_operation policy called = record {
  always = if is_netconf called close_session_word then Some CloseSession else None;
  matches = matches_operation called;
  denial = operation_denial called;
  default = policy.exec_default;
}

-- the decision on an operation (RFC 8341 3.4.4)
abbrev pub exec_decision : Policy → Peer → Called → Decision
exec_decision policy peer called = decision policy peer (of_operation policy called)

-- ---- a notification (RFC 8341 3.4.6), but for those that are always permitted

-- a rule without a rule type, or one with the notification's name or `*`
abbrev pub is_of_notification : RuleKind → List ℕ → Bool
is_of_notification OfAll name = true
is_of_notification (OfNotification given) name = is_name given name
is_of_notification kind name = false

-- the rule matches the notification (RFC 8341 3.4.6, step 7)
abbrev pub matches_notification : Called → Rule → Bool
matches_notification told rule =
    is_of_module rule told.module && rule.operations.read && is_of_notification rule.kind told.name

-- what is asked of the walk about a notification
abbrev pub of_notification : Policy → Called → Question
of_notification policy told = record {
  always = None;
  matches = matches_notification told;
  denial = if told.denied then Some DenyAll else None;
  default = policy.read_default;
}

-- the decision on a notification (RFC 8341 3.4.6)
abbrev pub notification_decision : Policy → Peer → Called → Decision
notification_decision policy peer told = decision policy peer (of_notification policy told)

-- ---- a data node (RFC 8341 3.4.5)

-- a key that a pattern gives is that of the step; one that it leaves out may be any (RFC 8341 3.5.2,
-- `node-instance-identifier`)
abbrev pub covers_key : Option (List ℕ) → Option (List ℕ) → Bool
covers_key None key = true
covers_key (Some text) None = false
covers_key (Some text) (Some key) = is_same_text text key

-- so it is with each key
abbrev pub covers_keys : List (Option (List ℕ)) → List (List ℕ) → Bool
covers_keys [] keys = true
covers_keys (one ∷ given) [] = covers_key one None && covers_keys given []
covers_keys (one ∷ given) (key ∷ keys) = covers_key one (Some key) && covers_keys given keys

-- a step of a pattern is about a step
abbrev pub covers_step : PatternStep → Step → Bool
covers_step one step = one.node == step.node && covers_keys one.keys step.keys

-- the node to which the steps lead is one that the pattern names, or is below one (RFC 8341 3.4.5, step 6)
abbrev pub covers : List PatternStep → List Step → Bool
covers [] steps = true
covers (one ∷ pattern) [] = false
covers (one ∷ pattern) (step ∷ steps) = covers_step one step && covers pattern steps

-- a rule without a rule type, or one with a path to the node or to one above it
abbrev pub is_of_data : RuleKind → List Step → Bool
is_of_data OfAll steps = true
is_of_data (OfData pattern) steps = covers pattern.steps steps
is_of_data kind steps = false

-- the module of the data node
abbrev pub module_at : Tables → List Step → List ℕ
module_at tables steps = option_map_or (λ node. module_name tables node.module) (node_of tables steps) []

-- the rule matches the data node and the right (RFC 8341 3.4.5, step 6)
abbrev pub matches_data : Tables → List Step → Right → Rule → Bool
matches_data tables steps right rule =
    is_of_module rule (module_at tables steps) && has_right rule.operations right && is_of_data rule.kind steps

-- a data node with a denial at it or above it
abbrev pub is_denied : (Deny → Bool) → Tables → List Step → Bool
is_denied test tables steps =
    list_any (λ step. option_map_or (λ node. test node.deny) (slice_get tables.nodes step.node) false) steps

-- `default-deny-all`
abbrev pub is_all : Deny → Bool
is_all All = true
is_all deny = false

-- `default-deny-write`
abbrev pub is_write : Deny → Bool
is_write Write = true
is_write deny = false

-- the right to read
abbrev pub is_read : Right → Bool
is_read Read = true
is_read right = false

-- `default-deny-all` denies every access; `default-deny-write` every one but reading (RFC 8341 3.4.5, steps 9 and 10)
abbrev pub data_denial : Tables → List Step → Right → Option By
data_denial tables steps right =
    if is_denied is_all tables steps then Some DenyAll
    else (if not (is_read right) && is_denied is_write tables steps then Some DenyWrite else None)

-- `read-default` or `write-default` (RFC 8341 3.4.5, steps 11 and 12)
abbrev pub data_default : Policy → Right → Bool
data_default policy right = if is_read right then policy.read_default else policy.write_default

-- what is judged: a key is judged as its entry, without which it cannot be (RFC 7950 7.8.2)
abbrev pub subject : Tables → List Step → List Step
subject tables steps = if is_key_of_entry tables steps then above_last steps else steps

-- what is asked of the walk about a data node
abbrev pub of_data : Tables → Policy → List Step → Right → Question
of_data tables policy steps right = record {
  always = None;
  matches = matches_data tables steps right;
  denial = data_denial tables steps right;
  default = data_default policy right;
}

-- the decision on a data node (RFC 8341 3.4.5)
abbrev pub data_decision : Tables → Policy → Peer → List Step → Right → Decision
data_decision tables policy peer steps right = decision policy peer (of_data tables policy (subject tables steps) right)
