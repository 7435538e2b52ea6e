-- The example of RFC 8341 A, made smaller and worked by hand: groups, rule-lists, the decisions that follow, and what is said
-- of a denied change.
use Rattle.std.proofs.Common.{◌≡◌, ℕ, Bool, true, false, List, [], ◌∷◌, ◌++◌, refl}
use Rattle.std.specs.Prelude.{codes, Option, Some, None}
use Rattle.nc_message.specs.declared.tree.Elem.{Elem}
use Rattle.nc_message.specs.declared.tree.Part.TheVariants.{Child, Chars}
use Rattle.nc_message.specs.declared.tree.Part.TheBlock.{hidden-the_row-Part-0, hidden-the_row-Elem-1}
use denote.Hole.Carrier.{hidden}
use Rattle.nc_names.specs.declared.cause.CauseKind.TheVariants.{DataDenied}
use Rattle.nc_names.specs.declared.path.Right.TheVariants.{Read, Create, Update, Delete, Exec}
use Rattle.nc_names.specs.declared.path.Row.{Row}
use Rattle.nc_names.specs.declared.path.Step.{Step}
use Rattle.nc_schema.specs.InstancePaths.{node_pattern, pattern_step}
use Rattle.nc_schema.specs.PathWords.{written_step, written_name, predicate, predicate_key, quoted_string}
use Rattle.nc_schema.specs.Tables.{Tables}
use Rattle.nc_schema.specs.declared.node.Deny.TheVariants.{Nothing, All, Write}
use Rattle.nc_schema.specs.declared.node.Kind.{Kind}
use Rattle.nc_schema.specs.declared.node.Kind.TheVariants.{Container, Leaf, LeafList, List as ListKind}
use Rattle.nc_schema.specs.declared.node.Node.{Node}
use Rattle.nc_schema.specs.declared.pattern.Pattern.{Pattern}
use Rattle.nc_model.specs.Decision.{data_decision, exec_decision, notification_decision}
use Rattle.nc_model.specs.Policy.{policy_of}
use Rattle.nc_model.specs.Sight.{may_see, visible_rows}
use Rattle.nc_model.specs.Verdict.{changes_denied}
use Rattle.nc_protocol.proofs.Example.{element}
use Rattle.nc_protocol.specs.Edited.{decision_names}
use Rattle.nc_protocol.specs.Filter.{selected}
use Rattle.nc_protocol.specs.Reply.{names_shown}
use Rattle.nc_protocol.specs.declared.changes.Changes.{Changes}
use Rattle.nc_protocol.specs.declared.request.Cause.{Cause}
use Rattle.nc_protocol.specs.Words.{read_word, create_word, delete_word, exec_word, close_session_word, kill_session_word, delete_config_word, default_word, operation_word, rule_word}
use Rattle.nc_model.specs.Words.{star, true_word, false_word, permit_word, update_word, netconf_module}
use Rattle.nc_protocol.specs.declared.access.By.TheVariants.{Off, Recovery, CloseSession, DenyAll, DenyWrite, OperationDefault, Default, Rule as ByRule}
use Rattle.nc_protocol.specs.declared.access.Decision.{Decision}
use Rattle.nc_model.specs.declared.called.Called.{Called}
use Rattle.nc_protocol.specs.declared.peer.Peer.{Peer}
use Rattle.nc_model.specs.declared.policy.AccessOperations.{AccessOperations}
use Rattle.nc_model.specs.declared.policy.Policy.{Policy}
use Rattle.nc_model.specs.declared.policy.RuleKind.TheVariants.{OfAll, OfOperation, OfData}

-- ---- the schema: the built-in module, then a list of interfaces of the module `ex`
unfoldable node : ℕ → List ℕ → Option ℕ → Kind → List ℕ → List (List ℕ) → Node
node number name parent kind keys defaults = record {
  name = record { space = codes "urn:acm"; name = name };
  «module» = 0;
  parent = parent;
  kind = kind;
  kind_of_value = 0;
  keys = keys;
  uniques = [];
  mandatory = false;
  defaults = defaults;
  least = 0;
  most = None;
  by_user = false;
  cases = [];
  deny = Nothing;
}

unfoldable leaf : ℕ → List ℕ → ℕ → List (List ℕ) → Node
leaf number name parent defaults = node number name (Some parent) Leaf [] defaults

unfoldable in_case : ℕ → Node → Node
in_case case it = record it { cases = record { choice = 0; case = case } ∷ [] }

unfoldable of_ex : Node → Node
of_ex it = record it { name = record { space = codes "urn:ex"; name = it.name.name }; «module» = 1 }

unfoldable built_in : List Node
built_in =
    record (node 0 (codes "nacm") None (Container false) [] []) { deny = All }
    ∷ leaf 1 (codes "enable-nacm") 0 (codes "true" ∷ [])
    ∷ leaf 2 (codes "read-default") 0 (codes "permit" ∷ [])
    ∷ leaf 3 (codes "write-default") 0 (codes "deny" ∷ [])
    ∷ leaf 4 (codes "exec-default") 0 (codes "permit" ∷ [])
    ∷ leaf 5 (codes "enable-external-groups") 0 (codes "true" ∷ [])
    ∷ node 6 (codes "groups") (Some 0) (Container false) [] []
    ∷ node 7 (codes "group") (Some 6) ListKind (8 ∷ []) []
    ∷ leaf 8 (codes "name") 7 []
    ∷ node 9 (codes "user-name") (Some 7) LeafList [] []
    ∷ node 10 (codes "rule-list") (Some 0) ListKind (11 ∷ []) []
    ∷ leaf 11 (codes "name") 10 []
    ∷ node 12 (codes "group") (Some 10) LeafList [] []
    ∷ node 13 (codes "rule") (Some 10) ListKind (14 ∷ []) []
    ∷ leaf 14 (codes "name") 13 []
    ∷ leaf 15 (codes "module-name") 13 (codes "*" ∷ [])
    ∷ in_case 0 (leaf 16 (codes "rpc-name") 13 [])
    ∷ in_case 1 (leaf 17 (codes "notification-name") 13 [])
    ∷ in_case 2 (leaf 18 (codes "path") 13 [])
    ∷ leaf 19 (codes "access-operations") 13 (codes "*" ∷ [])
    ∷ leaf 20 (codes "action") 13 []
    ∷ leaf 21 (codes "comment") 13 []
    ∷ []

-- container interfaces { list interface { key name; leaf name; leaf mtu; leaf secret { default-deny-write } } }
unfoldable own : List Node
own =
    of_ex (node 22 (codes "interfaces") None (Container false) [] [])
    ∷ of_ex (node 23 (codes "interface") (Some 22) ListKind (24 ∷ []) [])
    ∷ of_ex (leaf 24 (codes "name") 23 [])
    ∷ of_ex (leaf 25 (codes "mtu") 23 [])
    ∷ record (of_ex (leaf 26 (codes "secret") 23 [])) { deny = Write }
    ∷ []

unfoldable tables : Tables
tables = record {
  nodes = built_in ++ own;
  choices = record { parent = Some 13; mandatory = false; default_case = None; within = [] } ∷ [];
  patterns = [];
  types = [];
  modules =
      record { name = codes "ietf-netconf-acm"; space = codes "urn:acm"; revision = []; features = [] }
      ∷ record { name = codes "ex"; space = codes "urn:ex"; revision = []; features = [] } ∷ [];
}

-- ---- rows
unfoldable step : ℕ → Step
step number = record { node = number; keys = [] }

unfoldable entry : ℕ → List ℕ → Step
entry number key = record { node = number; keys = key ∷ [] }

unfoldable row : List Step → List ℕ → Row
row steps value = record { path = record { steps = steps }; value = Some value }

unfoldable entry_rows : List Step → ℕ → List ℕ → List Row
entry_rows steps key value =
    record { path = record { steps = steps }; value = None } ∷ row (steps ++ step key ∷ []) value ∷ []

unfoldable group_rows : List ℕ → List ℕ → List Row
group_rows name user =
    entry_rows (step 0 ∷ step 6 ∷ entry 7 name ∷ []) 8 name
    ++ row (step 0 ∷ step 6 ∷ entry 7 name ∷ entry 9 user ∷ []) user ∷ []

unfoldable list_rows : List ℕ → List ℕ → List Row
list_rows name group =
    entry_rows (step 0 ∷ entry 10 name ∷ []) 11 name
    ++ row (step 0 ∷ entry 10 name ∷ entry 12 group ∷ []) group ∷ []

unfoldable at_rule : List ℕ → List ℕ → List Step
at_rule list name = step 0 ∷ entry 10 list ∷ entry 13 name ∷ []

unfoldable running : List Row
running =
    group_rows (codes "admin") (codes "andy") ++ group_rows (codes "limited") (codes "wilma")
    ++ list_rows (codes "limited-acl") (codes "limited")
    ++ entry_rows (at_rule (codes "limited-acl") (codes "permit-dummy")) 14 (codes "permit-dummy")
    ++ row (at_rule (codes "limited-acl") (codes "permit-dummy") ++ step 18 ∷ []) (codes "/ex:interfaces/ex:interface[ex:name='dummy']")
    ∷ row (at_rule (codes "limited-acl") (codes "permit-dummy") ++ step 19 ∷ []) (codes "read update")
    ∷ row (at_rule (codes "limited-acl") (codes "permit-dummy") ++ step 20 ∷ []) (codes "permit")
    ∷ entry_rows (at_rule (codes "limited-acl") (codes "deny-interface")) 14 (codes "deny-interface")
    ++ row (at_rule (codes "limited-acl") (codes "deny-interface") ++ step 18 ∷ []) (codes "/ex:interfaces/ex:interface")
    ∷ row (at_rule (codes "limited-acl") (codes "deny-interface") ++ step 20 ∷ []) (codes "deny")
    ∷ entry_rows (at_rule (codes "limited-acl") (codes "deny-kill")) 14 (codes "deny-kill")
    ++ row (at_rule (codes "limited-acl") (codes "deny-kill") ++ step 15 ∷ []) (codes "ietf-netconf")
    ∷ row (at_rule (codes "limited-acl") (codes "deny-kill") ++ step 16 ∷ []) (codes "kill-session")
    ∷ row (at_rule (codes "limited-acl") (codes "deny-kill") ++ step 19 ∷ []) (codes "exec")
    ∷ row (at_rule (codes "limited-acl") (codes "deny-kill") ++ step 20 ∷ []) (codes "deny")
    ∷ list_rows (codes "admin-acl") (codes "admin")
    ++ entry_rows (at_rule (codes "admin-acl") (codes "permit-all")) 14 (codes "permit-all")
    ++ row (at_rule (codes "admin-acl") (codes "permit-all") ++ step 20 ∷ []) (codes "permit")
    ∷ []

-- ---- the policy
unfoldable every : AccessOperations
every = record { read = true; create = true; update = true; delete = true; exec = true }

unfoldable dummy : Pattern
dummy = record { steps = record { node = 22; keys = [] } ∷ record { node = 23; keys = Some (codes "dummy") ∷ [] } ∷ [] }

unfoldable interfaces : Pattern
interfaces = record { steps = record { node = 22; keys = [] } ∷ record { node = 23; keys = None ∷ [] } ∷ [] }

unfoldable policy : Policy
policy = record {
  on = true;
  external = true;
  read_default = true;
  write_default = false;
  exec_default = true;
  groups =
      record { name = codes "admin"; users = codes "andy" ∷ [] }
      ∷ record { name = codes "limited"; users = codes "wilma" ∷ [] } ∷ [];
  lists =
      record {
        groups = codes "limited" ∷ [];
        rules =
            record {
              list = codes "limited-acl";
              name = codes "permit-dummy";
              «module» = codes "*";
              kind = OfData dummy;
              operations = record { read = true; create = false; update = true; delete = false; exec = false };
              permit = true;
            }
            ∷ record {
              list = codes "limited-acl";
              name = codes "deny-interface";
              «module» = codes "*";
              kind = OfData interfaces;
              operations = every;
              permit = false;
            }
            ∷ record {
              list = codes "limited-acl";
              name = codes "deny-kill";
              «module» = codes "ietf-netconf";
              kind = OfOperation (codes "kill-session");
              operations = record { read = false; create = false; update = false; delete = false; exec = true };
              permit = false;
            } ∷ [];
      }
      ∷ record {
        groups = codes "admin" ∷ [];
        rules =
            record {
              list = codes "admin-acl";
              name = codes "permit-all";
              «module» = codes "*";
              kind = OfAll;
              operations = every;
              permit = true;
            } ∷ [];
      } ∷ [];
}

policy_is_read : policy_of tables running ≡ policy
unfolding tables built_in own of_ex in_case leaf node step entry row entry_rows group_rows list_rows at_rule running every dummy interfaces policy star true_word false_word permit_word read_word create_word update_word delete_word exec_word node_pattern pattern_step written_step written_name predicate predicate_key quoted_string
policy_is_read = refl

-- ---- decisions
unfoldable wilma : Peer
wilma = record { user = codes "wilma"; groups = []; recovery = false }

unfoldable andy : Peer
andy = record { user = codes "andy"; groups = []; recovery = false }

-- a user without a group of the policy, for whom the transport names one
unfoldable guest : Peer
guest = record { user = codes "guest"; groups = codes "guests" ∷ []; recovery = false }

unfoldable at_interface : List ℕ → List Step
at_interface name = step 22 ∷ entry 23 name ∷ []

unfoldable ruled : Bool → List ℕ → List ℕ → Decision
ruled permit list rule = record { permit = permit; by = ByRule list rule }

unfoldable netconf : List ℕ → Called
netconf name = record { «module» = codes "ietf-netconf"; name = name; denied = false }

-- the first rule that matches decides: the one with the key before the one that leaves it out
wilma_reads_dummy : data_decision tables policy wilma (at_interface (codes "dummy")) Read ≡ ruled true (codes "limited-acl") (codes "permit-dummy")
unfolding tables built_in own of_ex in_case leaf node step entry every dummy interfaces policy wilma at_interface ruled star
wilma_reads_dummy = refl

-- a rule without that access operation does not match
wilma_deletes_dummy : data_decision tables policy wilma (at_interface (codes "dummy")) Delete ≡ ruled false (codes "limited-acl") (codes "deny-interface")
unfolding tables built_in own of_ex in_case leaf node step entry every dummy interfaces policy wilma at_interface ruled star
wilma_deletes_dummy = refl

-- the key is judged as its entry, and what is below the node too
wilma_updates_key : data_decision tables policy wilma (at_interface (codes "dummy") ++ step 24 ∷ []) Update ≡ ruled true (codes "limited-acl") (codes "permit-dummy")
unfolding tables built_in own of_ex in_case leaf node step entry every dummy interfaces policy wilma at_interface ruled star
wilma_updates_key = refl

-- a list without an entry: a pattern that gives a key does not match it, one that leaves it out does
wilma_reads_list : data_decision tables policy wilma (step 22 ∷ step 23 ∷ []) Read ≡ ruled false (codes "limited-acl") (codes "deny-interface")
unfolding tables built_in own of_ex in_case leaf node step entry every dummy interfaces policy wilma at_interface ruled star
wilma_reads_list = refl

-- `default-deny-all` at the node above; a rule would come before it
wilma_reads_nacm : data_decision tables policy wilma (step 0 ∷ step 1 ∷ []) Read ≡ record { permit = false; by = DenyAll }
unfolding tables built_in own of_ex in_case leaf node step entry every dummy interfaces policy wilma at_interface ruled star
wilma_reads_nacm = refl

andy_reads_nacm : data_decision tables policy andy (step 0 ∷ step 1 ∷ []) Read ≡ ruled true (codes "admin-acl") (codes "permit-all")
unfolding tables built_in own of_ex in_case leaf node step entry every dummy interfaces policy andy at_interface ruled star
andy_reads_nacm = refl

-- no rule-list applies: the denial of the node, or the default
guest_reads_secret : data_decision tables policy guest (at_interface (codes "dummy") ++ step 26 ∷ []) Read ≡ record { permit = true; by = Default }
unfolding tables built_in own of_ex in_case leaf node step entry every dummy interfaces policy guest at_interface ruled star
guest_reads_secret = refl

guest_updates_secret : data_decision tables policy guest (at_interface (codes "dummy") ++ step 26 ∷ []) Update ≡ record { permit = false; by = DenyWrite }
unfolding tables built_in own of_ex in_case leaf node step entry every dummy interfaces policy guest at_interface ruled star
guest_updates_secret = refl

-- operations: a rule, the denial without a rule, and `<close-session>`
wilma_kills : exec_decision policy wilma (netconf (codes "kill-session")) ≡ ruled false (codes "limited-acl") (codes "deny-kill")
unfolding every dummy interfaces policy wilma netconf ruled star netconf_module close_session_word kill_session_word delete_config_word
wilma_kills = refl

guest_kills : exec_decision policy guest (netconf (codes "kill-session")) ≡ record { permit = false; by = OperationDefault }
unfolding every dummy interfaces policy guest netconf star netconf_module close_session_word kill_session_word delete_config_word
guest_kills = refl

guest_closes : exec_decision policy guest (netconf (codes "close-session")) ≡ record { permit = true; by = CloseSession }
unfolding every dummy interfaces policy guest netconf star netconf_module close_session_word kill_session_word delete_config_word
guest_closes = refl

-- an operation of another module whose `rpc` has `default-deny-all`, and a notification
guest_resets : exec_decision policy guest (record { «module» = codes "ex"; name = codes "reset"; denied = true }) ≡ record { permit = false; by = DenyAll }
unfolding every dummy interfaces policy guest star netconf_module close_session_word kill_session_word delete_config_word
guest_resets = refl

andy_is_told : notification_decision policy andy (record { «module» = codes "ex"; name = codes "link-down"; denied = false }) ≡ ruled true (codes "admin-acl") (codes "permit-all")
unfolding every dummy interfaces policy andy star ruled
andy_is_told = refl

-- a recovery session
recovery_writes : data_decision tables policy (record { user = codes "root"; groups = []; recovery = true }) (step 0 ∷ []) Delete ≡ record { permit = true; by = Recovery }
unfolding tables built_in own of_ex in_case leaf node step entry every dummy interfaces policy star
recovery_writes = refl

-- what wilma sees: the row of the other interface is hidden with all below it
unfoldable some_rows : List Row
some_rows =
    entry_rows (at_interface (codes "dummy")) 24 (codes "dummy")
    ++ row (at_interface (codes "dummy") ++ step 25 ∷ []) (codes "1500")
    ∷ entry_rows (at_interface (codes "eth0")) 24 (codes "eth0")
    ++ row (at_interface (codes "eth0") ++ step 25 ∷ []) (codes "9000") ∷ []

wilma_sees : visible_rows tables policy wilma some_rows ≡ entry_rows (at_interface (codes "dummy")) 24 (codes "dummy") ++ row (at_interface (codes "dummy") ++ step 25 ∷ []) (codes "1500") ∷ []
unfolding tables built_in own of_ex in_case leaf node step entry row entry_rows every dummy interfaces policy wilma at_interface some_rows star
wilma_sees = refl

-- ---- a denied change

-- a rule-list for all: whoever is in no group skips it
unfoldable for_all : Policy
for_all = record policy {
  groups = record { name = codes "limited"; users = codes "wilma" ∷ [] } ∷ [];
  write_default = true;
  lists =
      record {
        groups = codes "*" ∷ [];
        rules = record { list = codes "all"; name = codes "no-create"; «module» = codes "ex"; kind = OfAll; operations = record { read = false; create = true; update = false; delete = false; exec = false }; permit = false } ∷ [];
      } ∷ [];
}

-- with a rule more, by which it may be read
unfoldable told : Policy
told = record for_all {
  lists =
      for_all.lists
      ++ record {
        groups = codes "*" ∷ [];
        rules = record { list = codes "own"; name = codes "see-nacm"; «module» = codes "ietf-netconf-acm"; kind = OfAll; operations = record { read = true; create = false; update = false; delete = false; exec = false }; permit = true } ∷ [];
      } ∷ [];
}

unfoldable alice : Peer
alice = record { user = codes "alice"; groups = []; recovery = false }

-- alice has no group: no rule-list is for her, and the default decides
alice_creates : data_decision tables for_all alice (at_interface (codes "eth0")) Create ≡ record { permit = true; by = Default }
unfolding tables built_in own of_ex in_case leaf node step entry every dummy interfaces policy for_all alice at_interface star
alice_creates = refl

wilma_creates : data_decision tables for_all wilma (at_interface (codes "eth0")) Create ≡ ruled false (codes "all") (codes "no-create")
unfolding tables built_in own of_ex in_case leaf node step entry every dummy interfaces policy for_all wilma at_interface ruled star
wilma_creates = refl

-- a commit that creates the interface is refused by the rule
unfoldable created : Changes
created = record { created = record { steps = at_interface (codes "eth0") } ∷ []; updated = []; deleted = [] }

unfoldable refusal : Cause
refusal = record { kind = DataDenied; path = Some (record { steps = at_interface (codes "eth0") }); names = rule_word ∷ codes "all" ∷ codes "no-create" ∷ [] }

create_is_denied : changes_denied (λ path right. data_decision tables for_all wilma path.steps right) created ≡ Some refusal
unfolding tables built_in own of_ex in_case leaf node step entry every dummy interfaces policy for_all wilma at_interface ruled star created refusal
create_is_denied = refl

-- who does not see the rule is not told its name; who sees it, is
rule_is_hidden : names_shown (λ path. may_see tables for_all wilma path.steps) refusal ≡ rule_word ∷ []
unfolding tables built_in own of_ex in_case leaf node step entry every dummy interfaces policy for_all wilma at_interface ruled star refusal
rule_is_hidden = refl

rule_is_shown : names_shown (λ path. may_see tables told wilma path.steps) refusal ≡ rule_word ∷ codes "all" ∷ codes "no-create" ∷ []
unfolding tables built_in own of_ex in_case leaf node step entry every dummy interfaces policy for_all told wilma at_interface ruled star refusal
rule_is_shown = refl

-- ---- what is hidden

-- bob may not read the mtu of an interface
unfoldable mtu : Pattern
mtu = record { steps = interfaces.steps ++ record { node = 25; keys = [] } ∷ [] }

unfoldable hiding : Policy
hiding = record policy {
  groups = record { name = codes "ops"; users = codes "bob" ∷ [] } ∷ [];
  lists =
      record {
        groups = codes "ops" ∷ [];
        rules = record { list = codes "ops-acl"; name = codes "hide-mtu"; «module» = codes "*"; kind = OfData mtu; operations = record { read = true; create = false; update = false; delete = false; exec = false }; permit = false } ∷ [];
      } ∷ [];
}

unfoldable bob : Peer
bob = record { user = codes "bob"; groups = []; recovery = false }

bob_sees : visible_rows tables hiding bob some_rows ≡ entry_rows (at_interface (codes "dummy")) 24 (codes "dummy") ++ entry_rows (at_interface (codes "eth0")) 24 (codes "eth0")
unfolding tables built_in own of_ex in_case leaf node step entry row entry_rows every dummy interfaces policy mtu hiding bob at_interface some_rows star
bob_sees = refl

-- <filter><interfaces><interface><mtu>9000</mtu><name/></interface></interfaces></filter>
unfoldable of_mtu : Elem
of_mtu = element (codes "filter") (Child (element (codes "interfaces") (Child (element (codes "interface") (Child (element (codes "mtu") (Chars (codes "9000") ∷ [])) ∷ Child (element (codes "name") []) ∷ [])) ∷ [])) ∷ [])

-- a filter that asks for a hidden value finds what it finds where there is none: what is hidden goes first
filter_finds : selected tables of_mtu some_rows ≡ entry_rows (at_interface (codes "eth0")) 24 (codes "eth0") ++ row (at_interface (codes "eth0") ++ step 25 ∷ []) (codes "9000") ∷ []
unfolding tables built_in own of_ex in_case leaf node step entry row entry_rows every dummy interfaces policy at_interface some_rows star of_mtu element hidden-the_row-Part-0 hidden-the_row-Elem-1 hidden
filter_finds = refl

bob_finds_nothing : selected tables of_mtu (visible_rows tables hiding bob some_rows) ≡ []
unfolding tables built_in own of_ex in_case leaf node step entry row entry_rows every dummy interfaces policy mtu hiding bob at_interface some_rows star of_mtu element hidden-the_row-Part-0 hidden-the_row-Elem-1 hidden
bob_finds_nothing = refl

-- ---- groups of the transport, the switch, and what is told of an operation

-- a group that the transport names counts while external groups are on, and not else
unfoldable zoe : Peer
zoe = record { user = codes "zoe"; groups = codes "admin" ∷ []; recovery = false }

zoe_deletes : data_decision tables policy zoe (at_interface (codes "dummy")) Delete ≡ ruled true (codes "admin-acl") (codes "permit-all")
unfolding tables built_in own of_ex in_case leaf node step entry every dummy interfaces policy zoe at_interface ruled star
zoe_deletes = refl

zoe_is_no_admin : data_decision tables (record policy { external = false }) zoe (at_interface (codes "dummy")) Delete ≡ record { permit = false; by = Default }
unfolding tables built_in own of_ex in_case leaf node step entry every dummy interfaces policy zoe at_interface star
zoe_is_no_admin = refl

-- access control is off
wilma_is_free : data_decision tables (record policy { on = false }) wilma (at_interface (codes "eth0")) Delete ≡ record { permit = true; by = Off }
unfolding tables built_in own of_ex in_case leaf node step entry every dummy interfaces policy wilma at_interface star
wilma_is_free = refl

-- alice, without a group, may not kill a session, and is told that the operation is denied by itself
alice_kills : decision_names Exec (exec_decision for_all alice (netconf (codes "kill-session"))).by ≡ default_word ∷ operation_word ∷ []
unfolding every dummy interfaces policy for_all alice netconf star netconf_module close_session_word kill_session_word delete_config_word
alice_kills = refl
