-- Two states by hand that differ in a leaf that bob may not read: he learns of it by no read, whatever its filter is, and
-- by an edit that finds it there.
use Rattle.std.proofs.Common.{◌≡◌, ◌∙◌, ℕ, Bool, true, false, List, [], ◌∷◌, ◌++◌, refl, sym, ap}
use Rattle.std.specs.Prelude.{codes, Option, Some, None, Ok, Err}
use Rattle.nc_message.specs.declared.tree.Elem.{Elem}
use Rattle.nc_message.specs.declared.tree.Part.TheVariants.{Child, Chars}
use Rattle.nc_message.specs.declared.tree.Part.TheBlock.{hidden-the_row-Part-0, hidden-the_row-Elem-1}
use denote.Hole.Carrier.{hidden}
use Rattle.nc_names.specs.declared.cause.CauseKind.TheVariants.{Exists}
use Rattle.nc_names.specs.declared.path.Path.{Path}
use Rattle.nc_names.specs.declared.path.Place.TheVariants.{Kept}
use Rattle.nc_names.specs.declared.path.Right.{Right}
use Rattle.nc_names.specs.declared.path.Right.TheVariants.{Exec}
use Rattle.nc_names.specs.declared.path.Row.{Row}
use Rattle.nc_names.specs.declared.path.Step.{Step}
use Rattle.nc_schema.specs.InstancePaths.{node_pattern, pattern_step}
use Rattle.nc_schema.specs.PathWords.{written_step, written_name, predicate, predicate_key, quoted_string}
use Rattle.nc_schema.specs.Tables.{Tables}
use Rattle.nc_schema.specs.declared.node.Deny.TheVariants.{Nothing, All}
use Rattle.nc_schema.specs.declared.node.Kind.{Kind}
use Rattle.nc_schema.specs.declared.node.Kind.TheVariants.{Container, Leaf, LeafList, List as ListKind}
use Rattle.nc_schema.specs.declared.node.Node.{Node}
use Rattle.nc_schema.specs.declared.pattern.Pattern.{Pattern}
use Rattle.nc_protocol.proofs.Example.{element}
use Rattle.nc_protocol.specs.Edited.{cause_at, edited}
use Rattle.nc_protocol.specs.Filter.{selected}
use Rattle.nc_protocol.specs.Proper.{IsProper}
use Rattle.nc_protocol.specs.Words.{read_word, create_word, delete_word, exec_word}
use Rattle.nc_protocol.specs.declared.access.Decision.{Decision}
use Rattle.nc_protocol.specs.declared.asked.Asked.TheVariants.{Get}
use Rattle.nc_protocol.specs.declared.edit.Action.TheVariants.{Create}
use Rattle.nc_protocol.specs.declared.edit.Edit.{Edit}
use Rattle.nc_protocol.specs.declared.peer.Peer.{Peer}
use Rattle.nc_protocol.specs.declared.request.Request.{Request}
use Rattle.nc_protocol.specs.declared.verdict.Verdict.TheVariants.{Selected}
use Rattle.nc_model.specs.Access.{access_policy, called, visible}
use Rattle.nc_model.specs.Alike.{AreAlike, decision_told, is_reading, reply_to}
use Rattle.nc_model.specs.Decision.{data_decision, exec_decision}
use Rattle.nc_model.specs.Sight.{may_see, visible_rows}
use Rattle.nc_model.specs.State.{State, no_holders}
use Rattle.nc_model.specs.Verdict.{asked_verdict}
use Rattle.nc_model.specs.Words.{star, true_word, false_word, permit_word, update_word}
use Rattle.nc_model.specs.declared.policy.Policy.{Policy}
use Rattle.nc_model.specs.declared.policy.RuleKind.TheVariants.{OfData}
use Rattle.nc_disclosure.proofs.AlikeReplies.{reads_disclose}

-- ---- the schema: what is needed of the built-in module, then interfaces of the module `ex`
unfoldable node : List ℕ → Option ℕ → Kind → List ℕ → List (List ℕ) → Node
node name parent kind keys defaults = record {
  name = record { space = codes "urn:acm"; name = name };
  «module» = 0;
  parent = parent;
  kind = kind;
  kind_of_value = 0;
  keys = keys;
  uniques = [];
  mandatory = false;
  defaults = defaults;
  least = 0;
  most = None;
  by_user = false;
  cases = [];
  deny = Nothing;
}

unfoldable leaf : List ℕ → ℕ → List (List ℕ) → Node
leaf name parent defaults = node name (Some parent) Leaf [] defaults

unfoldable of_ex : Node → Node
of_ex it = record it { name = record { space = codes "urn:ex"; name = it.name.name }; «module» = 1 }

unfoldable nodes : List Node
nodes =
    record (node (codes "nacm") None (Container false) [] []) { deny = All }
    ∷ leaf (codes "enable-nacm") 0 (codes "true" ∷ [])
    ∷ leaf (codes "read-default") 0 (codes "permit" ∷ [])
    ∷ leaf (codes "write-default") 0 (codes "deny" ∷ [])
    ∷ leaf (codes "exec-default") 0 (codes "permit" ∷ [])
    ∷ leaf (codes "enable-external-groups") 0 (codes "true" ∷ [])
    ∷ node (codes "groups") (Some 0) (Container false) [] []
    ∷ node (codes "group") (Some 6) ListKind (8 ∷ []) []
    ∷ leaf (codes "name") 7 []
    ∷ node (codes "user-name") (Some 7) LeafList [] []
    ∷ node (codes "rule-list") (Some 0) ListKind (11 ∷ []) []
    ∷ leaf (codes "name") 10 []
    ∷ node (codes "group") (Some 10) LeafList [] []
    ∷ node (codes "rule") (Some 10) ListKind (14 ∷ []) []
    ∷ leaf (codes "name") 13 []
    ∷ leaf (codes "module-name") 13 (codes "*" ∷ [])
    ∷ leaf (codes "rpc-name") 13 []
    ∷ leaf (codes "notification-name") 13 []
    ∷ leaf (codes "path") 13 []
    ∷ leaf (codes "access-operations") 13 (codes "*" ∷ [])
    ∷ leaf (codes "action") 13 []
    ∷ of_ex (node (codes "interfaces") None (Container false) [] [])
    ∷ of_ex (node (codes "interface") (Some 21) ListKind (23 ∷ []) [])
    ∷ of_ex (leaf (codes "name") 22 [])
    ∷ of_ex (leaf (codes "mtu") 22 [])
    ∷ []

unfoldable tables : Tables
tables = record {
  nodes = nodes;
  choices = [];
  patterns = [];
  types = [];
  modules =
      record { name = codes "ietf-netconf-acm"; space = codes "urn:acm"; revision = []; features = [] }
      ∷ record { name = codes "ex"; space = codes "urn:ex"; revision = []; features = [] } ∷ [];
}

-- ---- rows
unfoldable step : ℕ → Step
step number = record { node = number; keys = [] }

unfoldable entry : ℕ → List ℕ → Step
entry number key = record { node = number; keys = key ∷ [] }

unfoldable row : List Step → List ℕ → Row
row steps value = record { path = record { steps = steps }; value = Some value }

unfoldable entry_rows : List Step → ℕ → List ℕ → List Row
entry_rows steps key value =
    record { path = record { steps = steps }; value = None } ∷ row (steps ++ step key ∷ []) value ∷ []

-- bob may write, and may not read the mtu of an interface
unfoldable nacm_rows : List Row
nacm_rows =
    row (step 0 ∷ step 3 ∷ []) (codes "permit")
    ∷ entry_rows (step 0 ∷ step 6 ∷ entry 7 (codes "ops") ∷ []) 8 (codes "ops")
    ++ row (step 0 ∷ step 6 ∷ entry 7 (codes "ops") ∷ entry 9 (codes "bob") ∷ []) (codes "bob")
    ∷ entry_rows (step 0 ∷ entry 10 (codes "ops-acl") ∷ []) 11 (codes "ops-acl")
    ++ row (step 0 ∷ entry 10 (codes "ops-acl") ∷ entry 12 (codes "ops") ∷ []) (codes "ops")
    ∷ entry_rows (step 0 ∷ entry 10 (codes "ops-acl") ∷ entry 13 (codes "hide-mtu") ∷ []) 14 (codes "hide-mtu")
    ++ row (step 0 ∷ entry 10 (codes "ops-acl") ∷ entry 13 (codes "hide-mtu") ∷ step 18 ∷ []) (codes "/ex:interfaces/ex:interface/ex:mtu")
    ∷ row (step 0 ∷ entry 10 (codes "ops-acl") ∷ entry 13 (codes "hide-mtu") ∷ step 19 ∷ []) (codes "read")
    ∷ row (step 0 ∷ entry 10 (codes "ops-acl") ∷ entry 13 (codes "hide-mtu") ∷ step 20 ∷ []) (codes "deny")
    ∷ []

unfoldable eth0 : List Step
eth0 = step 21 ∷ entry 22 (codes "eth0") ∷ []

unfoldable eth0_rows : List Row
eth0_rows = entry_rows eth0 23 (codes "eth0")

unfoldable mtu_row : Row
mtu_row = row (eth0 ++ step 24 ∷ []) (codes "9000")

-- ---- the two states
unfoldable bob : Peer
bob = record { user = codes "bob"; groups = []; recovery = false }

unfoldable state : List Row → State
state rows = record {
  schema = tables;
  running = nacm_rows ++ rows;
  candidate = None;
  sessions = record { number = 1; peer = bob } ∷ [];
  now = 0;
  last = 1;
  faults = 0;
  holders = no_holders;
  partial = [];
  pending = None;
  last_lock = 0;
}

unfoldable with_mtu : State
with_mtu = state (eth0_rows ++ mtu_row ∷ [])

unfoldable without : State
without = state eth0_rows

-- ---- the policy of both
unfoldable mtu : Pattern
mtu = record {
  steps =
      record { node = 21; keys = [] } ∷ record { node = 22; keys = None ∷ [] } ∷ record { node = 24; keys = [] } ∷ [];
}

unfoldable policy : Policy
policy = record {
  on = true;
  external = true;
  read_default = true;
  write_default = true;
  exec_default = true;
  groups = record { name = codes "ops"; users = codes "bob" ∷ [] } ∷ [];
  lists =
      record {
        groups = codes "ops" ∷ [];
        rules =
            record {
              list = codes "ops-acl";
              name = codes "hide-mtu";
              «module» = codes "*";
              kind = OfData mtu;
              operations = record { read = true; create = false; update = false; delete = false; exec = false };
              permit = false;
            } ∷ [];
      } ∷ [];
}

policy_with : access_policy with_mtu ≡ policy
unfolding access_policy node leaf of_ex nodes tables step entry row entry_rows nacm_rows eth0 eth0_rows mtu_row bob state with_mtu mtu policy star true_word false_word permit_word update_word read_word create_word delete_word exec_word node_pattern pattern_step written_step written_name predicate predicate_key quoted_string
policy_with = refl

policy_without : access_policy without ≡ policy
unfolding access_policy node leaf of_ex nodes tables step entry row entry_rows nacm_rows eth0 eth0_rows bob state without mtu policy star true_word false_word permit_word update_word read_word create_word delete_word exec_word node_pattern pattern_step written_step written_name predicate predicate_key quoted_string
policy_without = refl

-- ---- bob sees no mtu: what he sees of both is one, and so is all else that he learns of
sees_with : visible_rows tables policy bob (nacm_rows ++ (eth0_rows ++ mtu_row ∷ [])) ≡ eth0_rows
unfolding node leaf of_ex nodes tables step entry row entry_rows nacm_rows eth0 eth0_rows mtu_row bob mtu policy star
sees_with = refl

sees_without : visible_rows tables policy bob (nacm_rows ++ eth0_rows) ≡ eth0_rows
unfolding node leaf of_ex nodes tables step entry row entry_rows nacm_rows eth0 eth0_rows bob mtu policy star
sees_without = refl

visible_with : visible with_mtu 1 with_mtu.running ≡ eth0_rows
unfolding state with_mtu
visible_with = ap (λ (by : Policy). visible_rows tables by bob (nacm_rows ++ (eth0_rows ++ mtu_row ∷ []))) policy_with ∙ sees_with

visible_without : visible without 1 without.running ≡ eth0_rows
unfolding state without
visible_without = ap (λ (by : Policy). visible_rows tables by bob (nacm_rows ++ eth0_rows)) policy_without ∙ sees_without

policies_same : access_policy with_mtu ≡ access_policy without
policies_same = policy_with ∙ sym policy_without

are_alike : AreAlike with_mtu without 1
unfolding state with_mtu without
are_alike = record {
  schema = refl;
  now = refl;
  sessions = refl;
  last = refl;
  last_lock = refl;
  holders = refl;
  owners = refl;
  locks = refl;
  pending = refl;
  running = visible_with ∙ sym visible_without;
  candidate = visible_with ∙ sym visible_without;
  modified = refl;
  operations = λ operation.
      ap (λ (by : Policy). decision_told (λ path. may_see tables by bob path.steps) Exec (exec_decision by bob (called operation))) policies_same;
  rights = λ path right.
      ap (λ (by : Policy). decision_told (λ path. may_see tables by bob path.steps) right (data_decision tables by bob path.steps right)) policies_same;
}

-- so every get and get-config of bob has one reply in both
reads_tell_the_same : (request : Request) (failed failing : Bool) → IsProper request → is_reading request.operation ≡ true →
    reply_to with_mtu 1 request failed ≡ reply_to without 1 request failing
reads_tell_the_same request failed failing proper reading = reads_disclose with_mtu without 1 are_alike request failed failing proper reading

-- ---- a get, and one through a filter that asks for the mtu that stands there
get_shows : asked_verdict with_mtu 1 (Get None) false ≡ Selected eth0_rows
unfolding with_mtu state
get_shows = ap (λ (rows : List Row). Selected rows) visible_with

-- <filter><interfaces><interface><mtu>9000</mtu><name/></interface></interfaces></filter>
unfoldable of_mtu : Elem
of_mtu = element (codes "filter") (Child (element (codes "interfaces") (Child (element (codes "interface") (Child (element (codes "mtu") (Chars (codes "9000") ∷ [])) ∷ Child (element (codes "name") []) ∷ [])) ∷ [])) ∷ [])

mtu_is_not_asked : selected tables of_mtu eth0_rows ≡ []
unfolding node leaf of_ex nodes tables step entry row entry_rows eth0 eth0_rows of_mtu element hidden-the_row-Part-0 hidden-the_row-Elem-1 hidden
mtu_is_not_asked = refl

-- the filter finds what it finds where there is no mtu: what is hidden goes before it looks
filter_shows : asked_verdict with_mtu 1 (Get (Some of_mtu)) false ≡ Selected []
unfolding with_mtu state
filter_shows =
    ap (λ (rows : List Row). Selected (selected tables of_mtu rows)) visible_with
    ∙ ap (λ (rows : List Row). Selected rows) mtu_is_not_asked

-- ---- an edit that creates the mtu is refused where there is one: it is told what it asked for by itself, that the node
-- is there
unfoldable rights : Path → Right → Decision
rights path right = data_decision tables policy bob path.steps right

unfoldable mtu_path : Path
mtu_path = record { steps = eth0 ++ step 24 ∷ [] }

unfoldable create : Edit
create = record { path = mtu_path; action = Create (row (eth0 ++ step 24 ∷ []) (codes "1500") ∷ []); place = Kept }

finds_one : edited tables rights (nacm_rows ++ (eth0_rows ++ mtu_row ∷ [])) create ≡ Err (cause_at Exists mtu_path [])
unfolding node leaf of_ex nodes tables step entry row entry_rows nacm_rows eth0 eth0_rows mtu_row bob mtu policy star rights mtu_path create
finds_one = refl

finds_none : edited tables rights (nacm_rows ++ eth0_rows) create ≡ Ok (nacm_rows ++ eth0_rows ++ row (eth0 ++ step 24 ∷ []) (codes "1500") ∷ [])
unfolding node leaf of_ex nodes tables step entry row entry_rows nacm_rows eth0 eth0_rows bob mtu policy star rights mtu_path create
finds_none = refl
