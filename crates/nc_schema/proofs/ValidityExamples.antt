-- Values in use and violations of small configurations.
use Rattle.std.proofs.Common.{◌≡◌, ℕ, List, [], ◌∷◌, ◌++◌, refl}
use Rattle.std.specs.Prelude.{codes, Bool, Option, Some, None, false, true}
use Rattle.nc_names.specs.declared.cause.CauseKind.{CauseKind}
use Rattle.nc_names.specs.declared.cause.CauseKind.TheVariants.{Mandatory, MandatoryChoice, TooFew, TooMany, NotUnique, DeadLeafref, DeadInstance}
use Rattle.nc_names.specs.declared.path.Row.{Row}
use Rattle.nc_names.specs.declared.path.Step.{Step}
use Rattle.nc_schema.specs.declared.node.Case.{Case}
use Rattle.nc_schema.specs.declared.node.Choice.{Choice}
use Rattle.nc_schema.specs.declared.node.Deny.TheVariants.{Nothing as NotDenied}
use Rattle.nc_schema.specs.declared.node.Kind.{Kind}
use Rattle.nc_schema.specs.declared.node.Kind.TheVariants.{Container, Leaf, LeafList, List as ListKind}
use Rattle.nc_schema.specs.declared.node.Node.{Node}
use Rattle.nc_schema.specs.declared.value_type.ValueType.{ValueType}
use Rattle.nc_schema.specs.declared.value_type.ValueType.TheVariants.{Boolean, Leafref, Instance}
use Rattle.nc_schema.specs.declared.violation.Violation.{Violation}
use Rattle.nc_schema.specs.InUse.{value_in_use}
use Rattle.nc_schema.specs.Tables.{Tables}
use Rattle.nc_schema.specs.Violations.{violations}

node : (name : List ℕ) (parent : Option ℕ) (kind : Kind) → Node
node name parent kind = record {
  name = record { space = codes "urn:ex"; name = name };
  «module» = 0;
  parent = parent;
  kind = kind;
  kind_of_value = 0;
  keys = [];
  uniques = [];
  mandatory = false;
  defaults = [];
  least = 0;
  most = None;
  by_user = false;
  cases = [];
  deny = NotDenied;
}

schema : List Node → List Choice → List ValueType → Tables
schema nodes choices types = record {
  nodes = nodes;
  choices = choices;
  types = Boolean ∷ types;
  modules = record { name = codes "ex"; space = codes "urn:ex"; revision = []; features = [] } ∷ [];
  patterns = [];
}

at : ℕ → Step
at number = record { node = number; keys = [] }

entry : ℕ → List ℕ → Step
entry number key = record { node = number; keys = key ∷ [] }

stands : List Step → Row
stands steps = record { path = record { steps = steps }; value = None }

holds : List Step → List ℕ → Row
holds steps text = record { path = record { steps = steps }; value = Some text }

broken : CauseKind → List Step → List Violation
broken kind steps = record { kind = kind; path = record { steps = steps } } ∷ []

-- container box { leaf a { mandatory true; } leaf b { default x; } }, the container with presence or without
box : Bool → Tables
box presence = schema
    (node (codes "box") None (Container presence)
    ∷ record (node (codes "a") (Some 0) Leaf) { mandatory = true }
    ∷ record (node (codes "b") (Some 0) Leaf) { defaults = codes "x" ∷ [] } ∷ []) [] []

leaf_has_to_be_there : violations (box false) [] ≡ broken Mandatory (at 0 ∷ at 1 ∷ [])
unfolding box schema node at broken
leaf_has_to_be_there = refl

leaf_is_there : violations (box false) (holds (at 0 ∷ at 1 ∷ []) (codes "1") ∷ []) ≡ []
unfolding box schema node at holds
leaf_is_there = refl

-- nothing is required in a container with presence that is absent, and no default is in use there
nothing_is_required_in_what_is_absent : violations (box true) [] ≡ []
unfolding box schema node
nothing_is_required_in_what_is_absent = refl

absent_container_has_no_default : value_in_use (box true) [] (record { steps = at 0 ∷ at 2 ∷ [] }) ≡ None
unfolding box schema node at
absent_container_has_no_default = refl

leaf_has_to_be_in_what_is_there : violations (box true) (stands (at 0 ∷ []) ∷ []) ≡ broken Mandatory (at 0 ∷ at 1 ∷ [])
unfolding box schema node at stands broken
leaf_has_to_be_in_what_is_there = refl

default_is_in_what_is_there : value_in_use (box true) (stands (at 0 ∷ []) ∷ []) (record { steps = at 0 ∷ at 2 ∷ [] }) ≡ Some (codes "x")
unfolding box schema node at stands
default_is_in_what_is_there = refl

default_is_in_use : value_in_use (box false) [] (record { steps = at 0 ∷ at 2 ∷ [] }) ≡ Some (codes "x")
unfolding box schema node at
default_is_in_use = refl

value_goes_before_default :
    value_in_use (box false) (holds (at 0 ∷ at 2 ∷ []) (codes "y") ∷ []) (record { steps = at 0 ∷ at 2 ∷ [] }) ≡ Some (codes "y")
unfolding box schema node at holds
value_goes_before_default = refl

-- choice { case { leaf a { default x; } leaf b; } case { leaf c; leaf d { mandatory true; } } }, with a
-- default case or mandatory
in_case : ℕ → List Case
in_case number = record { choice = 0; case = number } ∷ []

choices : Bool → Option ℕ → Tables
choices mandatory default_case = schema
    (record (node (codes "a") None Leaf) { cases = in_case 0; defaults = codes "x" ∷ [] }
    ∷ record (node (codes "b") None Leaf) { cases = in_case 0 }
    ∷ record (node (codes "c") None Leaf) { cases = in_case 1 }
    ∷ record (node (codes "d") None Leaf) { cases = in_case 1; mandatory = true } ∷ [])
    (record { parent = None; mandatory = mandatory; default_case = default_case; within = [] } ∷ []) []

choice_has_to_be_made : violations (choices true None) [] ≡ broken MandatoryChoice []
unfolding choices in_case schema node broken
choice_has_to_be_made = refl

choice_is_made : violations (choices true None) (holds (at 1 ∷ []) (codes "1") ∷ []) ≡ []
unfolding choices in_case schema node at holds
choice_is_made = refl

-- the mandatory leaf of a case is required beside a node of that case alone
leaf_of_a_case_is_required : violations (choices true None) (holds (at 2 ∷ []) (codes "1") ∷ []) ≡ broken Mandatory (at 3 ∷ [])
unfolding choices in_case schema node at holds broken
leaf_of_a_case_is_required = refl

default_of_a_case_is_not_in_use : value_in_use (choices false None) [] (record { steps = at 0 ∷ [] }) ≡ None
unfolding choices in_case schema node at
default_of_a_case_is_not_in_use = refl

default_of_the_default_case_is_in_use : value_in_use (choices false (Some 0)) [] (record { steps = at 0 ∷ [] }) ≡ Some (codes "x")
unfolding choices in_case schema node at
default_of_the_default_case_is_in_use = refl

default_of_a_chosen_case_is_in_use :
    value_in_use (choices false None) (holds (at 1 ∷ []) (codes "1") ∷ []) (record { steps = at 0 ∷ [] }) ≡ Some (codes "x")
unfolding choices in_case schema node at holds
default_of_a_chosen_case_is_in_use = refl

default_case_yields_to_another :
    value_in_use (choices false (Some 0)) (holds (at 2 ∷ []) (codes "1") ∷ []) (record { steps = at 0 ∷ [] }) ≡ None
unfolding choices in_case schema node at holds
default_case_yields_to_another = refl

-- leaf-list words { default p; default q; }
words : Tables
words = schema (record (node (codes "words") None LeafList) { defaults = codes "p" ∷ codes "q" ∷ []; most = Some 1 } ∷ []) [] []

default_entry_is_in_use : value_in_use words [] (record { steps = entry 0 (codes "q") ∷ [] }) ≡ Some (codes "q")
unfolding words schema node entry
default_entry_is_in_use = refl

entries_go_before_defaults :
    value_in_use words (holds (entry 0 (codes "r") ∷ []) (codes "r") ∷ []) (record { steps = entry 0 (codes "q") ∷ [] }) ≡ None
unfolding words schema node entry holds
entries_go_before_defaults = refl

-- defaults do not count as entries
entries_are_too_many :
    violations words (holds (entry 0 (codes "r") ∷ []) (codes "r") ∷ holds (entry 0 (codes "s") ∷ []) (codes "s") ∷ []) ≡ broken TooMany (at 0 ∷ [])
unfolding words schema node entry at holds broken
entries_are_too_many = refl

-- list port { key name; unique tag; min-elements 1; leaf name; leaf tag; leaf up { type leafref { path ../name; } } }
-- leaf first { type leafref { path /port/name; } }
ports : Tables
ports = schema
    (record (node (codes "port") None ListKind) { keys = 1 ∷ []; uniques = (2 ∷ []) ∷ []; least = 1; most = Some 2 }
    ∷ node (codes "name") (Some 0) Leaf
    ∷ node (codes "tag") (Some 0) Leaf
    ∷ record (node (codes "up") (Some 0) Leaf) { kind_of_value = 1 }
    ∷ record (node (codes "first") None Leaf) { kind_of_value = 2 } ∷ [])
    []
    (Leafref 1 (Some 0) true ∷ Leafref 1 None true ∷ [])

port : List ℕ → List Row
port name = stands (entry 0 name ∷ []) ∷ holds (entry 0 name ∷ at 1 ∷ []) name ∷ []

tagged : List ℕ → List ℕ → List Row
tagged name tag = port name ++ holds (entry 0 name ∷ at 2 ∷ []) tag ∷ []

entries_are_too_few : violations ports [] ≡ broken TooFew (at 0 ∷ [])
unfolding ports schema node at broken
entries_are_too_few = refl

third_entry_is_too_many : violations ports (port (codes "a") ++ port (codes "b") ++ port (codes "c")) ≡ broken TooMany (at 0 ∷ [])
unfolding ports port schema node at entry stands holds broken
third_entry_is_too_many = refl

later_entry_is_not_unique : violations ports (tagged (codes "a") (codes "7") ++ tagged (codes "b") (codes "7")) ≡ broken NotUnique (entry 0 (codes "b") ∷ [])
unfolding ports port tagged schema node at entry stands holds broken
later_entry_is_not_unique = refl

other_tags_are_unique : violations ports (tagged (codes "a") (codes "7") ++ tagged (codes "b") (codes "8")) ≡ []
unfolding ports port tagged schema node at entry stands holds
other_tags_are_unique = refl

-- entries that lack the leaf do not agree
entries_without_tags_are_unique : violations ports (port (codes "a") ++ port (codes "b")) ≡ []
unfolding ports port schema node at entry stands holds
entries_without_tags_are_unique = refl

-- a relative path stays in its own entry, whatever stands in another
leafref_stays_in_its_entry :
    violations ports (port (codes "a") ++ port (codes "b") ++ holds (entry 0 (codes "b") ∷ at 3 ∷ []) (codes "a") ∷ [])
    ≡ broken DeadLeafref (entry 0 (codes "b") ∷ at 3 ∷ [])
unfolding ports port schema node at entry stands holds broken
leafref_stays_in_its_entry = refl

leafref_has_its_value : violations ports (port (codes "b") ++ holds (entry 0 (codes "b") ∷ at 3 ∷ []) (codes "b") ∷ []) ≡ []
unfolding ports port schema node at entry stands holds
leafref_has_its_value = refl

leafref_reaches_every_entry : violations ports (port (codes "a") ++ port (codes "b") ++ holds (at 4 ∷ []) (codes "b") ∷ []) ≡ []
unfolding ports port schema node at entry stands holds
leafref_reaches_every_entry = refl

leafref_is_dead : violations ports (port (codes "a") ++ holds (at 4 ∷ []) (codes "b") ∷ []) ≡ broken DeadLeafref (at 4 ∷ [])
unfolding ports port schema node at entry stands holds broken
leafref_is_dead = refl

-- container box { leaf a { default x; } } leaf to { type instance-identifier; }
named : Tables
named = schema
    (node (codes "box") None (Container false)
    ∷ record (node (codes "a") (Some 0) Leaf) { defaults = codes "x" ∷ [] }
    ∷ record (node (codes "to") None Leaf) { kind_of_value = 1 } ∷ [])
    [] (Instance true ∷ [])

instance_is_there :
    violations named (holds (at 0 ∷ at 1 ∷ []) (codes "1") ∷ holds (at 2 ∷ []) (codes "/ex:box/ex:a") ∷ []) ≡ []
unfolding named schema node at holds
instance_is_there = refl

container_is_there :
    violations named (holds (at 0 ∷ at 1 ∷ []) (codes "1") ∷ holds (at 2 ∷ []) (codes "/ex:box") ∷ []) ≡ []
unfolding named schema node at holds
container_is_there = refl

-- a default in use is no node
default_is_no_instance : violations named (holds (at 2 ∷ []) (codes "/ex:box/ex:a") ∷ []) ≡ broken DeadInstance (at 2 ∷ [])
unfolding named schema node at holds broken
default_is_no_instance = refl
