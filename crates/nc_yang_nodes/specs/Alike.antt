-- Plans that differ only in the numbers of statements that are written alike in one place.
use Rattle.std.specs.Prelude.{◌≡◌, ℕ, List, map, Option, slice_get}
use Rattle.nc_schema.specs.declared.node.Case.{Case as CaseNumber}
use Rattle.nc_schema.specs.declared.node.Deny.{Deny}
use Rattle.nc_yang_scopes.specs.Scopes.{Located, Scoping}
use Rattle.nc_yang_nodes.specs.declared.planned.Plan.{Plan}
use Rattle.nc_yang_nodes.specs.declared.planned.Planned.{Planned}
use Rattle.nc_yang_nodes.specs.declared.planned.PlannedChoice.{PlannedChoice}

-- a planned data node, with its statement in place of the number of this
pub record SeenNode : Type 0 where
  pub statement : Option Located
  pub in_module : ℕ
  pub parent : Option ℕ
  pub level : ℕ
  pub cases : List CaseNumber
  pub deny : Deny

-- what is seen of a planned data node
abbrev pub seen_node : Scoping → Planned → SeenNode
seen_node scoping p = record {
  statement = slice_get scoping.located p.statement;
  in_module = p.module;
  parent = p.parent;
  level = p.level;
  cases = p.cases;
  deny = p.deny;
}

-- a planned choice, in the same way
pub record SeenChoice : Type 0 where
  pub statement : Option Located
  pub in_module : ℕ
  pub parent : Option ℕ
  pub within : List CaseNumber
  pub nodes_before : ℕ

-- what is seen of a planned choice
abbrev pub seen_choice : Scoping → PlannedChoice → SeenChoice
seen_choice scoping p = record {
  statement = slice_get scoping.located p.statement;
  in_module = p.module;
  parent = p.parent;
  within = p.within;
  nodes_before = p.nodes_before;
}

-- the two plans are one, but for those numbers
pub record AreAlike (scoping : Scoping) (one other : Plan) : Type 0 where
  pub nodes : map (seen_node scoping) one.nodes ≡ map (seen_node scoping) other.nodes
  pub choices : map (seen_choice scoping) one.choices ≡ map (seen_choice scoping) other.choices
