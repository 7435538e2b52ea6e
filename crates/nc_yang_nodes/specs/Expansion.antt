-- The data nodes and choices that statements define, in document order, with groupings in place (RFC 7950 7.5 to 7.9,
-- 7.12, 7.13), and what access control denies at them (RFC 8341 3.5.2).
use Rattle.std.specs.Prelude.{◌≡◌, ℕ, ◌+◌, List, [], ◌∷◌, ◌++◌, length, Option, Some, None, slice_get, option_map}
use Rattle.nc_schema.specs.declared.node.Case.{Case as CaseNumber}
use Rattle.nc_schema.specs.declared.node.Deny.{Deny}
use Rattle.nc_schema.specs.declared.node.Deny.TheVariants.{Nothing}
use Rattle.nc_yang_scopes.specs.Scopes.{Located, Scoping}
use Rattle.nc_yang_nodes.specs.declared.context.Context.{Context}
use Rattle.nc_yang_nodes.specs.declared.planned.Plan.{Plan}
use Rattle.nc_yang_nodes.specs.declared.planned.Planned.{Planned}
use Rattle.nc_yang_nodes.specs.declared.planned.PlannedChoice.{PlannedChoice}
use Rattle.nc_yang_nodes.specs.declared.role.Role.{Role}
use Rattle.nc_yang_nodes.specs.declared.role.Role.TheVariants.{Node, Choice, Case, Uses}
use Rattle.nc_yang_nodes.specs.Denials.{together}
use Rattle.nc_yang_nodes.specs.Roles.{FeatureTest, block, role}

-- one, or none
abbrev pub list_of : {A : Type 0} → Option A → List A
list_of None = []
list_of (Some x) = x ∷ []

-- the cases that a statement is in, from its parent data node on: directly in a choice it is a case, or the one node of
-- a case (RFC 7950 7.9.2)
abbrev pub within : Context → List CaseNumber
within c = c.cases ++ list_of c.next

-- the next case of a choice
abbrev pub case_after : CaseNumber → CaseNumber
case_after k = record k { case = k.case + 1 }

-- for the statements after one that gives something: in a choice they are the next case
abbrev pub after : Context → Context
after c = record c { next = option_map case_after c.next }

-- at the top of the module of a text
abbrev pub at_top : ℕ → Context
at_top text = record { «module» = text; parent = None; level = 0; cases = []; next = None; deny = Nothing }

-- for the statements of a data node that gets the next number
abbrev pub in_node : Context → Plan → Context
in_node c before =
    let number = length before.nodes in
    record { «module» = c.module; parent = Some number; level = c.level + 1; cases = []; next = None; deny = Nothing }

-- for the statements of a choice, a case or a grouping, whose data nodes stand where it does. What the `choice`, `case`
-- or `uses` statement denies it denies at each of them
abbrev pub in_block : Context → Deny → Option CaseNumber → Context
in_block c deny next = record {
  «module» = c.module;
  parent = c.parent;
  level = c.level;
  cases = within c;
  next = next;
  deny = together c.deny deny;
}

-- for the statements that are expanded where a statement stands. A grouping's nodes belong to the module that uses it
-- (RFC 7950 7.13), and a choice's first statement is its first case
abbrev pub inner : Context → Plan → Role → Context
inner c before (Node deny) = in_node c before
inner c before (Choice deny) = in_block c deny (Some (record { choice = length before.choices; case = 0 }))
inner c before (Case deny) = in_block c deny None
inner c before (Uses deny) = in_block c deny None

-- the data node of a statement, where it stands
abbrev pub node_of : ℕ → Context → Deny → Planned
node_of number c deny = record {
  statement = number;
  «module» = c.module;
  parent = c.parent;
  level = c.level;
  cases = within c;
  deny = together c.deny deny;
}

-- before it so many data nodes are planned
abbrev pub choice_of : ℕ → Context → (nodes : ℕ) → PlannedChoice
choice_of number c nodes =
    record { statement = number; «module» = c.module; parent = c.parent; within = within c; nodes_before = nodes }

-- with what the statement of a number gives by itself: a data node or a choice, which gets the next number of its kind
abbrev pub added : ℕ → Context → Role → Plan → Plan
added number c (Node deny) before =
    record before { nodes = before.nodes ++ node_of number c deny ∷ [] }
added number c (Choice deny) before =
    record before { choices = before.choices ++ choice_of number c (length before.nodes) ∷ [] }
added number c other before = before

-- in a context the statements, one after another, take what was planned before to what is planned after
pub data Gives (scoping : Scoping) (on : FeatureTest) : Context → Plan → List Located → Plan → Type 0 where
  none : (c : Context) (before : Plan) → Gives scoping on c before [] before
  passed : (c : Context) (before plan : Plan) (l : Located) (rest : List Located) → role scoping.texts on l ≡ None
      → Gives scoping on c before rest plan → Gives scoping on c before (l ∷ rest) plan
  given : (c : Context) (before mid plan : Plan) (l : Located) (rest : List Located) (number : ℕ) (r : Role)
      → slice_get scoping.located number ≡ Some l → role scoping.texts on l ≡ Some r
      → Gives scoping on (inner c before r) (added number c r before) (block scoping.texts l r) mid
      → Gives scoping on (after c) mid rest plan → Gives scoping on c before (l ∷ rest) plan

-- a statement that is next, in its context, and what is planned by then
pub record Moment : Type 0 where
  pub context : Context
  pub before : Plan
  pub statement : Located

-- while they do so, that moment comes
pub data Meets (scoping : Scoping) (on : FeatureTest) : Context → Plan → List Located → Moment → Type 0 where
  now : (c : Context) (before : Plan) (l : Located) (rest : List Located)
      → Meets scoping on c before (l ∷ rest) (record { context = c; before = before; statement = l })
  behind_passed : (c : Context) (before : Plan) (l : Located) (rest : List Located) (m : Moment)
      → role scoping.texts on l ≡ None
      → Meets scoping on c before rest m → Meets scoping on c before (l ∷ rest) m
  within_given : (c : Context) (before : Plan) (l : Located) (rest : List Located) (m : Moment)
      → (number : ℕ) (r : Role) → slice_get scoping.located number ≡ Some l → role scoping.texts on l ≡ Some r
      → Meets scoping on (inner c before r) (added number c r before) (block scoping.texts l r) m
      → Meets scoping on c before (l ∷ rest) m
  behind_given : (c : Context) (before mid : Plan) (l : Located) (rest : List Located) (m : Moment)
      → (number : ℕ) (r : Role) → slice_get scoping.located number ≡ Some l → role scoping.texts on l ≡ Some r
      → Gives scoping on (inner c before r) (added number c r before) (block scoping.texts l r) mid
      → Meets scoping on (after c) mid rest m → Meets scoping on c before (l ∷ rest) m
