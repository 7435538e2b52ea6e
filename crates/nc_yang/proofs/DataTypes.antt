-- Leafs and leaf-lists among the data nodes of a plan have a type that means something.
use Rattle.std.proofs.Common.{◌≡◌, ◌+◌, ℕ, zero, suc, true, List, [], ◌∷◌, refl, sym, ap, ◌∙◌, arith}
use Rattle.std.specs.Prelude.{Option, Some, None, IsTrue, slice_get, option_map, option_and_then}
use Rattle.std.specs.Option.{option_map_or}
use Rattle.nc_schema.specs.Kinds.{has_value}
use Rattle.nc_schema.specs.Tables.{Tables}
use Rattle.nc_schema.specs.declared.node.Node.{Node}
use Rattle.nc_yang_words.specs.declared.statement.Statement.{Statement}
use Rattle.nc_yang_statements.specs.Statements.{below, kind}
use Rattle.nc_yang_statements.specs.declared.keyword.Keyword.{Keyword}
use Rattle.nc_yang_statements.specs.declared.keyword.Keyword.TheVariants.{Leaf, LeafList, TypeName}
use Rattle.nc_yang_scopes.specs.Parts.{part_of}
use Rattle.nc_yang_scopes.specs.Prefixes.{namespace_at}
use Rattle.nc_yang_scopes.specs.Scopes.{Located, Scoping}
use Rattle.nc_yang_nodes.specs.Plans.{statement_of}
use Rattle.nc_yang_nodes.specs.Roles.{FeatureTest}
use Rattle.nc_yang_nodes.specs.declared.planned.Plan.{Plan}
use Rattle.nc_yang_nodes.specs.declared.planned.Planned.{Planned}
use Rattle.nc_yang_data.specs.Data.{data_tables, drafts, node_at, nodes_from}
use Rattle.nc_yang_data.specs.Leafs.{CaseTest, names_case}
use Rattle.nc_yang_data.specs.Drafts.{draft_at, draft_in, kind_of, unknown_in}
use Rattle.nc_yang.specs.Laws.{DataTypesMean, has_type}
use Rattle.nc_yang.proofs.Lists.{mapped}
use Rattle.nc_yang.proofs.Planned.{planned_types_mean}

-- what has a value is defined by a `leaf` or a `leaf-list`
valued : (keyword : Keyword) (ss : List Statement) → IsTrue (has_value (kind_of keyword ss)) → has_type keyword ≡ true
valued Leaf ss e = refl
valued LeafList ss e = refl
valued keyword ss e = absurd (cc)

-- and so has a statement
defined_by : (scoping : Scoping) (p : Planned) → IsTrue (has_value (draft_at scoping p).kind) →
    (l : Located) × (slice_get scoping.located p.statement ≡ Some l) × (has_type (kind l.statement) ≡ true)
defined_by scoping p has = by (slice_get scoping.located p.statement) refl has
  where
    by : (o : Option Located) → slice_get scoping.located p.statement ≡ o →
        IsTrue (has_value (option_map_or (λ (l : Located). draft_in (namespace_at scoping.texts p.module) p l.statement) o (unknown_in (namespace_at scoping.texts p.module) p)).kind) →
        (l : Located) × (slice_get scoping.located p.statement ≡ Some l) × (has_type (kind l.statement) ≡ true)
    by None e f = absurd (cc)
    by (Some l) e f = (l, e, valued (kind l.statement) (below l.statement) f)

-- data nodes one after another
nodes_at : (scoping : Scoping) (tables : Tables) (named : CaseTest) (k n : ℕ) (ps : List Planned) →
    slice_get (nodes_from scoping tables named k ps) n ≡ option_map (node_at scoping tables named (k + n)) (slice_get ps n)
nodes_at scoping tables named k n [] = refl
nodes_at scoping tables named k zero (p ∷ ps) = let e : k ≡ k + 0 = omega arith in ap (λ m. Some (node_at scoping tables named m p)) e
nodes_at scoping tables named k (suc n) (p ∷ ps) =
    let e : k + 1 + n ≡ k + suc n = omega arith in
    nodes_at scoping tables named (k + 1) n ps ∙ ap (λ m. option_map (node_at scoping tables named m) (slice_get ps n)) e

-- the data node of a number is that of the planned one
planned_of : (scoping : Scoping) (features : FeatureTest) (plan : Plan) (number : ℕ) (node : Node) → slice_get (data_tables scoping features plan).nodes number ≡ Some node →
    (p : Planned) × (slice_get plan.nodes number ≡ Some p) × (node.kind ≡ (draft_at scoping p).kind)
planned_of scoping features plan number node is =
    let m = mapped (node_at scoping (drafts scoping plan) (names_case scoping features plan) (0 + number)) (slice_get plan.nodes number) node (sym (nodes_at scoping (drafts scoping plan) (names_case scoping features plan) 0 number plan.nodes) ∙ is) in
    (m.0, m.1, sym (ap (λ (n : Node). n.kind) m.2))

pub data_types_mean : DataTypesMean
data_types_mean on scoping features plan keeps types planned number node is has =
    let p = planned_of scoping features plan number node is in
    let l = defined_by scoping p.0 (sym (ap (λ k. has_value k) p.2) ∙ has) in
    let there : statement_of scoping plan number ≡ Some l.0 = ap (option_and_then (λ (n : Planned). slice_get scoping.located n.statement)) p.1 ∙ l.1 in
    let t = planned_types_mean on scoping features plan keeps types planned number l.0 there l.2 in
    (t.0, ap (option_and_then (part_of TypeName)) there ∙ t.1, t.2)
