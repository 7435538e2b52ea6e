-- The names of a plan's data nodes, and who orders entries.
use Rattle.std.proofs.Common.{◌≡◌, ◌<◌, ◌+◌, not, ℕ, zero, suc, List, [], ◌∷◌, length, Some, refl, sym, ap, subst, ◌∙◌, arith}
use Rattle.std.specs.Prelude.{IsSomeAnd, IsTrue, option_map, slice_get}
use Rattle.std.specs.Option.{option_map_or}
use Rattle.nc_names.proofs.SameLemmas.{first_true}
use Rattle.nc_names.specs.Identifiers.{is_identifier}
use Rattle.nc_names.specs.declared.name.Module.{Module}
use Rattle.nc_schema.specs.Kinds.{has_entries}
use Rattle.nc_schema.specs.Proper.{IsNamed}
use Rattle.nc_schema.specs.declared.node.Node.{Node}
use Rattle.nc_yang_words.specs.declared.statement.Statement.{Statement}
use Rattle.nc_yang_statements.specs.Statements.{below, kind, name}
use Rattle.nc_yang_statements.specs.declared.fault.ModuleWhy.TheVariants.{BadArgument}
use Rattle.nc_yang_scopes.specs.Prefixes.{namespace_at, namespace_in}
use Rattle.nc_yang_scopes.specs.Scopes.{Located, Scoping}
use Rattle.nc_yang_nodes.proofs.ListLemmas.{got}
use Rattle.nc_yang_nodes.specs.Plans.{IsSoundPlan}
use Rattle.nc_yang_nodes.specs.Roles.{FeatureTest}
use Rattle.nc_yang_nodes.specs.declared.planned.Plan.{Plan}
use Rattle.nc_yang_nodes.specs.declared.planned.Planned.{Planned}
use Rattle.nc_yang_data.specs.Drafts.{draft_in, is_by_user, kind_of, unknown_in}
use Rattle.nc_yang_data.specs.Modules.{module_of, modules_from}
use Rattle.nc_yang_data.proofs.Kept.{Known, all_at, at_if_off, not_false, parts_off, whole}

modules_at : (on : FeatureTest) (k n : ℕ) (texts : List Statement) → slice_get (modules_from on k texts) n ≡ option_map (module_of on (k + n)) (slice_get texts n)
modules_at on k n [] = refl
modules_at on k zero (root ∷ texts) = let e : k ≡ k + 0 = omega arith in ap (λ m. Some (module_of on m root)) e
modules_at on k (suc n) (root ∷ texts) =
    let e : k + 1 + n ≡ k + suc n = omega arith in
    modules_at on (k + 1) n texts ∙ ap (λ m. option_map (module_of on m) (slice_get texts n)) e

module _ (scoping : Scoping) (on : FeatureTest) (plan : Plan) (number : ℕ) (node : Node) (k : Known scoping on plan number node) where
  abbrev drafted : Node
  drafted = draft_in (namespace_at scoping.texts k.p.module) k.p k.l.statement

  -- by its statement
  field_of : {A : Type 0} (f : Node → A) → f (option_map_or (λ (l : Located). draft_in (namespace_at scoping.texts k.p.module) k.p l.statement)
      (slice_get scoping.located k.p.statement) (unknown_in (namespace_at scoping.texts k.p.module) k.p)) ≡ f drafted
  field_of f =
      ap (λ o. f (option_map_or (λ (l : Located). draft_in (namespace_at scoping.texts k.p.module) k.p l.statement) o (unknown_in (namespace_at scoping.texts k.p.module) k.p))) k.located

  module_is : node.module ≡ k.p.module
  module_is = ap (λ (n : Node). n.module) k.is ∙ field_of (λ n. n.module)

  space_is : node.name.space ≡ namespace_at scoping.texts k.p.module
  space_is = ap (λ (n : Node). n.name.space) k.is ∙ field_of (λ n. n.name.space)

  local_is : node.name.name ≡ name k.l.statement
  local_is = ap (λ (n : Node). n.name.name) k.is ∙ field_of (λ n. n.name.name)

  pub is_named : IsSoundPlan scoping plan → IsNamed (whole scoping on plan) node
  is_named sound =
      let within = all_at (λ (n : Planned). n.module < length scoping.texts) plan.nodes number k.p sound.modules k.planned in
      let (root, at) = got scoping.texts k.p.module within in
      let e : 0 + k.p.module ≡ k.p.module = omega arith in
      let there = modules_at on 0 k.p.module scoping.texts ∙ ap (option_map (module_of on (0 + k.p.module))) at in
      let named = not_false (is_identifier (name k.l.statement)) (at_if_off (not (is_identifier (name k.l.statement))) k.l.statement BadArgument (parts_off scoping on plan number node k).2) in
      record {
        name = subst (λ z. IsTrue (is_identifier z)) (sym local_is) named;
        space =
            subst (λ m. IsSomeAnd (slice_get (whole scoping on plan).modules m) (λ (found : Module). found.space ≡ node.name.space)) (sym module_is)
            (subst (λ o. IsSomeAnd o (λ (found : Module). found.space ≡ node.name.space)) (sym there)
            (sym (space_is ∙ ap (λ o. option_map_or namespace_in o []) at)));
      }

  pub orders_entries : IsTrue node.by_user → IsTrue (has_entries node.kind)
  orders_entries by_user =
      let user = sym (ap (λ (n : Node). n.by_user) k.is ∙ field_of (λ n. n.by_user)) ∙ by_user in
      let kinds = ap (λ (n : Node). n.kind) k.is ∙ field_of (λ n. n.kind) in
      subst (λ z. IsTrue (has_entries z)) (sym kinds)
      (first_true (has_entries (kind_of (kind k.l.statement) (below k.l.statement))) (is_by_user (below k.l.statement)) user)
