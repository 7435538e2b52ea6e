-- Planned nodes by their statements.
use Rattle.std.proofs.Common.{◌≡◌, ℕ, Option, Some, None, slice_get, refl, subst, sym, ap, ◌∙◌}
use Rattle.std.specs.Option.{option_map_or}
use Rattle.nc_schema.specs.Children.{IsAbove}
use Rattle.nc_schema.specs.declared.node.Node.{Node}
use Rattle.nc_yang_scopes.specs.Scopes.{Located, Scoping}
use Rattle.nc_yang_nodes.specs.declared.planned.Planned.{Planned}
use Rattle.nc_yang_scopes.specs.Prefixes.{namespace_at}
use Rattle.nc_yang_data.specs.Drafts.{draft_at, draft_in, unknown_in}
use Rattle.nc_yang_data.specs.Data.{with_leafs}
use Rattle.nc_yang_data.specs.declared.place.Leafs.{Leafs}

pub draft_parent : (scoping : Scoping) (p : Planned) → (draft_at scoping p).parent ≡ p.parent
draft_parent scoping p = by (slice_get scoping.located p.statement)
  where
    by : (o : Option Located) →
        (option_map_or (λ l. draft_in (namespace_at scoping.texts p.module) p l.statement) o
        (unknown_in (namespace_at scoping.texts p.module) p)).parent ≡ p.parent
    by None = refl
    by (Some l) = refl

-- its parent is the planned one
pub above_by : (scoping : Scoping) (p : Planned) (node : Node) (number : ℕ) → node ≡ draft_at scoping p → IsAbove p.parent number →
    IsAbove node.parent number
above_by scoping p node number is above =
    subst (λ o. IsAbove o number) (sym (ap (λ n. n.parent) is ∙ draft_parent scoping p)) above

-- the same with its leafs
pub above_with : (scoping : Scoping) (p : Planned) (leafs : Leafs) (node : Node) (number : ℕ) →
    node ≡ with_leafs (draft_at scoping p) leafs → IsAbove p.parent number → IsAbove node.parent number
above_with scoping p leafs node number is above =
    subst (λ o. IsAbove o number) (sym (ap (λ n. n.parent) is ∙ draft_parent scoping p)) above
