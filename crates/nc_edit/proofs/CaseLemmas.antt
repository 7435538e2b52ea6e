-- A row at or below no node of a case gives way to none.
use Rattle.std.proofs.Common.{◌≡◌, ◌||◌, ℕ, Bool, true, false, cond, List, [], ◌∷◌, Option, Some, None, refl, ap, ◌∙◌}
use Rattle.std.specs.Prelude.{is_some, slice_get}
use Rattle.std.specs.List.{list_any}
use Rattle.std.specs.Option.{option_map_or}
use Rattle.nc_names.specs.Same.{is_same_step}
use Rattle.nc_names.specs.declared.path.Row.{Row}
use Rattle.nc_names.specs.declared.path.Step.{Step}
use Rattle.nc_schema.specs.declared.node.Case.{Case}
use Rattle.nc_schema.specs.declared.node.Node.{Node}
use Rattle.nc_schema.specs.Standing.{cases_differ, cases_of, excludes}
use Rattle.nc_schema.specs.Tables.{Tables}
use Rattle.nc_protocol.specs.Edited.{gives_way}
use Rattle.nc_edit.specs.inner.Denied.{has_case}

none_first : (cases : List Case) → is_some (slice_get cases 0) ≡ false → cases ≡ []
none_first [] e = refl
none_first (case ∷ cases) e = absurd (cc e)

no_case : (tables : Tables) (number : ℕ) → has_case tables number ≡ false → cases_of tables number ≡ []
no_case tables number none = by (slice_get tables.nodes number) none
  where
    by : (found : Option Node) → option_map_or (λ node. is_some (slice_get node.cases 0)) found false ≡ false → option_map_or (λ node. node.cases) found [] ≡ []
    by None e = refl
    by (Some node) e = none_first node.cases e

differ_from_none : (some : List Case) → cases_differ some [] ≡ false
differ_from_none [] = refl
differ_from_none (case ∷ some) = differ_from_none some

none_of_two : (a b : Bool) → (a || b) ≡ false → (a ≡ false) × (b ≡ false)
none_of_two true b e = absurd (cc e)
none_of_two false b e = (refl, e)

excludes_none : (tables : Tables) (others steps : List Step) → list_any (λ step. has_case tables step.node) steps ≡ false → excludes tables others steps ≡ false
excludes_none tables [] steps none = refl
excludes_none tables (other ∷ others) [] none = refl
excludes_none tables (other ∷ others) (step ∷ steps) none =
    let parts = none_of_two (has_case tables step.node) (list_any (λ one. has_case tables one.node) steps) none in
    by (is_same_step other step) (excludes_none tables others steps parts.1)
    (ap (cases_differ (cases_of tables other.node)) (no_case tables step.node parts.0) ∙ differ_from_none (cases_of tables other.node))
  where
    by : (b : Bool) → excludes tables others steps ≡ false → cases_differ (cases_of tables other.node) (cases_of tables step.node) ≡ false →
        cond b (excludes tables others steps) (cases_differ (cases_of tables other.node) (cases_of tables step.node)) ≡ false
    by true more here = more
    by false more here = here

pub gives_no_way : (tables : Tables) (block : List Row) (row : Row) → list_any (λ step. has_case tables step.node) row.path.steps ≡ false → gives_way tables block row ≡ false
gives_no_way tables [] row none = refl
gives_no_way tables (other ∷ block) row none =
    (λ i. excludes_none tables other.path.steps row.path.steps none i || gives_no_way tables block row none i)
