-- Marks of the data nodes in whose instances, or below which, something is asked.
use Rattle.std.specs.Prelude.{◌≡◌, ℕ, Bool, true, false, List, [], Some, IfSome, slice_get}
use Rattle.std.specs.List.{list_all}
use Rattle.nc_schema.specs.Places.{Place}
use Rattle.nc_schema.specs.Tables.{Tables}
use Rattle.nc_schema.specs.Violations.{child_violations}
use Rattle.nc_schema.specs.declared.node.Node.{Node}
use Rattle.nc_defaults.specs.Sought.{is_sought}

-- nothing is asked of a data node, whatever stands there
abbrev pub AsksNothing : Node → Type 0
AsksNothing node = (tables : Tables) (place : Place) (number : ℕ) → child_violations tables place number node ≡ []

-- in a data node that is not marked a data node asks nothing, and is not marked
abbrev pub CoversNode : Tables → List Bool → ℕ → Type 0
CoversNode tables marks number =
    IfSome (slice_get tables.nodes number) (λ node. is_sought marks node.parent ≡ false →
    (is_sought marks (Some number) ≡ false) × AsksNothing node)

-- so it is of all, and no choice stands there
pub record Covers (tables : Tables) (marks : List Bool) : Type 0 where
  pub choices : list_all (λ choice. is_sought marks choice.parent) tables.choices ≡ true
  pub nodes : (number : ℕ) → CoversNode tables marks number
