-- The members of unions, and of the unions among them, by the numbers of their statements.
use Rattle.std.specs.Prelude.{◌<◌, ℕ, List, [], length, map, slice_get, Contains}
use Rattle.std.specs.Option.{option_map_or}
use Rattle.nc_yang_order.specs.Orders.{Reaches, targets}
use Rattle.nc_yang_types.specs.declared.planned.Finding.{Finding}
use Rattle.nc_yang_types.specs.declared.planned.Finding.TheVariants.{Plan}
use Rattle.nc_yang_types.specs.declared.planned.Meanings.{Meanings}
use Rattle.nc_yang_types.specs.declared.planned.Planned.{Planned}
use Rattle.nc_yang_types.specs.declared.planned.Planned.TheVariants.{Members}

-- the members of a plan that is a union
abbrev pub members_in : Planned → List ℕ
members_in (Members numbers) = numbers
members_in planned = []

-- those of what was found of a statement
abbrev pub members_by : List Planned → Finding → List ℕ
members_by plans (Plan place) = option_map_or members_in (slice_get plans place) []
members_by plans finding = []

-- from the number of each statement edges to those of its members
abbrev pub member_graph : Meanings → List (List ℕ)
member_graph meanings = map (members_by meanings.plans) meanings.findings

-- the numbers to which edges lead from a number, one or more of them
pub record IsReachedFrom (graph : List (List ℕ)) (number : ℕ) (row : List ℕ) : Type 0 where
  pub only : (last : ℕ) → Contains row last → Reaches graph number last
  pub all : (target last : ℕ) → Contains (targets graph number) target → Reaches graph target last
      → last < length graph → Contains row last
