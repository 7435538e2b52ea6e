-- Plans with a leafref in them.
use Rattle.std.specs.Prelude.{◌≡◌, ℕ, Bool, true, false, not, List, Option, Some, None, slice_get, unwrap_or, option_and_then}
use Rattle.std.specs.List.{list_all}
use Rattle.std.specs.Option.{option_map_or}
use Rattle.nc_yang_types.specs.declared.planned.Finding.{Finding}
use Rattle.nc_yang_types.specs.declared.planned.Finding.TheVariants.{Plan}
use Rattle.nc_yang_types.specs.declared.planned.Meanings.{Meanings}
use Rattle.nc_yang_types.specs.declared.planned.Planned.{Planned}
use Rattle.nc_yang_types.specs.declared.planned.Planned.TheVariants.{Bases, Finished, Leafref, Members}

-- the plan of a type, if it has one
abbrev pub plan_in : Finding → Option ℕ
plan_in (Plan number) = Some number
plan_in finding = None

-- the number of the plan of the `type` statement of a number
abbrev pub plan_at : List Finding → ℕ → Option ℕ
plan_at findings number = option_and_then plan_in (slice_get findings number)

-- a plan may have a leafref in it
abbrev pub is_marked : List Bool → ℕ → Bool
is_marked marks plan = unwrap_or (slice_get marks plan) true

-- a member type has a plan that has none
abbrev pub is_unmarked_at : List Finding → List Bool → ℕ → Bool
is_unmarked_at findings marks member =
    option_map_or (λ plan. not (is_marked marks plan)) (plan_at findings member) false

-- no member leads to a leafref
abbrev pub are_unmarked : List Finding → List Bool → List ℕ → Bool
are_unmarked findings marks members = list_all (is_unmarked_at findings marks) members

-- no leafref is in a plan, by the marks so far
abbrev pub is_plain : List Finding → List Bool → Planned → Bool
is_plain findings marks (Finished entry patterns names) = true
is_plain findings marks (Bases numbers) = true
is_plain findings marks (Leafref path required) = false
is_plain findings marks (Members numbers) = are_unmarked findings marks numbers

-- what is not marked has none
abbrev pub AreMarks : Meanings → List Bool → Type 0
AreMarks meanings marks =
    (plan : ℕ) (planned : Planned) → slice_get meanings.plans plan ≡ Some planned → is_marked marks plan ≡ false →
    is_plain meanings.findings marks planned ≡ true
