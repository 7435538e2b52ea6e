-- Instances by those in which they stand.
use Rattle.std.specs.Prelude.{◌≡◌, ◌==◌, ◌&&◌, ◌||◌, ℕ, None, List, [], cond}
use Rattle.std.specs.BTreeMap.{BTreeMap, get}
use Rattle.std.specs.List.{list_any}
use Rattle.std.specs.Option.{option_map_or}
use Rattle.std.specs.Ordering.{is_eq, nat_cmp}
use Rattle.nc_filter.specs.declared.below.Below.{Below}
use Rattle.nc_filter.specs.declared.runs.Run.{Run}
use Rattle.nc_filter.specs.inner.Runs.{at_number}

-- lists of the numbers of instances, by the number of the instance in which they stand
abbrev pub Insides : Type 0
Insides = BTreeMap ℕ (List ℕ)

-- the numbers of those in the instance of a number
abbrev pub in_number : Insides → ℕ → List ℕ
in_number items parent = option_map_or (λ numbers. numbers) (get nat_cmp items parent) []

-- a table has no list for the instance of a number, and for the others what it had
abbrev pub without_number : ℕ → Insides → Insides → Type 0
without_number gone before now = (other : ℕ) →
    get nat_cmp now other ≡ cond (is_eq (nat_cmp gone other)) None (get nat_cmp before other)

-- a number more of those in an instance
abbrev pub AddsInside : Insides → Insides → ℕ → ℕ → Type 0
AddsInside before now parent number = (other n : ℕ) →
    list_any (λ one. one == n) (in_number now other)
    ≡ (list_any (λ one. one == n) (in_number before other) || ((other == parent) && (number == n)))

-- the numbers of instances by that in which they stand
abbrev pub AreInsides : List Run → Insides → Type 0
AreInsides whole items = (parent n : ℕ) →
    list_any (λ one. one == n) (in_number items parent) ≡ at_number whole (λ run. parent == run.parent) n

-- so it is in the index that the code keeps of them
abbrev pub IsBelow : List Run → Below → Type 0
IsBelow whole below = AreInsides whole below.items
