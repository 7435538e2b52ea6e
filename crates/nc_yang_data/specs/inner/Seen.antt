-- Numbers that were seen, in a set.
use Rattle.std.specs.Prelude.{◌≡◌, ◌==◌, [], ℕ, List, take, drop}
use Rattle.std.specs.List.{list_any}
use Rattle.std.specs.BTreeSet.{BTreeSet, contains}
use Rattle.std.specs.Ordering.{nat_cmp}
use Rattle.nc_yang_data.specs.Lists.{has_again}

-- the set has these numbers and no other
abbrev pub HasNumbers : BTreeSet ℕ → List ℕ → Type 0
HasNumbers set numbers = (number : ℕ) → contains nat_cmp set number ≡ list_any (λ other. other == number) numbers

-- the first numbers were seen, and of the whole the rest is left
pub record HasSeen (numbers : List ℕ) (at : ℕ) (seen : BTreeSet ℕ) : Type 0 where
  pub set : HasNumbers seen (take at numbers)
  pub same : has_again [] numbers ≡ has_again (take at numbers) (drop at numbers)
