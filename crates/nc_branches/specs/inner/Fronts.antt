-- Which entries of an order stand before one of them.
use Rattle.std.specs.Prelude.{◌≡◌, ◌∷◌, [], ℕ, List, if◌then◌else◌, map, Option, Some, None}
use Rattle.std.proofs.Common.{Bor}
use Rattle.std.specs.BTreeSet.{BTreeSet, contains}
use Rattle.std.specs.declared.cmp.Ordering.{Ordering}
use Rattle.std.specs.Ordering.{nat_cmp}
use Rattle.std.specs.Cmp.Lexicographic.{slice_cmp}
use Rattle.nc_names.specs.Same.{is_same_keys}
use Rattle.nc_schema.specs.Standing.{has_entry}

-- entries in their order, and one of them
pub record Fronted : Type 0 where
  pub order : List (List (List ℕ))
  pub keys : List (List ℕ)

-- the entries before that one; all where it is none of them
abbrev pub entries_until : List (List ℕ) → List (List (List ℕ)) → List (List (List ℕ))
entries_until keys [] = []
entries_until keys (entry ∷ more) = if is_same_keys entry keys then [] else entry ∷ entries_until keys more

-- the orders of several
abbrev pub orders_in : List Fronted → List (List (List (List ℕ)))
orders_in fronts = map (λ front. front.order) fronts

-- entries are ordered by their keys
abbrev pub by_keys : Bor (List (List ℕ)) → Bor (List (List ℕ)) → Ordering
by_keys keys others = slice_cmp (slice_cmp nat_cmp) keys.now others.now

-- the set has these entries
abbrev pub HasEntries : BTreeSet (Bor (List (List ℕ))) → List (List (List ℕ)) → Type 0
HasEntries known entries = (keys : Bor (List (List ℕ))) → contains by_keys known keys ≡ has_entry keys.now entries

-- the order of one, and none without it
abbrev pub order_in : Option Fronted → List (List (List ℕ))
order_in None = []
order_in (Some front) = front.order
