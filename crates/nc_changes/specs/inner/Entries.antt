-- The entry before another, found one entry after another.
use Rattle.std.specs.Prelude.{◌≡◌, ◌∷◌, [], ℕ, List, Option, Some, if◌then◌else◌}
use Rattle.std.proofs.Common.{Bor}
use Rattle.std.specs.BTreeSet.{BTreeSet, contains}
use Rattle.std.specs.declared.cmp.Ordering.{Ordering}
use Rattle.std.specs.Ordering.{nat_cmp}
use Rattle.std.specs.Cmp.Lexicographic.{slice_cmp}
use Rattle.nc_names.specs.Same.{is_same_keys}
use Rattle.nc_schema.specs.Standing.{has_entry}

-- the last of the entries before one, or what was before them
abbrev pub entry_from : List (List ℕ) → Option (List (List ℕ)) → List (List (List ℕ)) → Option (List (List ℕ))
entry_from keys above [] = above
entry_from keys above (entry ∷ more) = if is_same_keys entry keys then above else entry_from keys (Some entry) more

-- the keys of entries are ordered in turn
abbrev pub order : Bor (List (List ℕ)) → Bor (List (List ℕ)) → Ordering
order keys others = slice_cmp (slice_cmp nat_cmp) keys.now others.now

-- the set has these entries
abbrev pub HasEntries : BTreeSet (Bor (List (List ℕ))) → List (List (List ℕ)) → Type 0
HasEntries known entries = (keys : Bor (List (List ℕ))) → contains order known keys ≡ has_entry keys.now entries
