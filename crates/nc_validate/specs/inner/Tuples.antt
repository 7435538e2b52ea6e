-- The tuples of values of an entry, and sets of them.
use Rattle.std.specs.Prelude.{◌≡◌, ◌||◌, ◌++◌, ◌∷◌, ℕ, Bool, List, [], map, fold}
use Rattle.std.proofs.Common.{Bor}
use Rattle.std.specs.List.{flat_map, list_any}
use Rattle.std.specs.BTreeSet.{BTreeSet, contains}
use Rattle.std.specs.Cmp.Lexicographic.{slice_cmp}
use Rattle.std.specs.Ordering.{nat_cmp}
use Rattle.std.specs.declared.cmp.Ordering.{Ordering}
use Rattle.nc_names.specs.Same.{is_same_keys}
use Rattle.nc_schema.specs.InUse.{values_below}
use Rattle.nc_schema.specs.Places.{Place}
use Rattle.nc_schema.specs.Tables.{Tables}

-- the texts to which references lead
abbrev pub texts : List (Bor (List ℕ)) → List (List ℕ)
texts values = map (λ value. value.now) values

-- those of each of some tuples
abbrev pub all_texts : List (List (Bor (List ℕ))) → List (List (List ℕ))
all_texts tuples = map texts tuples

-- each tuple with each of the values
abbrev pub extended : List (List (List ℕ)) → List (List ℕ) → List (List (List ℕ))
extended tuples values = flat_map (λ tuple. map (λ value. tuple ++ value ∷ []) values) tuples

-- the tuples that the values of these leafs make in an entry
abbrev pub tuples_of : Tables → List ℕ → Place → List (List (List ℕ))
tuples_of tables leafs entry = fold (λ tuples leaf. extended tuples (values_below tables entry leaf)) ([] ∷ []) leafs

-- two entries have a tuple in common
abbrev pub is_tuple_in : List (List (List ℕ)) → List (List ℕ) → Bool
is_tuple_in tuples tuple = list_any (is_same_keys tuple) tuples

-- one of the tuples of an entry is a tuple of another
abbrev pub shares : List (List (List ℕ)) → List (List (List ℕ)) → Bool
shares tuples others = list_any (is_tuple_in others) tuples

-- tuples are ordered by their values in turn
abbrev pub order : List (Bor (List ℕ)) → List (Bor (List ℕ)) → Ordering
order tuple other = slice_cmp (λ a b. slice_cmp nat_cmp a.now b.now) tuple other

-- a set has one tuple more
abbrev pub AddsTuple : BTreeSet (List (Bor (List ℕ))) → BTreeSet (List (Bor (List ℕ))) → List (List ℕ) → Type 0
AddsTuple before now tuple =
    (key : List (Bor (List ℕ))) → contains order now key ≡ (contains order before key || is_same_keys (texts key) tuple)

-- a set has these tuples more
abbrev pub AddsTuples : BTreeSet (List (Bor (List ℕ))) → BTreeSet (List (Bor (List ℕ))) → List (List (List ℕ)) → Type 0
AddsTuples before now tuples =
    (key : List (Bor (List ℕ))) → contains order now key ≡ (contains order before key || is_tuple_in tuples (texts key))

-- a set has the tuples of these entries
abbrev pub HasTuples : Tables → List ℕ → List Place → BTreeSet (List (Bor (List ℕ))) → Type 0
HasTuples tables leafs entries set =
    (key : List (Bor (List ℕ))) → contains order set key
    ≡ list_any (λ entry. is_tuple_in (tuples_of tables leafs entry) (texts key)) entries
