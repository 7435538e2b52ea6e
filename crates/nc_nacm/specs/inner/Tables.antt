-- The rules of a user by their keys, and the shapes of their patterns.
use Rattle.std.specs.Prelude.{◌≡◌, ◌||◌, ℕ, Bool, List, Option, Some, cond, option_and_then, unwrap_or, IfSome}
use Rattle.std.specs.BTreeMap.{BTreeMap, get}
use Rattle.std.specs.BTreeSet.{BTreeSet, contains}
use Rattle.std.specs.List.{All, Contains, position_from}
use Rattle.std.specs.Map.{lookup}
use Rattle.std.specs.Ordering.{is_eq}
use Rattle.nc_names.specs.declared.path.Right.{Right}
use Rattle.nc_model.specs.declared.policy.AccessOperations.{AccessOperations}
use Rattle.nc_model.specs.declared.policy.Rule.{Rule}
use Rattle.nc_nacm.specs.declared.index.Places.{Places}
use Rattle.nc_nacm.specs.declared.key.Key.{Key}
use Rattle.nc_nacm.specs.inner.Keys.{is_at_with, key_cmp, pattern_in, shape_cmp, shape_of}
use Rattle.nc_nacm.specs.inner.Places.{no_places, place_with, with_place}

-- the place for a right in what is found at a key, if anything is
abbrev pub place_in : Right → Option Places → Option ℕ
place_in right found = option_and_then (place_with right) found

-- what is found at a key has, for each right, the place of the first rule there that has it
abbrev pub HasPlaces : (Key → Option Places) → List Rule → Type 0
HasPlaces found rules =
    (key : Key) (right : Right) → place_in right (found key) ≡ position_from (is_at_with key right) 0 rules

-- what a table has at a key
abbrev pub in_table : BTreeMap Key Places → Key → Option Places
in_table table key = get key_cmp table key

-- a rule that comes after the others is put at its key
abbrev pub Puts : BTreeMap Key Places → BTreeMap Key Places → Key → AccessOperations → ℕ → Type 0
Puts old new key operations at =
    (other : Key) →
    in_table new other
    ≡ cond (is_eq (key_cmp key other))
    (Some (with_place (unwrap_or (in_table old key) no_places) operations at)) (in_table old other)

-- what a list of entries has at a key: that of the first such entry
abbrev pub in_entries : List (Key × Places) → Key → Option Places
in_entries entries key = lookup (λ (other : Key). is_eq (key_cmp key other)) entries

-- the shape of each rule's pattern is among them
abbrev pub HasShapes : List (List (List Bool)) → List Rule → Type 0
HasShapes shapes rules =
    All (λ rule. IfSome (pattern_in rule.kind) (λ pattern. Contains shapes (shape_of pattern))) rules

-- a set of shapes has that one
abbrev pub has_shape : BTreeSet (List (List Bool)) → List (List Bool) → Bool
has_shape shapes shape = contains shape_cmp shapes shape

-- one shape more is in a set
abbrev pub AddsShape : BTreeSet (List (List Bool)) → BTreeSet (List (List Bool)) → List (List Bool) → Type 0
AddsShape old new shape =
    (other : List (List Bool)) → has_shape new other ≡ (has_shape old other || is_eq (shape_cmp shape other))
