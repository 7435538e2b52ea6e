-- Declarations that are appended while the prefixes that were seen are kept in a set.
use Rattle.std.specs.Prelude.{◌≡◌, ℕ, true, not, if◌then◌else◌, List, ◌++◌, Bool, map}
use Rattle.std.specs.List.{list_any}
use Rattle.std.specs.BTreeSet.{BTreeSet, contains}
use Rattle.std.specs.Ordering.{nat_cmp}
use Rattle.std.specs.Cmp.Lexicographic.{slice_cmp}
use Rattle.nc_names.specs.Same.{is_same_text}
use Rattle.nc_names.specs.Appending.{Extends}
use Rattle.nc_names.specs.declared.name.Bound.{Bound}
use Rattle.nc_message.specs.Written.{is_declarable, declarations}

-- the prefixes that are bound
abbrev pub prefixes : List Bound → List (List ℕ)
prefixes bounds = map (λ b. b.prefix) bounds

-- whether the set has a prefix
abbrev pub has : BTreeSet (List ℕ) → List ℕ → Bool
has set prefix = contains (slice_cmp nat_cmp) set prefix

-- of the prefixes that have to be declared, the set has those that were seen
abbrev pub AreSeen : BTreeSet (List ℕ) → List (List ℕ) → Type 0
AreSeen set seen =
    (prefix : List ℕ) → is_declarable prefix ≡ true → has set prefix ≡ list_any (is_same_text prefix) seen

-- the prefix was put into the set, where it was not yet
abbrev pub IsAdded : BTreeSet (List ℕ) → BTreeSet (List ℕ) → List ℕ → Bool → Type 0
IsAdded before after prefix added =
    (added ≡ not (has before prefix))
    × ((other : List ℕ) → has after other ≡ (if is_same_text prefix other then true else has before other))

-- these uses were declared where they had to be
pub record Declares (before after : BTreeSet (List ℕ)) (old new : List ℕ) (bounds : List Bound) : Type 0 where
  pub seen : (seen : List (List ℕ)) → AreSeen before seen → AreSeen after (seen ++ prefixes bounds)
  pub output : (seen : List (List ℕ)) → AreSeen before seen → new ≡ old ++ declarations seen bounds
  pub grown : Extends old new
