-- Steps in a list, and what is kept to look them up.
use Rattle.std.specs.Prelude.{◌≡◌, ◌||◌, ℕ, Bool, true, false, List, [], ◌∷◌}
use Rattle.std.specs.List.{list_any}
use Rattle.std.specs.BTreeSet.{BTreeSet, contains}
use Rattle.nc_names.specs.contracts.path.StepOrd.TheImpl.{ghosts}
use Rattle.nc_names.specs.Same.{is_same_step}
use Rattle.nc_names.specs.declared.path.Step.{Step}

-- there are no keys
abbrev pub has_no_keys : List (List ℕ) → Bool
has_no_keys [] = true
has_no_keys (key ∷ more) = false

-- a step is looked up: each one, or those without keys
abbrev pub is_sought : Bool → Step → Bool
is_sought each step = each || has_no_keys step.keys

-- the set has the steps of the list that are looked up
abbrev pub AreSought : Bool → List Step → BTreeSet Step → Type 0
AreSought each list set =
    (step : Step) → is_sought each step ≡ true →
    contains ghosts.cmp set step ≡ list_any (λ other. is_same_step other step) list

-- the numbers are those of the nodes in the list
abbrev pub AreNumbersOf : List Step → List ℕ → Type 0
AreNumbersOf list numbers = (test : ℕ → Bool) → list_any test numbers ≡ list_any (λ step. test step.node) list

-- a number is there too
abbrev pub AddsNumber : List ℕ → List ℕ → ℕ → Type 0
AddsNumber before after number = (test : ℕ → Bool) → list_any test after ≡ (list_any test before || test number)

-- a step is there too, as far as steps are looked up
abbrev pub AddsSought : Bool → BTreeSet Step → BTreeSet Step → Step → Type 0
AddsSought each before after step =
    (other : Step) → is_sought each other ≡ true →
    contains ghosts.cmp after other ≡ (contains ghosts.cmp before other || is_same_step step other)

-- a step is there too
abbrev pub AddsStep : BTreeSet Step → BTreeSet Step → Step → Type 0
AddsStep before after step =
    (other : Step) → contains ghosts.cmp after other ≡ (contains ghosts.cmp before other || is_same_step step other)
